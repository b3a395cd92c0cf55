use Rattle.cstn_headline.proofs.HeadlineLemmas.{check_is_decided, run_is_least, run_is_executed, derivation_passes, replay_is_sound, edits_are_decided}
use Rattle.cstn_headline.proofs.headline_laws.the_headline.Goals as goal

pub returns : goal.returns
returns c =
    let law = c.evidence_is_accepted.ensures in
    record {
      check = check_is_decided;
      least = run_is_least;
      executed = run_is_executed law.bounds law.steps;
      derivation = derivation_passes law.bounds law.steps;
      replay = replay_is_sound law.bounds law.steps;
      edits = edits_are_decided law.bounds law.steps;
    }
