use Rattle.std.proofs.Common.{map, ◌≡◌, ◌↔◌, ◌⊎◌, inl, inr, subst, ap}
use Rattle.cstn_replay.specs.declared.answers.Answer.TheVariants.{Rejected}
use Rattle.cstn_replay.specs.Wrong.{IsFirstWrong, EndsInVain}
use Rattle.cstn_net.specs.Read.{the_network}
use Rattle.cstn_rules.specs.Read.{the_entry}
use Rattle.cstn_replay.proofs.ReplayLemmas.{none_wrong}
use Rattle.cstn_replay.proofs.replays.replay.Goals as goal

pub returns-in-None-clause-truth : goal.returns-in-None-clause-truth
returns-in-None-clause-truth c e =
    c.derivations_are_sound.ensures.refuted (the_network c.args.net.now) (map the_entry c.steps-steps.result.now) c.network_is_well_formed.ensures.network
    (c.end.ensures.accepted.0 e)

pub returns-in-None-clause-rejected : goal.returns-in-None-clause-rejected
returns-in-None-clause-rejected c k =
    let net = the_network c.args.net.now in
    let same = ap (map the_entry) c.steps-steps.ensures.steps in
    subst (λ s. (c.end.result ≡ Rejected k) ↔ (IsFirstWrong net s k ⊎ EndsInVain net s k)) same (
      λ e. inr ((c.end.ensures.rejected k).0 e),
      λ f. elim f [
        | inl wrong ↦ absurd (none_wrong net (map the_entry c.steps-steps.result.now) k wrong c.in-None.ensures.none)
        | inr vain ↦ (c.end.ensures.rejected k).1 vain
      ],
    )
