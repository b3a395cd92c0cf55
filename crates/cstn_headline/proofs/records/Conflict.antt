-- What is proved of `conflict`.
use Rattle.std.proofs.Common.{◌≤◌, ◌≡◌, ℕ, List, refl, ap, sym, subst, inl, inr}
use Rattle.std.specs.Prelude.{◌⊎◌, Option, None, Some}
use Rattle.cstn_net.specs.Limits.{most_load}
use Rattle.cstn_net.specs.Networks.{Network}
use Rattle.cstn_reply.specs.Texts.{Said}
use Rattle.cstn_conflict.specs.Conflicts.{conflict_set, IsConflictFull}
use Rattle.cstn_conflict.specs.Texts.{blamed, blamed_by, blamed_after_no}
use Rattle.cstn_check.specs.Decisions.{verdict, IsYes, IsNo}
use Rattle.cstn_check.specs.declared.verdicts.Verdict.{Verdict}
use Rattle.cstn_top.proofs.Documents.{IsOfDocument}
use Rattle.cstn_check.specs.declared.verdicts.Verdict.TheVariants.{Yes, No, Full as IsFullVerdict}
use Rattle.cstn_check.proofs.Deciding.{Tells as VerdictTells, verdict_tells}
use Rattle.cstn_reply.specs.declared.output.Outcome.TheVariants.{Good, Bad, Full}
use Rattle.cstn_headline.specs.Telling.{OutcomeTells}
use Rattle.cstn_headline.specs.commands.Conflict.{IsBlamed, IsConflictText, conflict_telling}
use Rattle.cstn_headline.proofs.EvidenceLemmas.{conflict_well}
use Rattle.cstn_headline.proofs.Standing.{YesAccepted, NoAccepted, conflict_stands}
use Rattle.cstn_headline.proofs.Telling.{verdict_told}

pub conflict_tells : YesAccepted → NoAccepted → (cap : ℕ) → cap ≤ most_load → (said : Said) (names : List (List ℕ)) (net : Network) → IsOfDocument names net → said ≡ blamed cap names net → OutcomeTells (conflict_telling cap said.text names net) said.outcome
conflict_tells yes_text no_text cap capped said names net of output =
    verdict_told (IsYes cap net) (IsNo cap net × IsBlamed cap names net said.text) (IsConflictFull cap net) said.outcome (by_verdict (verdict cap net) (verdict_tells cap net of.good) output)
  where
    Cases : Type 0
    Cases = ((said.outcome ≡ Good) × IsYes cap net) ⊎ (((said.outcome ≡ Bad) × (IsNo cap net × IsBlamed cap names net said.text)) ⊎ ((said.outcome ≡ Full) × IsConflictFull cap net))

    by_set : (o : Option (List ℕ)) → conflict_set cap net ≡ o → IsNo cap net → said ≡ blamed_after_no cap names net o → Cases
    by_set None none no' is = inr (inr (ap (λ (s : Said). s.outcome) is, inr (no'.0, none)))
    by_set (Some ids) some no' is =
        inr (inl (
          ap (λ (s : Said). s.outcome) is,
          (
            no',
            record {
              ids = ids;
              found = some;
              conflict = conflict_well cap net ids of.good no'.0 some;
              text_is = subst (IsConflictText names net) (sym (ap (λ (s : Said). s.text) is)) (conflict_stands yes_text no_text cap names net ids of capped no' some);
            },
          ),
        ))

    by_verdict : (v : Verdict) → VerdictTells cap net v → said ≡ blamed_by cap names net v → Cases
    by_verdict (Yes load) told is = inl (ap (λ (s : Said). s.outcome) is, told)
    by_verdict (No load) told is = by_set (conflict_set cap net) refl told is
    by_verdict IsFullVerdict told is = inr (inr (ap (λ (s : Said). s.outcome) is, inl told))
