-- What is said of a network whose constraints are to blame.
use Rattle.std.proofs.Common.{◌≡◌, ℕ, ◌<◌, ◌≤◌, Bool, true, false, inl, inr, List, ◌++◌, refl, sym, ap, ◌∙◌}
use Rattle.std.specs.Prelude.{Result, Ok, Err, IfOk, None, Some, if◌then◌else◌}
use Rattle.std.proofs.lemmas.Bool.{cases_lt, cond-true, cond-false, lt-ltb, le-ltb}
use Rattle.cstn_net.specs.Networks.{Network, IsWellFormed}
use Rattle.cstn_net.specs.Strategies.{IsConsistent}
use Rattle.cstn_rules.specs.Derivations.{Entry}
use Rattle.cstn_check.specs.Decisions.{verdict}
use Rattle.cstn_check.specs.Givers.{with_ids}
use Rattle.cstn_check.specs.Growth.{is_refuted, log_of, load_of}
use Rattle.cstn_check.specs.Verdicts.{IsRefutationOf}
use Rattle.cstn_check.specs.declared.verdicts.Verdict.TheVariants.{Yes, No, Full as IsFull}
use Rattle.cstn_check.proofs.Decides.{log_decides}
use Rattle.cstn_refute.specs.Refutations.{RefutationParts, the_steps}
use Rattle.cstn_refute.specs.Texts.{refutation_shown}
use Rattle.cstn_conflict.specs.Conflicts.{conflict_set, IsConflictFull}
use Rattle.cstn_conflict.specs.Texts.{ids_line, blamed_after_no, blamed_by, blamed}
use Rattle.cstn_reply.specs.Texts.{Said, yes_line, full_line}
use Rattle.cstn_reply.specs.Read.{the_said}
use Rattle.cstn_reply.specs.declared.output.Said.{Said as SaidText}
use Rattle.cstn_reply.specs.declared.output.Outcome.TheVariants.{Good, Bad, Full}

module _ (cap : ℕ) (names : List (List ℕ)) (net : Network) (good : IsWellFormed net) where
  within : load_of net ≤ cap → verdict cap net ≡ (if is_refuted net (log_of net) then No (load_of net) else Yes (load_of net))
  within below = cond-false _ IsFull _ (le-ltb cap (load_of net) below)

  after_yes : load_of net ≤ cap → IsConsistent net → blamed cap names net ≡ record { outcome = Good; text = yes_line (load_of net) }
  after_yes below consistent =
      ap (blamed_by cap names net) (within below
      ∙ cond-false _ (No (load_of net)) (Yes (load_of net)) ((log_decides net good.network good.letters).0 consistent))

  after_no : load_of net ≤ cap → (IsConsistent net → ⊥) → blamed cap names net ≡ blamed_after_no cap names net (conflict_set cap net)
  after_no below never = ap (blamed_by cap names net) (within below ∙ cond-true _ (No (load_of net)) (Yes (load_of net)) (by (is_refuted net (log_of net)) refl))
    where
      by : (b : Bool) → is_refuted net (log_of net) ≡ b → b ≡ true
      by true is = refl
      by false is = absurd (never ((log_decides net good.network good.letters).1 is))

  over : cap < load_of net → blamed cap names net ≡ record { outcome = Full; text = full_line cap }
  over above = ap (blamed_by cap names net) (cond-true _ IsFull _ (lt-ltb cap (load_of net) above))

  is_full : IsConflictFull cap net → blamed cap names net ≡ record { outcome = Full; text = full_line cap }
  is_full (inl above) = over above
  is_full (inr (never, none)) = elim (cases_lt cap (load_of net)) [
    | inl above ↦ over above
    | inr below ↦ after_no below never ∙ ap (blamed_after_no cap names net) none
  ]

  module _ {E : Type 0} where
    -- what is said where the network is consistent
    pub yes_blamed : (load : ℕ) (r : Result SaidText E) → (load ≡ load_of net) × (load_of net ≤ cap) × IsConsistent net →
        IfOk r (λ said. the_said said ≡ record { outcome = Good; text = yes_line load }) → IfOk r (λ said. the_said said ≡ blamed cap names net)
    yes_blamed load (Err e) tells is = tt
    yes_blamed load (Ok said) tells is = is ∙ ap (λ n. record { outcome = Good; text = yes_line n }) tells.0 ∙ sym (after_yes tells.1 tells.2)

    -- what is said where it isn't
    pub no_blamed : (ids : List ℕ) (refutation : RefutationParts) (r : Result SaidText E) → (IsConsistent net → ⊥) × (load_of net ≤ cap) →
        conflict_set cap net ≡ Some ids → IsRefutationOf (with_ids net ids) refutation →
        IfOk r (λ said. the_said said ≡ record { outcome = Bad; text = ids_line ids ++ refutation_shown names refutation.load (the_steps refutation) }) →
        IfOk r (λ said. the_said said ≡ blamed cap names net)
    no_blamed ids refutation (Err e) tells set of is = tt
    no_blamed ids refutation (Ok said) tells set of is =
        is
        ∙ ap (λ n. record { outcome = Bad; text = ids_line ids ++ refutation_shown names n (the_steps refutation) }) of.load
        ∙ ap (λ (es : List Entry). record { outcome = Bad; text = ids_line ids ++ refutation_shown names (load_of (with_ids net ids)) es }) of.part
        ∙ sym (after_no tells.1 tells.0 ∙ ap (blamed_after_no cap names net) set)

    -- what is said where a log is full
    pub full_blamed : (r : Result SaidText E) → IsConflictFull cap net → IfOk r (λ said. the_said said ≡ record { outcome = Full; text = full_line cap }) →
        IfOk r (λ said. the_said said ≡ blamed cap names net)
    full_blamed (Err e) full is = tt
    full_blamed (Ok said) full is = is ∙ sym (is_full full)
