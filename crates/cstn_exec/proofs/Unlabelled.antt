-- Where no time-point has a label, all time-points are named.
use Rattle.std.proofs.Common.{ℕ, ◌≡◌, inl, inr, ◌+◌, ◌<◌, Bool, true, false, not, List, [], Option, Some, None, refl, ap, ◌∙◌}
use Rattle.std.proofs.lemmas.Bool.{cases_Bool, cond-false}
use Rattle.cstn_facts.proofs.Filters.{filter_whole, filter_nothing}
use Rattle.cstn_label.specs.Bounds.{Bound}
use Rattle.cstn_label.specs.Labels.{Label, empty}
use Rattle.cstn_label.proofs.MarkLemmas.{fits_absent}
use Rattle.cstn_label.proofs.LabelLemmas.{within_itself, within_same}
use Rattle.cstn_net.specs.Networks.{count}
use Rattle.cstn_lift.specs.Labelled.{Labelled, label_of}
use Rattle.cstn_lift.specs.Completion.{completed, completed_label}
use Rattle.cstn_lift.specs.WellFormed.{IsLabelled}
use Rattle.cstn_lift.specs.Lowered.{lowered, observer_of}
use Rattle.cstn_lift.proofs.CompletionLemmas.{completed_least, empty_within}
use Rattle.cstn_exec.specs.Runs.{Run, known, called}
use Rattle.cstn_exec.specs.Moves.{NotExecuted, run_moved, outcome_refusal}
use Rattle.cstn_exec.specs.Guides.{Guided, was_left_out, holds_by, holds_at, named, left_out, advanced, all_denied, with_left, is_among, is_denied, see_refusal}
use Rattle.cstn_exec.specs.Sound.{IsGuided}
use Rattle.cstn_exec.proofs.Holding.{holds_to}
use Rattle.cstn_lift.proofs.Unlabelled.{all_empty}

module _ (m : Labelled) (good : IsLabelled m) (none : (x : ℕ) → x < count m.base → label_of m x ≡ empty) where
  none_marked : (x : ℕ) → completed_label m x ≡ empty
  none_marked x =
      ap (completed m) (all_empty m good none x)
      ∙ within_same (completed m empty) empty
      (completed_least m empty empty (within_itself empty) (λ y p o marked. absurd (marked refl))) (empty_within (completed m empty))

  each_holds : (values : ℕ → Option Bool) (x : ℕ) → holds_by values (completed_label m x) ≡ true
  each_holds values x =
      holds_to values (completed_label m x) (λ p marked. absurd (marked (ap (λ (a : Label). a p) (none_marked x))))

  pub all_named : (bounds : List Bound) (run : Run) (t : ℕ) → named m bounds run t ≡ called (lowered m) bounds run t
  all_named bounds run t =
      filter_whole (holds_at m run t) (called (lowered m) bounds run t) (each_holds (known (lowered m) run (t + 1)))

  nobody_left : (bounds : List Bound) (run : Run) (t : ℕ) → left_out m bounds run t ≡ []
  nobody_left bounds run t =
      filter_nothing (λ x. not (holds_at m run t x)) (called (lowered m) bounds run t) (λ x. ap not (each_holds (known (lowered m) run (t + 1)) x))

  pub just_moved : (bounds : List Bound) (g : Guided) (t : ℕ) → advanced m bounds g t ≡ record { run = run_moved (lowered m) bounds g.run t; left = g.left }
  just_moved bounds g t =
      ap (λ (xs : List ℕ). record { run = all_denied (lowered m) xs (run_moved (lowered m) bounds g.run t); left = with_left xs g.left })
      (nobody_left bounds g.run t)

  not_left : (g : Guided) → IsGuided m g → (x : ℕ) → was_left_out g x ≡ false
  not_left g right x = elim (cases_Bool (was_left_out g x)) [
    | inr kept ↦ kept
    | inl left ↦
        let done = right.placed x left in
        let out = right.ruled_out x done.0 done.1 left in
        absurd (out.3 (fits_absent out.1 (completed_label m x out.0) (ap (λ (a : Label). a out.0) (none_marked x))))
  ]

  pub see_as_before : (g : Guided) (p : ℕ) → IsGuided m g → see_refusal m g p ≡ outcome_refusal (lowered m) g.run p
  see_as_before g p right =
      cond-false (is_denied (lowered m) g p) (Some (NotExecuted p)) (outcome_refusal (lowered m) g.run p) (go (observer_of (lowered m) p))
    where
      go : (o : Option ℕ) → is_among g.left o ≡ false
      go None = refl
      go (Some x) = not_left g right x
