-- The completed labels of a labelled network.
use Rattle.std.proofs.Common.{ℕ, zero, suc, ◌≡◌, inl, inr, ◌<◌, ◌≤◌, Bool, true, false, arith, refl, sym, subst, ap, ◌∙◌}
use Rattle.std.specs.Prelude.{if◌then◌else◌}
use Rattle.std.proofs.lemmas.Bool.{cases_lt}
use Rattle.std.proofs.lemmas.List.{get_or_past}
use Rattle.cstn_label.specs.Labels.{Label, IsMarked, IsPlain, IsWithin, joined, empty}
use Rattle.cstn_label.proofs.MarkLemmas.{absent_or_not}
use Rattle.cstn_label.proofs.LabelLemmas.{within_itself, within_same, absent_joined}
use Rattle.cstn_net.specs.Networks.{Network, IsOnObserved, Observes, count}
use Rattle.cstn_net.proofs.Knowledge.{observer_within}
use Rattle.cstn_lift.specs.Labelled.{Labelled, label_of}
use Rattle.cstn_lift.specs.Completion.{is_observed_by, brought_by, joined_upto, rounds, completed, completed_label, IsCompleteLabel}
use Rattle.cstn_lift.specs.WellFormed.{IsLabelled}
use Rattle.cstn_lift.proofs.CompletionLemmas.{completed_complete, completed_least, seen, what, seen_marked, same_or_more, empty_within}

-- the join of two labels that name only observed propositions names only observed ones
pub joined_on : (net : Network) (a b : Label) → IsOnObserved net a → IsOnObserved net b → IsOnObserved net (joined a b)
joined_on net a b h k p there = elim (absent_or_not (a p)) [
  | inl gone ↦ k p (λ also. there (absent_joined a b p gone also))
  | inr marked ↦ h p marked
]

module _ (m : Labelled) (each : (x : ℕ) → IsOnObserved m.base (label_of m x)) where
  brought_on : (l : Label) (b : Bool) → IsOnObserved m.base l → IsOnObserved m.base (if b then l else empty)
  brought_on l true h = h
  brought_on l false h = λ p there. absurd (there refl)

  upto_on : (n : ℕ) (a : Label) → IsOnObserved m.base a → IsOnObserved m.base (joined_upto m n a)
  upto_on zero a h = h
  upto_on (suc n) a h =
      joined_on m.base (joined_upto m n a) (brought_by m n a) (upto_on n a h)
      (brought_on (label_of m n) (is_observed_by (what m n) a) (each n))

  rounds_on : (n : ℕ) (a : Label) → IsOnObserved m.base a → IsOnObserved m.base (rounds m n a)
  rounds_on zero a h = h
  rounds_on (suc n) a h = upto_on (count m.base) (rounds m n a) (rounds_on n a h)

  pub completed_on : (a : Label) → IsOnObserved m.base a → IsOnObserved m.base (completed m a)
  completed_on a h = rounds_on (count m.base) a h

-- from the number of time-points on, each number has the empty label
module _ (m : Labelled) (good : IsLabelled m) where
  pub past_empty : (x : ℕ) → count m.base ≤ x → label_of m x ≡ empty
  past_empty x past = let long = good.one_each in get_or_past m.labels x empty (omega arith)

  pub label_on : (x : ℕ) → IsOnObserved m.base (label_of m x)
  label_on x = elim (cases_lt x (count m.base)) [
    | inl inside ↦ good.observed x inside
    | inr past ↦ subst (λ l. IsOnObserved m.base l) (sym (past_empty x past)) (λ p there. absurd (there refl))
  ]

  empty_complete : completed m empty ≡ empty
  empty_complete = within_same (completed m empty) empty
      (completed_least m empty empty (within_itself empty) (λ x p o marked. absurd (marked refl))) (empty_within (completed m empty))

  pub full_plain : (x : ℕ) → IsPlain (completed_label m x)
  full_plain x = elim (cases_lt x (count m.base)) [
    | inl inside ↦ good.completed_plain x inside
    | inr past ↦ subst IsPlain (sym (ap (completed m) (past_empty x past) ∙ empty_complete)) (λ p. tt)
  ]

  pub full_on : (x : ℕ) → IsOnObserved m.base (completed_label m x)
  full_on x = completed_on m label_on (label_of m x) (label_on x)

  -- the completed labels of the observers of what a complete label marks are within it
  pub full_within : (a : Label) → IsCompleteLabel m a → (j p : ℕ) → Observes m.base j p → IsMarked a p → IsWithin (completed_label m j) a
  full_within a closed j p o marked = completed_least m (label_of m j) a (closed j p o marked) closed

  pub label_within : (x j p : ℕ) → Observes m.base j p → IsMarked (completed_label m x) p →
      IsWithin (completed_label m j) (completed_label m x)
  label_within x = full_within (completed_label m x) (completed_complete m (label_of m x))

  -- how many observed propositions the completed label marks
  pub rank : ℕ → ℕ
  rank x = seen m (count m.base) (completed_label m x)

  pub rank_falls : (j p k q : ℕ) → Observes m.base j p → Observes m.base k q → IsMarked (completed_label m j) q → rank k < rank j
  unfolding rank
  rank_falls j p k q o_j o_k marked =
      let full = completed_label m in
      elim (same_or_more m (count m.base) (full k) (full j) (label_within j k q o_k marked)) [
        | inr less ↦ less
        | inl alike ↦
            let same = alike.0 k (observer_within m.base k q o_k) in
            let set = seen_marked m (full j) k q o_k marked in
            let clear : is_observed_by (what m k) (full k) ≡ false = rw (o_k.what, good.no_circle k q o_k) refl in
            cc
      ]
