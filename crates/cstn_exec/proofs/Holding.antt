-- Labels that hold by what is known: the test `holds_by` and the type `HoldsBy`.
use Rattle.std.proofs.Common.{ℕ, ◌≡◌, inl, inr, ◌<◌, ◌≤◌, Bool, true, false, Option, Some, None, arith, refl, sym, subst}
use Rattle.std.specs.Prelude.{◌↔◌}
use Rattle.std.specs.List.{list_all, range_with_len}
use Rattle.std.proofs.lemmas.Bool.{cases_lt, false≢true, both_ways, false_from_ne_true}
use Rattle.cstn_facts.proofs.Ranges.{each_passes, all_pass}
use Rattle.cstn_label.specs.declared.marks.Mark.{Mark}
use Rattle.cstn_label.specs.declared.marks.Mark.TheVariants.{Absent, Yes, No, Unknown}
use Rattle.cstn_label.specs.Labels.{Label, MarkFits}
use Rattle.cstn_label.proofs.MarkLemmas.{absent_or_not, fits_absent, fits_true, true_fits}
use Rattle.cstn_lift.specs.Labelled.{Labelled}
use Rattle.cstn_lift.specs.Completion.{completed_label}
use Rattle.cstn_lift.specs.WellFormed.{IsLabelled}
use Rattle.cstn_lift.proofs.FullLemmas.{full_on}
use Rattle.cstn_exec.specs.Guides.{fits_surely, holds_by}
use Rattle.cstn_exec.specs.Sound.{HoldsBy, IsRuledOut}

-- the value is known, and fits the mark
abbrev pub KnownToFit : Option Bool → Mark → Type 0
KnownToFit o a = (v : Bool) × (o ≡ Some v) × MarkFits v a

fits_known : (o : Option Bool) (a : Mark) → fits_surely o a ≡ true → (a ≡ Absent → ⊥) → KnownToFit o a
fits_known None Absent h marked = absurd (marked refl)
fits_known None Yes h marked = absurd (false≢true h)
fits_known None No h marked = absurd (false≢true h)
fits_known None Unknown h marked = absurd (false≢true h)
fits_known (Some v) a h marked = (v, refl, fits_true v a h)

known_fits : (o : Option Bool) (a : Mark) → ((a ≡ Absent → ⊥) → KnownToFit o a) → fits_surely o a ≡ true
known_fits None Absent h = refl
known_fits None Yes h = let k = h (λ e. let f : ⊥ = cc in f) in let f : ⊥ = let e = k.1 in cc in absurd f
known_fits None No h = let k = h (λ e. let f : ⊥ = cc in f) in let f : ⊥ = let e = k.1 in cc in absurd f
known_fits None Unknown h = let k = h (λ e. let f : ⊥ = cc in f) in let f : ⊥ = let e = k.1 in cc in absurd f
known_fits (Some v) a h = true_fits v a (elim (absent_or_not a) [
  | inl none ↦ fits_absent v a none
  | inr marked ↦
      let k = h marked in
      let e = k.1 in
      let same : v ≡ k.0 = cc in
      subst (λ w. MarkFits w a) (sym same) k.2
])

pub holds_from : (values : ℕ → Option Bool) (a : Label) → ((p : ℕ) → 52 ≤ p → a p ≡ Absent) → holds_by values a ≡ true → HoldsBy values a
unfolding holds_by
holds_from values a above h p marked = elim (cases_lt p 52) [
  | inl inside ↦ fits_known (values p) (a p) (each_passes (λ q. fits_surely (values q) (a q)) 0 52 h p (omega arith) (omega arith)) marked
  | inr past ↦ absurd (marked (above p past))
]

pub holds_to : (values : ℕ → Option Bool) (a : Label) → HoldsBy values a → holds_by values a ≡ true
unfolding holds_by
holds_to values a h = all_pass (λ q. fits_surely (values q) (a q)) 0 52 (λ p from upto. known_fits (values p) (a p) (h p))

-- completed labels mark none of the propositions above 51
pub full_above : (m : Labelled) → IsLabelled m → (x p : ℕ) → 52 ≤ p → completed_label m x p ≡ Absent
full_above m good x p past = elim (absent_or_not (completed_label m x p)) [
  | inl none ↦ none
  | inr marked ↦ let o = full_on m good x p marked in let letter = good.base.letters o.0 p o.1 in absurd (omega arith)
]

pub holds_is : (m : Labelled) (values : ℕ → Option Bool) (x : ℕ) → IsLabelled m →
    (holds_by values (completed_label m x) ≡ true ↔ HoldsBy values (completed_label m x))
holds_is m values x good = (holds_from values (completed_label m x) (full_above m good x), holds_to values (completed_label m x))

-- a label that holds isn't ruled out
pub not_both : (values : ℕ → Option Bool) (a : Label) → HoldsBy values a → IsRuledOut values a → ⊥
not_both values a holds out = elim (absent_or_not (a out.0)) [
  | inl none ↦ out.3 (fits_absent out.1 (a out.0) none)
  | inr marked ↦
      let k = holds out.0 marked in
      let here = k.1 in
      let there = out.2 in
      let same : k.0 ≡ out.1 = cc in
      out.3 (subst (λ v. MarkFits v (a out.0)) same k.2)
]

-- when more becomes known, a label that holds still holds, and one that is ruled out still is
pub holds_on : (old new : ℕ → Option Bool) (a : Label) → ((p : ℕ) (v : Bool) → old p ≡ Some v → new p ≡ Some v) → HoldsBy old a → HoldsBy new a
holds_on old new a more h p marked = let k = h p marked in (k.0, more p k.0 k.1, k.2)

pub ruled_out_on : (old new : ℕ → Option Bool) (a : Label) → ((p : ℕ) (v : Bool) → old p ≡ Some v → new p ≡ Some v) → IsRuledOut old a → IsRuledOut new a
ruled_out_on old new a more out = (out.0, out.1, more out.0 out.1 out.2, out.3)

-- a label with a mark that doesn't surely fit doesn't hold
pub fails_at : (values : ℕ → Option Bool) (a : Label) (p : ℕ) → p < 52 → fits_surely (values p) (a p) ≡ false → holds_by values a ≡ false
unfolding holds_by
fails_at values a p inside h =
    false_from_ne_true (list_all (λ q. fits_surely (values q) (a q)) (range_with_len 0 52))
    (λ all. both_ways (fits_surely (values p) (a p)) h (each_passes (λ q. fits_surely (values q) (a q)) 0 52 all p (omega arith) (omega arith)))

pub holds_whole : (values : ℕ → Option Bool) (a : Label) → ((p : ℕ) → p < 52 → fits_surely (values p) (a p) ≡ true) → holds_by values a ≡ true
unfolding holds_by
holds_whole values a h = all_pass (λ q. fits_surely (values q) (a q)) 0 52 (λ p from upto. h p (omega arith))
