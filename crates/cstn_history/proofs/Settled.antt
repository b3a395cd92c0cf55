-- What was told, and the labels that are left without it.
use Rattle.std.proofs.Common.{ℕ, ◌≡◌, ◌⊎◌, inl, inr, ◌<◌, Bool, true, Option, Some, None, refl, sym, subst, ap, ◌∙◌}
use Rattle.std.specs.List.{range_with_len}
use Rattle.std.proofs.Math.Path.{fun_ext}
use Rattle.std.proofs.lemmas.List.Elements.{All-contains}
use Rattle.std.proofs.lemmas.List.Sums.{list_all-from_AllPass, AllPass-from_list_all}
use Rattle.cstn_facts.proofs.Ranges.{range_contains, range_all}
use Rattle.cstn_label.specs.declared.marks.Mark.{Mark}
use Rattle.cstn_label.specs.declared.marks.Mark.TheVariants.{Absent}
use Rattle.cstn_label.specs.Labels.{Label, Scenario, MarkFits, Holds, IsMarked, IsMarkWithin, IsWithin, joined, joined_mark}
use Rattle.cstn_label.proofs.MarkLemmas.{mark_fits_within, fits_true, true_fits}
use Rattle.cstn_lift.specs.Labelled.{Labelled}
use Rattle.cstn_lift.specs.WellFormed.{IsLabelled}
use Rattle.cstn_history.specs.Histories.{History, IsHistory, AgreesWith, SettlesMark, Settles, allows_mark, allows, mark_left, label_left, IsAllowed}

pub some_or_none : {T : Type 0} → (o : Option T) → ((v : T) × (o ≡ Some v)) ⊎ (o ≡ None)
some_or_none None = inr refl
some_or_none (Some v) = inl (v, refl)

allowed_there : (o : Option Bool) (a : Mark) → ((v : Bool) → o ≡ Some v → MarkFits v a) → allows_mark o a ≡ true
allowed_there None a h = refl
allowed_there (Some v) a h = true_fits v a (h v refl)

allowed_back : (o : Option Bool) (a : Mark) (v : Bool) → allows_mark o a ≡ true → o ≡ Some v → MarkFits v a
allowed_back o a v e is = fits_true v a (subst (λ q. allows_mark q a ≡ true) is e)

pub allows_true : (h : History) (a : Label) → IsAllowed h a → allows h a ≡ true
unfolding allows
allows_true h a all = list_all-from_AllPass (λ p. allows_mark (h.told p) (a p)) (range_with_len 0 52)
    (range_all (λ p. allows_mark (h.told p) (a p) ≡ true) 0 52 (λ p low high. allowed_there (h.told p) (a p) (all p)))

-- the label without what is told, mark by mark
pub left_told : (h : History) (a : Label) (p : ℕ) (v : Bool) → h.told p ≡ Some v → label_left h a p ≡ Absent
left_told h a p v e = ap (λ o. mark_left o (a p)) e

pub left_untold : (h : History) (a : Label) (p : ℕ) → h.told p ≡ None → label_left h a p ≡ a p
left_untold h a p e = ap (λ o. mark_left o (a p)) e

left_less : (o : Option Bool) (a b : Mark) → IsMarkWithin a b → IsMarkWithin (mark_left o a) (mark_left o b)
left_less None a b h = h
left_less (Some v) a b h = tt

pub left_within : (h : History) (a b : Label) → IsWithin a b → IsWithin (label_left h a) (label_left h b)
left_within h a b w = λ p. left_less (h.told p) (a p) (b p) (w p)

left_join : (o : Option Bool) (a b : Mark) → mark_left o (joined_mark a b) ≡ joined_mark (mark_left o a) (mark_left o b)
left_join None a b = refl
left_join (Some v) a b = refl

pub left_joined : (h : History) (a b : Label) → label_left h (joined a b) ≡ joined (label_left h a) (label_left h b)
left_joined h a b = fun_ext (λ p. left_join (h.told p) (a p) (b p))

left_marked : (o : Option Bool) (a : Mark) → (mark_left o a ≡ Absent → ⊥) → (o ≡ None) × (a ≡ Absent → ⊥)
left_marked None a there = (refl, there)
left_marked (Some v) a there = absurd (there refl)

-- a mark that is left is on what isn't told
pub marked_left : (h : History) (a : Label) (p : ℕ) → IsMarked (label_left h a) p → (h.told p ≡ None) × IsMarked a p
marked_left h a p there = left_marked (h.told p) (a p) there

settled_left : (o : Option Bool) (a : Mark) → SettlesMark o a → mark_left o a ≡ Absent
settled_left None a h = h
settled_left (Some v) a h = refl

settled_fits : (o : Option Bool) (a : Mark) (v : Bool) → SettlesMark o a → o ≡ Some v → MarkFits v a
settled_fits o a v h e = subst (λ q. SettlesMark q a) e h

settled_absent : (o : Option Bool) (a : Mark) → SettlesMark o a → o ≡ None → a ≡ Absent
settled_absent o a h e = subst (λ q. SettlesMark q a) e h

pub settles_allows : (h : History) (a : Label) → Settles h a → IsAllowed h a
settles_allows h a s p v e = settled_fits (h.told p) (a p) v (s p) e

pub settles_absent : (h : History) (a : Label) (p : ℕ) → Settles h a → h.told p ≡ None → a p ≡ Absent
settles_absent h a p s e = settled_absent (h.told p) (a p) (s p) e

pub settles_left : (h : History) (a : Label) (p : ℕ) → Settles h a → label_left h a p ≡ Absent
settles_left h a p s = settled_left (h.told p) (a p) (s p)

pub allows_within : (h : History) (a b : Label) → IsWithin a b → IsAllowed h b → IsAllowed h a
allows_within h a b w all p v e = mark_fits_within v (a p) (b p) (w p) (all p v e)

-- the scenario with the values that were told
value_told : Option Bool → Bool → Bool
value_told None w = w
value_told (Some v) w = v

pub as_told : History → Scenario → Scenario
as_told h s = λ p. value_told (h.told p) (s p)

value_is : (o : Option Bool) (v w : Bool) → o ≡ Some v → value_told o w ≡ v
unfolding value_told
value_is o v w e = ap (λ q. value_told q w) e

value_other : (o : Option Bool) (w : Bool) → o ≡ None → value_told o w ≡ w
unfolding value_told
value_other o w e = ap (λ q. value_told q w) e

pub told_agrees : (h : History) (s : Scenario) → AgreesWith h (as_told h s)
unfolding as_told
told_agrees h s p v e = value_is (h.told p) v (s p) e

pub told_same : (h : History) (s : Scenario) (p : ℕ) → h.told p ≡ None → as_told h s p ≡ s p
unfolding as_told
told_same h s p e = value_other (h.told p) (s p) e

pub told_itself : (h : History) (s : Scenario) → AgreesWith h s → as_told h s ≡ s
unfolding as_told
told_itself h s agrees = fun_ext (λ p. elim (some_or_none (h.told p)) [
  | inl told ↦ value_is (h.told p) told.0 (s p) told.1 ∙ sym (agrees p told.0 told.1)
  | inr none ↦ value_other (h.told p) (s p) none
])

-- a label that what is told allows holds with the told values exactly where it holds without what is told
pub holds_left : (h : History) (a : Label) (s : Scenario) → Holds (as_told h s) a → Holds s (label_left h a)
holds_left h a s holds p = elim (some_or_none (h.told p)) [
  | inl told ↦ subst (MarkFits (s p)) (sym (left_told h a p told.0 told.1)) tt
  | inr none ↦ subst (λ m. MarkFits (s p) m) (sym (left_untold h a p none)) (subst (λ v. MarkFits v (a p)) (told_same h s p none) (holds p))
]

pub holds_back : (h : History) (a : Label) (s : Scenario) → IsAllowed h a → Holds s (label_left h a) → Holds (as_told h s) a
holds_back h a s all holds p = elim (some_or_none (h.told p)) [
  | inl told ↦ subst (λ v. MarkFits v (a p)) (sym (told_agrees h s p told.0 told.1)) (all p told.0 told.1)
  | inr none ↦ subst (λ v. MarkFits v (a p)) (sym (told_same h s p none)) (subst (λ m. MarkFits (s p) m) (left_untold h a p none) (holds p))
]

-- a label that holds in a scenario that agrees with what is told is allowed by it
pub holds_allows : (h : History) (a : Label) (s : Scenario) → AgreesWith h s → Holds s a → IsAllowed h a
holds_allows h a s agrees holds p v e = subst (λ w. MarkFits w (a p)) (agrees p v e) (holds p)

-- what settles a label makes it hold
pub settles_holds : (h : History) (a : Label) (s : Scenario) → AgreesWith h s → Settles h a → Holds s a
settles_holds h a s agrees settles p = elim (some_or_none (h.told p)) [
  | inl told ↦ subst (λ v. MarkFits v (a p)) (sym (agrees p told.0 told.1)) (settles_allows h a settles p told.0 told.1)
  | inr none ↦ subst (MarkFits (s p)) (sym (settles_absent h a p settles none)) tt
]

pub allows_below : (h : History) (a : Label) → allows h a ≡ true → (p : ℕ) (v : Bool) → p < 52 → h.told p ≡ Some v → MarkFits v (a p)
unfolding allows
allows_below h a e p v inside is = allowed_back (h.told p) (a p) v (All-contains (λ q. allows_mark (h.told q) (a q) ≡ true) (range_with_len 0 52) p
    (AllPass-from_list_all (λ q. allows_mark (h.told q) (a q)) (range_with_len 0 52) e) (range_contains 52 p inside)) is

module _ (m : Labelled) (h : History) (good : IsLabelled m) (known : IsHistory m h) where
  -- a told proposition is one of the 52
  pub told_letter : (p : ℕ) (v : Bool) → h.told p ≡ Some v → p < 52
  told_letter p v e = let o = (known.told p v e).1 in good.base.letters o.observer p o.observes

  pub allows_back : (a : Label) → allows h a ≡ true → IsAllowed h a
  allows_back a e p v is = allows_below h a e p v (told_letter p v is) is
