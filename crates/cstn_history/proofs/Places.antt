-- The time-points that are left, under their old numbers and under their new ones.
use Rattle.std.proofs.Common.{ℕ, zero, suc, ◌≡◌, inl, inr, ◌<◌, true, Option, Some, None, length, arith, refl, sym, subst, ap, ◌∙◌}
use Rattle.std.specs.Prelude.{slice_index_or, if◌then◌else◌}
use Rattle.std.specs.Option.{is_some}
use Rattle.std.proofs.lemmas.List.{get_or-map, length-map}
use Rattle.cstn_label.specs.Labels.{empty}
use Rattle.cstn_net.specs.Networks.{Observes, count}
use Rattle.cstn_net.proofs.Knowledge.{observer_within}
use Rattle.cstn_lift.specs.Labelled.{Labelled, label_of}
use Rattle.cstn_lift.specs.Completion.{completed_label}
use Rattle.cstn_lift.specs.WellFormed.{IsLabelled}
use Rattle.cstn_history.specs.Histories.{History, IsHistory, allows, label_left, IsAllowed}
use Rattle.cstn_history.specs.Rest.{untold, sight_left, is_left, left, number_left, rest}
use Rattle.cstn_history.proofs.Lists.{place_found, place_back}
use Rattle.cstn_history.proofs.Settled.{allows_true, allows_back, some_or_none, settles_allows}

sight_of : (h : History) (o : Option ℕ) (p : ℕ) → o ≡ Some p → h.told p ≡ None → untold h o ≡ Some p
sight_of h o p e none = ap (untold h) e ∙ ap (λ t. if is_some t then None else Some p) none

sight_back : (h : History) (o : Option ℕ) (p : ℕ) → untold h o ≡ Some p → (o ≡ Some p) × (h.told p ≡ None)
sight_back h None p e = absurd (cc)
sight_back h (Some q) p e = elim (some_or_none (h.told q)) [
  | inl told ↦
      let gone : untold h (Some q) ≡ None = ap (λ t. if is_some t then None else Some q) told.1 in
      absurd (cc)
  | inr none ↦
      let same : Some q ≡ Some p = sym (sight_of h (Some q) q refl none) ∙ e in
      let at : q ≡ p = cc in
      (same, subst (λ r. h.told r ≡ None) at none)
]

-- a time-point observes what is left to see of it, and this isn't told
pub sees_left : (m : Labelled) (h : History) (x p : ℕ) → Observes m.base x p → h.told p ≡ None → sight_left m h x ≡ Some p
sees_left m h x p o none = sight_of h (slice_index_or m.base.observes x None) p o.what none

pub sees_back : (m : Labelled) (h : History) (x p : ℕ) → sight_left m h x ≡ Some p → Observes m.base x p × (h.told p ≡ None)
sees_back m h x p e =
    let both = sight_back h (slice_index_or m.base.observes x None) p e in
    (record { what = both.0 }, both.1)

-- the old number of what has the number k among what is left
abbrev pub old : Labelled → History → ℕ → ℕ
old m h k = slice_index_or (left m h) k 0

module _ (m : Labelled) (h : History) (fresh : ℕ) (good : IsLabelled m) (known : IsHistory m h) where
  abbrev new : ℕ → ℕ
  new = number_left m h

  pub left_coming : (x : ℕ) → h.done x ≡ None → IsAllowed h (completed_label m x) → is_left m h x ≡ true
  left_coming zero e all = refl
  left_coming (suc x) e all =
      ap (λ o. if is_some o then is_some (sight_left m h (suc x)) else allows h (completed_label m (suc x))) e
      ∙ allows_true h (completed_label m (suc x)) all

  pub left_watching : (x t p : ℕ) → h.done x ≡ Some t → Observes m.base x p → h.told p ≡ None → is_left m h x ≡ true
  left_watching zero t p e o none = refl
  left_watching (suc x) t p e o none =
      ap (λ q. if is_some q then is_some (sight_left m h (suc x)) else allows h (completed_label m (suc x))) e
      ∙ ap is_some (sight_of h (slice_index_or m.base.observes (suc x) None) p o.what none)

  -- what is told allows the completed label of each time-point that is left
  pub left_allows : (x : ℕ) → is_left m h x ≡ true → IsAllowed h (completed_label m x)
  left_allows x e = elim (some_or_none (h.done x)) [
    | inl done ↦ settles_allows h (completed_label m x) (known.settled x done.0 done.1)
    | inr coming ↦ left_by x e coming
  ]
    where
      left_by : (y : ℕ) → is_left m h y ≡ true → h.done y ≡ None → IsAllowed h (completed_label m y)
      left_by zero b none = let at = known.origin in absurd (cc)
      left_by (suc y) b none = allows_back m h good known (completed_label m (suc y))
          (sym (ap (λ o. if is_some o then is_some (sight_left m h (suc y)) else allows h (completed_label m (suc y))) none) ∙ b)

  pub count_left : count (rest m h fresh).base ≡ length (left m h)
  count_left = length-map (left m h) (sight_left m h)

  pub new_inside : (x : ℕ) → x < count m.base → is_left m h x ≡ true → new x < count (rest m h fresh).base
  new_inside x here e = let at = (place_found (is_left m h) (count m.base) x here e).0 in let long = count_left in omega arith

  pub old_new : (x : ℕ) → x < count m.base → is_left m h x ≡ true → old m h (new x) ≡ x
  old_new x here e = (place_found (is_left m h) (count m.base) x here e).1

  pub old_stands : (k : ℕ) → k < count (rest m h fresh).base → (old m h k < count m.base) × (is_left m h (old m h k) ≡ true) × (new (old m h k) ≡ k)
  old_stands k inside = place_back (is_left m h) (count m.base) k (let long = count_left in omega arith)

  pub old_origin : old m h 0 ≡ 0
  old_origin = old_new 0 good.base.network.origin refl

  pub old_other : (k : ℕ) → k < count (rest m h fresh).base → old m h k ≡ 0 → k ≡ 0
  old_other k inside e = sym (old_stands k inside).2 ∙ ap new e

  -- what is observed in the rest
  pub sight_at : (k : ℕ) → k < count (rest m h fresh).base → slice_index_or (rest m h fresh).base.observes k None ≡ sight_left m h (old m h k)
  sight_at k inside = get_or-map (sight_left m h) (left m h) k 0 None (let long = count_left in omega arith)

  pub observes_left : (x p : ℕ) → Observes m.base x p → h.told p ≡ None → is_left m h x ≡ true → Observes (rest m h fresh).base (new x) p
  observes_left x p o none e =
      let here = observer_within m.base x p o in
      record {
        what = sight_at (new x) (new_inside x here e) ∙ ap (sight_left m h) (old_new x here e)
            ∙ sight_of h (slice_index_or m.base.observes x None) p o.what none;
      }

  pub observes_back : (k p : ℕ) → Observes (rest m h fresh).base k p → (k < count (rest m h fresh).base) × (h.told p ≡ None) × Observes m.base (old m h k) p
  observes_back k p o =
      let inside = observer_within (rest m h fresh).base k p o in
      let both = sight_back h (slice_index_or m.base.observes (old m h k) None) p (sym (sight_at k inside) ∙ o.what) in
      (inside, both.1, record { what = both.0 })

  -- the labels in the rest
  pub label_at : (k : ℕ) → k < count (rest m h fresh).base → label_of (rest m h fresh) k ≡ label_left h (label_of m (old m h k))
  label_at k inside = get_or-map (λ x. label_left h (label_of m x)) (left m h) k 0 empty (let long = count_left in omega arith)

  pub label_new : (x : ℕ) → x < count m.base → is_left m h x ≡ true → label_of (rest m h fresh) (new x) ≡ label_left h (label_of m x)
  label_new x here e = label_at (new x) (new_inside x here e) ∙ ap (λ y. label_left h (label_of m y)) (old_new x here e)
