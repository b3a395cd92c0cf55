-- The completed labels of the rest are those of the network without what is told.
use Rattle.std.proofs.Common.{ℕ, ◌≡◌, inl, inr, ◌<◌, Bool, true, Option, Some, None, sym, subst, ap, ◌∙◌}
use Rattle.cstn_label.specs.declared.marks.Mark.{Mark}
use Rattle.cstn_label.specs.declared.marks.Mark.TheVariants.{Absent}
use Rattle.cstn_label.specs.Labels.{Label, IsMarked, IsMarkWithin, IsWithin}
use Rattle.cstn_label.proofs.MarkLemmas.{mark_within_absent, absent_within}
use Rattle.cstn_label.proofs.LabelLemmas.{within_same}
use Rattle.cstn_net.specs.Networks.{Observes, count}
use Rattle.cstn_net.proofs.Knowledge.{observer_within}
use Rattle.cstn_lift.specs.Labelled.{Labelled, label_of}
use Rattle.cstn_lift.specs.Completion.{completed, completed_label, IsCompleteLabel}
use Rattle.cstn_lift.specs.WellFormed.{IsLabelled}
use Rattle.cstn_lift.proofs.CompletionLemmas.{completed_contains, completed_complete, completed_least}
use Rattle.cstn_lift.proofs.FullLemmas.{full_within}
use Rattle.cstn_history.specs.Histories.{History, IsHistory, label_left, IsAllowed}
use Rattle.cstn_history.specs.Rest.{is_left, number_left, rest}
use Rattle.cstn_history.proofs.Settled.{some_or_none, left_told, left_untold, left_within, marked_left, settles_absent, allows_within}
use Rattle.cstn_history.proofs.Places.{old, left_coming, left_watching, left_allows, observes_left, observes_back, label_at, label_new}

-- the mark of the one label where an outcome was told, and of the other where none was
told_mark : Option Bool → Mark → Mark → Mark
told_mark None a b = b
told_mark (Some v) a b = a

told_mark_some : (o : Option Bool) (a b : Mark) (v : Bool) → o ≡ Some v → told_mark o a b ≡ a
unfolding told_mark
told_mark_some o a b v e = ap (λ q. told_mark q a b) e

told_mark_none : (o : Option Bool) (a b : Mark) → o ≡ None → told_mark o a b ≡ b
unfolding told_mark
told_mark_none o a b e = ap (λ q. told_mark q a b) e

module _ (m : Labelled) (h : History) (fresh : ℕ) (good : IsLabelled m) (known : IsHistory m h) where
  -- the observer of what isn't told, if its completed label is within an allowed one, is left
  pub observer_left : (x p : ℕ) → Observes m.base x p → h.told p ≡ None → IsAllowed h (completed_label m x) → is_left m h x ≡ true
  observer_left x p o none all = elim (some_or_none (h.done x)) [
    | inl done ↦ left_watching m h fresh good known x done.0 p done.1 o none
    | inr coming ↦ left_coming m h fresh good known x coming all
  ]

  -- the label of the observer of what is told names nothing that isn't
  told_observer : (x p q : ℕ) (v : Bool) → Observes m.base x p → h.told p ≡ Some v → h.told q ≡ None → completed_label m x q ≡ Absent
  told_observer x p q v o told none =
      let seen = known.told p v told in
      let one = good.base.network.one_observer seen.1.observer x p seen.1.observes o in
      let done = subst (λ y. h.done y ≡ Some seen.0) one seen.1.done in
      settles_absent h (completed_label m x) q (known.settled x seen.0 done) none

  pub label_absent : (x q : ℕ) → completed_label m x q ≡ Absent → label_of m x q ≡ Absent
  label_absent x q e = mark_within_absent (label_of m x q) (completed_label m x q) (completed_contains m (label_of m x) q) e

  module _ (a : Label) (all : IsAllowed h (completed m a)) where
    abbrev C : Label
    C = completed m a

    abbrev D : Label
    D = completed (rest m h fresh) (label_left h a)

    left_complete : IsCompleteLabel (rest m h fresh) (label_left h C)
    left_complete k p o marked =
        let at = observes_back m h fresh good known k p o in
        let there = marked_left h C p marked in
        subst (λ l. IsWithin l (label_left h C)) (sym (label_at m h fresh good known k at.0))
        (left_within h (label_of m (old m h k)) C
        (completed_complete m a (old m h k) p at.2 there.1))

    pub completed_upto : IsWithin D (label_left h C)
    completed_upto = completed_least (rest m h fresh) (label_left h a) (label_left h C)
        (left_within h a C (completed_contains m a)) left_complete

    -- the completed label where an outcome was told, and the completed label of the rest elsewhere
    both : Label
    both q = told_mark (h.told q) (C q) (D q)

    both_told : (q : ℕ) (v : Bool) → h.told q ≡ Some v → both q ≡ C q
    unfolding both
    both_told q v e = told_mark_some (h.told q) (C q) (D q) v e

    both_untold : (q : ℕ) → h.told q ≡ None → both q ≡ D q
    unfolding both
    both_untold q e = told_mark_none (h.told q) (C q) (D q) e

    both_contains : IsWithin a both
    both_contains q = elim (some_or_none (h.told q)) [
      | inl told ↦ subst (IsMarkWithin (a q)) (sym (both_told q told.0 told.1)) (completed_contains m a q)
      | inr none ↦
          subst (IsMarkWithin (a q)) (sym (both_untold q none))
          (subst (λ b. IsMarkWithin b (D q)) (left_untold h a q none)
          (completed_contains (rest m h fresh) (label_left h a) q))
    ]

    -- the label of the observer x of p is within the completed label, so it is within both where it is within the rest's
    within_both : (x : ℕ) → IsWithin (label_of m x) C →
        ((q : ℕ) → h.told q ≡ None → IsMarkWithin (label_of m x q) (D q)) →
        IsWithin (label_of m x) both
    within_both x inside each q = elim (some_or_none (h.told q)) [
      | inl told ↦ subst (IsMarkWithin (label_of m x q)) (sym (both_told q told.0 told.1)) (inside q)
      | inr none ↦ subst (IsMarkWithin (label_of m x q)) (sym (both_untold q none)) (each q none)
    ]

    both_complete : IsCompleteLabel m both
    both_complete x p o marked = elim (some_or_none (h.told p)) [
      | inl told ↦
          let there : IsMarked C p = λ e. marked (both_told p told.0 told.1 ∙ e) in
          within_both x (completed_complete m a x p o there)
          (λ q none. absent_within (label_of m x q) (D q)
          (label_absent x q (told_observer x p q told.0 o told.1 none)))
      | inr none ↦
          let seen : IsMarked D p = λ e. marked (both_untold p none ∙ e) in
          let below = completed_upto p in
          let kept : IsMarked (label_left h C) p = λ e. seen (mark_within_absent (D p) (label_left h C p) below e) in
          let there = (marked_left h C p kept).1 in
          let inner = full_within m good C (completed_complete m a) x p o there in
          let is = observer_left x p o none (allows_within h (completed_label m x) C inner all) in
          let closed = completed_complete (rest m h fresh) (label_left h a) (number_left m h x) p
          (observes_left m h fresh good known x p o none is) seen in
          within_both x (completed_complete m a x p o there) (λ q unsaid.
          subst (λ b. IsMarkWithin b (D q))
          (ap (λ l. l q) (label_new m h fresh good known x (observer_within m.base x p o) is) ∙ left_untold h (label_of m x) q unsaid)
          (closed q))
    ]

    below_both : IsWithin C both
    below_both = completed_least m a both both_contains both_complete

    completed_from : IsWithin (label_left h C) D
    completed_from q = elim (some_or_none (h.told q)) [
      | inl told ↦ absent_within (label_left h C q) (D q) (left_told h C q told.0 told.1)
      | inr none ↦
          subst (λ b. IsMarkWithin b (D q)) (sym (left_untold h C q none))
          (subst (IsMarkWithin (C q)) (both_untold q none) (below_both q))
    ]

    -- completion in the rest gives the completed label without what is told
    pub completed_left : D ≡ label_left h C
    completed_left = within_same D (label_left h C) completed_upto completed_from

  -- the completed label in the rest of what is left
  pub completed_new : (x : ℕ) → x < count m.base → is_left m h x ≡ true →
      completed_label (rest m h fresh) (number_left m h x) ≡ label_left h (completed_label m x)
  completed_new x here is =
      ap (completed (rest m h fresh)) (label_new m h fresh good known x here is)
      ∙ completed_left (label_of m x) (left_allows m h fresh good known x is)
