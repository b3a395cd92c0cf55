-- With a looser limit no more constraints are left.
use Rattle.std.proofs.Common.{ℕ, ◌≡◌, ◌+◌, ◌≤◌, Bool, true, false, not, List, [], ◌∷◌, Option, Some, None, length, map, arith, refl, sym, ap, ◌∙◌}
use Rattle.std.specs.Prelude.{◌&&◌, ◌==◌, ℤ, pos, ◌≤ℤ◌, int_lt, if◌then◌else◌}
use Rattle.std.specs.List.{filter_map, cons_option}
use Rattle.std.proofs.lemmas.Int.{ints}
use Rattle.std.proofs.lemmas.Bool.{eqb-true}
use Rattle.cstn_facts.proofs.Integers.{int_lt-true, lt-int_lt}
use Rattle.cstn_facts.proofs.Members.{contains_head, contains_tail}
use Rattle.cstn_net.specs.Networks.{Constraint}
use Rattle.cstn_lift.specs.Labelled.{Labelled}
use Rattle.cstn_lift.specs.Completion.{full_label}
use Rattle.cstn_lift.specs.Lowered.{with_full_label}
use Rattle.cstn_check.specs.declared.verdicts.Verdict.{Verdict}
use Rattle.cstn_change.specs.Changes.{with_value}
use Rattle.cstn_history.specs.Histories.{History, is_done, allows}
use Rattle.cstn_history.specs.Rest.{value_left, moved, is_over, constraint_left}
use Rattle.cstn_follow.specs.Following.{verdict_left}
use Rattle.cstn_follow.specs.Raises.{with_limit}
use Rattle.cstn_follow.proofs.Constraints.{these_long}
use Rattle.cstn_follow.proofs.Edited.{left_fits}
use Rattle.cstn_follow.proofs.GoesOn.{left_says}
use Rattle.cstn_follow.proofs.Loosened.{HasOwn}
use Rattle.cstn_follow.proofs.Roomy.{IsByForm, size, cons_size, kept_upto, full_by_form, room_stays, own_few}

over_by : (a b c p q : Bool) → (q ≡ true → p ≡ true) → (a && b && c && not p) ≡ true → (a && b && c && not q) ≡ true
over_by true true true p true more over = absurd (let less = more refl in let none : not p ≡ false = ap not less in cc)
over_by true true true p false more over = refl
over_by true true false p q more over = absurd (cc)
over_by true false c p q more over = absurd (cc)
over_by false b c p q more over = absurd (cc)

module _ (m : Labelled) (h : History) (f : Constraint → Option Constraint) (form : IsByForm f) where
  -- a constraint with a greater value is kept only where it was
  one_kept : (a b e : Bool) → (e ≡ true → b ≡ true) → (x y : Constraint)
      → x.from ≡ y.from → x.to ≡ y.to → x.label ≡ y.label → (xs ys : List Constraint) → length (filter_map f xs) ≤ length (filter_map f ys)
      → length (filter_map f (cons_option (if a && not b then Some x else None) xs)) ≤ length (filter_map f (cons_option (if a && not e then Some y else None) ys))
  one_kept false b e more x y from to label xs ys upto = upto
  one_kept true true true more x y from to label xs ys upto = upto
  one_kept true true false more x y from to label xs ys upto = kept_upto f form y xs ys upto
  one_kept true false true more x y from to label xs ys upto = absurd (let never = more refl in cc)
  one_kept true false false more x y from to label xs ys upto =
      let one = cons_size (f x) (filter_map f xs) in
      let other = cons_size (f y) (filter_map f ys) in
      let same = form x y from to label in
      omega arith

  module _ (id : ℕ) (own w : ℤ) (more : own ≤ℤ w) where
    pub looser_kept : (cs : List Constraint) → HasOwn id own cs
        → length (filter_map f (filter_map (constraint_left m h) (map (with_value id w) cs))) ≤ length (filter_map f (filter_map (constraint_left m h) cs))
    looser_kept [] has = omega arith
    looser_kept (c ∷ cs) has = by_test (looser_kept cs (λ d there. has d (contains_tail c d cs there))) (c.id == id) refl
      where
        by_test : length (filter_map f (filter_map (constraint_left m h) (map (with_value id w) cs))) ≤ length (filter_map f (filter_map (constraint_left m h) cs))
            → (b : Bool) → (c.id == id) ≡ b
            → length (filter_map f (cons_option (constraint_left m h (if b then record c { most = w } else c)) (filter_map (constraint_left m h) (map (with_value id w) cs))))
            ≤ length (filter_map f (cons_option (constraint_left m h c) (filter_map (constraint_left m h) cs)))
        by_test tail false test =
            one_kept (allows h (full_label m c)) (is_over h c) (is_over h c) (λ over. over) (moved m h c) (moved m h c) refl refl refl _ _ tail
        by_test tail true test =
            let own_is = has c (contains_head c cs) (eqb-true c.id id test) in
            one_kept (allows h (full_label m c)) (is_over h (record c { most = w })) (is_over h c)
            (λ over. over_by (is_done h c.from) (is_done h c.to) (not ((c.from == 0) && (c.to == 0))) (int_lt (value_left h c) (pos 0)) (int_lt (value_left h (record c { most = w })) (pos 0))
            (λ less. let before = int_lt-true (value_left h (record c { most = w })) (pos 0) less in lt-int_lt (value_left h c) (pos 0) (omega (arith, ints))) over)
            (moved m h (record c { most = w })) (moved m h c) refl refl refl _ _ tail

-- in the lowered network there are as many
module _ (f : Constraint → Option Constraint) (form : IsByForm f) (id : ℕ) (w : ℤ) where
  valued_size : (b : Bool) (c : Constraint) → size (f (if b then record c { most = w } else c)) ≡ size (f c)
  valued_size true c = form (record c { most = w }) c refl refl refl
  valued_size false c = refl

  all_valued : (cs : List Constraint) → length (filter_map f (map (with_value id w) cs)) ≡ length (filter_map f cs)
  all_valued [] = refl
  all_valued (c ∷ cs) =
      cons_size (f (with_value id w c)) (filter_map f (map (with_value id w) cs)) ∙ ap (λ n. n + length (filter_map f (map (with_value id w) cs))) (valued_size (c.id == id) c)
      ∙ ap (λ n. size (f c) + n) (all_valued cs) ∙ sym (cons_size (f c) (filter_map f cs))

-- with a value that is no less there is a verdict, too
pub limit_fits : (m : Labelled) (h : History) (fresh cap id : ℕ) (own w : ℤ) (v : Verdict) → HasOwn id own m.base.constraints → own ≤ℤ w → verdict_left m h fresh cap ≡ Some v
    → verdict_left (with_limit m id w) h fresh cap ≡ None → ⊥
limit_fits m h fresh cap id own w v has more is none =
    let few = own_few m h fresh cap v is in
    let new = these_long m (map (with_value id w) m.base.constraints) in
    let old = these_long m m.base.constraints in
    let same = all_valued (with_full_label m) (full_by_form m) id w m.base.constraints in
    let stays = room_stays m m.base.deadline (map (with_value id w) m.base.constraints) h h.expected h.now (omega arith) (λ above. above)
    (λ f form. looser_kept m h f form id own w more m.base.constraints has) fresh (left_says m h fresh cap v is).0 in
    let some = left_fits (with_limit m id w) h fresh cap (omega arith) stays in
    cc
