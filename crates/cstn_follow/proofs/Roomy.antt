-- What is left has no more constraints where the deadline is later, or something else is expected.
use Rattle.std.proofs.Common.{ℕ, zero, suc, ◌≡◌, inl, inr, ◌+◌, ◌≤◌, Bool, true, false, not, List, [], ◌∷◌, ◌++◌, Option, Some, None, length, arith, refl, sym, subst, ap, ◌∙◌}
use Rattle.std.specs.Prelude.{map, max, nat_lt, nat_le, ◌&&◌, ℤ, pos, ◌-ℤ◌, if◌then◌else◌}
use Rattle.std.specs.Option.{is_some, option_map}
use Rattle.std.specs.List.{filter, filter_map, cons_option, flat_map, range_with_len}
use Rattle.std.proofs.Math.Path.{fun_ext}
use Rattle.std.proofs.lemmas.Bool.{cases_lt, and_parts, ltb-true, lt-ltb}
use Rattle.std.proofs.lemmas.List.{length-append}
use Rattle.std.proofs.lemmas.List.Elements.{filter_map-append}
use Rattle.cstn_label.specs.Labels.{Label, joined}
use Rattle.cstn_label.specs.Marks.{is_marked}
use Rattle.cstn_label.proofs.LabelLemmas.{within_same}
use Rattle.cstn_net.specs.Networks.{Constraint, count, limit}
use Rattle.cstn_lift.specs.Labelled.{Labelled, label_of}
use Rattle.cstn_lift.specs.Completion.{completed, full_label}
use Rattle.cstn_lift.specs.Lowered.{is_plain, with_full_label, full_constraints, guard, guards_of, all_guards, guards, lowered, observer_of, numbered}
use Rattle.cstn_lift.proofs.CompletionLemmas.{completed_contains, completed_complete, completed_least}
use Rattle.cstn_lift.proofs.ListLemmas.{numbered_length}
use Rattle.cstn_history.specs.Handed.{HasFewConstraints}
use Rattle.cstn_history.specs.Histories.{History, is_done, soonest, allows, label_left, edited}
use Rattle.cstn_history.specs.Rest.{is_left, sight_left, number_left, value_left, value_cut, moved, is_over, constraint_left, bare, late_one, watched_one}
use Rattle.cstn_history.specs.Rest.{stands_at, moment_watched, coming_one, late, watched, coming, added, constraints_left, rest}
use Rattle.cstn_history.proofs.Edited.{completed_new}
use Rattle.cstn_net.specs.Limits.{most_constraints}
use Rattle.cstn_check.specs.Decisions.{verdict}
use Rattle.cstn_check.specs.declared.verdicts.Verdict.{Verdict}
use Rattle.cstn_history.specs.Facts.{at_now, with_expected}
use Rattle.cstn_follow.specs.Following.{has_few, is_within_limits, verdict_left}
use Rattle.cstn_follow.specs.LeastDeadline.{by_deadline}
use Rattle.cstn_follow.proofs.Edited.{left_fits}
use Rattle.cstn_follow.proofs.GoesOn.{few_is, left_says}

-- ---- how many constraints a map keeps

abbrev pub size : {X : Type 0} → Option X → ℕ
size None = 0
size (Some x) = 1

pub cons_size : {X : Type 0} (o : Option X) (l : List X) → length (cons_option o l) ≡ size o + length l
cons_size None l = omega arith
cons_size (Some x) l = omega arith

-- whether a constraint is kept rests on its ends and its label
abbrev pub IsByForm : (Constraint → Option Constraint) → Type 0
IsByForm f = (c d : Constraint) → c.from ≡ d.from → c.to ≡ d.to → c.label ≡ d.label → size (f c) ≡ size (f d)

both_upto : (a b c d n k : ℕ) → a ≤ b → c ≤ d → n ≡ a + c → k ≡ b + d → n ≤ k
both_upto a b c d n k first second left_is right_is = omega arith

same_upto : (n k : ℕ) → n ≡ k → n ≤ k
same_upto n k same = omega arith

module _ (f : Constraint → Option Constraint) (form : IsByForm f) where
  abbrev pub kept : List Constraint → ℕ
  kept cs = length (filter_map f cs)

  kept_cons : (c : Constraint) (cs : List Constraint) → kept (c ∷ cs) ≡ size (f c) + kept cs
  kept_cons c cs = cons_size (f c) (filter_map f cs)

  pub kept_upto : (c : Constraint) (cs ds : List Constraint) → kept cs ≤ kept ds → kept cs ≤ kept (c ∷ ds)
  kept_upto c cs ds upto = let more = kept_cons c ds in omega arith

  kept_append : (cs ds : List Constraint) → kept (cs ++ ds) ≡ kept cs + kept ds
  kept_append cs ds = ap length (filter_map-append f cs ds) ∙ length-append (filter_map f cs) (filter_map f ds)

  kept_numbered : (k : ℕ) (cs : List Constraint) → kept (numbered k cs) ≡ kept cs
  kept_numbered k [] = refl
  kept_numbered k (c ∷ cs) =
      kept_cons (record c { id = k }) (numbered (k + 1) cs) ∙ ap (λ n. n + kept (numbered (k + 1) cs)) (form (record c { id = k }) c refl refl refl)
      ∙ ap (λ n. size (f c) + n) (kept_numbered (k + 1) cs) ∙ sym (kept_cons c cs)

  append_upto : (old new cs ds : List Constraint) → kept old ≤ kept new → kept cs ≤ kept ds → kept (old ++ cs) ≤ kept (new ++ ds)
  append_upto old new cs ds first second =
      both_upto (kept old) (kept new) (kept cs) (kept ds) _ _ first second (kept_append old cs) (kept_append new ds)

  flat_upto : (g k : ℕ → List Constraint) → ((x : ℕ) → kept (g x) ≤ kept (k x)) → (xs : List ℕ) → kept (flat_map g xs) ≤ kept (flat_map k xs)
  flat_upto g k each [] = omega arith
  flat_upto g k each (x ∷ xs) = append_upto (g x) (k x) (flat_map g xs) (flat_map k xs) (each x) (flat_upto g k each xs)

  one_same : (c d : Constraint) (cs ds : List Constraint) → c.from ≡ d.from → c.to ≡ d.to → c.label ≡ d.label → kept cs ≡ kept ds → kept (c ∷ cs) ≡ kept (d ∷ ds)
  one_same c d cs ds from to label more =
      kept_cons c cs ∙ ap (λ n. n + kept cs) (form c d from to label) ∙ ap (λ n. size (f d) + n) more ∙ sym (kept_cons d ds)

  stands_same : (k t u : ℕ) → kept (stands_at k t) ≡ kept (stands_at k u)
  stands_same k t u =
      one_same (bare k 0 (pos 0 -ℤ pos t)) (bare k 0 (pos 0 -ℤ pos u)) (bare 0 k (pos t) ∷ []) (bare 0 k (pos u) ∷ []) refl refl refl
      (one_same (bare 0 k (pos t)) (bare 0 k (pos u)) [] [] refl refl refl refl)

  one_by : (a b : Bool) (k : ℕ) (y z : ℤ) → (a ≡ true → b ≡ true) → kept (if a then bare k 0 y ∷ [] else []) ≤ kept (if b then bare k 0 z ∷ [] else [])
  one_by false b k y z more = omega arith
  one_by true true k y z more = same_upto _ _ (one_same (bare k 0 y) (bare k 0 z) [] [] refl refl refl refl)
  one_by true false k y z more = absurd (let never = more refl in cc)

-- ---- the same labels, with a later deadline, other constraints, other expectations, and another moment that is now

module _ (m : Labelled) (deadline : ℕ) (cs : List Constraint) (h : History) (e : ℕ → Option ℕ) (n : ℕ) where
  abbrev N : Labelled
  N = edited m deadline cs

  abbrev g : History
  g = record h { expected = e; now = n }

  completed_same : (a : Label) → completed N a ≡ completed m a
  completed_same a = completed_new m deadline cs a

  allows_same : (a : Label) → allows g a ≡ allows h a
  unfolding allows
  allows_same a = refl

  left_same : (x : ℕ) → is_left N g x ≡ is_left m h x
  left_same zero = refl
  left_same (suc x) =
      ap (λ (a : Label). if is_done h (suc x) then is_some (sight_left m h (suc x)) else allows g a) (completed_same (label_of m (suc x)))
      ∙ ap (λ b. if is_done h (suc x) then is_some (sight_left m h (suc x)) else b) (allows_same (completed m (label_of m (suc x))))

  is_left_same : is_left N g ≡ is_left m h
  is_left_same = fun_ext left_same

  number_same : (x : ℕ) → number_left N g x ≡ number_left m h x
  number_same x = ap (λ (k : ℕ → Bool). length (filter k (range_with_len 0 x))) is_left_same

  allowed_same : (c : Constraint) → allows g (full_label N c) ≡ allows h (full_label m c)
  allowed_same c = ap (allows g) (completed_same (joined c.label (joined (label_of m c.from) (label_of m c.to)))) ∙ allows_same (full_label m c)

  moved_same : (c : Constraint) → moved N g c ≡ moved m h c
  moved_same c = ap (λ (n : ℕ → ℕ). record {
    id = c.id;
    from = if is_done h c.from then 0 else n c.from;
    to = if is_done h c.to then 0 else n c.to;
    most = value_cut (value_left h c);
    label = label_left h c.label;
  }) (fun_ext number_same)

  left_of_same : (c : Constraint) → constraint_left N g c ≡ constraint_left m h c
  left_of_same c = ap (λ b. if b && not (is_over h c) then Some (moved N g c) else None) (allowed_same c)
      ∙ ap (λ d. if allows h (full_label m c) && not (is_over h c) then Some d else None) (moved_same c)

  pub constraints_same : constraints_left N g ≡ filter_map (constraint_left m h) cs
  constraints_same = ap (λ (k : Constraint → Option Constraint). filter_map k cs) (fun_ext left_of_same)

  coming_same : (x : ℕ) → coming_one N g x
      ≡ (if nat_lt 0 (soonest g x) && is_left m h x && not (is_done h x) then bare (number_left m h x) 0 (pos 0 -ℤ pos (soonest g x)) ∷ [] else [])
  coming_same x =
      ap (λ b. if nat_lt 0 (soonest g x) && b && not (is_done h x) then bare (number_left N g x) 0 (pos 0 -ℤ pos (soonest g x)) ∷ [] else []) (left_same x)
      ∙ ap (λ (k : ℕ). if nat_lt 0 (soonest g x) && is_left m h x && not (is_done h x) then bare k 0 (pos 0 -ℤ pos (soonest g x)) ∷ [] else [])
      (number_same x)

  both_and : (a b c d : Bool) → (a ≡ true → b ≡ true) → (a && c && d) ≡ true → (b && c && d) ≡ true
  both_and true true c d more is = is
  both_and true false c d more is = absurd (let never = more refl in cc)
  both_and false b c d more is = absurd (cc)

  module _ (later : m.base.deadline ≤ deadline) (soon : nat_lt 0 n ≡ true → nat_lt 0 h.now ≡ true) where
    soon_at : (r : ℕ) → nat_lt 0 (max n r) ≡ true → nat_lt 0 (max h.now r) ≡ true
    soon_at r is = elim (cases_lt 0 n) [
      | inl some ↦ let now = ltb-true 0 h.now (soon (lt-ltb 0 n some)) in lt-ltb 0 (max h.now r) (omega arith)
      | inr none ↦ let more = ltb-true 0 (max n r) is in lt-ltb 0 (max h.now r) (omega arith)
    ]

    limit_later : (x : ℕ) → limit m.base x ≤ limit N.base x
    limit_later zero = omega arith
    limit_later (suc x) = later

    module _ (f : Constraint → Option Constraint) (form : IsByForm f) where
      late_upto : (x : ℕ) (o : Option ℕ) → kept f form (late_one N x o) ≤ kept f form (late_one m x o)
      late_upto x None = omega arith
      late_upto x (Some t) = one_by f form (nat_lt (limit N.base x) t) (nat_lt (limit m.base x) t) 0 _ _
          (λ past. let upto = limit_later x in let more = ltb-true (limit N.base x) t past in lt-ltb (limit m.base x) t (omega arith))

      watched_upto : (x : ℕ) (o p : Option ℕ) → kept f form (watched_one N g x o p) ≤ kept f form (watched_one m h x o p)
      watched_upto zero o p = omega arith
      watched_upto (suc x) None p = omega arith
      watched_upto (suc x) (Some t) None = omega arith
      watched_upto (suc x) (Some t) (Some p) = same_upto _ _
          (ap (λ (n : ℕ). kept f form (stands_at n (moment_watched N g p t))) (number_same (suc x))
          ∙ stands_same f form (number_left m h (suc x)) (moment_watched N g p t) (moment_watched m h p t))

      coming_upto : (x : ℕ) → kept f form (coming_one N g x) ≤ kept f form (coming_one m h x)
      coming_upto x =
          subst (λ l. kept f form l ≤ kept f form (coming_one m h x)) (sym (coming_same x))
          (one_by f form (nat_lt 0 (soonest g x) && is_left m h x && not (is_done h x)) (nat_lt 0 (soonest h x) && is_left m h x && not (is_done h x))
          (number_left m h x) _ _ (both_and (nat_lt 0 (soonest g x)) (nat_lt 0 (soonest h x)) (is_left m h x) (not (is_done h x)) (soon_at (h.ready x))))

      added_upto : kept f form (added N g) ≤ kept f form (added m h)
      added_upto =
          let points = range_with_len 0 (count m.base) in
          append_upto f form (late N g) (late m h) (watched N g ++ coming N g) (watched m h ++ coming m h)
          (flat_upto f form (λ x. late_one N x (h.done x)) (λ x. late_one m x (h.done x)) (λ x. late_upto x (h.done x)) points)
          (append_upto f form (watched N g) (watched m h) (coming N g) (coming m h)
          (flat_upto f form (λ x. watched_one N g x (h.done x) (sight_left m h x)) (λ x. watched_one m h x (h.done x) (sight_left m h x))
          (λ x. watched_upto x (h.done x) (sight_left m h x)) points)
          (flat_upto f form (coming_one N g) (coming_one m h) coming_upto points))

      numbered_upto : (k : ℕ) (cs ds : List Constraint) → kept f form cs ≤ kept f form ds → kept f form (numbered k cs) ≤ kept f form (numbered k ds)
      numbered_upto k cs ds upto = let new = kept_numbered f form k cs in let old = kept_numbered f form k ds in omega arith

      all_upto : (fresh : ℕ) → kept f form (filter_map (constraint_left m h) cs) ≤ kept f form (constraints_left m h)
          → kept f form (rest N g fresh).base.constraints ≤ kept f form (rest m h fresh).base.constraints
      all_upto fresh fewer =
          append_upto f form (constraints_left N g) (constraints_left m h) (numbered fresh (added N g)) (numbered fresh (added m h))
          (subst (λ l. kept f form l ≤ kept f form (constraints_left m h)) (sym constraints_same) fewer) (numbered_upto fresh (added N g) (added m h) added_upto)

-- ---- the lowered network

module _ (R : Labelled) where
  with_size : (b : Bool) (c d : Constraint) → size (if b then Some c else None) ≡ size (if b then Some d else None)
  with_size true c d = refl
  with_size false c d = refl

  pub full_by_form : IsByForm (with_full_label R)
  full_by_form c d from to label =
      let same : full_label R c ≡ full_label R d =
      ap (λ (l : Label). completed R (joined l (joined (label_of R c.from) (label_of R c.to)))) label
      ∙ ap (λ x. completed R (joined d.label (joined (label_of R x) (label_of R c.to)))) from
      ∙ ap (λ x. completed R (joined d.label (joined (label_of R d.from) (label_of R x)))) to in
      with_size (is_plain (full_label R c)) (record c { label = full_label R c }) (record d { label = full_label R d })
      ∙ ap (λ (l : Label). size (if is_plain l then Some (record d { label = full_label R d }) else None)) same

  -- with another deadline, other reactions and other constraints
  module _ (deadline : ℕ) (reaction : ℕ → ℕ) (ds : List Constraint) where
    abbrev S : Labelled
    S = record { base = record { deadline = deadline; observes = R.base.observes; reaction = reaction; constraints = ds }; labels = R.labels }

    completed_there : (a : Label) → completed S a ≡ completed R a
    completed_there a = within_same (completed S a) (completed R a)
        (completed_least S a (completed R a) (completed_contains R a) (λ x p o marked. completed_complete R a x p (record { what = o.what }) marked))
        (completed_least R a (completed S a) (completed_contains S a) (λ x p o marked. completed_complete S a x p (record { what = o.what }) marked))

    full_there : with_full_label S ≡ with_full_label R
    full_there = fun_ext (λ c. ap (λ (a : Label). if is_plain a then Some (record c { label = a }) else None)
        (completed_there (joined c.label (joined (label_of R c.from) (label_of R c.to)))))

    guard_size : (x : ℕ) (a : Label) (p : ℕ) (b : Bool) (o : Option ℕ)
        → size {X = Constraint} (if b then option_map (λ j. record { id = 0; from = x; to = j; most = pos 0 -ℤ pos (reaction p); label = a }) o else None)
        ≡ size {X = Constraint} (if b then option_map (λ j. record { id = 0; from = x; to = j; most = pos 0 -ℤ pos (R.base.reaction p); label = a }) o else None)
    guard_size x a p true None = refl
    guard_size x a p true (Some j) = refl
    guard_size x a p false o = refl

    guards_for_long : (x : ℕ) (a : Label) (ps : List ℕ) → length (filter_map (guard S.base x a) ps) ≡ length (filter_map (guard R.base x a) ps)
    guards_for_long x a [] = refl
    guards_for_long x a (p ∷ ps) =
        cons_size (guard S.base x a p) (filter_map (guard S.base x a) ps)
        ∙ ap (λ n. n + length (filter_map (guard S.base x a) ps)) (guard_size x a p (is_marked (a p)) (observer_of R.base p))
        ∙ ap (λ n. size (guard R.base x a p) + n) (guards_for_long x a ps) ∙ sym (cons_size (guard R.base x a p) (filter_map (guard R.base x a) ps))

    guards_of_long : (x : ℕ) (a : Label) → length (guards_of S.base x a) ≡ length (guards_of R.base x a)
    unfolding guards_of
    guards_of_long x a = guards_for_long x a (range_with_len 0 52)

    flat_long : (k l : ℕ → List Constraint) → ((x : ℕ) → length (k x) ≡ length (l x)) → (xs : List ℕ) → length (flat_map k xs) ≡ length (flat_map l xs)
    flat_long k l each [] = refl
    flat_long k l each (x ∷ xs) =
        length-append (k x) (flat_map k xs) ∙ ap (λ n. n + length (flat_map k xs)) (each x) ∙ ap (λ n. length (l x) + n) (flat_long k l each xs)
        ∙ sym (length-append (l x) (flat_map l xs))

    guards_long : length (guards S) ≡ length (guards R)
    guards_long =
        ap (λ (k : Label → Label). length (all_guards S.base (map k R.labels))) (fun_ext completed_there)
        ∙ flat_long _ _ (λ x. guards_of_long x _) (range_with_len 0 (count R.base))

    pub lowered_there : length (lowered S).constraints ≡ length (filter_map (with_full_label R) ds) + length (guards R)
    lowered_there =
        numbered_length 0 (full_constraints S ++ guards S) ∙ length-append (full_constraints S) (guards S)
        ∙ ap (λ (k : Constraint → Option Constraint). length (filter_map k ds) + length (guards S)) full_there
        ∙ ap (λ n. length (filter_map (with_full_label R) ds) + n) guards_long

  pub lowered_long : length (lowered R).constraints ≡ length (filter_map (with_full_label R) R.base.constraints) + length (guards R)
  lowered_long =
      numbered_length 0 (full_constraints R ++ guards R) ∙ length-append (full_constraints R) (guards R)

-- ---- room

all_kept : (cs : List Constraint) → filter_map (λ c. Some c) cs ≡ cs
all_kept [] = refl
all_kept (c ∷ cs) = ap (λ l. c ∷ l) (all_kept cs)

module _ (m : Labelled) (deadline : ℕ) (cs : List Constraint) (h : History) (e : ℕ → Option ℕ) (n : ℕ) (later : m.base.deadline ≤ deadline)
    (soon : nat_lt 0 n ≡ true → nat_lt 0 h.now ≡ true) (fewer : (f : Constraint → Option Constraint) → IsByForm f
    → length (filter_map f (filter_map (constraint_left m h) cs)) ≤ length (filter_map f (constraints_left m h))) (fresh : ℕ) where
  abbrev New : Labelled
  New = rest (edited m deadline cs) (record h { expected = e; now = n }) fresh

  abbrev Old : Labelled
  Old = rest m h fresh

  abbrev left_by : (ℕ → Bool) → Labelled
  left_by k = record {
    base = record {
      deadline = deadline;
      observes = map (sight_left m h) (filter k (range_with_len 0 (count m.base)));
      reaction = New.base.reaction;
      constraints = New.base.constraints;
    };
    labels = map (λ x. label_left h (label_of m x)) (filter k (range_with_len 0 (count m.base)));
  }

  shaped : New ≡ left_by (is_left m h)
  shaped = ap left_by (is_left_same m deadline cs h e n)

  pub room_stays : HasFewConstraints Old → HasFewConstraints New
  room_stays room =
      let base = all_upto m deadline cs h e n later soon (λ c. Some c) (λ c d from to label. refl) fresh (fewer (λ c. Some c) (λ c d from to label. refl)) in
      let new_base = ap length (all_kept New.base.constraints) in
      let old_base = ap length (all_kept Old.base.constraints) in
      let full = all_upto m deadline cs h e n later soon (with_full_label Old) (full_by_form Old) fresh (fewer (with_full_label Old) (full_by_form Old)) in
      let new_low = ap (λ (k : Labelled). length (lowered k).constraints) shaped ∙ lowered_there Old deadline New.base.reaction New.base.constraints in
      let old_low = lowered_long Old in
      let few_base = room.base in
      let few_low = room.lowered in
      record { base = omega arith; lowered = omega arith }

-- there is a verdict where there are few enough constraints
pub own_few : (m : Labelled) (h : History) (fresh cap : ℕ) (v : Verdict) → verdict_left m h fresh cap ≡ Some v → length (lowered m).constraints ≤ most_constraints
own_few m h fresh cap v is =
    few_is (length (lowered m).constraints) (by (has_few (lowered m)) (has_few (rest m h fresh).base && has_few (lowered (rest m h fresh))) is)
  where
    by : (a b : Bool) → (if a && b then Some (verdict cap (lowered (rest m h fresh))) else None) ≡ Some v → a ≡ true
    by true b some = refl
    by false b some = absurd (cc)

-- by a later deadline there is a verdict, too
pub deadline_fits : (m : Labelled) (deadline : ℕ) (h : History) (fresh cap : ℕ) (v : Verdict) → m.base.deadline ≤ deadline → verdict_left m h fresh cap ≡ Some v
    → verdict_left (by_deadline m deadline) h fresh cap ≡ None → ⊥
deadline_fits m deadline h fresh cap v later is none =
    let long = lowered_there m deadline m.base.reaction m.base.constraints in
    let own = lowered_long m in
    let few = own_few m h fresh cap v is in
    let stays = room_stays m deadline m.base.constraints h h.expected h.now later (λ above. above) (λ f form. omega arith) fresh (left_says m h fresh cap v is).0 in
    let some = left_fits (by_deadline m deadline) h fresh cap (omega arith) stays in
    cc

-- when something else is expected there is a verdict, too
pub expected_fits : (m : Labelled) (h : History) (fresh cap t p : ℕ) (v : Verdict) → verdict_left m h fresh cap ≡ Some v
    → verdict_left m (with_expected h t p) fresh cap ≡ None → ⊥
expected_fits m h fresh cap t p v is none =
    let stays = room_stays m m.base.deadline m.base.constraints h (with_expected h t p).expected h.now (omega arith) (λ above. above) (λ f form. omega arith) fresh
    (left_says m h fresh cap v is).0 in
    let some = left_fits m (with_expected h t p) fresh cap (own_few m h fresh cap v is) stays in
    cc

-- where there are few enough constraints later than now, there is a verdict at each moment from now on
within_room : (m : Labelled) (h : History) (fresh : ℕ) → is_within_limits m h fresh ≡ true → HasFewConstraints (rest m h fresh)
within_room m h fresh within =
    let two = and_parts (has_few (lowered m)) (has_few (rest m h fresh).base && has_few (lowered (rest m h fresh))) within in
    let both = and_parts (has_few (rest m h fresh).base) (has_few (lowered (rest m h fresh))) two.1 in
    record { base = few_is (length (rest m h fresh).base.constraints) both.0; lowered = few_is (length (lowered (rest m h fresh)).constraints) both.1 }

pub now_fits : (m : Labelled) (h : History) (fresh cap t : ℕ) (v : Verdict) → verdict_left m h fresh cap ≡ Some v
    → is_within_limits m (at_now h (max h.now 1)) fresh ≡ true → verdict_left m (at_now h t) fresh cap ≡ None → ⊥
now_fits m h fresh cap t v is within none =
    let later = at_now h (max h.now 1) in
    let stays = room_stays m m.base.deadline m.base.constraints later h.expected t (omega arith) (λ above. is_later h.now) (λ f form. omega arith) fresh
    (within_room m later fresh within) in
    let some = left_fits m (at_now h t) fresh cap (own_few m h fresh cap v is) stays in
    cc
  where
    is_later : (n : ℕ) → nat_lt 0 (max n 1) ≡ true
    is_later n = grind arith
