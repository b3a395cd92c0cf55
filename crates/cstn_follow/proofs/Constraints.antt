-- Labelled networks with other constraints, and what is left of them.
use Rattle.std.proofs.Common.{ℕ, zero, suc, ◌≡◌, ◌+◌, Bool, not, ◌||◌, List, [], ◌∷◌, ◌++◌, Option, Some, None, length, refl, sym, subst, ap, ◌∙◌}
use Rattle.std.specs.Prelude.{map, nat_lt, ◌&&◌, pos, ◌-ℤ◌, if◌then◌else◌}
use Rattle.std.specs.Option.{is_some}
use Rattle.std.specs.List.{filter, filter_map, flat_map, range_with_len}
use Rattle.std.proofs.Math.Path.{fun_ext}
use Rattle.std.proofs.lemmas.List.{length-append}
use Rattle.cstn_label.specs.Labels.{Label, IsPlain, joined}
use Rattle.cstn_net.specs.Networks.{Constraint, IsWellFormed, count, limit}
use Rattle.cstn_lift.specs.Labelled.{Labelled, label_of}
use Rattle.cstn_lift.specs.Completion.{completed, full_label}
use Rattle.cstn_lift.specs.Lowered.{is_plain, with_full_label, full_of, full_constraints, guards_of, all_guards, guards, lowered, observer_of, numbered}
use Rattle.cstn_lift.specs.WellFormed.{IsLabelled}
use Rattle.cstn_lift.proofs.ListLemmas.{numbered_length}
use Rattle.cstn_history.specs.Histories.{History, is_done, is_told, allows, label_left, soonest}
use Rattle.cstn_history.specs.Rest.{is_left, sight_left, number_left, value_left, value_cut, moved, is_over, constraint_left, bare, late_one, watched_one, stands_at}
use Rattle.cstn_history.specs.Rest.{moment_watched, coming_one, late, watched, coming, added, reaction_after, reaction_by, constraints_left, rest}
use Rattle.cstn_history.proofs.Edited.{completed_new}
use Rattle.cstn_follow.specs.Tries.{with_base}

-- ---- labels, and the lowered network

module _ (m : Labelled) (cs : List Constraint) where
  abbrev pub with_these : Labelled
  with_these = with_base m (record m.base { constraints = cs })

  abbrev E : Labelled
  E = with_these

  pub completed_same : (a : Label) → completed E a ≡ completed m a
  completed_same a = completed_new m m.base.deadline cs a

  pub these_labelled : IsLabelled m → IsWellFormed E.base → IsLabelled E
  these_labelled good well_formed = record {
    base = well_formed;
    one_each = good.one_each;
    origin = good.origin;
    plain = good.plain;
    observed = λ x here p marked. let o = good.observed x here p marked in (o.0, record { what = o.1.what });
    no_circle = λ x p o. ap (λ (a : Label). a p) (completed_same (label_of m x)) ∙ good.no_circle x p (record { what = o.what });
    completed_plain = λ x here. subst IsPlain (sym (completed_same (label_of m x))) (good.completed_plain x here);
  }

  full_same : (c : Constraint) → with_full_label E c ≡ with_full_label m c
  full_same c = ap (λ (a : Label). if is_plain a then Some (record c { label = a }) else None) (completed_same (joined c.label (joined (label_of m c.from) (label_of m c.to))))

  guards_same : (x : ℕ) (a : Label) → guards_of E.base x a ≡ guards_of m.base x a
  unfolding guards_of
  guards_same x a = refl

  all_same : guards E ≡ guards m
  all_same =
      ap (λ (f : ℕ → List Constraint). flat_map f (range_with_len 0 (count m.base))) (fun_ext (λ x. guards_same x _))
      ∙ ap (λ (f : Label → Label). all_guards m.base (map f m.labels)) (fun_ext completed_same)

  -- the constraints with plain full labels, and the lowered network
  pub these_full : full_constraints E ≡ full_of m cs
  these_full = ap (λ (f : Constraint → Option Constraint). filter_map f cs) (fun_ext full_same)

  pub these_lowered : lowered E ≡ record m.base { constraints = numbered 0 (full_of m cs ++ guards m) }
  these_lowered =
      ap (λ l. record m.base { constraints = numbered 0 (l ++ guards E) }) these_full
      ∙ ap (λ l. record m.base { constraints = numbered 0 (full_of m cs ++ l) }) all_same

  -- how many constraints the lowered network has
  pub these_long : length (lowered E).constraints ≡ length (full_of m cs) + length (guards m)
  these_long =
      numbered_length 0 (full_constraints E ++ guards E) ∙ length-append (full_constraints E) (guards E)
      ∙ ap (λ l. length l + length (guards E)) these_full ∙ ap (λ l. length (full_of m cs) + length l) all_same

-- ---- what is left

module _ (m : Labelled) (cs : List Constraint) (h : History) where
  abbrev N : Labelled
  N = with_these m cs

  left_same : (x : ℕ) → is_left N h x ≡ is_left m h x
  left_same zero = refl
  left_same (suc x) = ap (λ (a : Label). if is_done h (suc x) then is_some (sight_left m h (suc x)) else allows h a) (completed_same m cs (label_of m (suc x)))

  is_left_same : is_left N h ≡ is_left m h
  is_left_same = fun_ext left_same

  number_same : (x : ℕ) → number_left N h x ≡ number_left m h x
  number_same x = ap (λ (f : ℕ → Bool). length (filter f (range_with_len 0 x))) is_left_same

  allowed_same : (c : Constraint) → allows h (full_label N c) ≡ allows h (full_label m c)
  allowed_same c = ap (allows h) (completed_same m cs (joined c.label (joined (label_of m c.from) (label_of m c.to))))

  moved_same : (c : Constraint) → moved N h c ≡ moved m h c
  moved_same c = ap (λ (n : ℕ → ℕ). record {
    id = c.id;
    from = if is_done h c.from then 0 else n c.from;
    to = if is_done h c.to then 0 else n c.to;
    most = value_cut (value_left h c);
    label = label_left h c.label;
  }) (fun_ext number_same)

  one_same : (c : Constraint) → constraint_left N h c ≡ constraint_left m h c
  one_same c = ap (λ b. if b && not (is_over h c) then Some (moved N h c) else None) (allowed_same c)
      ∙ ap (λ d. if allows h (full_label m c) && not (is_over h c) then Some d else None) (moved_same c)

  limit_same : (x : ℕ) → limit N.base x ≡ limit m.base x
  limit_same zero = refl
  limit_same (suc x) = refl

  late_same : (x : ℕ) (o : Option ℕ) → late_one N x o ≡ late_one m x o
  late_same x None = refl
  late_same x (Some t) = ap (λ (n : ℕ). if nat_lt n t then bare 0 0 (pos n -ℤ pos t) ∷ [] else []) (limit_same x)

  watched_same : (x : ℕ) (o p : Option ℕ) → watched_one N h x o p ≡ watched_one m h x o p
  watched_same zero o p = refl
  watched_same (suc x) None p = refl
  watched_same (suc x) (Some t) None = refl
  watched_same (suc x) (Some t) (Some p) = ap (λ (n : ℕ). stands_at n (moment_watched m h p t)) (number_same (suc x))

  coming_same : (x : ℕ) → coming_one N h x ≡ coming_one m h x
  coming_same x =
      ap (λ b. if nat_lt 0 (soonest h x) && b && not (is_done h x) then bare (number_left N h x) 0 (pos 0 -ℤ pos (soonest h x)) ∷ [] else []) (left_same x)
      ∙ ap (λ (n : ℕ). if nat_lt 0 (soonest h x) && is_left m h x && not (is_done h x) then bare n 0 (pos 0 -ℤ pos (soonest h x)) ∷ [] else [])
      (number_same x)

  added_same : added N h ≡ added m h
  added_same =
      let points = range_with_len 0 (count m.base) in
      ap (λ (f : ℕ → List Constraint). flat_map f points ++ (watched N h ++ coming N h)) (fun_ext (λ x. late_same x (h.done x)))
      ∙ ap (λ (f : ℕ → List Constraint). late m h ++ (flat_map f points ++ coming N h)) (fun_ext (λ x. watched_same x (h.done x) (sight_left m h x)))
      ∙ ap (λ (f : ℕ → List Constraint). late m h ++ (watched m h ++ flat_map f points)) (fun_ext coming_same)

  after_same : (p x : ℕ) (o : Option ℕ) → reaction_after N h p x o ≡ reaction_after m h p x o
  after_same p x None = refl
  after_same p zero (Some t) = refl
  after_same p (suc x) (Some t) = refl

  reaction_same : (p : ℕ) (o : Option ℕ) → reaction_by N h p o ≡ reaction_by m h p o
  reaction_same p None = refl
  reaction_same p (Some x) =
      ap (λ b. if is_told h p || not b then 1 else reaction_after N h p x (h.done x)) (left_same x)
      ∙ ap (λ (n : ℕ). if is_told h p || not (is_left m h x) then 1 else n) (after_same p x (h.done x))

  constraints_same : constraints_left N h ≡ filter_map (constraint_left m h) cs
  constraints_same = ap (λ (f : Constraint → Option Constraint). filter_map f cs) (fun_ext one_same)

  abbrev points : List ℕ
  points = range_with_len 0 (count m.base)

  abbrev made : List (Option ℕ) → (ℕ → ℕ) → List Constraint → List Label → Labelled
  made seen reaction ds labels = record { base = record { deadline = m.base.deadline; observes = seen; reaction = reaction; constraints = ds }; labels = labels }

  -- what is left, by which time-points are left, reactions, and what is left of constraints
  abbrev made_by : (ℕ → Bool) → (ℕ → ℕ) → List Constraint → Labelled
  made_by kept reaction ds = made (map (sight_left m h) (filter kept points)) reaction ds (map (λ x. label_left h (label_of m x)) (filter kept points))

  -- what is left of it is what was left of the labelled network, but for what is left of the constraints
  pub rest_same : (fresh : ℕ) → rest N h fresh ≡ with_these (rest m h fresh) (filter_map (constraint_left m h) cs ++ numbered fresh (added m h))
  rest_same fresh =
      let reaction : ℕ → ℕ = λ p. reaction_by m h p (observer_of m.base p) in
      ap (λ (f : ℕ → Bool). made_by f (λ p. reaction_by N h p (observer_of m.base p)) (constraints_left N h ++ numbered fresh (added N h))) is_left_same
      ∙ ap (λ (r : ℕ → ℕ). made_by (is_left m h) r (constraints_left N h ++ numbered fresh (added N h))) (fun_ext (λ p. reaction_same p (observer_of m.base p)))
      ∙ ap (λ l. made_by (is_left m h) reaction (l ++ numbered fresh (added N h))) constraints_same
      ∙ ap (λ l. made_by (is_left m h) reaction (filter_map (constraint_left m h) cs ++ numbered fresh l)) added_same
