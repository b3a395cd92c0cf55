-- The lowered network keeps what is plain and waits for what is marked, at all propositions.
use Rattle.std.proofs.Common.{ℕ, ◌≡◌, ◌<◌, ◌++◌, Bool, true, false, List, Option, Some, None, refl, sym, subst, ap, ◌∙◌}
use Rattle.std.specs.Prelude.{◌↔◌, map, if◌then◌else◌, option_map, pos, ◌-ℤ◌, IsTrue}
use Rattle.std.specs.List.{Contains, range_with_len}
use Rattle.std.proofs.lemmas.List.Elements.{Contains-append_left}
use Rattle.cstn_facts.proofs.Members.{filter_map_contains, flat_map_contains, filter_map_from, flat_map_from}
use Rattle.cstn_facts.proofs.Ranges.{range_contains, range_from}
use Rattle.cstn_label.specs.Labels.{IsPlain}
use Rattle.cstn_label.specs.Marks.{is_marked}
use Rattle.cstn_net.specs.Networks.{Constraint, count}
use Rattle.cstn_lift.specs.Labelled.{Labelled}
use Rattle.cstn_lift.specs.Completion.{completed, completed_label, full_label}
use Rattle.cstn_lift.specs.WellFormed.{IsLabelled}
use Rattle.cstn_lift.specs.Lowered.{is_plain, observer_of, with_full_label, full_constraints, guard, guards_of, guards_with, guards}
use Rattle.cstn_lift.specs.Kept.{IsConstraintOf, IsKeptConstraint, IsLowered, IsFull, IsGuard}
use Rattle.cstn_lift.proofs.ListLemmas.{numbered_contains}
use Rattle.cstn_lift.proofs.LoweredLemmas.{plain_true, plain_back, only, completed_at, guard_is, observer_back}
use Rattle.cstn_lift.proofs.Equivalent.{full_observed}
use Rattle.cstn_lift.proofs.WellFormed.{above, plain_and_observed}
use Rattle.cstn_label.proofs.MarkLemmas.{true_marked}

module _ (m : Labelled) (good : IsLabelled m) where
  plain_over_all : (c : Constraint) → IsConstraintOf m c → is_plain (full_label m c) ≡ true → IsPlain (full_label m c)
  plain_over_all c has = plain_back (full_label m c) (above m good (full_label m c) (full_observed m good c has))

  -- a full label is plain at the propositions 0 to 51 exactly where it is plain at all
  pub plain_both : (c : Constraint) → IsConstraintOf m c → IsTrue (is_plain (full_label m c)) ↔ IsPlain (full_label m c)
  plain_both c has = (plain_over_all c has, plain_true (full_label m c))

  full_of_given : (c : Constraint) → IsConstraintOf m c → (d : Constraint) (b : Bool) → is_plain (full_label m c) ≡ b →
      (if b then Some (record c { label = full_label m c }) else None) ≡ Some d → IsFull m d
  full_of_given c has d false e is = absurd (cc)
  full_of_given c has d true e is =
      let same : record c { label = full_label m c } ≡ d = cc in
      (c, has, plain_over_all c has e, sym same)

  full_from_kept : (d : Constraint) → Contains (full_constraints m) d → IsFull m d
  full_from_kept d has =
      let from = filter_map_from (with_full_label m) m.base.constraints d has in
      full_of_given from.0 from.1 d (is_plain (full_label m from.0)) refl from.2

  given_full : (c : Constraint) → IsPlain (full_label m c) → with_full_label m c ≡ Some (record c { label = full_label m c })
  given_full c plain =
      ap (λ b. if b then Some (record c { label = full_label m c }) else None) (plain_true (full_label m c) plain)

  kept_from_full : (d : Constraint) → IsFull m d → Contains (full_constraints m) d
  kept_from_full d (c, has, plain, is) =
      filter_map_contains (with_full_label m) m.base.constraints c d has (given_full c plain ∙ ap (λ e. Some e) (sym is))

  -- the constraints that are kept are those of the network with plain full labels
  pub full_both : (d : Constraint) → Contains (full_constraints m) d ↔ IsFull m d
  full_both d = (full_from_kept d, kept_from_full d)

  plain_kept : (c : Constraint) → IsConstraintOf m c → IsPlain (full_label m c) → IsKeptConstraint m c
  plain_kept c has plain =
      let d = record c { label = full_label m c } in
      Contains-append_left (full_constraints m) (guards m) d (kept_from_full d (c, has, plain, refl))

  kept_lowered : (c : Constraint) → IsKeptConstraint m c → IsLowered m c
  kept_lowered c has = numbered_contains 0 (full_constraints m ++ guards m) (record c { label = full_label m c }) has

  lowered_plain : (c : Constraint) → IsLowered m c → IsPlain (full_label m c)
  lowered_plain c (id, has) =
      let d = record c { id = id; label = full_label m c } in
      (plain_and_observed m good d (only m good d has)).0

  -- a constraint is kept exactly where its full label is plain
  pub kept_both : (c : Constraint) → IsConstraintOf m c → IsKeptConstraint m c ↔ IsPlain (full_label m c)
  kept_both c has = (λ kept. lowered_plain c (kept_lowered c kept), plain_kept c has)

  -- a constraint is in the lowered network exactly where its full label is plain
  pub lowered_both : (c : Constraint) → IsConstraintOf m c → IsLowered m c ↔ IsPlain (full_label m c)
  lowered_both c has = (lowered_plain c, λ plain. kept_lowered c (plain_kept c has plain))

  -- the constraint by which x waits for p, which j observes
  abbrev wait : ℕ → ℕ → ℕ → Constraint
  wait x p j = record { id = 0; from = x; to = j; most = pos 0 -ℤ pos (m.base.reaction p); label = completed_label m x }

  wait_of_given : (x p : ℕ) (d : Constraint) (b : Bool) → is_marked (completed_label m x p) ≡ b → (o : Option ℕ) →
      observer_of m.base p ≡ o → (if b then option_map (wait x p) o else None) ≡ Some d → IsGuard m x d
  wait_of_given x p d false e o f is = absurd (cc)
  wait_of_given x p d true e None f is = absurd (cc)
  wait_of_given x p d true e (Some j) f is =
      let same : wait x p j ≡ d = cc in
      record {
        prop = p;
        observer = j;
        observes = observer_back m.base j p f;
        marked = true_marked (completed_label m x p) e;
        is = sym same;
      }

  wait_from : (x : ℕ) (d : Constraint) → Contains (guards_of m.base x (completed_label m x)) d → IsGuard m x d
  unfolding guards_of
  wait_from x d has =
      let a = completed_label m x in
      let from = filter_map_from (guard m.base x a) (range_with_len 0 52) d has in
      wait_of_given x from.0 d (is_marked (a from.0)) refl (observer_of m.base from.0) refl from.2

  wait_there : (x : ℕ) (d : Constraint) → IsGuard m x d → Contains (guards_of m.base x (completed_label m x)) d
  unfolding guards_of
  wait_there x d awaits =
      let a = completed_label m x in
      let p = awaits.prop in
      let j = awaits.observer in
      filter_map_contains (guard m.base x a) (range_with_len 0 52) p d (range_contains 52 p (good.base.letters j p awaits.observes))
      (guard_is m good x j p a awaits.observes awaits.marked ∙ ap (λ e. Some e) (sym awaits.is))

  -- a time-point waits for each proposition that its completed label marks, whatever the proposition's number
  pub waits_both : (x : ℕ) (d : Constraint) → Contains (guards_of m.base x (completed_label m x)) d ↔ IsGuard m x d
  waits_both x d = (wait_from x d, wait_there x d)

  abbrev guards_at : ℕ → List Constraint
  guards_at = guards_with m.base (map (completed m) m.labels)

  waits_at : (x : ℕ) → x < count m.base → guards_at x ≡ guards_of m.base x (completed_label m x)
  waits_at x here = ap (guards_of m.base x) (completed_at m good x here)

  guard_from : (d : Constraint) → Contains (guards m) d → (x : ℕ) × (x < count m.base) × IsGuard m x d
  guard_from d has =
      let from = flat_map_from guards_at (range_with_len 0 (count m.base)) d has in
      let here = range_from (count m.base) from.0 from.1 in
      (from.0, here, wait_from from.0 d (subst (λ cs. Contains cs d) (waits_at from.0 here) from.2))

  guard_there : (d : Constraint) → (x : ℕ) × (x < count m.base) × IsGuard m x d → Contains (guards m) d
  guard_there d (x, here, awaits) =
      flat_map_contains guards_at (range_with_len 0 (count m.base)) x d (range_contains (count m.base) x here)
      (subst (λ cs. Contains cs d) (sym (waits_at x here)) (wait_there x d awaits))

  -- the guards are the constraints by which some time-point waits
  pub guards_both : (d : Constraint) → Contains (guards m) d ↔ ((x : ℕ) × (x < count m.base) × IsGuard m x d)
  guards_both d = (guard_from d, guard_there d)
