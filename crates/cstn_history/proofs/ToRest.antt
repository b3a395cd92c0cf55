-- A table that continues a history gives a labelled strategy of the rest.
use Rattle.std.proofs.Common.{ℕ, zero, suc, ◌≡◌, inl, inr, ◌+◌, ◌<◌, ◌≤◌, true, Option, Some, None, arith, refl, sym, subst, ap, ◌∙◌}
use Rattle.std.specs.Prelude.{pos, ◌-ℤ◌}
use Rattle.std.specs.List.{Contains}
use Rattle.std.specs.Option.{unwrap_or}
use Rattle.std.proofs.lemmas.Int.{ints}
use Rattle.std.proofs.lemmas.List.Elements.{All-contains}
use Rattle.cstn_label.specs.Labels.{Scenario, Holds}
use Rattle.cstn_label.proofs.LabelLemmas.{holds_within}
use Rattle.cstn_net.specs.Limits.{most_deadline}
use Rattle.cstn_net.specs.Networks.{Constraint, IsConstraint, Observes, count, limit}
use Rattle.cstn_net.specs.Strategies.{Table, Meets}
use Rattle.cstn_net.proofs.Knowledge.{observer_within}
use Rattle.cstn_lift.specs.Labelled.{Labelled}
use Rattle.cstn_lift.specs.Completion.{completed_label, full_label}
use Rattle.cstn_lift.specs.WellFormed.{IsLabelled}
use Rattle.cstn_lift.specs.Strategies.{IsExecuted, IsInForce, IsKnownExecuted, IsLabelledStrategy}
use Rattle.cstn_lift.proofs.Equivalent.{full_from, full_to}
use Rattle.cstn_history.specs.Histories.{History, IsHistory, known_at, IsAllowed, soonest}
use Rattle.cstn_history.specs.Continuations.{Continues, IsKnownAfter}
use Rattle.cstn_history.specs.Rest.{sight_left, is_left, number_left, end_left, moment_done, moved, bare, moment_watched, late, watched, coming, rest}
use Rattle.cstn_history.proofs.Settled.{some_or_none, as_told, told_agrees, told_same, holds_left, holds_back, holds_allows, settles_holds}
use Rattle.cstn_history.proofs.Places.{old, left_coming, left_watching, left_allows, old_new, old_stands, old_origin, observes_left, sees_left, sees_back}
use Rattle.cstn_history.proofs.Labels.{completed_new}
use Rattle.cstn_history.proofs.Forces.{end_done, end_coming, force_back, bare_full, constraint_from}
use Rattle.cstn_history.proofs.Added.{late_from, watched_from, coming_from}
use Rattle.cstn_history.proofs.Reactions.{reaction_coming, reaction_origin, reaction_done}
use Rattle.cstn_history.proofs.Values.{value_moved}

-- the moment at which a time-point stands in the rest
pub stand : Labelled → History → ℕ → ℕ → Option ℕ → Option ℕ → ℕ
stand m h at x None p = at
stand m h at zero (Some t) p = 0
stand m h at (suc x) (Some t) None = 0
stand m h at (suc x) (Some t) (Some p) = moment_watched m h p t

stand_coming : (m : Labelled) (h : History) (at x : ℕ) (o p : Option ℕ) → o ≡ None → stand m h at x o p ≡ at
unfolding stand
stand_coming m h at zero o p e = ap (λ q. stand m h at 0 q p) e
stand_coming m h at (suc x) o p e = ap (λ q. stand m h at (suc x) q p) e

stand_origin : (m : Labelled) (h : History) (at t : ℕ) (o p : Option ℕ) → o ≡ Some t → stand m h at 0 o p ≡ 0
unfolding stand
stand_origin m h at t o p e = ap (λ q. stand m h at 0 q p) e

stand_watched : (m : Labelled) (h : History) (at x t p : ℕ) (o q : Option ℕ) → o ≡ Some t → q ≡ Some p →
    stand m h at (suc x) o q ≡ moment_watched m h p t
unfolding stand
stand_watched m h at x t p o q e f = ap (λ i. stand m h at (suc x) i q) e ∙ ap (stand m h at (suc x) (Some t)) f

-- of what is done, the moment doesn't rest on the table
stand_done : (m : Labelled) (h : History) (at by x t : ℕ) (o q : Option ℕ) → o ≡ Some t → stand m h at x o q ≡ stand m h by x o q
unfolding stand
stand_done m h at by x t None q e = absurd (cc)
stand_done m h at by zero t (Some u) q e = refl
stand_done m h at by (suc x) t (Some u) None e = refl
stand_done m h at by (suc x) t (Some u) (Some p) e = refl

pub watched_upto : (m : Labelled) (h : History) (p t : ℕ) → moment_watched m h p t ≤ m.base.deadline
watched_upto m h p t = omega arith

stand_upto : (m : Labelled) (h : History) (at x t : ℕ) (q : Option ℕ) → stand m h at x (Some t) q ≤ m.base.deadline
unfolding stand
stand_upto m h at zero t q = omega arith
stand_upto m h at (suc x) t None = omega arith
stand_upto m h at (suc x) t (Some p) = watched_upto m h p t

pub limit_other : (m : Labelled) (x : ℕ) → (x ≡ 0 → ⊥) → limit m.base x ≡ m.base.deadline
limit_other m zero other = absurd (other refl)
limit_other m (suc x) other = refl

pub executed_left : (m : Labelled) (h : History) (fresh : ℕ) (good : IsLabelled m) (known : IsHistory m h) (s : Scenario) (x : ℕ) →
    x < count m.base → is_left m h x ≡ true → IsExecuted m (as_told h s) x → IsExecuted (rest m h fresh) s (number_left m h x)
executed_left m h fresh good known s x here left e =
    subst (Holds s) (sym (completed_new m h fresh good known x here left)) (holds_left h (completed_label m x) s e)

pub executed_back : (m : Labelled) (h : History) (fresh : ℕ) (good : IsLabelled m) (known : IsHistory m h) (s : Scenario) (x : ℕ) →
    x < count m.base → is_left m h x ≡ true → IsExecuted (rest m h fresh) s (number_left m h x) → IsExecuted m (as_told h s) x
executed_back m h fresh good known s x here left e =
    holds_back h (completed_label m x) s (left_allows m h fresh good known x left)
    (subst (Holds s) (completed_new m h fresh good known x here left) e)

-- a done time-point is executed
pub done_executed : (m : Labelled) (h : History) (known : IsHistory m h) (s : Scenario) (x t : ℕ) → h.done x ≡ Some t → IsExecuted m (as_told h s) x
done_executed m h known s x t e = settles_holds h (completed_label m x) (as_told h s) (told_agrees h s) (known.settled x t e)

module _ (m : Labelled) (h : History) (fresh : ℕ) (good : IsLabelled m) (known : IsHistory m h) (table : Table) (goes : Continues m h table) where
  abbrev R : Labelled
  R = rest m h fresh

  -- the moment in the rest of the time-point with the old number x
  abbrev from_old : Scenario → ℕ → ℕ
  from_old s x = stand m h (table (as_told h s) x) x (h.done x) (sight_left m h x)

  abbrev pub to_rest : Table
  to_rest s k = from_old s (old m h k)

  pub at_coming : (s : Scenario) (x : ℕ) → x < count m.base → is_left m h x ≡ true → h.done x ≡ None →
      to_rest s (number_left m h x) ≡ table (as_told h s) x
  at_coming s x here left none =
      ap (from_old s) (old_new m h fresh good known x here left)
      ∙ stand_coming m h (table (as_told h s) x) x (h.done x) (sight_left m h x) none

  pub at_origin : (s : Scenario) → to_rest s 0 ≡ 0
  at_origin s =
      ap (from_old s) (old_origin m h fresh good known)
      ∙ stand_origin m h (table (as_told h s) 0) 0 (h.done 0) (sight_left m h 0) known.origin

  at_watched : (s : Scenario) (x t p : ℕ) → suc x < count m.base → is_left m h (suc x) ≡ true → h.done (suc x) ≡ Some t →
      sight_left m h (suc x) ≡ Some p → to_rest s (number_left m h (suc x)) ≡ moment_watched m h p t
  at_watched s x t p here left done sees =
      ap (from_old s) (old_new m h fresh good known (suc x) here left)
      ∙ stand_watched m h (table (as_told h s) (suc x)) x t p (h.done (suc x)) (sight_left m h (suc x)) done sees

  -- where a time-point stands that is executed, or done
  end_at : (s : Scenario) (x : ℕ) → x < count m.base → IsExecuted m (as_told h s) x →
      (to_rest s (end_left m h x) + moment_done h x ≡ table (as_told h s) x) × (to_rest s (end_left m h x) ≤ most_deadline)
  end_at s x here e = elim (some_or_none (h.done x)) [
    | inl done ↦
        let at : to_rest s (end_left m h x) ≡ 0 = ap (to_rest s) (end_done m h fresh good known x done.0 done.1) ∙ at_origin s in
        let since : moment_done h x ≡ done.0 = ap (λ o. unwrap_or o 0) done.1 in
        let stands = goes.done (as_told h s) x done.0 (told_agrees h s) done.1 in
        (omega arith, omega arith)
    | inr none ↦
        let left = left_coming m h fresh good known x none (holds_allows h (completed_label m x) (as_told h s) (told_agrees h s) e) in
        let at : to_rest s (end_left m h x) ≡ table (as_told h s) x =
        ap (to_rest s) (end_coming m h fresh good known x none) ∙ at_coming s x here left none in
        let since : moment_done h x ≡ 0 = ap (λ o. unwrap_or o 0) none in
        let upto = goes.within (as_told h s) x (told_agrees h s) here none e in
        let last = limit_upto x in
        (omega arith, omega arith)
  ]
    where
      limit_upto : (y : ℕ) → limit m.base y ≤ most_deadline
      limit_upto zero = omega arith
      limit_upto (suc y) = good.base.in_time

  within : (s : Scenario) (k : ℕ) → k < count R.base → IsExecuted R s k → to_rest s k ≤ limit R.base k
  within s zero here e = let at = at_origin s in omega arith
  within s (suc k) here e =
      let stands = old_stands m h fresh good known (suc k) here in
      elim (some_or_none (h.done (old m h (suc k)))) [
        | inl done ↦ subst (λ o. stand m h (table (as_told h s) (old m h (suc k))) (old m h (suc k)) o (sight_left m h (old m h (suc k))) ≤ m.base.deadline)
            (sym done.1) (stand_upto m h (table (as_told h s) (old m h (suc k))) (old m h (suc k)) done.0 (sight_left m h (old m h (suc k))))
        | inr none ↦
            let there = subst (IsExecuted R s) (sym stands.2) e in
            let seen = executed_back m h fresh good known s (old m h (suc k)) stands.0 stands.1 there in
            let upto = goes.within (as_told h s) (old m h (suc k)) (told_agrees h s) stands.0 none seen in
            let other = limit_other m (old m h (suc k)) (λ o. let at = known.origin in let gone = subst (λ y. h.done y ≡ None) o none in cc) in
            let at = stand_coming m h (table (as_told h s) (old m h (suc k))) (old m h (suc k)) (h.done (old m h (suc k))) (sight_left m h (old m h (suc k))) none in
            omega arith
      ]

  -- what is known of a done observer is known in the rest
  known_done : (s : Scenario) (j t p u : ℕ) → Observes m.base j p → h.done j ≡ Some t → h.told p ≡ None → known_at m h p t ≤ u →
      IsKnownExecuted R s (to_rest s) u p
  known_done s zero t p u o done none passed =
      let at = at_origin s in
      let reacts = reaction_origin m h fresh good t p o none done in
      record {
        observer = 0;
        observes = observes_left m h fresh good known 0 p o none refl;
        executed = executed_left m h fresh good known s 0 (observer_within m.base 0 p o) refl (done_executed m h known s 0 t done);
        passed = omega arith;
      }
  known_done s (suc j) t p u o done none passed =
      let here = observer_within m.base (suc j) p o in
      let left = left_watching m h fresh good known (suc j) t p done o none in
      let at = at_watched s j t p here left done (sees_left m h (suc j) p o none) in
      let reacts = reaction_done m h fresh good j t p o none left done in
      record {
        observer = number_left m h (suc j);
        observes = observes_left m h fresh good known (suc j) p o none left;
        executed = executed_left m h fresh good known s (suc j) here left (done_executed m h known s (suc j) t done);
        passed = omega arith;
      }

  known_coming : (s : Scenario) (j p u : ℕ) → Observes m.base j p → h.done j ≡ None → h.told p ≡ None → IsExecuted m (as_told h s) j →
      table (as_told h s) j + m.base.reaction p ≤ u → IsKnownExecuted R s (to_rest s) u p
  known_coming s j p u o coming none e passed =
      let here = observer_within m.base j p o in
      let left = left_coming m h fresh good known j coming (holds_allows h (completed_label m j) (as_told h s) (told_agrees h s) e) in
      let at = at_coming s j here left coming in
      let reacts = reaction_coming m h fresh good j p o none left coming in
      record {
        observer = number_left m h j;
        observes = observes_left m h fresh good known j p o none left;
        executed = executed_left m h fresh good known s j here left e;
        passed = omega arith;
      }

  -- scenarios that agree with what is known in the rest agree with what is known after the history
  agree_after : (s r : Scenario) (u : ℕ) → ((p : ℕ) → IsKnownExecuted R s (to_rest s) u p → r p ≡ s p) → (p : ℕ) →
      IsKnownAfter m h (as_told h s) (table (as_told h s)) u p → as_told h r p ≡ as_told h s p
  agree_after s r u agrees p k = elim (some_or_none (h.told p)) [
    | inl told ↦ told_agrees h r p told.0 told.1 ∙ sym (told_agrees h s p told.0 told.1)
    | inr none ↦ told_same h r p none ∙ agrees p (in_rest none k) ∙ sym (told_same h s p none)
  ]
    where
      in_rest : h.told p ≡ None → IsKnownAfter m h (as_told h s) (table (as_told h s)) u p → IsKnownExecuted R s (to_rest s) u p
      in_rest none (inl told) = let said = told.1 in absurd (cc)
      in_rest none (inr (inl d)) = known_done s d.observed.observer d.since p u d.observed.observes d.observed.done none d.passed
      in_rest none (inr (inr c)) = known_coming s c.observer p u c.observes c.coming none c.executed c.passed

  dynamic : (s r : Scenario) (k : ℕ) → k < count R.base → IsExecuted R s k →
      ((p : ℕ) → IsKnownExecuted R s (to_rest s) (to_rest s k) p → r p ≡ s p) → IsExecuted R r k × (to_rest r k ≡ to_rest s k)
  dynamic s r k here e agrees =
      let x = old m h k in
      let stands = old_stands m h fresh good known k here in
      elim (some_or_none (h.done (old m h k))) [
        | inl done ↦ (
          subst (IsExecuted R r) stands.2 (executed_left m h fresh good known r x stands.0 stands.1 (done_executed m h known r x done.0 done.1)),
          stand_done m h (table (as_told h r) x) (table (as_told h s) x) x done.0 (h.done x) (sight_left m h x) done.1,
        )
        | inr none ↦
            let seen = executed_back m h fresh good known s x stands.0 stands.1 (subst (IsExecuted R s) (sym stands.2) e) in
            let at_s : to_rest s k ≡ table (as_told h s) x = stand_coming m h (table (as_told h s) x) x (h.done x) (sight_left m h x) none in
            let at_r : to_rest r k ≡ table (as_told h r) x = stand_coming m h (table (as_told h r) x) x (h.done x) (sight_left m h x) none in
            let both = goes.dynamic (as_told h s) (as_told h r) x (told_agrees h s) (told_agrees h r) stands.0 none seen
            (agree_after s r (table (as_told h s) x) (subst (λ u. (p : ℕ) → IsKnownExecuted R s (to_rest s) u p → r p ≡ s p) at_s agrees)) in (
              subst (IsExecuted R r) stands.2 (executed_left m h fresh good known r x stands.0 stands.1 both.0),
              at_r ∙ both.1 ∙ sym at_s,
            )
      ]

  meets_moved : (s : Scenario) (c : Constraint) → Contains m.base.constraints c → IsAllowed h (full_label m c) → IsInForce R s (moved m h c) →
      Meets (to_rest s) (moved m h c)
  meets_moved s c has all force =
      let there = force_back m h fresh good known c s has all force in
      let ends = All-contains (IsConstraint m.base) m.base.constraints c good.base.network.constraints has in
      let from = end_at s c.from ends.from (holds_within (as_told h s) (completed_label m c.from) (full_label m c) (full_from m good c) there) in
      let to = end_at s c.to ends.to (holds_within (as_told h s) (completed_label m c.to) (full_label m c) (full_to m good c) there) in
      value_moved c.most (table (as_told h s) c.from) (table (as_told h s) c.to) (to_rest s (end_left m h c.from)) (to_rest s (end_left m h c.to))
      (moment_done h c.from) (moment_done h c.to) from.0 to.0 from.1 to.1 (goes.meets (as_told h s) c (told_agrees h s) has there)

  meets_watched : (s : Scenario) (e : Constraint) → Contains (watched m h) e → Meets (to_rest s) e
  meets_watched s e has =
      let w = watched_from m h e has in
      let sees = sees_back m h (suc w.point) w.prop w.sees in
      let left = left_watching m h fresh good known (suc w.point) w.moment w.prop w.done sees.0 sees.1 in
      let at = at_watched s w.point w.moment w.prop w.here left w.done w.sees in
      let origin = at_origin s in
      elim w.is [
        | inl low ↦ subst (λ d. Meets (to_rest s) d) low (omega (arith, ints))
        | inr high ↦ subst (λ d. Meets (to_rest s) d) high (omega (arith, ints))
      ]

  meets_coming : (s : Scenario) (e : Constraint) → Contains (coming m h) e → IsInForce R s e → Meets (to_rest s) e
  meets_coming s e has force =
      let w = coming_from m h e has in
      let x = w.point in
      let d = bare (number_left m h x) 0 (pos 0 -ℤ pos (soonest h x)) in
      let there = subst (Holds s) (bare_full m h fresh good known (number_left m h x) (pos 0 -ℤ pos (soonest h x))) (subst (IsInForce R s) (sym w.is) force) in
      let seen = executed_back m h fresh good known s x w.here w.left there in
      let later = goes.from_soonest (as_told h s) x (told_agrees h s) w.here w.coming seen in
      let at = at_coming s x w.here w.left w.coming in
      let origin = at_origin s in
      subst (λ d. Meets (to_rest s) d) w.is (omega (arith, ints))

  no_late : (s : Scenario) (e : Constraint) → Contains (late m h) e → ⊥
  no_late s e has =
      let w = late_from m h e has in
      let upto = goes.in_time (as_told h s) w.point w.moment (told_agrees h s) w.done in
      let above = w.above in
      omega arith

  meets : (s : Scenario) (d : Constraint) → Contains R.base.constraints d → IsInForce R s d → Meets (to_rest s) d
  meets s d has force = elim (constraint_from m h fresh good known d has) [
    | inl of ↦ subst (Meets (to_rest s)) (sym of.3) (meets_moved s of.0 of.1 of.2 (subst (IsInForce R s) of.3 force))
    | inr (inl a) ↦ absurd (no_late s a.0 a.1)
    | inr (inr (inl a)) ↦ subst (Meets (to_rest s)) (sym a.2) (meets_watched s a.0 a.1)
    | inr (inr (inr a)) ↦ subst (Meets (to_rest s)) (sym a.2) (meets_coming s a.0 a.1 (subst (IsInForce R s) a.2 force))
  ]

  pub to_rest_strategy : IsLabelledStrategy R to_rest
  to_rest_strategy = record { within = within; dynamic = dynamic; meets = meets }
