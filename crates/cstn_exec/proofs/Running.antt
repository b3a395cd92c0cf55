-- A run stays right.
use Rattle.std.proofs.Common.{ℕ, zero, suc, ◌≡◌, inl, inr, ◌+◌, ◌<◌, ◌≤◌, Bool, true, false, ◌&&◌, List, Some, None, not, arith, sym, subst, ap, ◌∙◌}
use Rattle.std.specs.Prelude.{is_none, is_some, nat_lt, ◌==◌}
use Rattle.std.specs.List.{list_any, range_with_len}
use Rattle.std.proofs.lemmas.Int.{ints}
use Rattle.std.proofs.lemmas.Bool.{cases_lt, or_parts, and_cases, and_parts, and_from, eqb-true, eq-eqb, true≢false, both_ways, ltb-true, not-false}
use Rattle.cstn_facts.proofs.Options.{cases_option, is_some-false}
use Rattle.cstn_facts.proofs.Ranges.{find_first, find_none, each_fails}
use Rattle.cstn_facts.proofs.Places.{some_within}
use Rattle.cstn_label.specs.Labels.{Scenario, MarkFits}
use Rattle.cstn_label.specs.Bounds.{Bound}
use Rattle.cstn_net.specs.Networks.{Network, IsNetwork, IsWellFormed, count}
use Rattle.cstn_net.specs.Strategies.{Table, IsKnown}
use Rattle.cstn_net.proofs.Dynamic.{one_least}
use Rattle.cstn_net.proofs.Knowledge.{observer_within}
use Rattle.cstn_plan.specs.Plans.{IsEarliest}
use Rattle.cstn_plan.proofs.AskedLemmas.{greatest_upper, greatest_attained}
use Rattle.cstn_exec.specs.Runs.{Run, next, executed_at, outcome_of, known, is_awaited, awaited, is_possible, earliest_moment, is_free, has_work}
use Rattle.cstn_exec.specs.Right.{AgreesKnown, IsRightRun}
use Rattle.cstn_exec.proofs.Knowing.{Ready, known_from, known_to, known_later, awaited_from, awaited_to, possible_from, possible_to}

-- a scenario that agrees with what is known agrees with what was known before
pub agrees_before : (net : Network) (run : Run) (u w : ℕ) (s : Scenario) → IsNetwork net → u ≤ w → AgreesKnown net run w s → AgreesKnown net run u s
agrees_before net run u w s wf upto agrees p v k = agrees p v (known_later net wf run u w p v upto k)

-- ---- what a moment without work tells

module _ (net : Network) (bounds : List Bound) (run : Run) (wf : IsWellFormed net) where
  pub awaits_none : (u : ℕ) → awaited net run u ≡ None → (p : ℕ) → is_awaited net run u p ≡ true → ⊥
  unfolding awaited
  awaits_none u none p h =
      let ready = (awaited_from net wf.network run u p h).0 in
      let letter = wf.letters ready.observer p ready.observes in
      let fails = find_none (is_awaited net run u) 0 52 none p (omega arith) (omega arith) in
      true≢false (sym h ∙ fails)

  pub awaited_least : (u p : ℕ) → awaited net run u ≡ Some p →
      (is_awaited net run u p ≡ true) × ((q : ℕ) → q < p → is_awaited net run u q ≡ true → ⊥)
  unfolding awaited
  awaited_least u p e =
      let first = find_first (is_awaited net run u) 0 52 p e in
      (first.passes, λ q before h. both_ways (is_awaited net run u q) (first.before q (omega arith) before) h)

  pub held_unless_free : (t x : ℕ) → is_free net bounds run t x ≡ false → executed_at run x ≡ None → t < earliest_moment net bounds run (t + 1) x
  held_unless_free t x h none = elim (and_cases (is_none (executed_at run x)) (not (nat_lt t (earliest_moment net bounds run (t + 1) x))) h) [
    | inl some ↦ absurd (true≢false (sym (ap is_none none) ∙ some))
    | inr held ↦ ltb-true t (earliest_moment net bounds run (t + 1) x) (not-false (nat_lt t (earliest_moment net bounds run (t + 1) x)) held)
  ]

  -- nothing is awaited at t, and every time-point that isn't executed is held back
  pub record Idle (t : ℕ) : Type 0 where
    pub none_awaited : (p : ℕ) → is_awaited net run (t + 1) p ≡ true → ⊥
    pub held : (x : ℕ) → x < count net → executed_at run x ≡ None → t < earliest_moment net bounds run (t + 1) x

  pub idle_from : (t : ℕ) → has_work net bounds run t ≡ false → Idle t
  idle_from t h =
      let parts = or_parts (is_some (awaited net run (t + 1))) (list_any (is_free net bounds run t) (range_with_len 0 (count net))) h in
      record {
        none_awaited = awaits_none (t + 1) (is_some-false (awaited net run (t + 1)) parts.0);
        held = λ x here none. held_unless_free t x
            (each_fails (is_free net bounds run t) 0 (count net) parts.1 x (omega arith) (omega arith)) none;
      }

-- from the next moment on, there is nothing to be done before t
abbrev pub IsQuiet : Network → List Bound → Run → ℕ → Type 0
IsQuiet net bounds run t = (u : ℕ) → next run ≤ u → u < t → has_work net bounds run u ≡ false

module _ (net : Network) (bounds : List Bound) (table : Table) (wf : IsWellFormed net) (plan : IsEarliest net bounds table)
    (run : Run) (right : IsRightRun net run) where
  pub executed_is : (s : Scenario) (x m : ℕ) → AgreesKnown net run (next run) s → executed_at run x ≡ Some m → table s x ≡ m
  executed_is s x m agrees e =
      let size = right.moments in
      let inside = some_within run.moments x m e in
      one_least net s x (table s x) m (plan.least s x (omega arith)) (right.executed s x m agrees e)

  pub waits_from : (s : Scenario) (x : ℕ) → AgreesKnown net run (next run) s → x < count net → executed_at run x ≡ None → next run ≤ table s x
  waits_from s x agrees here e =
      let w = right.waiting s x agrees here e in
      let same = one_least net s x (table s x) w.0 (plan.least s x here) w.2 in
      let later = w.1 in
      omega arith

  module _ (s : Scenario) (t : ℕ) (from : next run ≤ t) (agrees : AgreesKnown net run (t + 1) s) where
    agrees_now : AgreesKnown net run (next run) s
    agrees_now = agrees_before net run (next run) (t + 1) s wf.network (omega arith) agrees

    -- what is known at t by the table is known at t in the run, if nothing is awaited and each time-point that isn't executed
    -- comes at t or later
    told : ((y : ℕ) → y < count net → executed_at run y ≡ None → t ≤ table s y) →
        ((p : ℕ) → is_awaited net run (t + 1) p ≡ true → ⊥) → (p : ℕ) → IsKnown net (table s) t p →
        (v : Bool) × (known net run (t + 1) p ≡ Some v)
    told rest none p k =
        let here = observer_within net k.observer p k.observes in
        let reacts = wf.network.reacts k.observer p k.observes in
        let soon = k.passed in
        elim (cases_option (executed_at run k.observer)) [
          | inl waiting ↦ let above = rest k.observer here waiting in absurd (omega arith)
          | inr done ↦
              let at = executed_is s k.observer done.0 agrees_now done.1 in
              let ready : Ready net wf.network run (t + 1) p = record {
                observer = k.observer;
                moment = done.0;
                observes = k.observes;
                executed = done.1;
                passed = omega arith;
              } in
              elim (cases_option (outcome_of run p)) [
                | inl missing ↦ absurd (none p (awaited_to net wf.network run (t + 1) p ready missing))
                | inr value ↦ (value.0, known_to net wf.network run (t + 1) p value.0 ready value.1)
              ]
        ]

    -- under the same conditions, a time-point that is held back at t comes later
    held_later : ((y : ℕ) → y < count net → executed_at run y ≡ None → t ≤ table s y) →
        ((p : ℕ) → is_awaited net run (t + 1) p ≡ true → ⊥) → (x : ℕ) → x < count net →
        t < earliest_moment net bounds run (t + 1) x → t < table s x
    held_later rest none x here held =
        let test : Bound → Bool = λ b. (b.node == x) && is_possible (known net run (t + 1)) b.label in
        elim (greatest_attained test bounds) [
          | inl zero_is ↦ absurd (omega arith)
          | inr a ↦
              let both = and_parts (a.bound.node == x) (is_possible (known net run (t + 1)) a.bound.label) a.passes in
              let least = a.least in
              (plan.held s t x here).0 (record {
                bound = a.bound;
                in_list = a.in_list;
                node = eqb-true a.bound.node x both.0;
                later = omega (arith, ints);
                possible = λ p k.
                    let tell = told rest none p k in
                    subst (λ v. MarkFits v (a.bound.label p)) (sym (agrees p tell.0 tell.1))
                    (possible_from net run (t + 1) a.bound.label right.outcomes both.1 p tell.0 tell.1);
              })
        ]

    later_held : (x : ℕ) → x < count net → t < table s x → t < earliest_moment net bounds run (t + 1) x
    later_held x here later =
        let held = (plan.held s t x here).1 later in
        let test : Bound → Bool = λ b. (b.node == x) && is_possible (known net run (t + 1)) b.label in
        let upper = greatest_upper test bounds held.bound held.in_list.0 held.in_list.1 held.in_list.2
        (and_from (held.bound.node == x) (is_possible (known net run (t + 1)) held.bound.label) (eq-eqb held.bound.node x held.node)
        (possible_to net run (t + 1) held.bound.label (λ p v k.
        let ready = (known_from net wf.network run (t + 1) p v k).0 in
        let at = executed_is s ready.observer ready.moment agrees_now ready.executed in
        let soon = ready.passed in
        subst (λ w. MarkFits w (held.bound.label p)) (agrees p v k)
        (held.possible p (record { observer = ready.observer; observes = ready.observes; passed = omega arith }))))) in
        let above = held.later in
        omega (arith, ints)

  -- where there is nothing to be done before t, a time-point that isn't executed comes at t or later
  pub quiet_later : (s : Scenario) (t : ℕ) → next run ≤ t → IsQuiet net bounds run t → AgreesKnown net run t s →
      (x : ℕ) → x < count net → executed_at run x ≡ None → t ≤ table s x
  quiet_later s zero from quiet agrees x here none = omega arith
  quiet_later s (suc t) from quiet agrees x here none = elim (cases_lt t (next run)) [
    | inl first ↦
        let start = waits_from s x (agrees_before net run (next run) (suc t) s wf.network from agrees) here none in
        omega arith
    | inr after ↦
        let agrees_at : AgreesKnown net run (t + 1) s = agrees_before net run (t + 1) (suc t) s wf.network (omega arith) agrees in
        let idle = idle_from net bounds run wf t (quiet t after (omega arith)) in
        let later = held_later s t after agrees_at
        (λ y in_net waiting. quiet_later s t after (λ u low high. quiet u low (omega arith))
        (agrees_before net run t (suc t) s wf.network (omega arith) agrees) y in_net waiting)
        idle.none_awaited x here (idle.held x here none) in
        omega arith
  ]

  -- where moreover nothing is awaited at t, a time-point that isn't held back comes at t, and one that is held back later
  pub at_moment : (s : Scenario) (t : ℕ) → next run ≤ t → IsQuiet net bounds run t →
      ((p : ℕ) → is_awaited net run (t + 1) p ≡ true → ⊥) → AgreesKnown net run (t + 1) s → (x : ℕ) → x < count net →
      executed_at run x ≡ None →
      (earliest_moment net bounds run (t + 1) x ≤ t → table s x ≡ t) × (t < earliest_moment net bounds run (t + 1) x → t < table s x)
  at_moment s t from quiet none agrees x here waiting =
      let rest = λ (y : ℕ) (in_net : y < count net) (not_yet : executed_at run y ≡ None).
      quiet_later s t from quiet (agrees_before net run t (t + 1) s wf.network (omega arith) agrees) y in_net not_yet in (
        (λ free. elim (cases_lt t (table s x)) [
          | inl later ↦ let held = later_held s t from agrees x here later in absurd (omega arith)
          | inr upto ↦ let least = rest x here waiting in omega arith
        ]),
        (λ held. held_later s t from agrees rest none x here held),
      )
