-- The start, accepted moments and accepted outcomes keep a run right.
use Rattle.std.proofs.Common.{ℕ, ◌≡◌, ◌≢◌, ◌⊎◌, inl, inr, ◌+◌, ◌<◌, ◌≤◌, Bool, true, false, List, Option, Some, None, not, arith, sym, subst, ap, ◌∙◌, get_or-set_other, get_or-set_same}
use Rattle.std.specs.Prelude.{is_none, nat_lt}
use Rattle.std.proofs.lemmas.Bool.{cases_lt, cases_eq, cases_Bool, and_parts, and_from, ltb-false, not-true, le-ltb, not_from_false}
use Rattle.std.proofs.lemmas.List.{length-replicate, length-set}
use Rattle.cstn_facts.proofs.Options.{is_none-true, some_or_none}
use Rattle.cstn_facts.proofs.Places.{get_or_repeated, some_within}
use Rattle.cstn_label.specs.Labels.{Scenario}
use Rattle.cstn_label.specs.Bounds.{Bound}
use Rattle.cstn_net.specs.Networks.{Network, IsWellFormed, count}
use Rattle.cstn_net.specs.Strategies.{Table, IsLeast}
use Rattle.cstn_net.proofs.Dynamic.{one_least}
use Rattle.cstn_net.proofs.Knowledge.{observer_within}
use Rattle.cstn_plan.specs.Plans.{IsEarliest}
use Rattle.cstn_exec.specs.Runs.{Run, start_of_run, next, executed_at, outcome_of, observed_at, is_awaited, earliest_moment, is_free, called}
use Rattle.cstn_exec.specs.Moves.{executed, run_moved, handed}
use Rattle.cstn_exec.specs.Right.{AgreesKnown, IsRightRun, IsCalled}
use Rattle.cstn_exec.proofs.Knowing.{Ready, known_from, known_to, awaited_from, awaited_to, observed_where, observed_from}
use Rattle.cstn_exec.proofs.Naming.{executed_size, executed_passing, executed_failing}
use Rattle.cstn_exec.proofs.Running.{IsQuiet, agrees_before, at_moment, held_unless_free}

pub start_right : (net : Network) (bounds : List Bound) (table : Table) → IsWellFormed net → IsEarliest net bounds table →
    IsRightRun net (start_of_run (count net))
start_right net bounds table wf plan = record {
  moments = length-replicate {A = Option ℕ} (count net) None;
  outcomes = length-replicate {A = Option Bool} 52 None;
  seen = λ p v e. absurd (some_or_none (outcome_of (start_of_run (count net)) p) v e (get_or_repeated 52 p None));
  none_awaited = λ p a.
      let ready = (awaited_from net wf.network (start_of_run (count net)) 0 p a).0 in
      let soon = ready.passed in
      absurd (omega arith);
  early = λ x m e. absurd (some_or_none (executed_at (start_of_run (count net)) x) m e (get_or_repeated (count net) x None));
  executed = λ s x m agrees e. absurd (some_or_none (executed_at (start_of_run (count net)) x) m e (get_or_repeated (count net) x None));
  waiting = λ s x agrees here e. (table s x, omega arith, plan.least s x here);
}

-- ---- outcomes

module _ (net : Network) (wf : IsWellFormed net) (run : Run) (p : ℕ) (v : Bool) (right : IsRightRun net run)
    (missing : outcome_of run p ≡ None) (letter : p < 52) where
  outcome_new : outcome_of (handed run p v) p ≡ Some v
  outcome_new = let size = right.outcomes in get_or-set_same run.outcomes p (Some v) None (omega arith)

  outcome_old : (q : ℕ) → q ≢ p → outcome_of (handed run p v) q ≡ outcome_of run q
  outcome_old q other = get_or-set_other run.outcomes p q (Some v) None other

  ready_same : (u q : ℕ) → Ready net wf.network run u q → Ready net wf.network (handed run p v) u q
  ready_same u q r = record { observer = r.observer; moment = r.moment; observes = r.observes; executed = r.executed; passed = r.passed }

  ready_back : (u q : ℕ) → Ready net wf.network (handed run p v) u q → Ready net wf.network run u q
  ready_back u q r = record { observer = r.observer; moment = r.moment; observes = r.observes; executed = r.executed; passed = r.passed }

  agrees_old : (s : Scenario) → AgreesKnown net (handed run p v) (next run) s → AgreesKnown net run (next run) s
  agrees_old s agrees q w k =
      let from = known_from net wf.network run (next run) q w k in
      let other : q ≢ p = λ same. some_or_none (outcome_of run q) w from.1 (subst (λ r. outcome_of run r ≡ None) (sym same) missing) in
      agrees q w (known_to net wf.network (handed run p v) (next run) q w (ready_same (next run) q from.0) (outcome_old q other ∙ from.1))

  pub handed_right : (m : ℕ) → observed_at net run p ≡ Some m → IsRightRun net (handed run p v)
  handed_right m observed = record {
    moments = right.moments;
    outcomes = length-set run.outcomes p (Some v) ∙ right.outcomes;
    seen = λ q w e. elim (cases_eq q p) [
      | inl same ↦ (m, subst (λ r. observed_at net run r ≡ Some m) (sym same) observed)
      | inr other ↦ right.seen q w (sym (outcome_old q other) ∙ e)
    ];
    none_awaited = λ q a.
        let from = awaited_from net wf.network (handed run p v) (next run) q a in
        let other : q ≢ p = λ same. some_or_none (outcome_of (handed run p v) q) v
        (subst (λ r. outcome_of (handed run p v) r ≡ Some v) (sym same) outcome_new) from.1 in
        right.none_awaited q
        (awaited_to net wf.network run (next run) q (ready_back (next run) q from.0) (sym (outcome_old q other) ∙ from.1));
    early = right.early;
    executed = λ s x m agrees e. right.executed s x m (agrees_old s agrees) e;
    waiting = λ s x agrees here e. right.waiting s x (agrees_old s agrees) here e;
  }

-- ---- moments

pub free_parts : (net : Network) (bounds : List Bound) (run : Run) (t x : ℕ) → is_free net bounds run t x ≡ true →
    (executed_at run x ≡ None) × (earliest_moment net bounds run (t + 1) x ≤ t)
free_parts net bounds run t x h =
    let both = and_parts (is_none (executed_at run x)) (not (nat_lt t (earliest_moment net bounds run (t + 1) x))) h in (
      is_none-true (executed_at run x) both.0,
      ltb-false t (earliest_moment net bounds run (t + 1) x) (not-true (nat_lt t (earliest_moment net bounds run (t + 1) x)) both.1),
    )

pub free_from : (net : Network) (bounds : List Bound) (run : Run) (t x : ℕ) → executed_at run x ≡ None →
    earliest_moment net bounds run (t + 1) x ≤ t → is_free net bounds run t x ≡ true
free_from net bounds run t x none upto =
    and_from (is_none (executed_at run x)) (not (nat_lt t (earliest_moment net bounds run (t + 1) x)))
    (ap is_none none)
    (not_from_false (nat_lt t (earliest_moment net bounds run (t + 1) x)) (le-ltb t (earliest_moment net bounds run (t + 1) x) upto))

executed_fails : (net : Network) (bounds : List Bound) (run : Run) (t x m : ℕ) → executed_at run x ≡ Some m →
    is_free net bounds run t x ≡ false
executed_fails net bounds run t x m e = elim (cases_Bool (is_free net bounds run t x)) [
  | inl free ↦ absurd (some_or_none (executed_at run x) m e (free_parts net bounds run t x free).0)
  | inr held ↦ held
]

module _ (net : Network) (bounds : List Bound) (table : Table) (wf : IsWellFormed net) (plan : IsEarliest net bounds table)
    (run : Run) (right : IsRightRun net run) (t : ℕ) (from : next run ≤ t) (quiet : IsQuiet net bounds run t)
    (none : (p : ℕ) → is_awaited net run (t + 1) p ≡ true → ⊥) where
  -- a time-point that is executed in the run after t was executed before it, or is free at t
  was : (x m : ℕ) → x < count net → executed_at (run_moved net bounds run t) x ≡ Some m →
      (executed_at run x ≡ Some m) ⊎ ((executed_at run x ≡ None) × (earliest_moment net bounds run (t + 1) x ≤ t) × (m ≡ t))
  was x m here e =
      let size = right.moments in
      elim (cases_Bool (is_free net bounds run t x)) [
        | inr held ↦ inl (sym (executed_failing (is_free net bounds run t) t 0 (count net) run.moments x held) ∙ e)
        | inl free ↦
            let parts = free_parts net bounds run t x free in
            let at = executed_passing (is_free net bounds run t) t 0 (count net) run.moments x (omega arith) (omega arith) (omega arith) free in
            let same : m ≡ t = cc in
            inr (parts.0, parts.1, same)
      ]

  kept : (x m : ℕ) → executed_at run x ≡ Some m → executed_at (run_moved net bounds run t) x ≡ Some m
  kept x m e = executed_failing (is_free net bounds run t) t 0 (count net) run.moments x (executed_fails net bounds run t x m e) ∙ e

  -- a time-point that isn't executed in the run after t is held back at t
  still : (x : ℕ) → x < count net → executed_at (run_moved net bounds run t) x ≡ None →
      (executed_at run x ≡ None) × (t < earliest_moment net bounds run (t + 1) x)
  still x here e =
      let size = right.moments in
      elim (cases_Bool (is_free net bounds run t x)) [
        | inl free ↦
            let at = executed_passing (is_free net bounds run t) t 0 (count net) run.moments x (omega arith) (omega arith) (omega arith) free in
            absurd (some_or_none (executed_at (run_moved net bounds run t) x) t at e)
        | inr held ↦
            let before = sym (executed_failing (is_free net bounds run t) t 0 (count net) run.moments x held) ∙ e in
            (before, held_unless_free net bounds run wf t x held before)
      ]

  -- what is ready before t + 1 was so before t was accepted: an observer that is executed at t reacts later
  ready_before : (p : ℕ) → Ready net wf.network (run_moved net bounds run t) (t + 1) p → Ready net wf.network run (t + 1) p
  ready_before p r =
      let here = observer_within net r.observer p r.observes in
      let reacts = wf.network.reacts r.observer p r.observes in
      let soon = r.passed in
      elim (was r.observer r.moment here r.executed) [
        | inl before ↦ record { observer = r.observer; moment = r.moment; observes = r.observes; executed = before; passed = soon }
        | inr now ↦ let at = now.2 in absurd (omega arith)
      ]

  ready_after : (p : ℕ) → Ready net wf.network run (t + 1) p → Ready net wf.network (run_moved net bounds run t) (t + 1) p
  ready_after p r = record {
    observer = r.observer;
    moment = r.moment;
    observes = r.observes;
    executed = kept r.observer r.moment r.executed;
    passed = r.passed;
  }

  agrees_then : (s : Scenario) → AgreesKnown net (run_moved net bounds run t) (t + 1) s → AgreesKnown net run (t + 1) s
  agrees_then s agrees p v k =
      let known_old = known_from net wf.network run (t + 1) p v k in
      agrees p v (known_to net wf.network (run_moved net bounds run t) (t + 1) p v (ready_after p known_old.0) known_old.1)

  pub moved_right : IsRightRun net (run_moved net bounds run t)
  moved_right = record {
    moments = executed_size t (called net bounds run t) run.moments ∙ right.moments;
    outcomes = right.outcomes;
    seen = λ p v e.
        let old = right.seen p v e in
        let at = observed_from net wf.network run p old.0 old.1 in
        (old.0, observed_where net wf.network (run_moved net bounds run t) at.0 p at.1 ∙ kept at.0 old.0 at.2);
    none_awaited = λ p a.
        let from = awaited_from net wf.network (run_moved net bounds run t) (t + 1) p a in
        none p (awaited_to net wf.network run (t + 1) p (ready_before p from.0) from.1);
    early = λ x m e.
        let size = right.moments in
        let size_new = executed_size t (called net bounds run t) run.moments in
        let inside = some_within (executed t (called net bounds run t) run.moments) x m e in
        elim (was x m (omega arith) e) [
          | inl before ↦ let soon = right.early x m before in omega arith
          | inr now ↦ let at = now.2 in omega arith
        ];
    executed = λ s x m agrees e.
        let size = right.moments in
        let size_new = executed_size t (called net bounds run t) run.moments in
        let inside = some_within (executed t (called net bounds run t) run.moments) x m e in
        let here : x < count net = omega arith in
        let agrees_t = agrees_then s agrees in
        elim (was x m here e) [
          | inl before ↦ right.executed s x m (agrees_before net run (next run) (t + 1) s wf.network (omega arith) agrees_t) before
          | inr now ↦
              let at = (at_moment net bounds table wf plan run right s t from quiet none agrees_t x here now.0).0 now.1 in
              subst (λ k. IsLeast net s x k) (at ∙ sym now.2) (plan.least s x here)
        ];
    waiting = λ s x agrees here e.
        let before = still x here e in
        let later = (at_moment net bounds table wf plan run right s t from quiet none (agrees_then s agrees) x here before.0).1 before.1 in
        (table s x, omega arith, plan.least s x here);
  }

  -- exactly the free time-points are called
  pub free_called : (x : ℕ) → x < count net → is_free net bounds run t x ≡ true → IsCalled net run t x
  free_called x here free =
      let parts = free_parts net bounds run t x free in
      record {
        inside = here;
        waiting = parts.0;
        least = λ s agrees. subst (λ k. IsLeast net s x k)
            ((at_moment net bounds table wf plan run right s t from quiet none agrees x here parts.0).0 parts.1) (plan.least s x here);
      }

  pub called_free : (s : Scenario) → AgreesKnown net run (t + 1) s → (x : ℕ) → IsCalled net run t x → is_free net bounds run t x ≡ true
  called_free s agrees x called = elim (cases_lt t (earliest_moment net bounds run (t + 1) x)) [
    | inr upto ↦ free_from net bounds run t x called.waiting upto
    | inl held ↦
        let later = (at_moment net bounds table wf plan run right s t from quiet none agrees x called.inside called.waiting).1 held in
        let same = one_least net s x (table s x) t (plan.least s x called.inside) (called.least s agrees) in
        absurd (omega arith)
  ]
