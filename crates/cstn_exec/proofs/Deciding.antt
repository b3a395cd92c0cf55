-- What was known at the moment of a time-point decides its completed label.
use Rattle.std.proofs.Common.{ℕ, zero, suc, ◌≡◌, inl, inr, ◌+◌, ◌<◌, Bool, false, List, Option, Some, None, arith, refl, sym, subst, ◌∙◌}
use Rattle.std.specs.List.{list_all, range_with_len}
use Rattle.std.proofs.lemmas.Bool.{cases_Bool, and_cases, true≢false}
use Rattle.cstn_facts.proofs.Options.{cases_option}
use Rattle.cstn_facts.proofs.Places.{some_within}
use Rattle.cstn_label.specs.declared.marks.Mark.{Mark}
use Rattle.cstn_label.specs.Labels.{Label, Scenario, MarkFits, IsPossible}
use Rattle.cstn_label.specs.Bounds.{Bound}
use Rattle.cstn_net.specs.Networks.{Network, IsWellFormed}
use Rattle.cstn_net.specs.Strategies.{Table, IsKnown}
use Rattle.cstn_net.proofs.Knowledge.{observer_within}
use Rattle.cstn_plan.specs.Plans.{IsEarliest}
use Rattle.cstn_lift.specs.Labelled.{Labelled}
use Rattle.cstn_lift.specs.Completion.{completed_label}
use Rattle.cstn_lift.specs.WellFormed.{IsLabelled}
use Rattle.cstn_lift.specs.Lowered.{lowered}
use Rattle.cstn_lift.proofs.Twins.{decided_known}
use Rattle.cstn_exec.specs.Runs.{Run, next, executed_at, outcome_of, known, fits_known, is_possible}
use Rattle.cstn_exec.specs.Right.{AgreesKnown, IsRightRun}
use Rattle.cstn_exec.proofs.Knowing.{Ready, known_to, awaited_to, possible_from}
use Rattle.cstn_exec.proofs.Running.{agrees_before, executed_is, waits_from}
use Rattle.cstn_exec.proofs.Dues.{seen_scenario, seen_agrees}
use Rattle.cstn_exec.specs.Sound.{IsRuledOut, IsDecided}
use Rattle.cstn_label.proofs.MarkLemmas.{true_fits}

some_fails : (test : ℕ → Bool) (a n : ℕ) → list_all test (range_with_len a n) ≡ false → (k : ℕ) × (test k ≡ false)
some_fails test a zero h = absurd (true≢false h)
some_fails test a (suc n) h = elim (and_cases (test a) (list_all test (range_with_len (a + 1) n)) h) [
  | inl here ↦ (a, here)
  | inr there ↦ some_fails test (a + 1) n there
]

misfit : (o : Option Bool) (a : Mark) → fits_known o a ≡ false → (v : Bool) × (o ≡ Some v) × (MarkFits v a → ⊥)
misfit None a h = absurd (true≢false h)
misfit (Some v) a h = (v, refl, λ fit. true≢false (sym (true_fits v a fit) ∙ h))

ruled_out : (values : ℕ → Option Bool) (a : Label) → is_possible values a ≡ false → IsRuledOut values a
unfolding is_possible
ruled_out values a h =
    let fails = some_fails (λ p. fits_known (values p) (a p)) 0 52 h in
    let wrong = misfit (values fails.0) (a fails.0) fails.1 in
    (fails.0, wrong.0, wrong.1, wrong.2)

-- in a right run, what is known by the table of least moments at a moment that has passed is known in the run
module _ (net : Network) (bounds : List Bound) (table : Table) (wf : IsWellFormed net) (plan : IsEarliest net bounds table) (run : Run) (right : IsRightRun net run) where
  abbrev seen : Scenario
  seen = seen_scenario run

  agrees : AgreesKnown net run (next run) seen
  agrees = seen_agrees net wf run (next run)

  pub known_then : (t p : ℕ) → t < next run → IsKnown net (table seen) t p → (v : Bool) × (known net run (t + 1) p ≡ Some v)
  known_then t p early k =
      let here = observer_within net k.observer p k.observes in
      let soon = k.passed in
      elim (cases_option (executed_at run k.observer)) [
        | inl waiting ↦ let later = waits_from net bounds table wf plan run right seen k.observer agrees here waiting in absurd (omega arith)
        | inr done ↦
            let at = executed_is net bounds table wf plan run right seen k.observer done.0 agrees done.1 in
            let ready : (u : ℕ) → t < u → Ready net wf.network run u p = λ u after. record {
              observer = k.observer;
              moment = done.0;
              observes = k.observes;
              executed = done.1;
              passed = omega arith;
            } in
            elim (cases_option (outcome_of run p)) [
              | inl missing ↦ absurd (right.none_awaited p (awaited_to net wf.network run (next run) p (ready (next run) early) missing))
              | inr value ↦ (value.0, known_to net wf.network run (t + 1) p value.0 (ready (t + 1) (omega arith)) value.1)
            ]
      ]

module _ (m : Labelled) (bounds : List Bound) (table : Table) (good : IsLabelled m) (wf : IsWellFormed (lowered m))
    (plan : IsEarliest (lowered m) bounds table) (run : Run) (right : IsRightRun (lowered m) run) where
  abbrev net : Network
  net = lowered m

  pub decided : (x t : ℕ) → executed_at run x ≡ Some t → IsDecided (known (lowered m) run (t + 1)) (completed_label m x)
  decided x t done = elim (cases_Bool (is_possible (known net run (t + 1)) (completed_label m x))) [
    | inr out ↦ inr (ruled_out (known net run (t + 1)) (completed_label m x) out)
    | inl possible ↦
        let s = seen_scenario run in
        let at = executed_is net bounds table wf plan run right s x t (seen_agrees net wf run (next run)) done in
        let early = right.early x t done in
        let size = right.moments in
        let inside = some_within run.moments x t done in
        let fit = possible_from net run (t + 1) (completed_label m x) right.outcomes possible in
        let agrees = agrees_before net run (t + 1) (next run) s wf.network (omega arith) (seen_agrees net wf run (next run)) in
        let tell = λ (p : ℕ) (k : IsKnown net (table s) (table s x) p).
        known_then net bounds table wf plan run right t p early (subst (λ u. IsKnown net (table s) u p) at k) in
        let not_out : IsPossible (IsKnown net (table s) (table s x)) s (completed_label m x) = λ p k.
        subst (λ v. MarkFits v (completed_label m x p)) (sym (agrees p (tell p k).0 (tell p k).1)) (fit p (tell p k).0 (tell p k).1) in
        inl (λ p marked.
        let k = decided_known m good table plan.strategy s x (omega arith) not_out p marked in
        ((tell p k).0, (tell p k).1, fit p (tell p k).0 (tell p k).1))
  ]
