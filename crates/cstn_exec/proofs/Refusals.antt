-- What refusals tell, and which time-points are called.
use Rattle.std.proofs.Common.{ℕ, ◌≡◌, inl, inr, ◌+◌, ◌<◌, ◌≤◌, Bool, List, [], Some, None, arith, subst}
use Rattle.std.specs.Prelude.{◌↔◌, is_some}
use Rattle.std.specs.List.{Contains, list_any, range_with_len}
use Rattle.std.specs.List.Sorted.{IsStrictlyIncreasing}
use Rattle.std.proofs.lemmas.Bool.{or_parts}
use Rattle.cstn_facts.proofs.Options.{cases_option, is_some-false}
use Rattle.cstn_facts.proofs.Ranges.{each_fails, passing_ascends, passing_none}
use Rattle.cstn_label.specs.Bounds.{Bound}
use Rattle.cstn_net.specs.Networks.{Network, IsWellFormed, count}
use Rattle.cstn_net.specs.Strategies.{Table}
use Rattle.cstn_plan.specs.Plans.{IsEarliest}
use Rattle.cstn_exec.specs.Runs.{Run, observed_at, outcome_of, awaited, is_free, called, due}
use Rattle.cstn_exec.specs.Moves.{Done, Past, Late, Awaiting, moment_refusal, outcome_refusal, unless_unseen, unless_known, handed}
use Rattle.cstn_exec.specs.Right.{IsRightRun, IsCalled, IsDue, IsDone, IsBetween, IsFirstAwaited}
use Rattle.cstn_exec.proofs.Judging.{judged, not_refused, refusal_done}
use Rattle.cstn_exec.proofs.Naming.{from_passing, in_passing}
use Rattle.cstn_exec.proofs.Running.{awaits_none, awaited_least}
use Rattle.cstn_exec.proofs.Moving.{handed_right, free_called, called_free}
use Rattle.cstn_exec.proofs.Dues.{seen_scenario, seen_agrees, done_from, done_to, due_first, due_is_due, accepted_quiet}

-- ---- outcomes

pub seen_right : (net : Network) (run : Run) (p : ℕ) → IsWellFormed net → IsRightRun net run → outcome_refusal net run p ≡ None → p < 52 →
    (v : Bool) → IsRightRun net (handed run p v)
seen_right net run p wf right ok letter v = elim (cases_option (observed_at net run p)) [
  | inl none ↦
      let refused = subst (λ o. unless_unseen p o (unless_known p (outcome_of run p)) ≡ None) none ok in
      let f : ⊥ = cc in
      absurd f
  | inr some ↦
      let seen = subst (λ o. unless_unseen p o (unless_known p (outcome_of run p)) ≡ None) some.1 ok in
      elim (cases_option (outcome_of run p)) [
        | inl missing ↦ handed_right net wf run p v right missing letter some.0 some.1
        | inr kept ↦
            let refused = subst (λ o. unless_known p o ≡ None) kept.1 seen in
            let f : ⊥ = cc in
            absurd f
      ]
]

-- ---- which time-points are called

pub called_exactly : (net : Network) (bounds : List Bound) (table : Table) (run : Run) (t : ℕ) → IsWellFormed net → IsEarliest net bounds table →
    IsRightRun net run → moment_refusal net bounds run t ≡ None → (x : ℕ) → Contains (called net bounds run t) x ↔ IsCalled net run t x
called_exactly net bounds table run t wf plan right none x =
    let ok = judged net bounds run t None none in
    let quiet = (accepted_quiet net bounds table wf plan run right t ok).0 in
    let nobody = awaits_none net bounds run wf (t + 1) ok.none_awaited in (
      (λ has.
          let in_range = from_passing (is_free net bounds run t) 0 (count net) x has in
          free_called net bounds table wf plan run right t ok.from quiet nobody x (let upto = in_range.1 in omega arith) in_range.2),
      (λ is.
          let here = is.inside in
          in_passing (is_free net bounds run t) 0 (count net) x (omega arith) (omega arith)
          (called_free net bounds table wf plan run right t ok.from quiet nobody (seen_scenario run) (seen_agrees net wf run (t + 1)) x is)),
    )

pub called_ascend : (net : Network) (bounds : List Bound) (run : Run) (t : ℕ) → IsStrictlyIncreasing (called net bounds run t)
called_ascend net bounds run t = passing_ascends (is_free net bounds run t) (count net)

-- ---- moments

pub refused_done : (net : Network) (bounds : List Bound) (run : Run) (t : ℕ) → IsRightRun net run → moment_refusal net bounds run t ≡ Some Done ↔ IsDone net run
refused_done net bounds run t right = (
  (λ e. done_from net run right.moments (judged net bounds run t (Some Done) e)),
  (λ all. refusal_done net bounds run t (done_to net run right.moments all)),
)

pub refused_past : (net : Network) (bounds : List Bound) (run : Run) (t now : ℕ) → moment_refusal net bounds run t ≡ Some (Past now) →
    (run.now ≡ Some now) × (t ≤ now)
refused_past net bounds run t now e = judged net bounds run t (Some (Past now)) e

pub refused_awaiting : (net : Network) (bounds : List Bound) (run : Run) (t p : ℕ) → IsWellFormed net →
    moment_refusal net bounds run t ≡ Some (Awaiting p) → IsFirstAwaited net run t p
refused_awaiting net bounds run t p wf e =
    let first = awaited_least net bounds run wf (t + 1) p (judged net bounds run t (Some (Awaiting p)) e) in
    record { awaited = first.0; least = first.1 }

pub refused_late : (net : Network) (bounds : List Bound) (table : Table) (run : Run) (t u : ℕ) → IsWellFormed net → IsEarliest net bounds table →
    IsRightRun net run → moment_refusal net bounds run t ≡ Some (Late u) → IsDue net run u × (u < t)
refused_late net bounds table run t u wf plan right e =
    let late = judged net bounds run t (Some (Late u)) e in
    ((due_is_due net bounds table wf plan run right u late.0).0, late.1)

-- ---- before the due moment

pub accepted_before : (net : Network) (bounds : List Bound) (table : Table) (run : Run) (t u : ℕ) → IsWellFormed net → IsEarliest net bounds table →
    IsRightRun net run → due net bounds run ≡ Some t → IsBetween run u t → (moment_refusal net bounds run u ≡ None) × (called net bounds run u ≡ [])
accepted_before net bounds table run t u wf plan right e between =
    let first = due_first net bounds table wf plan run right t e in
    let idle = or_parts (is_some (awaited net run (u + 1))) (list_any (is_free net bounds run u) (range_with_len 0 (count net)))
    (first.1.before u between.from between.below) in
    let below = between.below in (
      not_refused net bounds run u (record {
        waits = first.0;
        from = between.from;
        none_awaited = is_some-false (awaited net run (u + 1)) idle.0;
        upto = λ w at. let same : t ≡ w = cc in omega arith;
      }),
      passing_none (is_free net bounds run u) 0 (count net) (λ k low high. each_fails (is_free net bounds run u) 0 (count net) idle.1 k low high),
    )
