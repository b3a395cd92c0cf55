-- The run after an accepted moment, and which time-points are named and left out at the moment.
use Rattle.std.proofs.Common.{ℕ, ◌≡◌, ◌⊎◌, inl, inr, ◌+◌, ◌<◌, Bool, true, false, ◌&&◌, not, List, Some, None, arith, sym, subst, ◌∙◌}
use Rattle.std.specs.Prelude.{◌↔◌}
use Rattle.std.specs.List.{Contains, filter, range_with_len}
use Rattle.std.specs.List.Sorted.{IsStrictlyIncreasing}
use Rattle.std.proofs.lemmas.Bool.{cases_Bool, and_parts, and_from, both_ways, false_from_ne_true, not-true, not_from_false}
use Rattle.std.proofs.lemmas.List.Kept.{IsStrictlyIncreasing-filter}
use Rattle.cstn_facts.proofs.Filters.{filter_twice}
use Rattle.cstn_facts.proofs.Options.{cases_option, some_or_none}
use Rattle.cstn_label.specs.Bounds.{Bound}
use Rattle.cstn_net.specs.Networks.{Network, IsWellFormed, Observes, count}
use Rattle.cstn_net.specs.Strategies.{Table}
use Rattle.cstn_net.proofs.Knowledge.{observer_within}
use Rattle.cstn_plan.specs.Plans.{IsEarliest}
use Rattle.cstn_lift.specs.Labelled.{Labelled}
use Rattle.cstn_lift.specs.Completion.{completed_label}
use Rattle.cstn_lift.specs.WellFormed.{IsLabelled}
use Rattle.cstn_lift.specs.Lowered.{lowered}
use Rattle.cstn_exec.specs.Runs.{Run, executed_at, outcome_of, known, is_free, called}
use Rattle.cstn_exec.specs.Moves.{moment_refusal, run_moved}
use Rattle.cstn_exec.specs.Right.{IsRightRun}
use Rattle.cstn_exec.proofs.Knowing.{known_from, known_to, observed_where}
use Rattle.cstn_exec.proofs.Naming.{executed_passing, executed_failing, from_passing, in_passing}
use Rattle.cstn_exec.proofs.Moving.{free_parts}
use Rattle.cstn_exec.proofs.Dues.{accepted_right}
use Rattle.cstn_exec.proofs.Refusals.{called_exactly, called_ascend}
use Rattle.cstn_exec.specs.Guides.{holds_at, named, left_out}
use Rattle.cstn_exec.specs.Sound.{IsRuledOut, IsNamedAt, IsLeftAt}
use Rattle.cstn_exec.proofs.Holding.{holds_is, holds_on, ruled_out_on, not_both}
use Rattle.cstn_exec.proofs.Deciding.{decided}

-- ---- two tests, one after the other

module _ (f g : ℕ → Bool) (n x : ℕ) where
  twice_parts : Contains (filter g (filter f (range_with_len 0 n))) x → Contains (filter f (range_with_len 0 n)) x × (g x ≡ true)
  twice_parts c =
      let parts = from_passing (λ y. f y && g y) 0 n x (subst (λ l. Contains l x) (filter_twice g f (range_with_len 0 n)) c) in
      let both = and_parts (f x) (g x) parts.2 in
      (in_passing f 0 n x parts.0 parts.1 both.0, both.1)

  twice_from : Contains (filter f (range_with_len 0 n)) x → g x ≡ true → Contains (filter g (filter f (range_with_len 0 n))) x
  twice_from c h =
      let parts = from_passing f 0 n x c in
      subst (λ l. Contains l x) (sym (filter_twice g f (range_with_len 0 n)))
      (in_passing (λ y. f y && g y) 0 n x parts.0 parts.1 (and_from (f x) (g x) parts.2 h))

-- ---- the run after a moment

module _ (net : Network) (bounds : List Bound) (wf : IsWellFormed net) (run : Run) (right : IsRightRun net run) (t : ℕ) where
  pub moved_kept : (x u : ℕ) → executed_at run x ≡ Some u → executed_at (run_moved net bounds run t) x ≡ Some u
  moved_kept x u e =
      executed_failing (is_free net bounds run t) t 0 (count net) run.moments x
      (false_from_ne_true (is_free net bounds run t x) (λ free. some_or_none (executed_at run x) u e (free_parts net bounds run t x free).0)) ∙ e

  pub moved_was : (x u : ℕ) → x < count net → executed_at (run_moved net bounds run t) x ≡ Some u →
      (executed_at run x ≡ Some u) ⊎ (Contains (called net bounds run t) x × (u ≡ t))
  moved_was x u here e =
      let size = right.moments in
      elim (cases_Bool (is_free net bounds run t x)) [
        | inr held ↦ inl (sym (executed_failing (is_free net bounds run t) t 0 (count net) run.moments x held) ∙ e)
        | inl free ↦
            let at = executed_passing (is_free net bounds run t) t 0 (count net) run.moments x (omega arith) (omega arith) (omega arith) free in
            let same : u ≡ t = cc in
            inr (in_passing (is_free net bounds run t) 0 (count net) x (omega arith) (omega arith) free, same)
      ]

  -- a time-point that is called at t has no moment before, and has it at t
  pub called_waits : (x : ℕ) → Contains (called net bounds run t) x → executed_at run x ≡ None
  called_waits x c = let parts = from_passing (is_free net bounds run t) 0 (count net) x c in (free_parts net bounds run t x parts.2).0

  pub called_inside : (x : ℕ) → Contains (called net bounds run t) x → x < count net
  called_inside x c = let parts = from_passing (is_free net bounds run t) 0 (count net) x c in let upto = parts.1 in omega arith

  pub called_executed : (x : ℕ) → Contains (called net bounds run t) x → executed_at (run_moved net bounds run t) x ≡ Some t
  called_executed x c =
      let size = right.moments in
      let parts = from_passing (is_free net bounds run t) 0 (count net) x c in
      let upto = parts.1 in
      executed_passing (is_free net bounds run t) t 0 (count net) run.moments x (omega arith) (omega arith) (omega arith) parts.2

  -- no outcome was seen of a proposition that a called time-point observes
  pub called_unseen : (x p : ℕ) → Contains (called net bounds run t) x → Observes net x p → outcome_of run p ≡ None
  called_unseen x p c o = elim (cases_option (outcome_of run p)) [
    | inl none ↦ none
    | inr some ↦
        let seen = right.seen p some.0 some.1 in
        absurd (some_or_none (executed_at run x) seen.0 (sym (observed_where net wf.network run x p o) ∙ seen.1) (called_waits x c))
  ]

  pub known_more : (u p : ℕ) (v : Bool) → known net run u p ≡ Some v → known net (run_moved net bounds run t) u p ≡ Some v
  known_more u p v k =
      let from = known_from net wf.network run u p v k in
      let r = from.0 in
      known_to net wf.network (run_moved net bounds run t) u p v (record {
        observer = r.observer;
        moment = r.moment;
        observes = r.observes;
        executed = moved_kept r.observer r.moment r.executed;
        passed = r.passed;
      }) from.1

  -- executing observers at t makes nothing more known at t
  pub known_back : (p : ℕ) (v : Bool) → known net (run_moved net bounds run t) (t + 1) p ≡ Some v → known net run (t + 1) p ≡ Some v
  known_back p v k =
      let from = known_from net wf.network (run_moved net bounds run t) (t + 1) p v k in
      let r = from.0 in
      let reacts = wf.network.reacts r.observer p r.observes in
      let soon = r.passed in
      elim (moved_was r.observer r.moment (observer_within net r.observer p r.observes) r.executed) [
        | inr now ↦ let at = now.1 in absurd (omega arith)
        | inl before ↦ known_to net wf.network run (t + 1) p v (record {
          observer = r.observer;
          moment = r.moment;
          observes = r.observes;
          executed = before;
          passed = soon;
        }) from.1
      ]

-- ---- which time-points are named and which are left out

module _ (m : Labelled) (bounds : List Bound) (run : Run) (t : ℕ) where
  pub named_holding : (x : ℕ) → Contains (named m bounds run t) x → Contains (called (lowered m) bounds run t) x × (holds_at m run t x ≡ true)
  named_holding x = twice_parts (is_free (lowered m) bounds run t) (holds_at m run t) (count (lowered m)) x

  pub left_parts : (x : ℕ) → Contains (left_out m bounds run t) x → Contains (called (lowered m) bounds run t) x × (holds_at m run t x ≡ false)
  left_parts x c =
      let parts = twice_parts (is_free (lowered m) bounds run t) (λ y. not (holds_at m run t y)) (count (lowered m)) x c in
      (parts.0, not-true (holds_at m run t x) parts.1)

  pub named_when : (x : ℕ) → Contains (called (lowered m) bounds run t) x → holds_at m run t x ≡ true → Contains (named m bounds run t) x
  named_when x = twice_from (is_free (lowered m) bounds run t) (holds_at m run t) (count (lowered m)) x

  pub left_from : (x : ℕ) → Contains (called (lowered m) bounds run t) x → holds_at m run t x ≡ false → Contains (left_out m bounds run t) x
  left_from x c h =
      twice_from (is_free (lowered m) bounds run t) (λ y. not (holds_at m run t y)) (count (lowered m)) x c (not_from_false (holds_at m run t x) h)

  pub named_ascend : IsStrictlyIncreasing (named m bounds run t)
  named_ascend = IsStrictlyIncreasing-filter (holds_at m run t) (called (lowered m) bounds run t) (called_ascend (lowered m) bounds run t)

module _ (m : Labelled) (bounds : List Bound) (table : Table) (run : Run) (t : ℕ) (good : IsLabelled m) (wf : IsWellFormed (lowered m))
    (plan : IsEarliest (lowered m) bounds table) (right : IsRightRun (lowered m) run) (ok : moment_refusal (lowered m) bounds run t ≡ None) where
  -- the completed label of a time-point that is called at t is ruled out where it doesn't hold
  pub not_holding : (x : ℕ) → Contains (called (lowered m) bounds run t) x → holds_at m run t x ≡ false →
      IsRuledOut (known (lowered m) run (t + 1)) (completed_label m x)
  not_holding x c h =
      let net = lowered m in
      let right_then = (accepted_right net bounds table wf plan run right t ok).0 in
      let back = known_back net bounds wf run right t in
      elim (decided m bounds table good wf plan (run_moved net bounds run t) right_then x t (called_executed net bounds wf run right t x c)) [
        | inr out ↦ ruled_out_on (known net (run_moved net bounds run t) (t + 1)) (known net run (t + 1)) (completed_label m x) back out
        | inl holds ↦
            let before = holds_on (known net (run_moved net bounds run t) (t + 1)) (known net run (t + 1)) (completed_label m x) back holds in
            absurd (both_ways (holds_at m run t x) h ((holds_is m (known net run (t + 1)) x good).1 before))
      ]

  pub named_exactly : (x : ℕ) → Contains (named m bounds run t) x ↔ IsNamedAt m run t x
  named_exactly x = (
    (λ c. let parts = named_holding m bounds run t x c in record {
      called = (called_exactly (lowered m) bounds table run t wf plan right ok x).0 parts.0;
      holds = (holds_is m (known (lowered m) run (t + 1)) x good).0 parts.1;
    }),
    (λ is. named_when m bounds run t x ((called_exactly (lowered m) bounds table run t wf plan right ok x).1 is.called)
        ((holds_is m (known (lowered m) run (t + 1)) x good).1 is.holds)),
  )

  pub left_exactly : (x : ℕ) → Contains (left_out m bounds run t) x ↔ IsLeftAt m run t x
  left_exactly x = (
    (λ c. let parts = left_parts m bounds run t x c in record {
      called = (called_exactly (lowered m) bounds table run t wf plan right ok x).0 parts.0;
      ruled_out = not_holding x parts.0 parts.1;
    }),
    (λ is. left_from m bounds run t x ((called_exactly (lowered m) bounds table run t wf plan right ok x).1 is.called)
        (false_from_ne_true (holds_at m run t x) (λ h.
        not_both (known (lowered m) run (t + 1)) (completed_label m x) ((holds_is m (known (lowered m) run (t + 1)) x good).0 h) is.ruled_out))),
  )
