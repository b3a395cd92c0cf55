-- The search for the due moment.
use Rattle.std.proofs.Common.{ℕ, ◌≡◌, ◌⊎◌, inl, inr, ◌+◌, ◌<◌, ◌≤◌, max, min, Bool, true, false, ◌&&◌, not, List, Option, Some, None, arith, refl, sym, subst, ap, ◌∙◌}
use Rattle.std.specs.Prelude.{◌==◌, slice_index, is_some, is_none, slice_index_or, if◌then◌else◌}
use Rattle.std.specs.List.{find, list_any, range_with_len}
use Rattle.std.proofs.Math.Path.{fun_ext}
use Rattle.std.proofs.lemmas.Bool.{cases_Bool, cases_lt, cases_eq, cond-false, true≢false, or_from, or_left, or_right, both_ways, false_from_ne_true}
use Rattle.cstn_facts.proofs.Options.{is_none-true}
use Rattle.cstn_facts.proofs.Ranges.{found, not_found, none_passes, passing_at}
use Rattle.cstn_label.specs.Bounds.{Bound}
use Rattle.cstn_net.specs.Networks.{Network, IsWellFormed, count}
use Rattle.cstn_net.specs.Strategies.{Table}
use Rattle.cstn_plan.specs.Asked.{greatest}
use Rattle.cstn_plan.specs.Plans.{IsEarliest}
use Rattle.cstn_exec.specs.Runs.{Run, next, is_run_done, executed_at, outcome_of, is_outcome_ready, is_awaited, awaited, is_possible, earliest_moment, is_free, has_work, due}
use Rattle.cstn_exec.specs.Right.{IsRightRun}
use Rattle.cstn_exec.proofs.Knowing.{Ready, ready_from, ready_to}
use Rattle.cstn_exec.proofs.Running.{IsQuiet}
use Rattle.cstn_exec.proofs.Moving.{free_parts, free_from}
use Rattle.cstn_exec.proofs.Dues.{moments_left, first_work, someone_waits, upto_deadline}

-- ---- the least moment of the time-points that aren't executed

-- `least` is the least moment from t on at which `after` leaves one of the first n time-points free that aren't executed; where
-- all of the first n are executed, it is at least the greatest number of 32 bits
pub record IsLeastFrom (moments : List (Option ℕ)) (after : List ℕ) (t n least : ℕ) : Type 0 where
  pub from : t ≤ least
  pub held : (x u : ℕ) → x < n → slice_index_or moments x None ≡ None → t ≤ u → u < least → u < slice_index after x
  pub free : (((x : ℕ) → x < n → slice_index_or moments x None ≡ None → ⊥) × (4294967295 ≤ least)) ⊎ ((x : ℕ) × (x < n) × (slice_index_or moments x None ≡ None) × (slice_index after x ≤ least))

pub least_same : (moments : List (Option ℕ)) (after : List ℕ) (t n least : ℕ) → IsLeastFrom moments after t n least →
    is_none (slice_index_or moments n None) ≡ false → IsLeastFrom moments after t (n + 1) least
least_same moments after t n least l some = record {
  from = l.from;
  held = λ x u inside none low high. elim (cases_eq x n) [
    | inl same ↦ absurd (true≢false (sym (ap is_none (subst (λ y. slice_index_or moments y None ≡ None) same none)) ∙ some))
    | inr other ↦ l.held x u (omega arith) none low high
  ];
  free = elim l.free [
    | inl nobody ↦ inl (
      (λ x inside none. elim (cases_eq x n) [
        | inl same ↦ true≢false (sym (ap is_none (subst (λ y. slice_index_or moments y None ≡ None) same none)) ∙ some)
        | inr other ↦ nobody.0 x (omega arith) none
      ]),
      nobody.1,
    )
    | inr somebody ↦ let inside = somebody.1 in inr (somebody.0, omega arith, somebody.2, somebody.3)
  ];
}

pub least_more : (moments : List (Option ℕ)) (after : List ℕ) (t n least : ℕ) → IsLeastFrom moments after t n least →
    is_none (slice_index_or moments n None) ≡ true → max (slice_index after n) t ≤ 4294967295 →
    IsLeastFrom moments after t (n + 1) (min least (max (slice_index after n) t))
least_more moments after t n least l none_n fits =
    let from = l.from in
    record {
      from = omega arith;
      held = λ x u inside none low high. elim (cases_eq x n) [
        | inl same ↦ subst (λ y. u < slice_index after y) (sym same) (omega arith)
        | inr other ↦ l.held x u (omega arith) none low (omega arith)
      ];
      free = elim (cases_lt least (max (slice_index after n) t)) [
        | inr above ↦ inr (n, omega arith, is_none-true (slice_index_or moments n None) none_n, omega arith)
        | inl below ↦ elim l.free [
          | inr somebody ↦ let inside = somebody.1 in let upto = somebody.3 in inr (somebody.0, omega arith, somebody.2, omega arith)
          | inl nobody ↦ let most = nobody.1 in absurd (omega arith)
        ]
      ];
    }

pub none_when : (o : Option ℕ) (r : Bool) → is_some o ≡ not r → is_none o ≡ r
none_when None true h = refl
none_when None false h = absurd (true≢false (sym h))
none_when (Some m) true h = absurd (true≢false h)
none_when (Some m) false h = refl

-- ---- the least awaited proposition

pub awaited_is : (net : Network) (run : Run) (u p : ℕ) → p < 52 → is_awaited net run u p ≡ true →
    ((q : ℕ) → q < p → is_awaited net run u q ≡ false) → awaited net run u ≡ Some p
unfolding awaited
awaited_is net run u p inside h before = found (is_awaited net run u) 0 52 p (record {
  from = omega arith;
  upto = omega arith;
  passes = h;
  before = λ q from below. before q below;
})

pub awaited_nowhere : (net : Network) (run : Run) (u : ℕ) → ((q : ℕ) → q < 52 → is_awaited net run u q ≡ false) → awaited net run u ≡ None
unfolding awaited
awaited_nowhere net run u h = not_found (is_awaited net run u) 0 52 (λ q from upto. h q (omega arith))

-- ---- from t to w nothing becomes known or awaited

module _ (net : Network) (bounds : List Bound) (run : Run) (wf : IsWellFormed net) (t w : ℕ) (upto : t ≤ w)
    (same : (p : ℕ) → is_outcome_ready net run (w + 1) p ≡ true → is_outcome_ready net run (t + 1) p ≡ true) where
  ready_same : is_outcome_ready net run (w + 1) ≡ is_outcome_ready net run (t + 1)
  ready_same = fun_ext at
    where
      later : (p : ℕ) → Ready net wf.network run (t + 1) p → is_outcome_ready net run (w + 1) p ≡ true
      later p r = ready_to net wf.network run (w + 1) p (record {
        observer = r.observer;
        moment = r.moment;
        observes = r.observes;
        executed = r.executed;
        passed = let soon = r.passed in omega arith;
      })

      at : (p : ℕ) → is_outcome_ready net run (w + 1) p ≡ is_outcome_ready net run (t + 1) p
      at p = elim (cases_Bool (is_outcome_ready net run (t + 1) p)) [
        | inl h ↦ later p (ready_from net wf.network run (t + 1) p h) ∙ sym h
        | inr h ↦ false_from_ne_true (is_outcome_ready net run (w + 1) p) (λ y. both_ways (is_outcome_ready net run (t + 1) p) h (same p y)) ∙ sym h
      ]

  pub earliest_same : (x : ℕ) → earliest_moment net bounds run (w + 1) x ≡ earliest_moment net bounds run (t + 1) x
  earliest_same x =
      ap (λ (r : ℕ → Bool). greatest (λ b. (b.node == x) && is_possible (λ p. if r p then outcome_of run p else None) b.label) bounds) ready_same

  pub awaited_same : awaited net run (w + 1) ≡ awaited net run (t + 1)
  unfolding awaited
  awaited_same = ap (λ (r : ℕ → Bool). find (λ p. r p && is_none (outcome_of run p)) (range_with_len 0 52)) ready_same

  -- there is nothing to be done at w, if nothing is awaited and all time-points that aren't executed are held back
  pub still_idle : awaited net run (t + 1) ≡ None →
      ((x : ℕ) → x < count net → executed_at run x ≡ None → w < earliest_moment net bounds run (t + 1) x) → has_work net bounds run w ≡ false
  still_idle none held =
      or_from (is_some (awaited net run (w + 1))) (list_any (is_free net bounds run w) (range_with_len 0 (count net)))
      (ap is_some (awaited_same ∙ none)) (none_passes (is_free net bounds run w) 0 (count net) fails)
    where
      fails : (x : ℕ) → 0 ≤ x → x < 0 + count net → is_free net bounds run w x ≡ false
      fails x from inside = false_from_ne_true (is_free net bounds run w x) (λ h.
          let parts = free_parts net bounds run w x h in
          let later = held x (omega arith) parts.0 in
          let moved = earliest_same x in
          let early = parts.1 in
          omega arith)

  -- there is something to be done at w, if a time-point that isn't executed isn't held back
  pub work_then : (x : ℕ) → x < count net → executed_at run x ≡ None → earliest_moment net bounds run (t + 1) x ≤ w → has_work net bounds run w ≡ true
  work_then x here waiting free =
      or_right (is_some (awaited net run (w + 1))) (list_any (is_free net bounds run w) (range_with_len 0 (count net)))
      (passing_at (is_free net bounds run w) 0 (count net) x (omega arith) (omega arith)
      (free_from net bounds run w x waiting (let moved = earliest_same x in omega arith)))

-- it stays quiet while nothing becomes known or awaited and all time-points that aren't executed are held back
pub quiet_on : (net : Network) (bounds : List Bound) (run : Run) → IsWellFormed net → (t u : ℕ) → IsQuiet net bounds run t →
    awaited net run (t + 1) ≡ None →
    ((w p : ℕ) → t ≤ w → w < u → is_outcome_ready net run (w + 1) p ≡ true → is_outcome_ready net run (t + 1) p ≡ true) →
    ((x w : ℕ) → x < count net → executed_at run x ≡ None → t ≤ w → w < u → w < earliest_moment net bounds run (t + 1) x) → IsQuiet net bounds run u
quiet_on net bounds run wf t u quiet none same held = λ w low high. elim (cases_lt w t) [
  | inl before ↦ quiet w low before
  | inr after ↦ still_idle net bounds run wf t w after (λ p. same w p after high) none (λ x here waiting. held x w here waiting after high)
]

pub work_awaited : (net : Network) (bounds : List Bound) (run : Run) (t p : ℕ) → awaited net run (t + 1) ≡ Some p → has_work net bounds run t ≡ true
work_awaited net bounds run t p e =
    or_left (is_some (awaited net run (t + 1))) (list_any (is_free net bounds run t) (range_with_len 0 (count net))) (ap is_some e)

-- the due moment is the first with something to be done
pub due_is : (net : Network) (bounds : List Bound) (table : Table) → IsWellFormed net → IsEarliest net bounds table →
    (run : Run) → IsRightRun net run → is_run_done run ≡ false → (t : ℕ) → next run ≤ t → IsQuiet net bounds run t →
    has_work net bounds run t ≡ true → due net bounds run ≡ Some t
due_is net bounds table wf plan run right waits t from quiet work =
    let x = someone_waits net run right.moments waits in
    let within = upto_deadline net bounds table wf plan run right x.0 x.1 x.2 t from quiet in
    cond-false (is_run_done run) None (first_work net bounds run) waits
    ∙ found (has_work net bounds run) (next run) (moments_left net run) t (record {
      from = from;
      upto = omega arith;
      passes = work;
      before = quiet;
    })
