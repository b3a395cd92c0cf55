-- The due moment, and the end of a run.
use Rattle.std.proofs.Common.{ℕ, suc, ◌≡◌, inl, inr, ◌+◌, ◌-◌, ◌<◌, ◌≤◌, Bool, true, false, List, [], ◌∷◌, Option, Some, None, arith, refl, sym, ap, ◌∙◌}
use Rattle.std.specs.Prelude.{length, is_some, slice_index_or}
use Rattle.std.proofs.lemmas.Int.{ints}
use Rattle.std.specs.List.{find, list_all, list_any, range_with_len}
use Rattle.std.proofs.lemmas.Bool.{cases_lt, cases_Bool, or_cases, cond-true, cond-false, true≢false}
use Rattle.std.proofs.lemmas.List.Elements.{All-get_or, All-from_get_or}
use Rattle.std.proofs.lemmas.List.Sums.{AllPass-from_list_all, list_all-from_AllPass}
use Rattle.cstn_facts.proofs.Options.{cases_option, is_some-true}
use Rattle.cstn_facts.proofs.Ranges.{IsFirstFrom, find_first, find_none, found, some_passes}
use Rattle.cstn_label.specs.Labels.{Scenario}
use Rattle.cstn_label.specs.Bounds.{Bound}
use Rattle.cstn_net.specs.Networks.{Network, IsWellFormed, count}
use Rattle.cstn_net.specs.Strategies.{Table}
use Rattle.cstn_plan.specs.Plans.{IsEarliest}
use Rattle.cstn_exec.specs.Runs.{Run, next, is_run_done, executed_at, outcome_of, awaited, is_free, has_work, due}
use Rattle.cstn_exec.specs.Moves.{moment_refusal, run_moved}
use Rattle.cstn_exec.specs.Right.{AgreesKnown, IsRightRun, HasWork, IsDue, IsDone, IsFulfilled}
use Rattle.cstn_exec.proofs.Judging.{IsAccepted, judged}
use Rattle.cstn_exec.proofs.Knowing.{known_from}
use Rattle.cstn_exec.proofs.Running.{IsQuiet, awaits_none, awaited_least, executed_is, idle_from, quiet_later}
use Rattle.cstn_exec.proofs.Moving.{free_called, called_free, free_parts, moved_right}
use Rattle.cstn_net.proofs.Kept.{limit_upto}

-- ---- a scenario with what was seen

abbrev value_or_false : Option Bool → Bool
value_or_false None = false
value_or_false (Some v) = v

abbrev pub seen_scenario : Run → Scenario
seen_scenario run = λ p. value_or_false (outcome_of run p)

pub seen_agrees : (net : Network) (wf : IsWellFormed net) (run : Run) (u : ℕ) → AgreesKnown net run u (seen_scenario run)
seen_agrees net wf run u p v k = ap value_or_false (known_from net wf.network run u p v k).1

-- ---- whether all is executed

pub done_from : (net : Network) (run : Run) → length run.moments ≡ count net → is_run_done run ≡ true → IsDone net run
done_from net run size h x here =
    is_some-true (executed_at run x) (All-get_or (λ o. is_some o ≡ true) run.moments x None (omega arith)
    (AllPass-from_list_all is_some run.moments h))

pub done_to : (net : Network) (run : Run) → length run.moments ≡ count net → IsDone net run → is_run_done run ≡ true
done_to net run size all =
    list_all-from_AllPass is_some run.moments (All-from_get_or (λ o. is_some o ≡ true) run.moments None
    (λ x inside. let e = all x (omega arith) in ap is_some e.1))

pub some_none : (ms : List (Option ℕ)) → list_all is_some ms ≡ false → (x : ℕ) × (x < length ms) × (slice_index_or ms x None ≡ None)
some_none [] h = absurd (true≢false h)
some_none (None ∷ ms) h = (0, omega arith, refl)
some_none (Some m ∷ ms) h =
    let later = some_none ms h in
    (suc later.0, let inside = later.1 in omega arith, later.2)

-- where not all is executed, some time-point isn't
pub someone_waits : (net : Network) (run : Run) → length run.moments ≡ count net → is_run_done run ≡ false →
    (x : ℕ) × (x < count net) × (executed_at run x ≡ None)
someone_waits net run size h =
    let waits = some_none run.moments h in
    let inside = waits.1 in
    (waits.0, omega arith, waits.2)

-- ---- the first moment with work

-- how many moments there are from the next one up to the deadline
abbrev pub moments_left : Network → Run → ℕ
moments_left net run = (net.deadline + 1) - next run

abbrev pub first_work : Network → List Bound → Run → Option ℕ
first_work net bounds run = find (has_work net bounds run) (range_with_len (next run) (moments_left net run))

abbrev pub IsFirstWork : Network → List Bound → Run → ℕ → Type 0
IsFirstWork net bounds run = IsFirstFrom (has_work net bounds run) (next run) (moments_left net run)

module _ (net : Network) (bounds : List Bound) (table : Table) (wf : IsWellFormed net) (plan : IsEarliest net bounds table)
    (run : Run) (right : IsRightRun net run) where
  -- where a time-point isn't executed and it is quiet up to t, t is at most the deadline
  pub upto_deadline : (x : ℕ) → x < count net → executed_at run x ≡ None → (t : ℕ) → next run ≤ t → IsQuiet net bounds run t → t ≤ net.deadline
  upto_deadline x here waiting t from quiet =
      let s = seen_scenario run in
      let later = quiet_later net bounds table wf plan run right s t from quiet (seen_agrees net wf run t) x here waiting in
      let within = plan.strategy.within s x here in
      let most = limit_upto net x in
      omega arith

  -- where it is quiet up to t, there is nothing to be done before
  pub idle_before : (t : ℕ) → IsQuiet net bounds run t → (u : ℕ) → next run ≤ u → u < t → HasWork net run u → ⊥
  idle_before t quiet u low high work =
      let idle = idle_from net bounds run wf u (quiet u low high) in
      elim work [
        | inl a ↦ idle.none_awaited a.0 a.1
        | inr c ↦
            let free = called_free net bounds table wf plan run right u low (λ w l h. quiet w l (omega arith)) idle.none_awaited
            (seen_scenario run) (seen_agrees net wf run (u + 1)) c.0 c.1 in
            let upto = (free_parts net bounds run u c.0 free).1 in
            let held = idle.held c.0 c.1.inside c.1.waiting in
            omega arith
      ]

  pub work_is : (t : ℕ) → next run ≤ t → IsQuiet net bounds run t → has_work net bounds run t ≡ true → HasWork net run t
  work_is t from quiet h = elim (cases_option (awaited net run (t + 1))) [
    | inr some ↦ inl (some.0, (awaited_least net bounds run wf (t + 1) some.0 some.1).0)
    | inl none ↦ elim (or_cases (is_some (awaited net run (t + 1))) (list_any (is_free net bounds run t) (range_with_len 0 (count net))) h) [
      | inl some ↦ absurd (true≢false (sym some ∙ ap is_some none))
      | inr free ↦
          let x = some_passes (is_free net bounds run t) 0 (count net) free in
          inr (
            x.0,
            free_called net bounds table wf plan run right t from quiet
                (awaits_none net bounds run wf (t + 1) none) x.0 (let upto = x.2 in omega arith) x.3,
          )
    ]
  ]

  -- the first moment with work is due, and no later than the deadline
  first_is_due : (t : ℕ) → IsFirstWork net bounds run t → IsDue net run t × (t ≤ net.deadline)
  first_is_due t first =
      let quiet : IsQuiet net bounds run t = first.before in
      let from = first.from in
      let upto = first.upto in
      (record { from = from; work = work_is t from quiet first.passes; first = idle_before t quiet }, omega arith)

  -- where not all is executed, there is a first moment with work
  pub some_first : is_run_done run ≡ false → (t : ℕ) × IsFirstWork net bounds run t
  some_first waits = elim (cases_option (first_work net bounds run)) [
    | inr some ↦ (some.0, find_first (has_work net bounds run) (next run) (moments_left net run) some.0 some.1)
    | inl none ↦
        let x = someone_waits net run right.moments waits in
        elim (cases_lt net.deadline (next run)) [
          | inl past ↦
              let upto = upto_deadline x.0 x.1 x.2 (next run) (omega arith) (λ u low high. absurd (omega arith)) in
              absurd (omega arith)
          | inr before ↦
              let upto = upto_deadline x.0 x.1 x.2 (net.deadline + 1) (omega arith)
              (λ u low high. find_none (has_work net bounds run) (next run) (moments_left net run) none u low (omega arith)) in
              absurd (omega arith)
        ]
  ]

  pub due_first : (t : ℕ) → due net bounds run ≡ Some t →
      (is_run_done run ≡ false) × IsFirstWork net bounds run t
  due_first t e = elim (cases_Bool (is_run_done run)) [
    | inl all ↦
        let none = cond-true (is_run_done run) None (first_work net bounds run) all in
        let f : ⊥ = cc in
        absurd f
    | inr waits ↦
        let there = cond-false (is_run_done run) None (first_work net bounds run) waits in
        (waits, find_first (has_work net bounds run) (next run) (moments_left net run) t (sym there ∙ e))
  ]

  pub due_is_due : (t : ℕ) → due net bounds run ≡ Some t → IsDue net run t × (t ≤ net.deadline)
  due_is_due t e = first_is_due t (due_first t e).1

  pub due_none : due net bounds run ≡ None → is_run_done run ≡ true
  due_none e = elim (cases_Bool (is_run_done run)) [
    | inl all ↦ all
    | inr waits ↦
        let first = some_first waits in
        let there = cond-false (is_run_done run) None (first_work net bounds run) waits in
        let at = found (has_work net bounds run) (next run) (moments_left net run) first.0 first.1 in
        let f : ⊥ = cc in
        absurd f
  ]

  pub done_none : is_run_done run ≡ true → due net bounds run ≡ None
  done_none all = cond-true (is_run_done run) None (first_work net bounds run) all

  -- the moments of a run in which all is executed are those of a strategy
  pub carried_out : IsDone net run → IsFulfilled net run
  carried_out all = record {
    table = table;
    strategy = plan.strategy;
    moments = λ s x agrees here.
        let e = all x here in
        e.1 ∙ ap (λ m. Some m) (sym (executed_is net bounds table wf plan run right s x e.0 agrees e.1));
    meets = λ s c m n agrees has holds at_from at_to.
        let met = plan.strategy.meets s c has holds in
        let one = executed_is net bounds table wf plan run right s c.from m agrees at_from in
        let other = executed_is net bounds table wf plan run right s c.to n agrees at_to in
        omega (arith, ints);
  }

-- where t is accepted, it is quiet up to t, and t is at most the deadline
pub accepted_quiet : (net : Network) (bounds : List Bound) (table : Table) → IsWellFormed net → IsEarliest net bounds table →
    (run : Run) → IsRightRun net run → (t : ℕ) → IsAccepted net bounds run t → IsQuiet net bounds run t × (t ≤ net.deadline)
accepted_quiet net bounds table wf plan run right t ok = elim (cases_option (due net bounds run)) [
  | inl none ↦ absurd (true≢false (sym (due_none net bounds table wf plan run right none) ∙ ok.waits))
  | inr some ↦
      let first = (due_first net bounds table wf plan run right some.0 some.1).1 in
      let upto = ok.upto some.0 some.1 in
      let within = (due_is_due net bounds table wf plan run right some.0 some.1).1 in
      ((λ u low high. first.before u low (omega arith)), omega arith)
]

pub accepted_right : (net : Network) (bounds : List Bound) (table : Table) → IsWellFormed net → IsEarliest net bounds table →
    (run : Run) → IsRightRun net run → (t : ℕ) → moment_refusal net bounds run t ≡ None →
    IsRightRun net (run_moved net bounds run t) × (t ≤ net.deadline)
accepted_right net bounds table wf plan run right t none =
    let ok = judged net bounds run t None none in
    let quiet = accepted_quiet net bounds table wf plan run right t ok in
    (moved_right net bounds table wf plan run right t ok.from quiet.0 (awaits_none net bounds run wf (t + 1) ok.none_awaited), quiet.1)
