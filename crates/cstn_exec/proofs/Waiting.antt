-- How the due moment and an awaited outcome are answered.
use Rattle.std.proofs.Common.{ℕ, ◌≡◌, ◌⊎◌, inl, inr, ◌+◌, ◌-◌, ◌≤◌, true, List, Option, Some, None, arith, refl, sym, ap, ◌∙◌}
use Rattle.std.specs.Prelude.{nat_lt, is_none}
use Rattle.std.specs.Option.{option_map}
use Rattle.std.specs.List.{range_with_len, find}
use Rattle.std.proofs.lemmas.Bool.{cases_Bool, cond-true, cond-false, lt-ltb, and_parts, false≢true}
use Rattle.cstn_facts.proofs.Options.{is_none-true}
use Rattle.cstn_facts.proofs.Ranges.{find_first}
use Rattle.cstn_label.specs.Bounds.{Bound}
use Rattle.cstn_net.specs.Networks.{Network}
use Rattle.cstn_exec.specs.Runs.{Run, first_after, next, is_run_done, due, has_work, awaited, is_awaited, is_outcome_ready, is_before, observed_at, outcome_of}
use Rattle.cstn_exec.specs.Moves.{EventRefusal, Done, Past, Awaiting, moment_refusal, outcome_refusal, unless_past, unless_awaiting, unless_late, unless_unseen, unless_known}

-- an outcome that is awaited is accepted
pub awaited_free : (net : Network) (run : Run) (u p : ℕ) → is_awaited net run u p ≡ true → outcome_refusal net run p ≡ None
awaited_free net run u p h =
    let both = and_parts (is_outcome_ready net run u p) (is_none (outcome_of run p)) h in
    ap (λ o. unless_unseen p (observed_at net run p) (unless_known p o)) (is_none-true (outcome_of run p) both.1)
    ∙ go (observed_at net run p) both.0
  where
    go : (o : Option ℕ) → is_before u (option_map (λ m. m + net.reaction p) o) ≡ true → unless_unseen p o None ≡ None
    go None h = absurd (false≢true h)
    go (Some m) h = refl

module _ (net : Network) (bounds : List Bound) where
  -- the due moment is refused only where an outcome is awaited
  pub due_waits : (run : Run) (t : ℕ) → due net bounds run ≡ Some t →
      (moment_refusal net bounds run t ≡ None) ⊎ ((p : ℕ) × (moment_refusal net bounds run t ≡ Some (Awaiting p)))
  due_waits run t is = elim (cases_Bool (is_run_done run)) [
    | inl over ↦ let none = cond-true (is_run_done run) None (find (has_work net bounds run) (range_with_len (next run) ((net.deadline + 1) - next run))) over in let f : ⊥ = cc in absurd f
    | inr more ↦
        let from = find_first (has_work net bounds run) (next run) ((net.deadline + 1) - next run) t
        (sym (cond-false (is_run_done run) None (find (has_work net bounds run) (range_with_len (next run) ((net.deadline + 1) - next run))) more) ∙ is) in
        let past = not_past run t (unless_awaiting (awaited net run (t + 1)) (unless_late t (due net bounds run))) from.from in
        let here : moment_refusal net bounds run t ≡ unless_awaiting (awaited net run (t + 1)) (unless_late t (due net bounds run)) =
        cond-false (is_run_done run) (Some Done) (unless_past t run.now (unless_awaiting (awaited net run (t + 1)) (unless_late t (due net bounds run)))) more ∙ past in
        let late : unless_late t (due net bounds run) ≡ None = ap (unless_late t) is ∙ not_late t in
        go (awaited net run (t + 1)) (here ∙ ap (unless_awaiting (awaited net run (t + 1))) late)
  ]
    where
      not_late : (t : ℕ) → unless_late t (Some t) ≡ None
      not_late t = grind arith

      not_past : (run : Run) (t : ℕ) (other : Option EventRefusal) → next run ≤ t → unless_past t run.now other ≡ other
      not_past run t other from = past run.now from
        where
          past : (now : Option ℕ) → first_after now ≤ t → unless_past t now other ≡ other
          past None h = refl
          past (Some m) h = cond-true (nat_lt m t) other (Some (Past m)) (lt-ltb m t (omega arith))

      go : (o : Option ℕ) → moment_refusal net bounds run t ≡ unless_awaiting o None →
          (moment_refusal net bounds run t ≡ None) ⊎ ((p : ℕ) × (moment_refusal net bounds run t ≡ Some (Awaiting p)))
      go None e = inl e
      go (Some p) e = inr (p, e)
