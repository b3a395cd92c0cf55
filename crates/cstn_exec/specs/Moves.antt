-- What a run accepts and refuses, and the runs that follow.
use Rattle.std.specs.Prelude.{ℕ, ◌+◌, Bool, nat_lt, List, [], ◌∷◌, Option, Some, None, slice_set, if◌then◌else◌}
use Rattle.cstn_label.specs.Bounds.{Bound}
use Rattle.cstn_net.specs.Networks.{Network}
use Rattle.cstn_exec.specs.Runs.{Run, is_run_done, observed_at, outcome_of, awaited, called, due}

-- why a moment or an outcome is refused
pub data EventRefusal : Type 0 where
  Done : EventRefusal
  Past : (now : ℕ) → EventRefusal
  Late : (due : ℕ) → EventRefusal
  Awaiting : (prop : ℕ) → EventRefusal
  NotExecuted : (prop : ℕ) → EventRefusal
  Known : (prop : ℕ) → (value : Bool) → EventRefusal

abbrev pub unless_past : ℕ → Option ℕ → Option EventRefusal → Option EventRefusal
unless_past t None other = other
unless_past t (Some now) other = if nat_lt now t then other else Some (Past now)

abbrev pub unless_awaiting : Option ℕ → Option EventRefusal → Option EventRefusal
unless_awaiting None other = other
unless_awaiting (Some p) other = Some (Awaiting p)

abbrev pub unless_late : ℕ → Option ℕ → Option EventRefusal
unless_late t None = None
unless_late t (Some u) = if nat_lt u t then Some (Late u) else None

-- why the moment t is refused, if it is: all is executed, t isn't above `now`, a proposition is awaited, or t is above the
-- due moment
abbrev pub moment_refusal : Network → List Bound → Run → ℕ → Option EventRefusal
moment_refusal net bounds run t =
    if is_run_done run then Some Done
    else unless_past t run.now (unless_awaiting (awaited net run (t + 1)) (unless_late t (due net bounds run)))

-- the moments, with t for each time-point of the list
abbrev pub executed : ℕ → List ℕ → List (Option ℕ) → List (Option ℕ)
executed t [] moments = moments
executed t (x ∷ xs) moments = executed t xs (slice_set moments x (Some t))

-- the run after the accepted moment t
abbrev pub run_moved : Network → List Bound → Run → ℕ → Run
run_moved net bounds run t = record {
  now = Some t;
  moments = executed t (called net bounds run t) run.moments;
  outcomes = run.outcomes;
}

abbrev pub unless_known : ℕ → Option Bool → Option EventRefusal
unless_known p None = None
unless_known p (Some v) = Some (Known p v)

abbrev pub unless_unseen : ℕ → Option ℕ → Option EventRefusal → Option EventRefusal
unless_unseen p None other = Some (NotExecuted p)
unless_unseen p (Some m) other = other

-- why an outcome of p is refused, if it is: its observer isn't executed, or an outcome is kept already
abbrev pub outcome_refusal : Network → Run → ℕ → Option EventRefusal
outcome_refusal net run p = unless_unseen p (observed_at net run p) (unless_known p (outcome_of run p))

-- the run after the accepted outcome v of p
abbrev pub handed : Run → ℕ → Bool → Run
handed run p v = record { now = run.now; moments = run.moments; outcomes = slice_set run.outcomes p (Some v) }
