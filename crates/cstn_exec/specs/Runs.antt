-- Runs of a network: what was executed and seen, what is known of it, and when there is something to be done.
use Rattle.std.specs.Prelude.{ℕ, ◌≡◌, ◌+◌, ◌-◌, ◌<◌, Bool, true, false, ◌&&◌, ◌||◌, ◌==◌, not, nat_lt, is_some, is_none, List, Option, Some, None, replicate, slice_index, slice_index_or, if◌then◌else◌}
use Rattle.std.specs.List.{position, find, filter, list_all, list_any, range_with_len}
use Rattle.std.specs.Option.{option_and_then, option_map}
use Rattle.cstn_label.specs.declared.marks.Mark.{Mark}
use Rattle.cstn_label.specs.Labels.{Label}
use Rattle.cstn_label.specs.Bounds.{Bound}
use Rattle.cstn_net.specs.Limits.{most_time_points}
use Rattle.cstn_net.specs.Networks.{Network, count, is_prop}
use Rattle.cstn_label.specs.Tests.{fits}
use Rattle.cstn_plan.specs.Asked.{greatest}

-- the state of a run: the last accepted moment, if any, the moment of each time-point that was executed, and the outcome of
-- each proposition that was seen
pub record Run : Type 0 where
  pub now : Option ℕ
  pub moments : List (Option ℕ)
  pub outcomes : List (Option Bool)

-- the state of a run in which none of n time-points is executed and no outcome of the 52 propositions was seen
abbrev pub start_of_run : ℕ → Run
start_of_run n = record { now = None; moments = replicate n None; outcomes = replicate 52 None }

-- the moment at which x was executed, if it was
abbrev pub executed_at : Run → ℕ → Option ℕ
executed_at run x = slice_index_or run.moments x None

-- what was seen of p, if anything was
abbrev pub outcome_of : Run → ℕ → Option Bool
outcome_of run p = slice_index_or run.outcomes p None

-- the first moment that may still be accepted: the one after `now`, or 0
abbrev pub first_after : Option ℕ → ℕ
first_after None = 0
first_after (Some t) = t + 1

abbrev pub next : Run → ℕ
next run = first_after run.now

abbrev pub is_run_done : Run → Bool
is_run_done run = list_all is_some run.moments

-- ---- what is known

-- the moment at which the observer of p was executed, if it was
abbrev pub observed_at : Network → Run → ℕ → Option ℕ
observed_at net run p = option_and_then (executed_at run) (position (is_prop p) net.observes)

-- the moment from which the outcome of p is known or awaited: its reaction after its observer was executed
abbrev pub ready_at : Network → Run → ℕ → Option ℕ
ready_at net run p = option_map (λ m. m + net.reaction p) (observed_at net run p)

abbrev pub is_before : ℕ → Option ℕ → Bool
is_before u None = false
is_before u (Some m) = nat_lt m u

-- before u, the observer of p was executed and its reaction has passed
abbrev pub is_outcome_ready : Network → Run → ℕ → ℕ → Bool
is_outcome_ready net run u p = is_before u (ready_at net run p)

-- the value of p that is known before u, if it is
abbrev pub known : Network → Run → ℕ → ℕ → Option Bool
known net run u p = if is_outcome_ready net run u p then outcome_of run p else None

-- p is awaited before u: its outcome is ready, and none was seen
abbrev pub is_awaited : Network → Run → ℕ → ℕ → Bool
is_awaited net run u p = is_outcome_ready net run u p && is_none (outcome_of run p)

-- the least proposition that is awaited before u
unfoldable pub awaited : Network → Run → ℕ → Option ℕ
awaited net run u = find (is_awaited net run u) (range_with_len 0 52)

-- ---- what is held back

abbrev pub fits_known : Option Bool → Mark → Bool
fits_known None m = true
fits_known (Some v) m = fits v m

-- the values that are known rule out no mark of the label
unfoldable pub is_possible : (ℕ → Option Bool) → Label → Bool
is_possible values a = list_all (λ p. fits_known (values p) (a p)) (range_with_len 0 52)

-- the greatest moment that a bound on x asks for whose label is possible by what is known before u, or 0
abbrev pub earliest_moment : Network → List Bound → Run → ℕ → ℕ → ℕ
earliest_moment net bounds run u x = greatest (λ b. (b.node == x) && is_possible (known net run u) b.label) bounds

-- the moments are those that the bounds ask for by what is known at t, for each of the 1,024 time-points that there may be
abbrev pub AreAskedAt : Network → List Bound → Run → ℕ → List ℕ → Type 0
AreAskedAt net bounds run t moments = (x : ℕ) → x < most_time_points → slice_index moments x ≡ earliest_moment net bounds run (t + 1) x

-- given moments are those that the bounds ask for by what is known at t; without moments a proposition is awaited at t
abbrev pub AreAskedUnlessAwaited : Network → List Bound → Run → ℕ → Option (List ℕ) → Type 0
AreAskedUnlessAwaited net bounds run t None = is_some (awaited net run (t + 1)) ≡ true
AreAskedUnlessAwaited net bounds run t (Some moments) = AreAskedAt net bounds run t moments

-- x isn't executed, and by what is known at t no bound asks for a later moment
abbrev pub is_free : Network → List Bound → Run → ℕ → ℕ → Bool
is_free net bounds run t x = is_none (executed_at run x) && not (nat_lt t (earliest_moment net bounds run (t + 1) x))

-- x has no moment in `moments`, and its moment in `first_after` is at most t
abbrev pub is_free_by : List (Option ℕ) → List ℕ → ℕ → ℕ → Bool
is_free_by moments first_after t x = is_none (slice_index_or moments x None) && not (nat_lt t (slice_index first_after x))

-- the time-points that are called at t, in ascending number: those to be executed then
abbrev pub called : Network → List Bound → Run → ℕ → List ℕ
called net bounds run t = filter (is_free net bounds run t) (range_with_len 0 (count net))

-- at t a proposition is awaited, or a time-point is to be executed
abbrev pub has_work : Network → List Bound → Run → ℕ → Bool
has_work net bounds run t =
    is_some (awaited net run (t + 1)) || list_any (is_free net bounds run t) (range_with_len 0 (count net))

-- the first moment up to the deadline at which there is something to be done, unless all is executed
abbrev pub due : Network → List Bound → Run → Option ℕ
due net bounds run =
    if is_run_done run then None
    else find (has_work net bounds run) (range_with_len (next run) ((net.deadline + 1) - next run))
