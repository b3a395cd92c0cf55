-- The least deadline by which what has happened can go on.
use Rattle.std.specs.Prelude.{ℕ, zero, suc, ◌<◌, ◌≤◌, Bool, false, max, List, map, slice_index_or, Option, None, Some, if◌then◌else◌}
use Rattle.cstn_label.specs.Bounds.{Bound}
use Rattle.cstn_label.specs.Labels.{Label, joined}
use Rattle.cstn_label.specs.Marks.{is_plain}
use Rattle.cstn_net.specs.Limits.{most_deadline}
use Rattle.cstn_net.specs.Networks.{count}
use Rattle.cstn_plan.specs.Asked.{greatest}
use Rattle.cstn_lift.specs.Labelled.{Labelled}
use Rattle.cstn_lift.specs.Completion.{completed_label}
use Rattle.cstn_lift.specs.Lowered.{lowered}
use Rattle.cstn_check.specs.Growth.{log_of, load_of, live_bounds}
use Rattle.cstn_check.specs.declared.verdicts.Verdict.{Verdict}
use Rattle.cstn_check.specs.declared.verdicts.Verdict.TheVariants.{Yes, No, Full}
use Rattle.cstn_history.specs.Continuations.{Can}
use Rattle.cstn_history.specs.Histories.{History, is_done, edited}
use Rattle.cstn_history.specs.Rest.{left, rest, moment_done}
use Rattle.cstn_follow.specs.Following.{verdict_left}
use Rattle.cstn_follow.specs.declared.answers.LeastDeadline.{LeastDeadline}
use Rattle.cstn_follow.specs.declared.answers.LeastDeadline.TheVariants.{At, Never, Unknown}

-- the labelled network with another deadline
abbrev pub by_deadline : Labelled → ℕ → Labelled
by_deadline m deadline = edited m deadline m.base.constraints

-- n is the least deadline, up to 1,000,000, by which the history can go on
pub record IsLeastDeadlineOf (m : Labelled) (h : History) (n : ℕ) : Type 0 where
  pub upto : n ≤ most_deadline
  pub goes : Can (by_deadline m n) h
  pub least : (d : ℕ) → Can (by_deadline m d) h → n ≤ d

-- by no deadline up to 1,000,000 the history can go on
abbrev pub IsByNoDeadline : Labelled → History → Type 0
IsByNoDeadline m h = (d : ℕ) → d ≤ most_deadline → Can (by_deadline m d) h → ⊥

-- the last moment at which one of the first n time-points was done
abbrev pub last_done : History → ℕ → ℕ
last_done h zero = 0
last_done h (suc n) = max (last_done h n) (moment_done h n)

-- the completed label of a time-point, where it isn't done; and those of the time-points that are left, in their order
abbrev pub label_coming : Labelled → History → ℕ → Option Label
label_coming m h x = if is_done h x then None else Some (completed_label m x)

abbrev pub labels_coming : Labelled → History → List (Option Label)
labels_coming m h = map (label_coming m h) (left m h)

-- a label can hold where that of a time-point that isn't done does
abbrev pub goes_with : Option Label → Label → Bool
goes_with None a = false
goes_with (Some c) a = is_plain (joined a c)

-- the bound is at a time-point that isn't done, and can hold where that is executed
abbrev pub is_coming : Labelled → History → Bound → Bool
is_coming m h b = goes_with (slice_index_or (labels_coming m h) b.node None) b.label

-- the deadline that is enough by the bounds of a plan of what is left: the greatest of the moments done and of the least values at
-- time-points that aren't done
abbrev pub deadline_by : Labelled → History → List Bound → ℕ
deadline_by m h bounds = max (last_done h (count m.base)) (greatest (is_coming m h) bounds)

-- the answer: by one check, of what is left by the deadline 1,000,000
abbrev pub least_by : Labelled → History → ℕ → Option Verdict → LeastDeadline
least_by m h fresh None = Unknown
least_by m h fresh (Some (Yes load)) = At (deadline_by m h (live_bounds (log_of (lowered (rest m h fresh)))))
least_by m h fresh (Some (No load)) = Never
least_by m h fresh (Some Full) = Unknown

abbrev pub least_of : Labelled → History → ℕ → ℕ → LeastDeadline
least_of m h fresh cap = least_by (by_deadline m most_deadline) h fresh (verdict_left (by_deadline m most_deadline) h fresh cap)

-- the answer is right: this is the least deadline, or none is enough, or the log of what is left by the deadline 1,000,000 has more
-- entries than it may
abbrev pub IsRightLeast : Labelled → History → ℕ → ℕ → LeastDeadline → Type 0
IsRightLeast m h fresh cap (At n) = IsLeastDeadlineOf m h n
IsRightLeast m h fresh cap Never = IsByNoDeadline m h
IsRightLeast m h fresh cap Unknown = cap < load_of (lowered (rest (by_deadline m most_deadline) h fresh))
