-- Guides: runs of a lowered network. A time-point that is called gets its moment in the run. Where its completed label holds
-- at that moment it is named, and so executed; else it is left out.
use Rattle.std.specs.Prelude.{ℕ, ◌+◌, Bool, true, false, not, List, [], ◌∷◌, Option, Some, None, replicate, slice_index_or, slice_set, if◌then◌else◌}
use Rattle.std.specs.List.{filter, list_all, range_with_len}
use Rattle.cstn_label.specs.declared.marks.Mark.{Mark}
use Rattle.cstn_label.specs.Labels.{Label}
use Rattle.cstn_label.specs.Bounds.{Bound}
use Rattle.cstn_label.specs.Marks.{is_marked}
use Rattle.cstn_net.specs.Networks.{Network}
use Rattle.cstn_label.specs.Tests.{fits}
use Rattle.cstn_lift.specs.Labelled.{Labelled}
use Rattle.cstn_lift.specs.Completion.{completed_label}
use Rattle.cstn_lift.specs.Lowered.{lowered, observer_of}
use Rattle.cstn_exec.specs.Runs.{Run, start_of_run, executed_at, known, called}
use Rattle.cstn_exec.specs.Moves.{EventRefusal, NotExecuted, run_moved, handed, outcome_refusal}

-- the state of a guide: the run of the lowered network, and of each time-point whether it was left out
pub record Guided : Type 0 where
  pub run : Run
  pub left : List Bool

-- the state of a guide in which none of n time-points was named or left out, and nothing was seen
abbrev pub guide_begun : ℕ → Guided
guide_begun n = record { run = start_of_run n; left = replicate n false }

-- x was left out
abbrev pub was_left_out : Guided → ℕ → Bool
was_left_out g x = slice_index_or g.left x false

-- the moment at which x was named, if it was: its moment in the run, unless it was left out
abbrev pub named_at : Guided → ℕ → Option ℕ
named_at g x = if was_left_out g x then None else executed_at g.run x

-- ---- what holds by what is known

-- the mark is absent, or the value is known and fits it
abbrev pub fits_surely : Option Bool → Mark → Bool
fits_surely None a = not (is_marked a)
fits_surely (Some v) a = fits v a

-- each of the 52 propositions that the label marks is known, with a value that fits
unfoldable pub holds_by : (ℕ → Option Bool) → Label → Bool
holds_by values a = list_all (λ p. fits_surely (values p) (a p)) (range_with_len 0 52)

-- the completed label of x holds by what is known at t
abbrev pub holds_at : Labelled → Run → ℕ → ℕ → Bool
holds_at m run t x = holds_by (known (lowered m) run (t + 1)) (completed_label m x)

-- ---- moments

-- of these time-points, those whose completed labels hold by the values
abbrev pub holding : Labelled → (ℕ → Option Bool) → List ℕ → List ℕ
holding m values xs = filter (λ x. holds_by values (completed_label m x)) xs

-- of these time-points, those whose completed labels don't hold by the values
abbrev pub others : Labelled → (ℕ → Option Bool) → List ℕ → List ℕ
others m values xs = filter (λ x. not (holds_by values (completed_label m x))) xs

-- the time-points that are named at t: of those that are called, each whose completed label holds by what is known
abbrev pub named : Labelled → List Bound → Run → ℕ → List ℕ
named m bounds run t = holding m (known (lowered m) run (t + 1)) (called (lowered m) bounds run t)

-- the time-points that are left out at t: the rest of those that are called
abbrev pub left_out : Labelled → List Bound → Run → ℕ → List ℕ
left_out m bounds run t = others m (known (lowered m) run (t + 1)) (called (lowered m) bounds run t)

-- the run with the outcome false of the given proposition, if there is one
abbrev pub denied : Option ℕ → Run → Run
denied None run = run
denied (Some p) run = handed run p false

-- the run with the outcome false of what each of the time-points observes
abbrev pub all_denied : Network → List ℕ → Run → Run
all_denied net [] run = run
all_denied net (x ∷ xs) run = all_denied net xs (denied (slice_index_or net.observes x None) run)

-- the marks `left`, with each of the time-points marked as left out
abbrev pub with_left : List ℕ → List Bool → List Bool
with_left [] left = left
with_left (x ∷ xs) left = with_left xs (slice_set left x true)

-- The state after the accepted moment t: the run has moved, the time-points that are left out are marked so, and the outcome
-- of what they observe is false.
abbrev pub advanced : Labelled → List Bound → Guided → ℕ → Guided
advanced m bounds g t = record {
  run = all_denied (lowered m) (left_out m bounds g.run t) (run_moved (lowered m) bounds g.run t);
  left = with_left (left_out m bounds g.run t) g.left;
}

-- ---- outcomes

abbrev pub is_among : List Bool → Option ℕ → Bool
is_among left None = false
is_among left (Some x) = slice_index_or left x false

-- the observer of p was left out
abbrev pub is_denied : Network → Guided → ℕ → Bool
is_denied net g p = is_among g.left (observer_of net p)

-- why an outcome of p is refused, if it is: its observer was left out or has no moment yet, or an outcome is kept already
abbrev pub see_refusal : Labelled → Guided → ℕ → Option EventRefusal
see_refusal m g p = if is_denied (lowered m) g p then Some (NotExecuted p) else outcome_refusal (lowered m) g.run p

-- the state after the accepted outcome v of p
abbrev pub outcome_noted : Guided → ℕ → Bool → Guided
outcome_noted g p v = record { run = handed g.run p v; left = g.left }
