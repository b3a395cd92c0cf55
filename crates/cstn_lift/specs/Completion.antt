-- Completed labels: a label, joined again and again with the labels of the time-points that observe what it marks.
use Rattle.std.specs.Prelude.{ℕ, zero, suc, ◌≡◌, ◌⊎◌, Bool, false, Option, None, Some, slice_index_or, if◌then◌else◌}
use Rattle.cstn_label.specs.Marks.{is_marked}
use Rattle.cstn_label.specs.Labels.{Label, IsMarked, IsPlain, IsWithin, empty, joined}
use Rattle.cstn_net.specs.Networks.{Constraint, IsOnObserved, Observes, count}
use Rattle.cstn_lift.specs.Labelled.{Labelled, label_of}

-- the label marks what is observed, if anything is
abbrev pub is_observed_by : Option ℕ → Label → Bool
is_observed_by None a = false
is_observed_by (Some p) a = is_marked (a p)

-- the label of x, where x observes a proposition that a marks, and the empty label otherwise
abbrev pub brought_by : Labelled → ℕ → Label → Label
brought_by m x a = if is_observed_by (slice_index_or m.base.observes x None) a then label_of m x else empty

-- a, joined with the label of each of the first n time-points that observes what a marks
abbrev pub joined_upto : Labelled → ℕ → Label → Label
joined_upto m zero a = a
joined_upto m (suc x) a = joined (joined_upto m x a) (brought_by m x a)

-- the label after n rounds, each of which joins in the labels of the observers of what is marked
abbrev pub rounds : Labelled → ℕ → Label → Label
rounds m zero a = a
rounds m (suc n) a = joined_upto m (count m.base) (rounds m n a)

-- the completed label: the labels of the observers of what is marked are joined in, for as many rounds as there are
-- time-points, after which nothing changes any more
abbrev pub completed : Labelled → Label → Label
completed m a = rounds m (count m.base) a

-- the label of the time-point that observes p, or the empty one where none does
abbrev pub IsLabelOfObserver : Labelled → ℕ → Label → Type 0
IsLabelOfObserver m p a =
    ((x : ℕ) × Observes m.base x p × (a ≡ label_of m x)) ⊎ (((x : ℕ) → Observes m.base x p → ⊥) × (a ≡ empty))

-- the label is complete: for each proposition that it marks, the label of the proposition's observer is within it
abbrev pub IsCompleteLabel : Labelled → Label → Type 0
IsCompleteLabel m a = (x p : ℕ) → Observes m.base x p → IsMarked a p → IsWithin (label_of m x) a

-- the label is plain and complete, and names observed propositions alone
abbrev pub IsPlainAndComplete : Labelled → Label → Type 0
IsPlainAndComplete m a = IsPlain a × IsOnObserved m.base a × IsCompleteLabel m a

-- the completed label of a time-point
abbrev pub completed_label : Labelled → ℕ → Label
completed_label m x = completed m (label_of m x)

-- the full label of a constraint: its own label and those of its ends, joined and completed
abbrev pub full_label : Labelled → Constraint → Label
full_label m c = completed m (joined c.label (joined (label_of m c.from) (label_of m c.to)))
