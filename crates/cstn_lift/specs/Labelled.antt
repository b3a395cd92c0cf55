-- Networks whose time-points have labels.
use Rattle.std.specs.Prelude.{ℕ, ◌≡◌, ◌<◌, List, slice_index_or}
use Rattle.cstn_label.specs.Labels.{Label, empty}
use Rattle.cstn_net.specs.Networks.{Network, count}

-- a network, and the label of each of its time-points in ascending number
pub record Labelled : Type 0 where
  pub base : Network
  pub labels : List Label

-- the label of a time-point, among these
abbrev pub label_in : List Label → ℕ → Label
label_in labels x = slice_index_or labels x empty

-- the label of a time-point
abbrev pub label_of : Labelled → ℕ → Label
label_of m x = label_in m.labels x

-- no time-point has a label
abbrev pub HasNoLabels : Labelled → Type 0
HasNoLabels m = (x : ℕ) → x < count m.base → label_of m x ≡ empty
