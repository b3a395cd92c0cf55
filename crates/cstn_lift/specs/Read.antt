-- How the values of the program are read.
use Rattle.std.specs.Prelude.{◌≡◌, List, map}
use Rattle.cstn_label.specs.declared.labels.Label.{Label}
use Rattle.cstn_label.specs.Read.{marks}
use Rattle.cstn_net.specs.Read.{NetworkParts, the_network}
use Rattle.cstn_lift.specs.Labelled.{Labelled}
use Rattle.cstn_lift.specs.Completion.{completed}

-- a network as it was handed in, and the labels of its time-points
pub record LabelledParts : Type 0 where
  pub base : NetworkParts
  pub labels : List Label

-- the labelled network of a program's network and labels
abbrev pub with_labels : NetworkParts → List Label → Labelled
with_labels net labels = record { base = the_network net; labels = map marks labels }

-- the labelled network that the parts stand for
abbrev pub the_labelled : LabelledParts → Labelled
the_labelled l = with_labels l.base l.labels

-- the completed labels of the time-points, in ascending number
abbrev pub AreCompleted : Labelled → List Label → Type 0
AreCompleted m whole = map marks whole ≡ map (completed m) m.labels
