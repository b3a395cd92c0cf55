-- How the values of the program are read.
use Rattle.std.specs.Prelude.{ℕ, ◌≡◌, ◌<◌, ◌≤◌, List, Some, None}
use Rattle.std.specs.List.{All, AllPairs, Contains}
use Rattle.cstn_label.specs.declared.bounds.Bound.{Bound}
use Rattle.cstn_net.specs.Networks.{Network, Observes, count}
use Rattle.cstn_net.specs.Read.{NetworkParts, the_network}
use Rattle.cstn_plan.specs.Plans.{the_bounds}
use Rattle.cstn_lift.specs.Lowered.{lowered}
use Rattle.cstn_lift.specs.WellFormed.{IsLabelled}
use Rattle.cstn_lift.specs.Read.{LabelledParts, the_labelled}
use Rattle.cstn_exec.specs.Runs.{Run, executed_at, outcome_of}
use Rattle.cstn_exec.specs.Guides.{Guided, named, advanced}
use Rattle.cstn_exec.specs.Sound.{IsGuided}

-- what contracts see of a guide: the labelled network, the bounds of the plan of the lowered one, the state, and the
-- time-points that were named at the last accepted moment
pub record GuideParts : Type 0 where
  pub labelled : LabelledParts
  pub bounds : List Bound
  pub state : Guided
  pub named : List ℕ

-- a guide with these parts
abbrev pub guide_parts : LabelledParts → List Bound → Guided → List ℕ → GuideParts
guide_parts labels bounds g names = record { labelled = labels; bounds = bounds; state = g; named = names }

-- the guide after the accepted moment t
abbrev pub advanced_on : GuideParts → ℕ → GuideParts
advanced_on g t = record g {
  state = advanced (the_labelled g.labelled) (the_bounds g.bounds) g.state t;
  named = named (the_labelled g.labelled) (the_bounds g.bounds) g.state.run t;
}

-- what a guide keeps: its plan is of the lowered network, its state is right, and there is room for an answer of all time-points
pub record IsGuide (net : NetworkParts) (labels : LabelledParts) (g : Guided) (size : ℕ) : Type 0 where
  pub lowered : the_network net ≡ lowered (the_labelled labels)
  pub labelled : IsLabelled (the_labelled labels)
  pub guided : IsGuided (the_labelled labels) g
  pub room : count (the_labelled labels).base ≤ size

-- time-points in ascending number, each with a moment in the run, and no outcome seen of what they observe
pub record AreWithoutOutcomes (net : Network) (run : Run) (xs : List ℕ) : Type 0 where
  pub ascending : AllPairs (λ x y. x < y) xs
  pub inside : All (λ x. x < count net) xs
  pub placed : All (λ x. (t : ℕ) × (executed_at run x ≡ Some t)) xs
  pub unseen : (x p : ℕ) → Contains xs x → Observes net x p → outcome_of run p ≡ None
