-- The parts of the rest, as the program makes them one after the other.
use Rattle.std.specs.Prelude.{ℕ, ◌≡◌, ◌<◌, ◌≤◌, ◌⊎◌, ◌++◌, List, [], length, map}
use Rattle.std.specs.List.{flat_map, range_with_len}
use Rattle.cstn_net.specs.Limits.{most_constraints}
use Rattle.cstn_net.specs.declared.constraints.Constraint.{Constraint}
use Rattle.cstn_net.specs.declared.points.TimePoint.{TimePoint}
use Rattle.cstn_net.specs.Networks.{Network, Constraint as TheConstraint, count}
use Rattle.cstn_net.specs.Read.{the_constraint}
use Rattle.cstn_lift.specs.Labelled.{Labelled}
use Rattle.cstn_lift.specs.Lowered.{numbered, lowered}
use Rattle.cstn_lift.specs.Handed.{HasPoints}
use Rattle.cstn_history.specs.declared.errors.RestError.{RestError}
use Rattle.cstn_history.specs.declared.errors.RestError.TheVariants.{TooManyConstraints, Memory}
use Rattle.cstn_history.specs.declared.adding.Kind.{Kind}
use Rattle.cstn_history.specs.declared.adding.Kind.TheVariants.{Late, Watched, Coming}
use Rattle.cstn_history.specs.Histories.{History}
use Rattle.cstn_history.specs.Rest.{sight_left, number_left, late_one, watched_one, coming_one, rest}

-- each time-point's number among those that are left
abbrev pub AreNumbers : Labelled → History → List ℕ → Type 0
AreNumbers m h numbers = numbers ≡ map (number_left m h) (range_with_len 0 (count m.base))

-- these constraints, under ids from `fresh` on
abbrev pub HasAdded : ℕ → List TheConstraint → List Constraint → Type 0
HasAdded fresh cs out = map the_constraint out ≡ numbered fresh cs

-- these constraints come behind all that were added before
abbrev pub AreAddedBehind : ℕ → List Constraint → List Constraint → List TheConstraint → Type 0
AreAddedBehind fresh old new more = (cs : List TheConstraint) → HasAdded fresh cs old → HasAdded fresh (cs ++ more) new

-- the constraints of one kind that are added for x
abbrev pub added_for : Labelled → History → Kind → ℕ → List TheConstraint
added_for m h Late x = late_one m x (h.done x)
added_for m h Watched x = watched_one m h x (h.done x) (sight_left m h x)
added_for m h Coming x = coming_one m h x

-- the constraints of one kind that are added for all time-points
abbrev pub added_for_all : Labelled → History → Kind → List TheConstraint
added_for_all m h kind = flat_map (added_for m h kind) (range_with_len 0 (count m.base))

-- the rest, whose constraints aren't handed in yet
abbrev pub bared : Labelled → History → Network
bared m h = record (rest m h 0).base { constraints = [] }

-- the first n time-points of the rest, and all of them
abbrev pub HasLeft : Labelled → History → ℕ → List TimePoint → Type 0
HasLeft m h n points = HasPoints (bared m h) n points

abbrev pub HasAllLeft : Labelled → History → List TimePoint → Type 0
HasAllLeft m h points = HasLeft m h (count (bared m h)) points

-- the number of a refusal, and 0 for want of memory
abbrev pub rest_number : RestError → ℕ
rest_number (Memory e) = 0
rest_number TooManyConstraints = 8

-- want of memory, or the network has too many constraints
abbrev pub IsBaseRefusal : Labelled → RestError → Type 0
IsBaseRefusal m e = (rest_number e ≡ 0) ⊎ ((e ≡ TooManyConstraints) × (most_constraints < length m.base.constraints))

-- want of memory, or the labelled network, or its lowered network, has too many constraints
abbrev pub IsRestRefusal : Labelled → RestError → Type 0
IsRestRefusal m e = (rest_number e ≡ 0)
    ⊎ ((e ≡ TooManyConstraints) × ((most_constraints < length m.base.constraints) ⊎ (most_constraints < length (lowered m).constraints)))

-- neither the labelled network nor its lowered network has too many constraints
pub record HasFewConstraints (m : Labelled) : Type 0 where
  pub base : length m.base.constraints ≤ most_constraints
  pub lowered : length (lowered m).constraints ≤ most_constraints
