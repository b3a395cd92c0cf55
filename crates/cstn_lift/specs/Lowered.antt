-- The plain network that a labelled network is turned into.
use Rattle.std.specs.Prelude.{ℕ, ◌+◌, ◌++◌, Bool, List, [], ◌∷◌, Option, None, Some, option_map, map, pos, ◌-ℤ◌, if◌then◌else◌}
use Rattle.std.specs.List.{filter_map, flat_map, list_all, position, range_with_len}
use Rattle.cstn_label.specs.Labels.{Label}
use Rattle.cstn_label.specs.Marks.{is_marked, is_mark_plain}
use Rattle.cstn_net.specs.Networks.{Network, Constraint, count, is_prop}
use Rattle.cstn_lift.specs.Labelled.{Labelled, label_in}
use Rattle.cstn_lift.specs.Completion.{completed, full_label}

-- none of the 52 propositions has an unknown mark
unfoldable pub is_plain : Label → Bool
is_plain a = list_all (λ p. is_mark_plain (a p)) (range_with_len 0 52)

-- the time-point that observes p
abbrev pub observer_of : Network → ℕ → Option ℕ
observer_of net p = position (is_prop p) net.observes

-- the constraint with its full label; none where that isn't plain
abbrev pub with_full_label : Labelled → Constraint → Option Constraint
with_full_label m c = if is_plain (full_label m c) then Some (record c { label = full_label m c }) else None

-- these constraints with their full labels, those without a plain one left out
abbrev pub full_of : Labelled → List Constraint → List Constraint
full_of m cs = filter_map (with_full_label m) cs

-- the network's constraints with their full labels, those without a plain one left out
abbrev pub full_constraints : Labelled → List Constraint
full_constraints m = full_of m m.base.constraints

-- the constraint by which x waits until p is known, where the label a marks p and a time-point observes it
abbrev pub guard : Network → ℕ → Label → ℕ → Option Constraint
guard net x a p =
    if is_marked (a p)
    then option_map (λ j. record { id = 0; from = x; to = j; most = pos 0 -ℤ pos (net.reaction p); label = a }) (observer_of net p)
    else None

-- the constraints by which x waits until each of these propositions that the label marks is known
abbrev pub guards_for : Network → ℕ → Label → List ℕ → List Constraint
guards_for net x a props = filter_map (guard net x a) props

-- the constraints by which x waits until each of the 52 propositions that the label marks is known
unfoldable pub guards_of : Network → ℕ → Label → List Constraint
guards_of net x a = guards_for net x a (range_with_len 0 52)

-- the constraints by which x waits until what its label among these marks is known
abbrev pub guards_with : Network → List Label → ℕ → List Constraint
guards_with net labels x = guards_of net x (label_in labels x)

-- for each time-point, the constraints by which it waits until what its label among these marks is known
abbrev pub all_guards : Network → List Label → List Constraint
all_guards net labels = flat_map (guards_with net labels) (range_with_len 0 (count net))

-- for each time-point, the constraints by which it waits until what its completed label marks is known
abbrev pub guards : Labelled → List Constraint
guards m = all_guards m.base (map (completed m) m.labels)

-- the constraints under ids from k on
abbrev pub numbered : ℕ → List Constraint → List Constraint
numbered k [] = []
numbered k (c ∷ cs) = record c { id = k } ∷ numbered (k + 1) cs

-- The lowered network: first the constraints whose full labels are plain, with these labels, and then, for each time-point, the
-- constraints by which it waits until what its completed label marks is known.
abbrev pub lowered : Labelled → Network
lowered m = record m.base {
  constraints = numbered 0 (full_constraints m ++ guards m);
}
