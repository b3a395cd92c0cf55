-- Changes of a network: why one is refused, and the network as edited by those that aren't.
use Rattle.std.specs.Prelude.{ℕ, suc, ℤ, pos, int_le, ◌<◌, ◌+◌, nat_le, ◌==◌, max, Bool, not, ◌&&◌, if◌then◌else◌, List, [], ◌∷◌, ◌++◌, length, map, position}
use Rattle.std.specs.Prelude.{Option, None, Some}
use Rattle.std.specs.List.{filter, list_any, range_with_len}
use Rattle.std.specs.Option.{option_map}
use Rattle.cstn_label.specs.Labels.{Label, IsPlain}
use Rattle.cstn_label.specs.Marks.{is_absent, is_plain}
use Rattle.cstn_net.specs.Limits.{most_value, least_value, most_edits}
use Rattle.cstn_net.specs.Networks.{Network, Constraint, IsOnObserved, IsValue, count}
use Rattle.cstn_net.specs.Scenarios.{is_observed}
use Rattle.cstn_lift.specs.Labelled.{Labelled}

-- a network as edited, an id above all that were ever used, and how many changes were accepted
pub record EditedNetwork : Type 0 where
  pub net : Network
  pub fresh : ℕ
  pub edits : ℕ

-- the least id above those of these constraints
abbrev pub id_above : List Constraint → ℕ
id_above [] = 0
id_above (c ∷ cs) = max (suc c.id) (id_above cs)

-- a network to which nothing was done
abbrev pub unedited : Network → EditedNetwork
unedited net = record { net = net; fresh = id_above net.constraints; edits = 0 }

-- a change: a constraint is added between two time-points, with a value and a label; the constraint of an id is removed; or it
-- gets another value
pub data Change : Type 0 where
  adds : (from to : ℕ) → (most : ℤ) → (label : Label) → Change
  removes : (id : ℕ) → Change
  revalues : (id : ℕ) → (most : ℤ) → Change

-- ---- what is refused

-- Why a change is refused. S1: there are as many constraints as there may be. S2: no constraint has the id. S3: the value is out
-- of range. S4: the label isn't plain. S5: nothing observes a proposition that it names. S6: there were as many edits as there
-- may be. S7: no time-point has the name of an end.
pub data ChangeRefusal : Type 0 where
  NoRoom : (room : ℕ) → ChangeRefusal
  NoSuch : (id : ℕ) → ChangeRefusal
  ValueRange : (most : ℤ) → ChangeRefusal
  NotPlain : ChangeRefusal
  NotObserved : (prop : ℕ) → ChangeRefusal
  EditLimit : ChangeRefusal
  UnknownEnd : (name : List ℕ) → ChangeRefusal

-- the value is from -1,000,000,000 to 1,000,000,000 ticks
abbrev pub is_value : ℤ → Bool
is_value most = int_le least_value most && int_le most (pos most_value)

-- the least proposition that the label names and nothing observes
unfoldable pub least_unobserved : Network → Label → Option ℕ
least_unobserved net a = position (λ p. not (is_absent (a p)) && not (is_observed net p)) (range_with_len 0 52)

-- some constraint has the id
abbrev pub has_constraint : Network → ℕ → Bool
has_constraint net id = list_any (λ c. c.id == id) net.constraints

-- the first reason for which a change of the network is refused, where there may be `room` constraints; none where it is accepted
abbrev pub refusal : ℕ → EditedNetwork → Change → Option ChangeRefusal
refusal room e (adds from to most a) =
    if nat_le most_edits e.edits then Some EditLimit
    else if nat_le room (length e.net.constraints) then Some (NoRoom room)
    else if not (is_value most) then Some (ValueRange most)
    else if not (is_plain a) then Some NotPlain
    else option_map NotObserved (least_unobserved e.net a)
refusal room e (removes id) =
    if nat_le most_edits e.edits then Some EditLimit else if has_constraint e.net id then None else Some (NoSuch id)
refusal room e (revalues id most) =
    if nat_le most_edits e.edits then Some EditLimit
    else if not (has_constraint e.net id) then Some (NoSuch id)
    else if is_value most then None else Some (ValueRange most)

-- ---- what is accepted

-- the constraints without the one of this id
abbrev pub constraints_without : ℕ → List Constraint → List Constraint
constraints_without id cs = filter (λ c. not (c.id == id)) cs

-- the constraint, with another value where it has this id
abbrev pub with_value : ℕ → ℤ → Constraint → Constraint
with_value id most c = if c.id == id then record c { most = most } else c

-- the constraint that a change adds, if it is added under this id
abbrev pub new_constraint : ℕ → ℕ → ℕ → ℤ → Label → Constraint
new_constraint id from to most a = record { id = id; from = from; to = to; most = most; label = a }

-- the constraints after a change, where one that is added comes last and has this id
abbrev pub constraints_after : List Constraint → ℕ → Change → List Constraint
constraints_after cs fresh (adds from to most a) = cs ++ new_constraint fresh from to most a ∷ []
constraints_after cs fresh (removes id) = constraints_without id cs
constraints_after cs fresh (revalues id most) = map (with_value id most) cs

-- an id above all that were ever used, after a change
abbrev pub fresh_after : ℕ → Change → ℕ
fresh_after fresh (adds from to most a) = fresh + 1
fresh_after fresh (removes id) = fresh
fresh_after fresh (revalues id most) = fresh

-- the network as edited by one change more
abbrev pub edited_by : EditedNetwork → Change → EditedNetwork
edited_by e change = record {
  net = record e.net { constraints = constraints_after e.net.constraints e.fresh change };
  fresh = fresh_after e.fresh change;
  edits = e.edits + 1;
}

-- the base of a labelled network as edited, where an id is above all that were ever used, and so many changes were accepted
abbrev pub edited_base : Labelled → ℕ → ℕ → EditedNetwork
edited_base m fresh edits = record { net = m.base; fresh = fresh; edits = edits }

-- one of two by whether a change is accepted or refused
abbrev pub if_accepted : {S : Type 0} → Option ChangeRefusal → S → S → S
if_accepted None next now = next
if_accepted (Some why) next now = now

-- ---- what an accepted change may be

-- the ends of a constraint that is added are time-points
abbrev pub HasTimePointEnds : Network → Change → Type 0
HasTimePointEnds net (adds from to most a) = (from < count net) × (to < count net)
HasTimePointEnds net (removes id) = Unit {0}
HasTimePointEnds net (revalues id most) = Unit {0}

-- a constraint with this value and label can be added, where there may be `n`
pub record CanAdd (n : ℕ) (net : Network) (most : ℤ) (a : Label) : Type 0 where
  pub room : length net.constraints < n
  pub value : IsValue most
  pub plain : IsPlain a
  pub observed : IsOnObserved net a

-- the network can be changed so, where there may be `room` constraints
abbrev pub CanChange : ℕ → Network → Change → Type 0
CanChange room net (adds from to most a) = CanAdd room net most a
CanChange room net (removes id) = Unit {0}
CanChange room net (revalues id most) = IsValue most
