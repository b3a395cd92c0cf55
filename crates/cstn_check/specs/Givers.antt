-- Networks with some of their constraints, and which constraints gave entries of a list.
use Rattle.std.specs.Prelude.{ℕ, ◌≡◌, Bool, false, not, ◌&&◌, ◌==◌, List, map}
use Rattle.std.specs.List.{filter, list_any}
use Rattle.cstn_net.specs.Networks.{Network}
use Rattle.cstn_rules.specs.declared.entries.Why.{Why}
use Rattle.cstn_rules.specs.declared.entries.Why.TheVariants.{Base, Chain, Wait}
use Rattle.cstn_rules.specs.Derivations.{Entry}

-- the rule is chain of the constraint with the id
abbrev pub is_by : ℕ → Why → Bool
is_by id Base = false
is_by id (Chain c i) = c == id
is_by id (Wait i j) = false

-- the constraint with the id gave some entry of the list
abbrev pub gave : ℕ → List Entry → Bool
gave id list = list_any (λ e. is_by id e.why) list

-- the ids of the constraints, in order
abbrev pub ids_of : Network → List ℕ
ids_of net = map (λ c. c.id) net.constraints

-- the id is one of these
abbrev pub is_of : List ℕ → ℕ → Bool
is_of ids id = list_any (λ i. id == i) ids

-- what passes the test and isn't this id
abbrev pub but : ℕ → (ℕ → Bool) → ℕ → Bool
but id test i = test i && not (i == id)

-- the network with those of its constraints whose ids pass a test
abbrev pub with_some : Network → (ℕ → Bool) → Network
with_some net test = record net { constraints = filter (λ c. test c.id) net.constraints }

-- the network with the constraints of these ids alone
abbrev pub with_ids : Network → List ℕ → Network
with_ids net ids = with_some net (is_of ids)

-- the network without the constraint of the id
abbrev pub network_without : ℕ → Network → Network
network_without id net = with_some net (λ i. not (i == id))

-- a network with some of the constraints of another
abbrev pub IsPart : Network → Network → Type 0
IsPart net part = (test : ℕ → Bool) × (part ≡ with_some net test)
