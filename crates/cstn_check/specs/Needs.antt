-- What a check says of a network, and which constraints its no needs: without the others there is a no, too.
use Rattle.std.specs.Prelude.{ℕ, ◌≡◌, ◌<◌, nat_lt, Bool, true, false, not, List, length, get_or, Option, None, Some, if◌then◌else◌}
use Rattle.cstn_net.specs.Networks.{Network}
use Rattle.cstn_rules.specs.Derivations.{Entry}
use Rattle.cstn_check.specs.Givers.{gave, ids_of, is_of, with_some}
use Rattle.cstn_check.specs.Growth.{load_of}
use Rattle.cstn_check.specs.Room.{DecidesByList}
use Rattle.cstn_check.specs.Verdicts.{is_consistent}
use Rattle.cstn_check.specs.declared.needs.Finding.{Finding}
use Rattle.cstn_check.specs.declared.needs.Finding.TheVariants.{Full, Yes, No}

-- what a check whose log may have `cap` entries says of a network; none where the log is full
abbrev pub said : ℕ → Network → Option Bool
said cap net = if nat_lt cap (load_of net) then None else Some (is_consistent net)

-- what was said
abbrev pub answer : Finding → Option Bool
answer Full = None
answer (Yes load) = Some true
answer (No needed) = Some false

-- what is needed for what was said is so, where it was no
abbrev pub IfNo : Finding → (List ℕ → Type 0) → Type 0
IfNo Full P = Unit
IfNo (Yes load) P = Unit
IfNo (No needed) P = P needed.items

-- the constraints at the places that aren't marked gave no entry of the list
abbrev pub AreMarked : Network → List Bool → List Entry → Type 0
AreMarked net marks list = (k : ℕ) → k < length marks → get_or marks k true ≡ false → gave (get_or (ids_of net) k 0) list ≡ false

-- the constraints that a no needs, by their ids: the others gave no entry of a list that decides
pub record IsNeeded (cap : ℕ) (net : Network) (needed : List ℕ) : Type 0 where
  pub roomy : Bool
  pub list : List Entry
  pub decides : DecidesByList cap net roomy list
  pub idle : (k : ℕ) → k < length (ids_of net) → is_of needed (get_or (ids_of net) k 0) ≡ false → gave (get_or (ids_of net) k 0) list ≡ false

-- no is said of the network, without any of those constraints that aren't needed
abbrev pub Stands : (Network → Option Bool) → Network → List ℕ → Type 0
Stands says net needed = (test : ℕ → Bool) → ((id : ℕ) → is_of needed id ≡ true → test id ≡ true) → says (with_some net test) ≡ Some false

-- what was found is a no that doesn't need the constraint of the id
abbrev pub is_idle : Finding → ℕ → Bool
is_idle Full id = false
is_idle (Yes load) id = false
is_idle (No needed) id = not (is_of needed.items id)
