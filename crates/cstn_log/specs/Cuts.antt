-- Lists of entries cut down to some of their places.
use Rattle.std.specs.Prelude.{ℕ, zero, suc, ◌≡◌, ◌+◌, ◌-◌, ◌<◌, Bool, true, false, ◌&&◌, not, nat_eq, if◌then◌else◌, List, [], ◌∷◌, ◌++◌, length, replicate, set, Option, Some, None, slice_get, slice_index_or, ⊤}
use Rattle.cstn_rules.specs.declared.entries.Why.{Why}
use Rattle.cstn_rules.specs.declared.entries.Why.TheVariants.{Base, Chain, Wait}
use Rattle.cstn_rules.specs.Derivations.{Entry}

-- the premises are below the place
abbrev pub PremisesBelow : ℕ → Why → Type 0
PremisesBelow k Base = ⊤
PremisesBelow k (Chain id i) = i < k
PremisesBelow k (Wait i j) = (i < k) × (j < k)

-- each entry's premises are before it
pub record AllEarlier (steps : List Entry) : Type 0 where
  pub below : (k : ℕ) (e : Entry) → slice_get steps k ≡ Some e → PremisesBelow k e.why

-- the mark of a place; places past the marks have none
abbrev pub is_place_marked : List Bool → ℕ → Bool
is_place_marked marks k = slice_index_or marks k false

-- how many of the first k places are marked
abbrev pub rank : List Bool → ℕ → ℕ
rank marks zero = 0
rank marks (suc k) = rank marks k + (if is_place_marked marks k then 1 else 0)

-- the rule, with the new places of its premises where the list is cut to the marked places
abbrev pub renumbered : List Bool → Why → Why
renumbered marks Base = Base
renumbered marks (Chain id i) = Chain id (rank marks i)
renumbered marks (Wait i j) = Wait (rank marks i) (rank marks j)

-- the rule, with each premise replaced by what a table has for it
abbrev pub replaced : List ℕ → Why → Why
replaced places Base = Base
replaced places (Chain id i) = Chain id (slice_index_or places i 0)
replaced places (Wait i j) = Wait (slice_index_or places i 0) (slice_index_or places j 0)

abbrev pub moved_premises : List Bool → Entry → Entry
moved_premises marks e = record { bound = e.bound; why = renumbered marks e.why }

-- the entries at marked places, where the first of the list stands at the place k
abbrev pub cut_from : List Bool → ℕ → List Entry → List Entry
cut_from marks k [] = []
cut_from marks k (e ∷ es) = (if is_place_marked marks k then moved_premises marks e ∷ [] else []) ++ cut_from marks (suc k) es

-- the entries at marked places, with their premises at the new places
abbrev pub cut : List Bool → List Entry → List Entry
cut marks steps = cut_from marks 0 steps

-- the values at marked places, where the first of the list stands at the place k
abbrev pub chosen_from : {X : Type 0} → List Bool → ℕ → List X → List X
chosen_from marks k [] = []
chosen_from marks k (x ∷ xs) = (if is_place_marked marks k then x ∷ [] else []) ++ chosen_from marks (suc k) xs

-- the values at marked places
abbrev pub chosen : {X : Type 0} → List Bool → List X → List X
chosen marks xs = chosen_from marks 0 xs

-- the premises are marked
abbrev pub PremisesMarked : List Bool → Why → Type 0
PremisesMarked marks Base = ⊤
PremisesMarked marks (Chain id i) = is_place_marked marks i ≡ true
PremisesMarked marks (Wait i j) = (is_place_marked marks i ≡ true) × (is_place_marked marks j ≡ true)

-- the premises of each marked entry are marked
abbrev pub IsClosedUnder : List Bool → List Entry → Type 0
IsClosedUnder marks steps = (k : ℕ) (e : Entry) → slice_get steps k ≡ Some e → is_place_marked marks k ≡ true → PremisesMarked marks e.why

-- the marks, and marks at the premises
abbrev pub with_premises : Why → List Bool → List Bool
with_premises Base marks = marks
with_premises (Chain id i) marks = set marks i true
with_premises (Wait i j) marks = set (set marks i true) j true

-- the marks, and marks at the premises of an entry where it is marked itself
abbrev pub with_premises_of : Option Entry → Bool → List Bool → List Bool
with_premises_of None here marks = marks
with_premises_of (Some e) here marks = if here then with_premises e.why marks else marks

-- the marks, and marks at the ancestors of the marked entries below the place k
abbrev pub with_ancestors : List Entry → ℕ → List Bool → List Bool
with_ancestors steps zero marks = marks
with_ancestors steps (suc k) marks = with_ancestors steps k (with_premises_of (slice_get steps k) (is_place_marked marks k) marks)

-- a mark at the last of n places
abbrev pub last_marked : ℕ → List Bool
last_marked n = set (replicate n false) (n - 1) true

-- the last entry of a list and its ancestors
abbrev pub last_with_ancestors : List Entry → List Entry
last_with_ancestors steps = cut (with_ancestors steps (length steps) (last_marked (length steps))) steps

-- an entry stays where the constraint didn't give it and its premises stay
abbrev pub stays : ℕ → List Bool → Why → Bool
stays id marks Base = true
stays id marks (Chain c i) = not (nat_eq c id) && is_place_marked marks i
stays id marks (Wait i j) = is_place_marked marks i && is_place_marked marks j

-- marks at the entries that stay, where the marks of those before them are known
abbrev pub marked_staying : ℕ → List Bool → List Entry → List Bool
marked_staying id marks [] = marks
marked_staying id marks (e ∷ es) = marked_staying id (marks ++ stays id marks e.why ∷ []) es

-- the entries that the constraint didn't give, and that have no ancestor that it gave
abbrev pub dropped : List Entry → ℕ → List Entry
dropped steps id = cut (marked_staying id [] steps) steps
