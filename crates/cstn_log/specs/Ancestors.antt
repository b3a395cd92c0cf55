-- Ancestors of entries, and what a cut list has, told by them.
use Rattle.std.specs.Prelude.{ℕ, ◌≡◌, ◌⊎◌, ◌<◌, ◌↔◌, Bool, true, List, [], ◌∷◌, length, Some, slice_get}
use Rattle.cstn_rules.specs.declared.entries.Why.{Why}
use Rattle.cstn_rules.specs.declared.entries.Why.TheVariants.{Base, Chain, Wait}
use Rattle.cstn_rules.specs.Derivations.{Entry}
use Rattle.cstn_log.specs.Cuts.{is_place_marked, cut}

-- the place is that of a premise of the rule
abbrev pub IsPremise : ℕ → Why → Type 0
IsPremise i Base = ⊥
IsPremise i (Chain id j) = i ≡ j
IsPremise i (Wait j k) = (i ≡ j) ⊎ (i ≡ k)

-- the entry at i is a premise of the entry at k
pub record IsPremiseOf (steps : List Entry) (i k : ℕ) : Type 0 where
  pub entry : Entry
  pub there : slice_get steps k ≡ Some entry
  pub premise : IsPremise i entry.why

-- each is a premise of the next: the entry at i, those at the places between, in order, and the one at k
abbrev pub LeadsToEntry : List Entry → ℕ → List ℕ → ℕ → Type 0
LeadsToEntry steps i [] k = IsPremiseOf steps i k
LeadsToEntry steps i (j ∷ js) k = IsPremiseOf steps i j × LeadsToEntry steps j js k

-- the entry at k was derived from the one at i, through any number of others
abbrev pub IsAncestor : List Entry → ℕ → ℕ → Type 0
IsAncestor steps i k = (between : List ℕ) × LeadsToEntry steps i between k

-- the entry was given by the constraint of the id
pub record IsGivenBy (steps : List Entry) (id k : ℕ) : Type 0 where
  pub entry : Entry
  pub there : slice_get steps k ≡ Some entry
  pub premise : ℕ
  pub why : entry.why ≡ Chain id premise

-- the constraint of the id gave the entry or one of its ancestors
abbrev pub DependsOn : List Entry → ℕ → ℕ → Type 0
DependsOn steps id k = IsGivenBy steps id k ⊎ ((i : ℕ) × IsAncestor steps i k × IsGivenBy steps id i)

-- the second list has exactly the entries of the first at the places that stay, in order, with their premises at the new places
pub record HasThose (Stays : ℕ → Type 0) (steps short : List Entry) : Type 0 where
  pub marks : List Bool
  pub is : short ≡ cut marks steps
  pub exactly : (k : ℕ) → k < length steps → (is_place_marked marks k ≡ true ↔ Stays k)
