-- Lists of bounds with the load of the check that gave them.
use Rattle.std.specs.Prelude.{ℕ, ◌≡◌, List, map, Vec}
use Rattle.std.specs.declared.alloc.Global.{Global}
use Rattle.cstn_label.specs.declared.bounds.Bound.{Bound}
use Rattle.cstn_label.specs.Bounds.{Bound as TheBound}
use Rattle.cstn_label.specs.Read.{the_bound}
use Rattle.cstn_closed.specs.Marking.{items, markings}
use Rattle.cstn_closed.specs.Minimal.{AreKept, AreFresh}

-- a load, and bounds at places from 0
pub record ClosedParts : Type 0 where
  pub load : ℕ
  pub bounds : List Bound

-- the bounds that the list stands for
abbrev pub the_listed_bounds : ClosedParts → List TheBound
the_listed_bounds c = map the_bound c.bounds

-- the bounds that no other dominates, the places of those that no earlier one dominates, and the places by marked proposition
-- are those of the list
pub record IsIndexed (bounds : List Bound) (minimal : List (Vec Bound Global)) (places : List ℕ) (lists : List (Vec ℕ Global)) : Type 0 where
  pub kept : AreKept (map the_bound bounds) minimal
  pub fresh : AreFresh (map the_bound bounds) places
  pub marking : map items lists ≡ markings (map the_bound bounds)
