-- Names of the time-points of a network.
use Rattle.std.specs.Prelude.{◌≡◌, ℕ, List, length, Some, slice_get, codes}
use Rattle.cstn_net.specs.Networks.{Network, count}
use Rattle.cstn_text.specs.Names.{AreNames}

-- one name for each time-point, all different, and the first is `Z`
pub record AreNamesOf (net : Network) (names : List (List ℕ)) : Type 0 where
  pub named : AreNames names
  pub each : length names ≡ count net
  pub origin : slice_get names 0 ≡ Some (codes "Z")
