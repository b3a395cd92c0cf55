-- Refutations as data.
use Rattle.std.specs.Prelude.{ℕ, ◌≤◌, ◌<◌, ◌^◌, List, length, map, pos, ◌≤ℤ◌}
use Rattle.std.specs.List.{All}
use Rattle.cstn_net.specs.Limits.{most_load}
use Rattle.cstn_rules.specs.declared.entries.Entry.{Entry}
use Rattle.cstn_rules.specs.Derivations.{Entry as TheEntry}
use Rattle.cstn_rules.specs.Read.{the_entry}
use Rattle.cstn_refute.specs.Limits.{most_least}

-- the load that a check had, and the steps
pub record RefutationParts : Type 0 where
  pub load : ℕ
  pub steps : List Entry

-- a step's least value is from 0 to 1,000,001
pub record IsStep (e : Entry) : Type 0 where
  pub low : pos 0 ≤ℤ e.bound.least
  pub high : e.bound.least ≤ℤ pos most_least

-- one step or more, and fewer than 2^32, each with a least value in range
pub record AreSteps (steps : List Entry) : Type 0 where
  pub some : 1 ≤ length steps
  pub few : length steps < 2 ^ 32
  pub each : All IsStep steps

-- the load and the number of steps are in the ranges of a text
pub record FitsText (r : RefutationParts) : Type 0 where
  pub load_low : 1 ≤ r.load
  pub load_high : r.load ≤ most_load
  pub few : length r.steps ≤ most_load

-- the steps as bounds and rules
abbrev pub the_steps : RefutationParts → List TheEntry
the_steps r = map the_entry r.steps
