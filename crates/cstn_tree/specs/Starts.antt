-- The constraints that have an end at a time-point.
use Rattle.std.specs.Prelude.{ℕ, ◌≡◌, ◌+◌, ◌<◌, ◌≤◌, Bool, true, false, List, Option, None, length, map, slice_index_or}
use Rattle.std.specs.List.{Contains}
use Rattle.cstn_net.specs.declared.constraints.Constraint.{Constraint}
use Rattle.cstn_net.specs.Networks.{Constraint as TheConstraint}
use Rattle.cstn_net.specs.Links.{IsNextPlace}
use Rattle.cstn_net.specs.Read.{the_constraint}
use Rattle.cstn_tree.specs.declared.starts.End.{End}
use Rattle.cstn_tree.specs.declared.starts.End.TheVariants.{From, To}
use Rattle.cstn_tree.specs.declared.starts.Starts.{Starts}

-- the time-point that is this end of a constraint
abbrev pub end_of : End → Constraint → ℕ
end_of From c = c.from.0
end_of To c = c.to.0

abbrev pub standing : End → List Constraint → List ℕ
standing end cs = map (end_of end) cs

abbrev pub starts : List Constraint → List ℕ
starts cs = standing From cs

-- from the place `low` on, `firsts` has the first place of each time-point, and `nexts` has for each place the next one of the
-- same time-point
pub record AreLinkedFrom (low : ℕ) (xs : List ℕ) (firsts nexts : List (Option ℕ)) : Type 0 where
  pub first : (x : ℕ) → x < length firsts → IsNextPlace x low xs (slice_index_or firsts x None)
  pub next : (k : ℕ) → low ≤ k → k < length xs → IsNextPlace (slice_index_or xs k 0) (k + 1) xs (slice_index_or nexts k None)

-- the tables link the places of the constraints that start at each of n time-points
pub record AreStarts (n : ℕ) (cs : List Constraint) (s : Starts) : Type 0 where
  pub wide : length s.firsts.items ≡ n
  pub long : length s.nexts.items ≡ length cs
  pub linked : AreLinkedFrom 0 (starts cs) s.firsts.items s.nexts.items

-- r is what the test says of the constraint at the place k
abbrev pub TellsAt : (TheConstraint → Bool) → List Constraint → ℕ → Bool → Type 0
TellsAt test cs k r = (c : Constraint) → slice_index_or cs k c ≡ c → r ≡ test (the_constraint c)

-- the constraints that have this end at x pass the test
abbrev pub AllPass : (TheConstraint → Bool) → End → List Constraint → ℕ → Type 0
AllPass test end cs x = (c : Constraint) → Contains cs c → end_of end c ≡ x → test (the_constraint c) ≡ true

-- a constraint that has this end at x fails the test
pub record SomeFails (test : TheConstraint → Bool) (end : End) (cs : List Constraint) (x : ℕ) : Type 0 where
  pub constraint : Constraint
  pub in_list : Contains cs constraint
  pub there : end_of end constraint ≡ x
  pub fails : test (the_constraint constraint) ≡ false
