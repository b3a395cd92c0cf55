use Rattle.std.proofs.Common.{◌≡◌, ◌∷◌}
use Rattle.std.specs.Prelude.{map, codes}
use Rattle.std.specs.List.{range_with_len}
use Rattle.cstn_gen.specs.Generated.{point_name}
use Rattle.cstn_gen.proofs.generated.names_of.Given as goal

abbrev pub invariant-loop-i : goal.invariant-loop-i
invariant-loop-i l = record {
  names : l.names ≡ codes "Z" ∷ map point_name (range_with_len 0 l.i);
}
