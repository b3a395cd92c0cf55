use Rattle.std.proofs.Common.{arith}
use Rattle.std.proofs.lemmas.Bool.{eqb-true, eq-eqb}
use Rattle.std.specs.Int.{bit_not}
use Rattle.std.proofs.Common.{bit_and, w64}
use Rattle.cstn_label.proofs.WordLemmas.{inside_zero, zero_inside, or_zero_left, or_zero_right, zeros_or}
use Rattle.cstn_label.proofs.words.are_inside.Goals as goal

pub returns : goal.returns
returns g =
    let x = bit_and g.args.a (bit_not w64 g.args.b) in
    let y = bit_and g.args.c (bit_not w64 g.args.d) in (
      λ t.
          let e = eqb-true _ 0 t in (
            zero_inside g.args.a g.args.b (omega arith) (omega arith) (or_zero_left x y e),
            zero_inside g.args.c g.args.d (omega arith) (omega arith) (or_zero_right x y e),
          ),
      λ h. eq-eqb _ 0 (zeros_or x y
          (inside_zero g.args.a g.args.b (omega arith) (omega arith) h.0)
          (inside_zero g.args.c g.args.d (omega arith) (omega arith) h.1)),
    )
