use Rattle.std.proofs.Common.{arith}
use Rattle.std.proofs.lemmas.Bool.{eqb-true, eq-eqb}
use Rattle.cstn_label.proofs.WordLemmas.{inside_zero, zero_inside}
use Rattle.cstn_label.proofs.words.is_inside.Goals as goal

pub returns : goal.returns
returns c = (
  λ t. zero_inside c.args.a c.args.b (omega arith) (omega arith) (eqb-true _ 0 t),
  λ h. eq-eqb _ 0 (inside_zero c.args.a c.args.b (omega arith) (omega arith) h),
)
