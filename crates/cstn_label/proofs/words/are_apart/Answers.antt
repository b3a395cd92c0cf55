use Rattle.std.proofs.lemmas.Bool.{eqb-true, eq-eqb}
use Rattle.cstn_label.proofs.WordLemmas.{apart_zero, zero_apart}
use Rattle.cstn_label.proofs.words.are_apart.Goals as goal

pub returns : goal.returns
returns c = (λ t. zero_apart c.args.a c.args.b (eqb-true _ 0 t), λ h. eq-eqb _ 0 (apart_zero c.args.a c.args.b h))
