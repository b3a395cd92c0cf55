use Rattle.std.proofs.Common.{length, arith}
use Rattle.cstn_markup.proofs.Numbers.{eight_digits}
use Rattle.cstn_markup.proofs.references.scalar_of.Goals as goal

pub overflow_cast-n : goal.overflow_cast-n
overflow_cast-n c = omega (arith, eight_digits c.args.radix (length c.args.digits.now) c.in_ok-n.n c.requires.two c.requires.small c.if-digits-gt8.false c.in_ok-n.ensures.below)
