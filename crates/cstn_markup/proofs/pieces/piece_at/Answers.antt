use Rattle.std.proofs.Common.{sym, refl}
use Rattle.std.specs.Prelude.{codes}
use Rattle.cstn_markup.proofs.Rests.{past_rest}
use Rattle.cstn_markup.proofs.pieces.piece_at.Goals as goal

pub start_tag_at-requires : goal.start_tag_at-requires
start_tag_at-requires c = (past_rest (codes "<") c.args.bytes.now c.in-Some-past-2.inside.now refl (sym c.in-Some-past-2.ensures.value)).keeps c.requires
