use Rattle.std.proofs.Common.{sym}
use Rattle.cstn_markup.proofs.Rests.{name_rest}
use Rattle.cstn_markup.proofs.pieces.start_tag_at.Goals as goal

pub new-attributes-requires-clause-utf8 : goal.new-attributes-requires-clause-utf8
new-attributes-requires-clause-utf8 c = (name_rest c.args.bytes.now (c.in_ok-name.name.now, c.in_ok-name.behind.now) (sym c.in_ok-name.ensures)).keeps c.requires
