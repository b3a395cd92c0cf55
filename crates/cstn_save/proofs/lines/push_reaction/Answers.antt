use Rattle.std.specs.Prelude.{codes}
use Rattle.cstn_text.specs.Numbers.{printed_number}
use Rattle.cstn_save.proofs.JoinLemmas.{three}
use Rattle.cstn_save.proofs.DocumentLemmas.{reaction_put}
use Rattle.cstn_save.proofs.lines.push_reaction.Goals as goal

pub returns : goal.returns
returns c =
    reaction_put c.args.ticks c.args.text.now.items _ c.if-ticks-eq1.false
    (three c.args.text.now.items (codes "<data key=\"Reaction\">") (printed_number c.args.ticks) (codes "</data>") _ _ _
    c.in_ok-extend_from_slice.ensures.items c.in_ok-push_number.ensures c.in_ok-extend_from_slice-2.ensures.items)
