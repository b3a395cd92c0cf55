use Rattle.std.proofs.Common.{◌∷◌, ◌++◌}
use Rattle.std.specs.Prelude.{codes}
use Rattle.cstn_label.specs.Letters.{letter_of}
use Rattle.cstn_save.specs.Canonical.{reaction_data}
use Rattle.cstn_save.proofs.JoinLemmas.{around, two}
use Rattle.cstn_save.proofs.lines.push_observed.Goals as goal

pub returns : goal.returns
returns c =
    let letter = letter_of c.args.observation.prop.index in
    two c.args.text.now.items (codes "<data key=\"Obs\">" ++ letter ∷ codes "</data>") (reaction_data c.args.observation.reaction) _ _
    (around c.args.text.now.items (codes "<data key=\"Obs\">") (codes "</data>") _ _ _ letter
    c.in_ok-extend_from_slice.ensures.items (rw c.letter.ensures.letter at c.in_ok-push.ensures.items) c.in_ok-extend_from_slice-2.ensures.items) c.in_ok-push_reaction.ensures
