use Rattle.std.proofs.Common.{inr, [], ◌∷◌, ◌++◌, codes, sym, ◌∙◌, append_assoc}
use Rattle.cstn_label.specs.Letters.{letter_of}
use Rattle.cstn_lines.specs.LiveLines.{printed_truth}
use Rattle.cstn_run.proofs.sessions.RunSession.see.Goals as goal

pub returns-clause-lines : goal.returns-clause-lines
returns-clause-lines c =
    let old = c.args.text.now in
    let front = codes "seen " ++ letter_of c.args.prop.index ∷ 32 ∷ printed_truth c.args.value in
    inr (old ++ front, c.put_outcome.ensures ∙ sym (append_assoc old front (10 ∷ [])))
