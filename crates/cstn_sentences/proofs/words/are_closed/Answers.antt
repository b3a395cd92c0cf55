use Rattle.std.proofs.Common.{sym, ◌∙◌}
use Rattle.cstn_sentences.proofs.UnquotedLines.{unquoted}
use Rattle.cstn_sentences.proofs.words.are_closed.Goals as goal

pub returns-then-not-contains : goal.returns-then-not-contains
returns-then-not-contains c = sym (unquoted c.args.left.now (sym c.contains.ensures.value ∙ c.if-not-contains.true))
