use Rattle.std.proofs.Common.{sym, ◌∙◌}
use Rattle.cstn_sentences.specs.SeenDeclared.{the_declared}
use Rattle.cstn_sentences.proofs.TellsLemmas.{declares_nothing}
use Rattle.cstn_sentences.proofs.declarations.declare_text.Goals as goal

pub returns-in_default : goal.returns-in_default
returns-in_default c =
    declares_nothing c.args.n (the_declared c.args.d.now) c.args.text.now c.in_default.ensures.words (sym c.is_of_words.ensures ∙ c.if-not-is_of_words.false)
