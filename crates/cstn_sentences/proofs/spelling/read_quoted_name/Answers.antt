use Rattle.std.proofs.Common.{◌∙◌, ap}
use Rattle.cstn_text.specs.PrintedNames.{unprinted}
use Rattle.cstn_sentences.specs.Spelling.{quoted_as}
use Rattle.cstn_sentences.proofs.SpellingLemmas.{no_text}
use Rattle.cstn_sentences.proofs.spelling.read_quoted_name.Goals as goal

pub returns-in_default : goal.returns-in_default
returns-in_default c =
    no_text c.in_ok-text.text.items c.args.word.now c.in_default.ensures.succeeds
    ∙ ap (λ t. quoted_as t c.args.word.now) (c.in_ok-text.ensures ∙ ap unprinted c.between_quotes.ensures)
