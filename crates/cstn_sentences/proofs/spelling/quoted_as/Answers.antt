use Rattle.std.proofs.Common.{sym, ◌∙◌, subst}
use Rattle.cstn_text.specs.Names.{IsName}
use Rattle.cstn_sentences.proofs.SpellingLemmas.{quoted_is_name}
use Rattle.cstn_sentences.proofs.spelling.quoted_as.Goals as goal

pub new-requires : goal.new-requires
new-requires c =
    subst IsName c.as_str.ensures.value (quoted_is_name c.as_str.result.now c.args.word.now (sym c.in_ok-is_quoted_as.ensures ∙ c.if-not-branch.false))
