use Rattle.std.proofs.Common.{sym, ◌∙◌, ap}
use Rattle.std.specs.Prelude.{bytes_eq}
use Rattle.cstn_sentences.specs.Spelling.{needs_quotes, quoted}
use Rattle.cstn_sentences.proofs.SpellingLemmas.{quoted_by_word}
use Rattle.cstn_sentences.proofs.spelling.is_quoted_as.Goals as goal

pub returns : goal.returns
returns c =
    let needs = ap needs_quotes (sym c.as_bytes.ensures.value) ∙ sym c.needs_quotes.ensures ∙ c.if-not-needs_quotes.false in
    let spelled = c.as_slice.ensures.value ∙ c.in_ok-spelled.ensures ∙ ap quoted c.as_bytes-2.ensures.value in
    c.eq.ensures ∙ ap (λ xs. bytes_eq xs c.args.word.now) spelled
    ∙ quoted_by_word c.args.name.now c.args.word.now c.utf8.name (sym c.is_short.ensures ∙ c.if-not-is_short.false) needs
