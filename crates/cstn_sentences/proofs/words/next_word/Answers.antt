use Rattle.std.proofs.Common.{sym, ◌∙◌, ap, length}
use Rattle.cstn_sentences.proofs.WordLemmas.{nothing_left, commented, first_word}
use Rattle.cstn_sentences.proofs.words.next_word.Goals as goal

pub returns-in_default-clause-words : goal.returns-in_default-clause-words
returns-in_default-clause-words c = nothing_left c.args.left.now (ap length (sym c.past_white-left.ensures) ∙ c.in_default.ensures.cases)

pub returns-then-first-eq35-clause-words : goal.returns-then-first-eq35-clause-words
returns-then-first-eq35-clause-words c =
    let is = c.in-Some.ensures.cases in
    commented c.args.left.now c.in-Some.first.now c.in-Some.field-0-1.now (sym c.past_white-left.ensures ∙ is.0) c.if-first-eq35.true

pub returns-clause-words : goal.returns-clause-words
returns-clause-words c =
    let is = c.in-Some.ensures.cases in
    first_word c.args.left.now c.in-Some.first.now c.in-Some.field-0-1.now c.past_white-left.result.now c.word_len-n.result c.past_white-left.ensures is.0
    c.if-first-eq35.false c.word_len-n.ensures.value c.word_len-n.ensures.within
