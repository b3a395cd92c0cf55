use Rattle.std.proofs.Common.{sym, ◌∙◌}
use Rattle.cstn_text.proofs.NumberLemmas.{numeral_utf8, parsed}
use Rattle.cstn_text.proofs.numbers.read_number.Goals as goal

pub returns-in_default : goal.returns-in_default
returns-in_default c = absurd (c.in_default.ensures.cases.0 (numeral_utf8 c.args.bytes.now (sym c.if-not-is_numeral.ensures)))

pub returns : goal.returns
returns c = record { read = c.ok.ensures.value ∙ rw (c.in-Ok.ensures.cases.0) at (parsed c.in-Ok.text.now c.parse.result c.parse.ensures.value.0 (rw (c.in-Ok.ensures.cases.0) (sym c.if-not-is_numeral.ensures))) }
