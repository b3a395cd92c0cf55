use Rattle.cstn_save.proofs.DocumentLemmas.{label_put, label_bare}
use Rattle.cstn_save.proofs.lines.push_label_data.Goals as goal

pub returns-then-is_empty : goal.returns-then-is_empty
returns-then-is_empty c = label_bare c.args.literals.now c.args.text.now.items _ c.is_empty.ensures c.if-is_empty.true

pub returns : goal.returns
returns c = label_put c.args.literals.now c.args.text.now.items _ _ _ _ c.is_empty.ensures c.if-is_empty.false c.in_ok-extend_from_slice.ensures.items c.in_ok-extend_from_slice-2.ensures.items c.in_ok-extend_from_slice-3.ensures.items
