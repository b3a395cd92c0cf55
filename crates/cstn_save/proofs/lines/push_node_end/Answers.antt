use Rattle.cstn_save.proofs.DocumentLemmas.{end_put, end_bare}
use Rattle.cstn_save.proofs.lines.push_node_end.Goals as goal

pub returns-then-is_empty : goal.returns-then-is_empty
returns-then-is_empty c = end_bare c.args.inside.now c.args.text.now.items _ _ c.extend_from_slice.result c.is_empty.ensures c.if-is_empty.true c.extend_from_slice.ensures.items

pub returns : goal.returns
returns c = end_put c.args.inside.now c.args.text.now.items _ _ _ _ c.is_empty.ensures c.if-is_empty.false c.in_ok-extend_from_slice.ensures.items c.in_ok-extend_from_slice-2.ensures.items c.in_ok-extend_from_slice-3.ensures.items
