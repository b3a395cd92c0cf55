use Rattle.cstn_save.proofs.JoinLemmas.{three}
use Rattle.cstn_save.proofs.lines.push_head.Goals as goal

pub returns : goal.returns
returns c = three _ _ _ _ _ _ _ c.in_ok-extend_from_slice.ensures.items c.in_ok-push_number.ensures c.in_ok-extend_from_slice-2.ensures.items
