use Rattle.cstn_save.proofs.JoinLemmas.{five}
use Rattle.cstn_save.proofs.lines.push_edge_tag.Goals as goal

pub returns : goal.returns
returns c = five _ _ _ _ _ _ _ _ _ _ _ c.in_ok-extend_from_slice.ensures.items c.in_ok-push_name.ensures c.in_ok-extend_from_slice-2.ensures.items c.in_ok-push_name-2.ensures c.in_ok-extend_from_slice-3.ensures.items
