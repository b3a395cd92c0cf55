use Rattle.std.proofs.Common.{◌≡◌, ◌++◌, take}
use Rattle.cstn_follow.specs.Searches.{ids_text}
use Rattle.cstn_follow.proofs.lists.put_ids.Given as goal

abbrev pub invariant-loop-id : goal.invariant-loop-id
invariant-loop-id l = l.text.items ≡ l.initial.text.items ++ ids_text (take l.id-index l.ids)
