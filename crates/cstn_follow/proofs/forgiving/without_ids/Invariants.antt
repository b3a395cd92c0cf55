use Rattle.std.proofs.Common.{◌≡◌, drop}
use Rattle.cstn_net.specs.Read.{the_network}
use Rattle.cstn_check.specs.Givers.{with_some}
use Rattle.cstn_follow.proofs.Forgiven.{isnt_of}
use Rattle.cstn_follow.proofs.forgiving.without_ids.Given as goal

abbrev pub invariant-loop-id : goal.invariant-loop-id
invariant-loop-id l = with_some (the_network l.net) (isnt_of l.ids) ≡ with_some (the_network l.base) (isnt_of (drop l.id-index l.ids))
