use Rattle.std.proofs.Common.{◌≡◌, length}
use Rattle.cstn_lines.specs.FollowLines.{names_read}
use Rattle.cstn_lines.proofs.FollowLemmas.{after_names}
use Rattle.cstn_lines.proofs.follow.read_names.Given as goal

abbrev pub invariant-loop-name : goal.invariant-loop-name
invariant-loop-name l = after_names l.names.items (names_read l.left) ≡ names_read l.bytes

abbrev pub decreases-loop-name : goal.decreases-loop-name
decreases-loop-name l = length l.left
