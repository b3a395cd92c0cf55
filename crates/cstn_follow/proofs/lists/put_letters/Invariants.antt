use Rattle.std.proofs.Common.{◌≡◌, ◌++◌, take, map}
use Rattle.cstn_label.specs.Letters.{letter_of}
use Rattle.cstn_follow.proofs.lists.put_letters.Given as goal

abbrev pub invariant-loop-p : goal.invariant-loop-p
invariant-loop-p l = l.text.items ≡ l.initial.text.items ++ map letter_of (map (λ q. q.index) (take l.p-index l.props))
