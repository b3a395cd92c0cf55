use Rattle.std.proofs.Common.{◌≡◌, ◌++◌, take, map}
use Rattle.cstn_follow.specs.Questions.{names_text}
use Rattle.cstn_follow.proofs.lists.put_names.Given as goal

abbrev pub invariant-loop-x : goal.invariant-loop-x
invariant-loop-x l = l.text.items ≡ l.initial.text.items ++ names_text l.names (map (λ y. y.0) (take l.x-index l.nodes))
