use Rattle.std.proofs.Common.{◌≡◌, ◌++◌, ◌≤◌, length, take, []}
use Rattle.cstn_sentences.specs.Declarations.{are_new_literals}
use Rattle.cstn_sentences.proofs.declarations.are_new_literals.Given as goal

abbrev pub invariant-loop-literal : goal.invariant-loop-literal
invariant-loop-literal l =
    (are_new_literals l.fn.n [] l.fn.label ≡ are_new_literals l.fn.n (take l.seen l.fn.label) l.left) × (l.fn.label ≡ take l.seen l.fn.label ++ l.left) × (l.seen ≤ length l.fn.label)

abbrev pub decreases-loop-literal : goal.decreases-loop-literal
decreases-loop-literal l = length l.left
