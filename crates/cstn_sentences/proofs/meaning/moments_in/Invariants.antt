use Rattle.std.proofs.Common.{◌≡◌, ◌++◌, length}
use Rattle.std.specs.Prelude.{Ok}
use Rattle.cstn_sentences.specs.Results.{◌>>?◌}
use Rattle.cstn_sentences.specs.Meaning.{moments_in}
use Rattle.cstn_sentences.specs.SeenDeclared.{the_declared}
use Rattle.cstn_sentences.proofs.meaning.moments_in.Given as goal

abbrev pub invariant-loop-reference : goal.invariant-loop-reference
invariant-loop-reference l =
    moments_in l.fn.n (the_declared l.fn.d) l.fn.since ≡ moments_in l.fn.n (the_declared l.fn.d) l.left >>? (λ ms. Ok (l.moments.items ++ ms))

abbrev pub decreases-loop-reference : goal.decreases-loop-reference
decreases-loop-reference l = length l.left
