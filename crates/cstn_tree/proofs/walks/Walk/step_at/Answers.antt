use Rattle.std.proofs.Common.{ℕ, List, ◌<◌, sym, subst}
use Rattle.std.specs.List.{All}
use Rattle.cstn_net.specs.Networks.{count}
use Rattle.cstn_net.specs.Read.{the_network}
use Rattle.cstn_outline.proofs.TreeLemmas.{all_numbers}
use Rattle.cstn_tree.proofs.walks.Walk.step_at.Goals as goal

pub place-requires-clause-inside : goal.place-requires-clause-inside
place-requires-clause-inside c =
    all_numbers (count (the_network c.args.net.now)) c.as_slice.result.now
    (subst (λ (xs : List ℕ). All (λ x. x < count (the_network c.args.net.now)) xs) (sym c.as_slice.ensures.nodes) c.requires.inside)
