use Rattle.std.proofs.Common.{ap, ◌∙◌}
use Rattle.std.specs.Prelude.{is_some, List, Option, ℕ}
use Rattle.std.specs.List.{list_all}
use Rattle.cstn_net.specs.Networks.{count}
use Rattle.cstn_net.specs.Read.{the_network}
use Rattle.cstn_tree.proofs.BranchLemmas.{all_some}
use Rattle.cstn_tree.proofs.branches.Branch.is_complete.Goals as goal

pub returns : goal.returns
returns c =
    c.are_named.ensures ∙ ap (λ (l : List (Option ℕ)). list_all is_some l) c.deref.ensures.value
    ∙ all_some c.args.self.now.moments.items (count (the_network c.args.net.now)) c.requires.branch.wide
