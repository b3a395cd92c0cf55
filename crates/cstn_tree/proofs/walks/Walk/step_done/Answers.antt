use Rattle.std.proofs.Common.{Bool, List, Some, ◌+◌, sym, ap, ◌∙◌}
use Rattle.std.specs.Prelude.{if◌then◌else◌, map, reverse}
use Rattle.std.proofs.lemmas.List.{nil_from_length}
use Rattle.cstn_net.specs.Read.{the_network}
use Rattle.cstn_tree.specs.Branches.{the_branch}
use Rattle.cstn_tree.specs.Walks.{first_broken_in}
use Rattle.cstn_tree.specs.declared.branches.Branch.{Branch as ProgramBranch}
use Rattle.cstn_tree.proofs.TreeLemmas.{none_left}
use Rattle.cstn_tree.proofs.walks.Walk.step_done.Goals as goal

pub returns-in-None-clause-step : goal.returns-in-None-clause-step
returns-in-None-clause-step c = λ ls k.
    let none = nil_from_length c.args.self.now.pending.items (sym c.args.self.now.pending.ok.0 ∙ c.in-None.ensures.cases.0) in
    ap (λ (b : Bool). if b then first_broken_in (the_network c.args.net.now) (map the_branch (reverse c.args.self.now.pending.items)) ls (k + 1) else Some k) (sym c.is_complete.ensures ∙ c.if-not-is_complete.false)
    ∙ ap (λ (bs : List ProgramBranch). first_broken_in (the_network c.args.net.now) (map the_branch (reverse bs)) ls (k + 1)) none
    ∙ none_left (the_network c.args.net.now) ls (k + 1)
