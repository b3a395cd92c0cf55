use Rattle.std.proofs.Common.{rules, ap, sym, ◌∙◌}
use Rattle.cstn_net.specs.Read.{the_network}
use Rattle.cstn_change.specs.Changes.{refusal}
use Rattle.cstn_change.specs.Read.{the_change}
use Rattle.cstn_change.specs.declared.changes.Change.{Change as DeclaredChange}
use Rattle.cstn_change.proofs.refusals.refusal.Goals as goal

pub returns-in-Add-clause-refusal : goal.returns-in-Add-clause-refusal
returns-in-Add-clause-refusal c = λ fresh.
    let at = c.add_refusal.ensures.refusal fresh c.in-Add.from.0 c.in-Add.to.0 in search (rules, at, c.in-Add.is)

pub returns-in-Remove-clause-refusal : goal.returns-in-Remove-clause-refusal
returns-in-Remove-clause-refusal c = λ fresh.
    c.remove_refusal.ensures.refusal c.args.room fresh
    ∙ ap (λ (change : DeclaredChange). refusal c.args.room (record { net = the_network c.args.net.now; fresh = fresh; edits = c.args.edits }) (the_change change)) (sym c.in-Remove.is)

pub returns-in-Revalue-clause-refusal : goal.returns-in-Revalue-clause-refusal
returns-in-Revalue-clause-refusal c = λ fresh.
    let at = c.revalue_refusal.ensures.refusal c.args.room fresh in search (rules, at, c.in-Revalue.is)
