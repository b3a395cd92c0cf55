use Rattle.cstn_label.specs.Read.{marks}
use Rattle.cstn_net.specs.Observers.{IsUnseen}
use Rattle.cstn_net.proofs.Lowest.{least_at}
use Rattle.cstn_net.proofs.scans.first_unobserved.Goals as goal

pub returns-in-Some : goal.returns-in-Some
returns-in-Some c =
    least_at (λ q d. IsUnseen c.args.table.now (marks d.label) q) c.args.drafts.now c.loop-draft.draft-index c.draft-item.result c.in-Some.p.index
    c.loop-draft-test.true c.draft-item.is c.in-Some.ensures.0 c.in-Some.ensures.1 c.loop-draft.invariant
