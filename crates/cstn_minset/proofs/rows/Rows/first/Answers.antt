use Rattle.std.proofs.Common.{◌<◌, subst}
use Rattle.cstn_minset.specs.Chains.{IsFirstKey}
use Rattle.cstn_minset.specs.Pages.{Paged, IsPageOf, numbered_pages}
use Rattle.cstn_minset.proofs.rows.Rows.first.Goals as goal

pub returns-clause-first : goal.returns-clause-first
returns-clause-first c = subst (λ (v : Paged). IsFirstKey (numbered_pages v) c.args.head 0 c.first.result) c.self.view_is (c.first.ensures _ c.self.invariant.linked)

pub returns-clause-own : goal.returns-clause-own
returns-clause-own c = subst (λ (v : Paged). c.args.head < v.heads → IsPageOf v.pages c.args.head c.args.head) c.self.view_is (c.self.invariant.own c.args.head)
