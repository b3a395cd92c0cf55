use Rattle.std.proofs.Common.{ℕ, ◌+◌, subst}
use Rattle.cstn_minset.specs.Chains.{IsFirstKey}
use Rattle.cstn_minset.specs.Pages.{Paged, IsPageOf, numbered_pages}
use Rattle.cstn_minset.proofs.HomeLemmas.{page_of_in}
use Rattle.cstn_minset.proofs.rows.Rows.next.Goals as goal

pub returns : goal.returns
returns c =
    subst (λ (v : Paged). (h : ℕ) → IsPageOf v.pages h c.args.page → IsFirstKey (numbered_pages v) h (c.args.page + 1) c.next.result) c.self.view_is
    (λ h is. c.next.ensures _ h c.args.page c.self.invariant.linked (page_of_in _ c.args.page _ h is))
