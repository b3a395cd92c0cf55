use Rattle.std.proofs.Common.{◌≡◌, subst}
use Rattle.std.specs.Prelude.{IfOk}
use Rattle.std.proofs.lemmas.Result.{IfOk-weaker}
use Rattle.cstn_follow.specs.Following.{says}
use Rattle.cstn_follow.specs.Hearing.{on_other}
use Rattle.cstn_follow.specs.MarkedRead.{MarkedParts}
use Rattle.cstn_follow.specs.Read.{the_following}
use Rattle.cstn_follow.proofs.Answering.{other_ends}
use Rattle.cstn_follow.proofs.marked.Marked.other.Goals as goal

pub returns-clause-says : goal.returns-clause-says
returns-clause-says c =
    subst (λ (t : MarkedParts). IfOk c.other.result (λ text. on_other (the_following t.now) ≡ says text.items (the_following t.now))) c.self.view_is
    c.other.ensures.says

pub returns-clause-ends : goal.returns-clause-ends
returns-clause-ends c =
    let s = the_following c.self.inside.following in
    IfOk-weaker c.other.result _ _ (λ text is. other_ends s s text.items is) c.other.ensures.says
