use Rattle.std.proofs.Common.{sym, subst, ◌∙◌}
use Rattle.cstn_history.specs.Read.{the_history, IsKeptFor}
use Rattle.cstn_history.specs.contracts.histories.History.{the_view}
use Rattle.cstn_history.proofs.Recorded.{kept_now, now_passes}
use Rattle.cstn_history.proofs.histories.History.pass.Goals as goal

pub returns-clause-kept : goal.returns-clause-kept
returns-clause-kept c = λ m kept.
    let q = the_view c.self.inside in
    let was = subst (IsKeptFor m) (sym c.self.view_is) kept in
    kept_now m q was c.args.moment
    (now_passes (the_history q) c.args.moment c.if-moment-self.false (sym c.is_beyond.ensures ∙ c.if-is_beyond.false))
