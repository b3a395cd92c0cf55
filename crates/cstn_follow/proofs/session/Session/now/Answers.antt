use Rattle.std.proofs.Common.{sym, subst, ◌∙◌}
use Rattle.cstn_lift.specs.Read.{the_labelled}
use Rattle.cstn_history.specs.Read.{HistoryParts, IsKeptFor}
use Rattle.cstn_follow.proofs.session.Session.now.Goals as goal

pub record-requires : goal.record-requires
record-requires c =
    let s = c.args.self.now in
    let later = subst (λ (h : HistoryParts). IsKeptFor (the_labelled s.network) h) (sym (c.in_ok-later.ensures.equal ∙ c.history.ensures.history))
    c.history.ensures.session.execution.kept in
    record { kept = c.pass.ensures.kept (the_labelled s.network) later }
