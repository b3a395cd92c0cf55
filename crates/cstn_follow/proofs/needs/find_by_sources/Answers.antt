use Rattle.std.proofs.Common.{◌≡◌, subst}
use Rattle.cstn_net.specs.Read.{the_network}
use Rattle.cstn_check.specs.Needs.{said, IfNo, Stands}
use Rattle.cstn_check.specs.declared.needs.Finding.{Finding}
use Rattle.cstn_follow.specs.Needs.{HasSources}
use Rattle.cstn_follow.proofs.Needed.{settled}
use Rattle.cstn_follow.proofs.needs.find_by_sources.Goals as goal

pub returns-in_ok-needed-in-No-clause-needed : goal.returns-in_ok-needed-in-No-clause-needed
returns-in_ok-needed-in-No-clause-needed c =
    let same : c.deref.result.now ≡ c.in-No.numbers.items = cc in
    settled c.args.cap.entries (the_network c.args.net) c.args.sources.now c.in-No.numbers.items c.in_ok-needed-in-No.needed.items
    (subst (λ (f : Finding). IfNo f (Stands (said c.args.cap.entries) (the_network c.args.net))) c.in-No.is c.in_ok-find.ensures.stands)
    (subst (HasSources c.args.sources.now c.in_ok-needed-in-No.needed.items) same c.in_ok-needed-in-No.ensures)
