use Rattle.std.proofs.Common.{sym, subst, ap, ◌∙◌}
use Rattle.cstn_net.specs.Networks.{Network, Observes}
use Rattle.cstn_net.specs.Read.{the_network}
use Rattle.cstn_lift.specs.Read.{the_labelled}
use Rattle.cstn_history.specs.Facts.{latest_expected}
use Rattle.cstn_history.proofs.Recorded.{latest_other}
use Rattle.cstn_follow.proofs.lateness.late_most.Goals as goal

pub returns-else-x-eq0-clause-most : goal.returns-else-x-eq0-clause-most
returns-else-x-eq0-clause-most c =
    let m = the_labelled c.args.network.now in
    let x = c.in-Some.x.0 in
    let o = subst (λ (net : Network). Observes net x c.args.p.index) (ap the_network c.base.ensures.base) c.in-Some.ensures.observer in
    sym (ap latest_expected (c.observers_are_found.ensures.found m.base x c.args.p.index c.base.ensures.well_formed.network o)
    ∙ latest_other x c.if-x-eq0.false)

pub returns-in_default-clause-most : goal.returns-in_default-clause-most
returns-in_default-clause-most c =
    let m = the_labelled c.args.network.now in
    sym (ap latest_expected (c.observers_are_found.ensures.none m.base c.args.p.index (λ x o.
    c.in_default.ensures.observer x (subst (λ (net : Network). Observes net x c.args.p.index) (sym (ap the_network c.base.ensures.base)) o))))
