use Rattle.std.proofs.Common.{Some, sym, subst, ap, ◌∙◌}
use Rattle.cstn_net.specs.Networks.{Network}
use Rattle.cstn_net.specs.Read.{the_network}
use Rattle.cstn_check.specs.Givers.{network_without}
use Rattle.cstn_check.specs.Needs.{IfNo, Stands}
use Rattle.cstn_check.specs.declared.needs.Finding.{Finding}
use Rattle.cstn_check.specs.Search.{narrowed}
use Rattle.cstn_check.proofs.Needed.{idle_known}
use Rattle.cstn_check.proofs.search.narrowed.Goals as goal

pub returns-then-is_idle-clause-narrowed : goal.returns-then-is_idle-clause-narrowed
returns-then-is_idle-clause-narrowed g c =
    let net = the_network c.args.left.net in
    let known = idle_known (g.T.Trial.says c.args.trial.now) net c.args.id c.args.left.last (sym c.is_idle.ensures ∙ c.if-is_idle.true) c.requires.stands in
    ap (λ n. Some n) c.without.ensures.net ∙ sym (ap (λ o. narrowed o c.args.id net) known.0)

pub returns-then-is_idle-clause-stands : goal.returns-then-is_idle-clause-stands
returns-then-is_idle-clause-stands g c =
    let says = g.T.Trial.says c.args.trial.now in
    let net = the_network c.args.left.net in
    let known = idle_known says net c.args.id c.args.left.last (sym c.is_idle.ensures ∙ c.if-is_idle.true) c.requires.stands in
    subst (λ (n : Network). IfNo c.without.result.last (Stands says n)) (sym c.without.ensures.net)
    (subst (λ (f : Finding). IfNo f (Stands says (network_without c.args.id net))) (sym c.without.ensures.last) known.1)
