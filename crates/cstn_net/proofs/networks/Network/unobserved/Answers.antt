use Rattle.std.proofs.Common.{subst}
use Rattle.std.specs.Prelude.{MatchOption}
use Rattle.cstn_label.specs.Read.{marks}
use Rattle.cstn_net.specs.Networks.{IsOnObserved, IsLeastUnobserved}
use Rattle.cstn_net.specs.Read.{the_network}
use Rattle.cstn_net.proofs.ObserverLemmas.{unseen_is_unobserved}
use Rattle.cstn_net.proofs.networks.Network.unobserved.Goals as goal

pub returns : goal.returns
returns c =
    let inside = c.self.inside in
    subst (λ v. MatchOption c.unobserved.result (IsOnObserved (the_network v) (marks c.args.label)) (λ p. IsLeastUnobserved (the_network v) (marks c.args.label) p.index)) c.self.view_is
    (unseen_is_unobserved _ inside.observers (marks c.args.label) c.self.invariant.0.observers c.unobserved.result c.unobserved.ensures)
