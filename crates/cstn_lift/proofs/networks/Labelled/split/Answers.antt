use Rattle.std.proofs.Common.{◌≡◌, subst, sym}
use Rattle.cstn_net.specs.Read.{the_network}
use Rattle.cstn_lift.specs.WellFormed.{IsLabelled}
use Rattle.cstn_lift.specs.Lowered.{lowered}
use Rattle.cstn_lift.specs.Strategies.{IsEquivalent}
use Rattle.cstn_lift.specs.Read.{the_labelled}
use Rattle.cstn_lift.proofs.Equivalent.{equivalent}
use Rattle.cstn_lift.proofs.networks.Labelled.split.Goals as goal

pub returns : goal.returns
returns c =
    let kept = c.self.invariant in
    let plain = the_network c.self.inside.plain in
    let whole = subst (λ n. IsEquivalent (the_labelled c.self.inside.rest) n) (sym kept.0) (equivalent (the_labelled c.self.inside.rest) kept.2) in
    record {
      lowered = subst (λ v. plain ≡ lowered (the_labelled v)) c.self.view_is kept.0;
      well_formed = kept.1;
      equivalent = subst (λ v. IsEquivalent (the_labelled v) plain) c.self.view_is whole;
      labels = c.self.view_is;
      labelled = subst (λ v. IsLabelled (the_labelled v)) c.self.view_is kept.2;
    }
