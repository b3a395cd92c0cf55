use Rattle.std.proofs.Common.{arith, subst}
use Rattle.std.specs.Prelude.{map}
use Rattle.cstn_label.specs.Read.{marks}
use Rattle.cstn_net.specs.Networks.{IsOnObserved, IsLeastUnobserved}
use Rattle.cstn_net.specs.Read.{the_network}
use Rattle.cstn_lift.specs.Labelled.{label_in}
use Rattle.cstn_lift.proofs.LabelLemmas.{label_there, upto_next}
use Rattle.cstn_lift.proofs.scans.first_unobserved.Goals as goal

pub loop-x-preserved : goal.loop-x-preserved
loop-x-preserved c =
    let size = c.requires.one_each in
    let count = c.count-x-end.ensures.count in
    let net = the_network c.args.net.now in
    let labels = map marks c.args.labels.now in
    let is = label_there c.args.labels.now c.index.result c.loop-x.x c.index-labels-index.result (omega arith) c.index.ensures.index c.index-labels-index.is in
    upto_next (λ y. IsOnObserved net (label_in labels y)) c.loop-x.x c.loop-x.invariant
    (subst (λ l. IsOnObserved net l) is c.in_default.ensures)

pub returns-in-Some : goal.returns-in-Some
returns-in-Some c =
    let size = c.requires.one_each in
    let count = c.count-x-end.ensures.count in
    let net = the_network c.args.net.now in
    let labels = map marks c.args.labels.now in
    let is = label_there c.args.labels.now c.index.result c.loop-x.x c.index-labels-index.result (omega arith) c.index.ensures.index c.index-labels-index.is in
    let least = subst (λ l. IsLeastUnobserved net l c.in-Some.prop.index) is c.in-Some.ensures in
    record {
      first = (
        record {
          inside = omega arith;
          here = (c.in-Some.prop.index, least.0);
          before = λ y before names. let o = c.loop-x.invariant y before names.0 names.1.0 in names.1.1 o.0 o.1;
        },
        least,
      );
    }
