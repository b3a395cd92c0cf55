use Rattle.std.proofs.Common.{arith, sym}
use Rattle.std.specs.Prelude.{map}
use Rattle.std.specs.Option.{option_map}
use Rattle.cstn_label.specs.Read.{marks}
use Rattle.cstn_net.specs.Read.{the_network}
use Rattle.cstn_lift.specs.Labelled.{label_in}
use Rattle.cstn_lift.specs.Faults.{ObservesMark}
use Rattle.cstn_lift.proofs.LabelLemmas.{label_there, upto_next}
use Rattle.cstn_lift.proofs.CompletionLemmas.{seen_by, unseen_by}
use Rattle.cstn_lift.proofs.scans.first_in_circle.Goals as goal

pub loop-x-preserved : goal.loop-x-preserved
loop-x-preserved c =
    let size = c.requires.one_each in
    let count = c.count-x-end.ensures.count in
    let net = the_network c.args.net.now in
    let labels = map marks c.args.labels.now in
    let is = label_there c.args.labels.now c.index.result c.loop-x.x c.index-labels-index.result (omega arith) c.index.ensures.index c.index-labels-index.is in
    upto_next (λ y. ObservesMark net (label_in labels y) y → ⊥) c.loop-x.x c.loop-x.invariant
    (unseen_by net (marks c.index-labels-index.result) (label_in labels c.loop-x.x) (option_map (λ p. p.index) c.observes.result) c.loop-x.x c.observes.ensures.observes is
    (sym c.if-is_observed_by.ensures))

pub returns-then-is_observed_by : goal.returns-then-is_observed_by
returns-then-is_observed_by c =
    let size = c.requires.one_each in
    let count = c.count-x-end.ensures.count in
    let net = the_network c.args.net.now in
    let labels = map marks c.args.labels.now in
    let is = label_there c.args.labels.now c.index.result c.loop-x.x c.index-labels-index.result (omega arith) c.index.ensures.index c.index-labels-index.is in
    record {
      first = record {
        inside = omega arith;
        here = seen_by net (marks c.index-labels-index.result) (label_in labels c.loop-x.x) (option_map (λ p. p.index) c.observes.result) c.loop-x.x c.observes.ensures.observes is
            (sym c.if-is_observed_by.ensures);
        before = c.loop-x.invariant;
      };
    }

pub returns : goal.returns
returns c =
    let count = c.count-x-end.ensures.count in
    record { first = λ x inside. c.loop-x.invariant x (omega arith) }
