use Rattle.std.proofs.Common.{◌≤◌, ◌∷◌, [], Bool, true, false, length, arith, ap, ◌∙◌}
use Rattle.std.specs.Prelude.{if◌then◌else◌}
use Rattle.std.proofs.lemmas.List.{length-append}
use Rattle.cstn_label.specs.declared.nodes.NodeId.{NodeId}
use Rattle.cstn_lift.specs.Read.{the_labelled}
use Rattle.cstn_history.specs.Read.{the_history}
use Rattle.cstn_history.proofs.Points.{left_turn, numbers_turn}
use Rattle.cstn_history.proofs.rests.left_of.Goals as goal

one_more : (b : Bool) (x : NodeId) → length (if b then x ∷ [] else []) ≤ 1
one_more true x = omega arith
one_more false x = omega arith

pub loop-x-preserved : goal.loop-x-preserved
loop-x-preserved c =
    let m = the_labelled c.args.network.now in
    let h = the_history c.args.history.now in
    let x = c.loop-x.x in
    let node : NodeId = record { 0 = x } in
    let points = c.loop-x.points.items in
    let loop = c.loop-x.invariant in
    let few = loop.few in
    let b = c.is_left.result in
    let long = ap length c.in_ok-push_if.ensures ∙ length-append points (if b then node ∷ [] else []) in
    let more = one_more b node in
    record {
      points = left_turn m h points c.push_if.new.points.items node b loop.points c.is_left.ensures c.in_ok-push_if.ensures;
      numbers = numbers_turn m h c.loop-x.numbers.items c.push.new.self.items points x c.len.result c.in_ok-push.ensures.items loop.numbers loop.points
          (let at = c.len.ensures in let items = c.loop-x.points.ok.0 in omega arith);
      few = omega arith;
    }
