use Rattle.std.proofs.Common.{◌≡◌, length, arith, ap, ◌∙◌, [], ◌∷◌, ◌++◌}
use Rattle.std.proofs.lemmas.List.{length-map}
use Rattle.cstn_net.specs.Drafts.{BuilderParts}
use Rattle.cstn_graphml.specs.DrawnGraphSeen.{observed_seen}
use Rattle.cstn_graphml.specs.Networks.{point_of}
use Rattle.cstn_graphml.proofs.Built.{points_leave_drafts, points_count, among_seen}
use Rattle.cstn_graphml.proofs.networks.builder_of.Goals as goal

pub put_constraints-requires-clause-room : goal.put_constraints-requires-clause-room
put_constraints-requires-clause-room c =
    let put = c.in_ok-put_points.ensures in
    let none = ap (λ (b : BuilderParts). b.drafts) put ∙ points_leave_drafts c.as_slice.result.now c.put_point.new.builder ∙ ap (λ (b : BuilderParts). b.drafts) c.in_ok-put_point.ensures ∙ ap (λ (b : BuilderParts). b.drafts) c.new-builder.ensures.new in
    omega (arith, ap length none, ap length c.as_slice-2.ensures.value, c.args.graph.now.constraints.few)

pub put_constraints-requires-clause-among : goal.put_constraints-requires-clause-among
put_constraints-requires-clause-among c =
    let count = points_count c.as_slice.result.now c.put_point.new.builder c.put_points.new.builder c.in_ok-put_points.ensures in
    let one = ap (λ (b : BuilderParts). length b.points) c.in_ok-put_point.ensures ∙ ap (λ (b : BuilderParts). length (b.points ++ (point_of c.match-graph.origin ∷ []))) c.new-builder.ensures.new in
    let same : length c.put_points.new.builder.points ≡ length c.args.graph.now.names = omega (arith, count, one, ap length c.as_slice.ensures.value, c.requires.each, length-map c.args.graph.now.observes.items observed_seen) in
    among_seen (length c.args.graph.now.names) (length c.put_points.new.builder.points) c.args.graph.now.constraints.list.items c.as_slice-2.result.now c.as_slice-2.ensures.value same c.requires.among
