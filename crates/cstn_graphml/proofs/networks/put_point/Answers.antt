use Rattle.std.proofs.Common.{ap, sym, ◌∙◌, [], ◌∷◌, ◌++◌, Option}
use Rattle.cstn_graphml.specs.declared.drawn_graph.Observation.{Observation as Lent}
use Rattle.cstn_graphml.specs.Networks.{point_of}
use Rattle.cstn_graphml.proofs.HandedPoints.{point_put}
use Rattle.cstn_graphml.proofs.networks.put_point.Goals as goal

pub returns-in_ok-number-in-Some : goal.returns-in_ok-number-in-Some
returns-in_ok-number-in-Some c =
    let before = c.args.builder.now in
    point_put before c.node.new.self c.react.new.self _ c.in-Some.observation c.in_ok-number-in-Some.ensures.appended c.in_ok-number-in-Some.ensures.number c.react.ensures.react
    ∙ ap (λ (o : Option Lent). record before { points = before.points ++ (point_of o ∷ []) }) (sym c.in-Some.is)
