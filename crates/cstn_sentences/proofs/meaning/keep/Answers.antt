use Rattle.std.proofs.Common.{List, map, ap, sym, ◌∙◌}
use Rattle.std.proofs.lemmas.List.{take-map}
use Rattle.cstn_graphml.specs.DrawnGraph.{DrawnConstraint}
use Rattle.cstn_graphml.specs.DrawnGraphSeen.{drawn_seen}
use Rattle.cstn_sentences.specs.SeenMeaning.{the_meaning}
use Rattle.cstn_sentences.proofs.meaning.keep.Goals as goal

pub returns : goal.returns
returns c =
    let m = c.args.m.now in
    ap (λ (cs : List DrawnConstraint). record (the_meaning m) { constraints = cs })
    (ap (map drawn_seen) c.truncate.ensures.items ∙ sym (take-map drawn_seen 16385 m.constraints.items))
