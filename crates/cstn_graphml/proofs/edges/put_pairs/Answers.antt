use Rattle.std.proofs.Common.{ap, ◌∙◌, Ok}
use Rattle.cstn_element.specs.PairsLeft.{pairs_left}
use Rattle.cstn_element.specs.TextsSeen.{pair_seen}
use Rattle.cstn_graphml.specs.DrawnGraphSeen.{graph_seen}
use Rattle.cstn_graphml.specs.Judged.{with_pairs}
use Rattle.cstn_graphml.specs.Kept.{kept, kept_by}
use Rattle.cstn_graphml.proofs.KeptRead.{seen_kept, pair_step}
use Rattle.cstn_graphml.proofs.edges.put_pairs.Goals as goal

pub loop-pair-preserved : goal.loop-pair-preserved
loop-pair-preserved c =
    c.loop-pair.invariant
    ∙ pair_step c.args.at c.args.from c.args.to (pair_seen c.in-Some.pair) (pairs_left c.next_pair.new.self) (pairs_left c.loop-pair.pairs) (graph_seen c.loop-pair.graph) c.put_pair.new.graph
    c.in-Some.ensures.taken c.in_ok-put_pair.ensures

pub returns : goal.returns
unfolding with_pairs
returns c =
    c.loop-pair.invariant
    ∙ ap (λ ps. kept_by kept (with_pairs c.args.at c.args.from c.args.to ps (graph_seen c.loop-pair.graph))) c.in_default.ensures.taken.0
    ∙ ap (λ g. Ok g) (seen_kept c.loop-pair.graph)
