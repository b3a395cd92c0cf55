use Rattle.std.proofs.Common.{refl}
use Rattle.cstn_element.specs.Elements.{read_by}
use Rattle.cstn_graphml.specs.Kept.{in_kept_root}
use Rattle.cstn_graphml.specs.DrawnGraphSeen.{graph_seen}
use Rattle.cstn_element.specs.declared.errors.DocError.TheVariants.{Shape}
use Rattle.cstn_graphml.proofs.GraphRead.{closed_fails}
use Rattle.cstn_graphml.proofs.root.read_whole_root.Goals as goal

pub returns-then-start-clause-reads : goal.returns-then-start-clause-reads
unfolding read_by
returns-then-start-clause-reads c = λ names l. closed_fails graph_seen in_kept_root (Shape c.args.start.now.at) _ c.args.start.now.at _ names _ _ c.if-start.true refl
