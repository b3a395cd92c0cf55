use Rattle.std.proofs.Common.{subst}
use Rattle.cstn_minset.specs.Sets.{Places, IsEarliestOfKind, IsMarking, entries_of}
use Rattle.cstn_minset.proofs.PassLemmas.{earliest_first}
use Rattle.cstn_minset.proofs.min_set.MinSet.marked_from.Goals as goal

pub returns : goal.returns
returns c =
    let inside = c.self.inside in
    record {
      first = subst (λ (v : Places). IsEarliestOfKind v.table (IsMarking c.args.p.index) c.args.birth c.earliest.result) c.self.view_is
          (earliest_first inside.births inside.rows inside.nodes (entries_of inside.births inside.rows) (IsMarking c.args.p.index) c.args.birth c.self.invariant c.earliest.result c.earliest.ensures);
    }
