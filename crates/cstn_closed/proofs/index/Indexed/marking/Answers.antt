use Rattle.std.proofs.Common.{◌∙◌, ap, map}
use Rattle.cstn_label.specs.Read.{the_bound}
use Rattle.cstn_closed.specs.Closed.{ClosedParts, the_listed_bounds}
use Rattle.cstn_closed.specs.Marking.{items, marking}
use Rattle.cstn_closed.proofs.MarkingLemmas.{its_list}
use Rattle.cstn_closed.proofs.index.Indexed.marking.Goals as goal

pub returns : goal.returns
returns c = record {
  marking = c.as_slice.ensures.value ∙ ap items c.index.ensures
      ∙ its_list (map the_bound c.self.inside.closed.bounds) c.self.inside.marking.lists.items c.args.p.index c.index.result.now c.self.invariant.marking c.args.p.in_range
      ∙ ap (λ (s : ClosedParts). marking c.args.p.index (the_listed_bounds s)) c.self.view_is;
}
