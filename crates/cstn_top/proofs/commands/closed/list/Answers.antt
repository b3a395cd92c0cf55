use Rattle.std.proofs.Common.{sym, ap, subst, List}
use Rattle.std.specs.List.{All}
use Rattle.cstn_label.specs.declared.bounds.Bound.{Bound}
use Rattle.cstn_net.specs.Read.{the_network}
use Rattle.cstn_closed.specs.Closed.{ClosedParts}
use Rattle.cstn_closed.specs.Written.{IsNamedBound}
use Rattle.cstn_top.proofs.Listing.{all_named}
use Rattle.cstn_top.proofs.commands.closed.list.Goals as goal

pub print-requires : goal.print-requires
print-requires c = record {
  named = subst (λ (bs : List Bound). All (IsNamedBound c.args.names.now) bs) (sym (ap (λ (x : ClosedParts). x.bounds) c.in_ok-closed.ensures.of))
      (all_named c.args.names.now (the_network c.args.check.net) c.into_plan-plan.result.bounds c.requires.well_formed c.requires.named (c.live_bounds_are_in_range.ensures.ranged (the_network c.args.check.net) c.requires.well_formed) c.into_plan-plan.ensures.live);
}
