use Rattle.std.proofs.Common.{sym, subst}
use Rattle.cstn_label.specs.Read.{the_bound}
use Rattle.cstn_rules.specs.Closed.{IsCovered}
use Rattle.cstn_closed.specs.Closed.{ClosedParts, the_listed_bounds}
use Rattle.cstn_closed.proofs.index.Indexed.covers_near.Goals as goal

pub returns : goal.returns
returns c =
    let r = the_bound c.args.r.now in
    let kept = c.self.invariant.kept r in
    record {
      covers = (
        (λ yes. subst (λ (s : ClosedParts). IsCovered (the_listed_bounds s) r) c.self.view_is (kept.0 (c.covers.ensures.covers.0 yes))),
        (λ covered. c.covers.ensures.covers.1 (kept.1 (subst (λ (s : ClosedParts). IsCovered (the_listed_bounds s) r) (sym c.self.view_is) covered))),
      );
    }
