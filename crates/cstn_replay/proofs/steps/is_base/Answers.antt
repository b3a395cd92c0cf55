use Rattle.std.proofs.Common.{◌<◌, ap, sym, subst, ◌∙◌}
use Rattle.cstn_label.specs.Read.{the_bound}
use Rattle.cstn_replay.proofs.SameLemmas.{same_bounds}
use Rattle.cstn_replay.proofs.steps.is_base.Goals as goal

pub returns-then-bound-count : goal.returns-then-bound-count
returns-then-bound-count c =
    let inside = c.if-bound-count.true in
    record {
      base = (
        λ t. record { node = subst (λ n. c.args.bound.node.0 < n) c.count.ensures.count inside; gives = sym (ap the_bound (c.are_same.ensures.same.0 t)) ∙ c.base.ensures.base },
        λ is. c.are_same.ensures.same.1 (same_bounds c.labels_are_their_marks.ensures.equal c.base.result c.args.bound (c.base.ensures.base ∙ sym is.gives)),
      );
    }
