use Rattle.std.proofs.Common.{List, not}
use Rattle.std.specs.Prelude.{◌==◌}
use Rattle.std.specs.List.{filter}
use Rattle.cstn_net.specs.Networks.{Constraint as TheConstraint}
use Rattle.cstn_change.proofs.PlanLemmas.{constraint_taken, copy_edited}
use Rattle.cstn_change.proofs.plans.without_constraint.Goals as goal

pub returns : goal.returns
returns c = record {
  edited =
      let cs = λ (l : List TheConstraint). filter (λ d. not (d.id == c.args.id)) l in
      let taken = constraint_taken c.in_ok-base.base c.take_out.new.self c.args.id c.take_out.result
      c.take_out.ensures.none c.take_out.ensures.same c.take_out.ensures.gone in
      copy_edited c.args.net.now c.in_ok-base.base c.take_out.new.self cs 0 c.in_ok-base.ensures.equal taken;
}
