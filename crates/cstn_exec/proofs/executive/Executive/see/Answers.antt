use Rattle.std.proofs.Common.{sym, subst, ◌∙◌}
use Rattle.cstn_net.specs.Read.{the_network}
use Rattle.cstn_exec.specs.Moves.{handed}
use Rattle.cstn_exec.specs.Right.{IsRightRun}
use Rattle.cstn_exec.specs.Read.{ExecParts}
use Rattle.cstn_exec.proofs.Moving.{handed_right}
use Rattle.cstn_exec.proofs.executive.Executive.see.Goals as goal

pub invariant_of-self : goal.invariant_of-self
invariant_of-self c =
    let known = c.is_right.ensures in
    record {
      right = subst (λ (e : ExecParts). IsRightRun (the_network e.net) (handed e.run c.args.p.index c.args.value)) (sym c.self.view_is)
          (handed_right (the_network c.args.self.now.net) known.well_formed c.args.self.now.run c.args.p.index c.args.value known.right
          (sym c.outcome.ensures ∙ c.in_default-outcome.is) c.args.p.in_range c.in-Some.field-0
          (sym c.observed_at.ensures.observed ∙ c.in-Some.is));
      in_time = c.self.invariant.in_time;
      room = c.self.invariant.room;
    }
