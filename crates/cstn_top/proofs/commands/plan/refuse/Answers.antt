use Rattle.std.proofs.Common.{◌≡◌, ◌++◌, sym, subst}
use Rattle.std.specs.Prelude.{codes}
use Rattle.std.proofs.lemmas.Result.{IfOk-weaker}
use Rattle.cstn_reply.specs.Read.{the_said}
use Rattle.cstn_reply.specs.Texts.{say}
use Rattle.cstn_reply.specs.declared.output.Outcome.TheVariants.{Document}
use Rattle.cstn_top.specs.commands.Plan.{IsPlanTold, IsWhy}
use Rattle.cstn_top.proofs.commands.plan.refuse.Goals as goal

pub returns : goal.returns
returns c = record {
  told = IfOk-weaker c.refusal.result (λ said. the_said said ≡ say Document (codes "plan " ++ c.deref.result.now)) (λ said. IsPlanTold c.args.error (the_said said))
      (λ said is. (c.deref.result.now, subst (IsWhy c.args.error) (sym c.deref.ensures.value) c.in_ok-why.ensures.why, is)) c.refusal.ensures.said;
}
