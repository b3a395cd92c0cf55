use Rattle.std.proofs.Common.{◌≡◌, ℕ, List, ap}
use Rattle.std.specs.Prelude.{slice_get}
use Rattle.std.proofs.lemmas.Result.{IfOk-weaker}
use Rattle.cstn_lift.specs.Read.{the_labelled}
use Rattle.cstn_reply.specs.Read.{the_said}
use Rattle.cstn_sentences.specs.Plans.{plan}
use Rattle.cstn_sentences.proofs.DrawnPlans.{named_plan, origin_plan}
use Rattle.cstn_top.specs.commands.Plan.{IsPlanTold, planned}
use Rattle.cstn_top.specs.commands.Save.{saved}
use Rattle.cstn_top.proofs.PlanTexts.{plan_saved, plan_refused}
use Rattle.cstn_top.proofs.commands.plan.plan_text.Goals as goal

pub save_text-requires-clause-named : goal.save_text-requires-clause-named
save_text-requires-clause-named c = named_plan c.args.text.now c.args.deadline (the_labelled c.in-Ok.labelled) c.in-Ok.names c.in-Ok.ensures.accepted

pub save_text-requires-clause-origin : goal.save_text-requires-clause-origin
save_text-requires-clause-origin c =
    let first = origin_plan c.args.text.now c.args.deadline (the_labelled c.in-Ok.labelled) c.in-Ok.names c.in-Ok.ensures.accepted in
    ap (λ (names : List (List ℕ)). slice_get names 0) first.1

pub returns-in-Ok : goal.returns-in-Ok
returns-in-Ok c = record {
  said = IfOk-weaker c.save_text.result (λ said. the_said said ≡ saved c.in-Ok.names (the_labelled c.in-Ok.labelled)) (λ said. (live : List ℕ) → (planned c.args.text.now c.args.deadline).output live (the_said said))
      (λ said same. plan_saved (plan c.args.text.now c.args.deadline) (the_labelled c.in-Ok.labelled) c.in-Ok.names (the_said said) c.in-Ok.ensures.accepted same) c.save_text.ensures.said;
}

pub returns-in-Err : goal.returns-in-Err
returns-in-Err c = record {
  said = IfOk-weaker c.refuse.result (λ said. IsPlanTold c.in-Err.error (the_said said)) (λ said. (live : List ℕ) → (planned c.args.text.now c.args.deadline).output live (the_said said))
      (λ said told. plan_refused (plan c.args.text.now c.args.deadline) c.in-Err.error (the_said said) c.in-Err.ensures.refused told) c.refuse.ensures.told;
}
