use Rattle.cstn_followed.proofs.StepsTold.{step_answered, step_goes}
use Rattle.cstn_followed.proofs.laws.steps_are_put_behind.Goals as goal

pub returns : goal.returns
returns c = record {
  answers = λ s next bytes text name reached reads answered. step_answered s next bytes text name reads answered;
  goes = step_goes;
}
