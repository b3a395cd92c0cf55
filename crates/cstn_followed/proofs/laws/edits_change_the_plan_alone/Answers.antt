use Rattle.cstn_follow.specs.Following.{begun_following}
use Rattle.cstn_follow.proofs.States.{begun_sound}
use Rattle.cstn_followed.proofs.EditLines.{edit_answered, lines_told, new_ids}
use Rattle.cstn_followed.proofs.laws.edits_change_the_plan_alone.Goals as goal

pub returns : goal.returns
returns c = record {
  answers = λ s next bytes text edit reached reads is answered. edit_answered s next bytes text edit reads is answered;
  new = new_ids;
  plan = λ cap names m lines s good few named leads.
      (lines_told (begun_following cap names m) s 0 lines (begun_sound cap names m good few named) leads).plan;
}
