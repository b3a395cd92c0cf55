use Rattle.cstn_follow.specs.Following.{begun_following}
use Rattle.cstn_follow.proofs.States.{begun_sound}
use Rattle.cstn_followed.proofs.Counting.{recap_lines}
use Rattle.cstn_followed.proofs.Paired.{cap_is_set}
use Rattle.cstn_followed.proofs.marks_laws.caps_are_set.Goals as goal

pub returns : goal.returns
returns c = record {
  cap = cap_is_set;
  state = λ cap other names m lines s good few named leads.
      recap_lines (begun_following cap names m) s other 0 lines (begun_sound cap names m good few named) leads;
}
