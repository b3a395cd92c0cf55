use Rattle.cstn_followed.proofs.Questions.{next_answered, by_answered, blame_answered, nothing_left}
use Rattle.cstn_followed.proofs.Refusals.{refused_stays}
use Rattle.cstn_followed.proofs.laws.followed_answers_are_true.Goals as goal

pub returns : goal.returns
returns c = record { next = next_answered; by = by_answered; blame = blame_answered; over = nothing_left; refused = refused_stays }
