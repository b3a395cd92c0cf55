use Rattle.cstn_followed.proofs.FurtherQuestions.{asked_answered, digest_answered}
use Rattle.cstn_followed.proofs.laws.followed_questions_are_answered.Goals as goal

pub returns : goal.returns
returns c = record { asked = asked_answered; digest = digest_answered }
