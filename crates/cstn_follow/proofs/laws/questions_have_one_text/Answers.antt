use Rattle.cstn_follow.proofs.FurtherLines.{question_back, question_only, digest_one, line_spoken}
use Rattle.cstn_follow.proofs.laws.questions_have_one_text.Goals as goal

pub returns : goal.returns
returns c = record { back = question_back; only = question_only; digest = digest_one; others = line_spoken }
