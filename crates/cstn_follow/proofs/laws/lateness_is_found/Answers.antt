use Rattle.cstn_follow.proofs.LastExpected.{right_late}
use Rattle.cstn_follow.proofs.laws.lateness_is_found.Goals as goal

pub returns : goal.returns
returns c = λ m h fresh cap p v good timely above is. right_late m h fresh cap good timely above p v is
