use Rattle.cstn_follow.proofs.LastNow.{right_pause}
use Rattle.cstn_follow.proofs.laws.pauses_are_found.Goals as goal

pub returns : goal.returns
returns c = λ m h fresh cap v good timely above is. right_pause m h fresh cap good timely above v is
