use Rattle.cstn_follow.proofs.RaiseFound.{right_raise}
use Rattle.cstn_follow.proofs.laws.raises_are_found.Goals as goal

pub returns : goal.returns
returns c = λ m h fresh cap id v good timely above is. right_raise m h fresh cap id v good timely above is
