use Rattle.cstn_follow.proofs.FurtherLines.{amendment_back, amendment_only}
use Rattle.cstn_follow.proofs.forgiving_laws.amendments_have_one_text.Goals as goal

pub returns : goal.returns
returns c = record { back = amendment_back; only = amendment_only }
