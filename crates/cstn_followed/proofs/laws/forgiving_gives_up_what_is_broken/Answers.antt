use Rattle.cstn_followed.proofs.EditLines.{forgive_answered}
use Rattle.cstn_followed.proofs.Forgave.{reached_broken, reached_kept, none_after}
use Rattle.cstn_followed.proofs.laws.forgiving_gives_up_what_is_broken.Goals as goal

pub returns : goal.returns
returns c = record {
  answers = λ s next bytes text reached reads answered. forgive_answered s next bytes text reads answered;
  broken = reached_broken;
  kept = reached_kept;
  none = none_after;
}
