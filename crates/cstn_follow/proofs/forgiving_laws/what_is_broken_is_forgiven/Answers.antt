use Rattle.cstn_follow.proofs.Broken.{broken_both, broken_stuck, none_broken, none_left}
use Rattle.cstn_follow.proofs.Forgiven.{removed_is}
use Rattle.cstn_follow.proofs.forgiving_laws.what_is_broken_is_forgiven.Goals as goal

pub returns : goal.returns
returns c = record {
  told = λ m h c good known has. broken_both m h good known c has;
  stuck = broken_stuck;
  kept = none_broken;
  removed = removed_is;
  none = none_left;
}
