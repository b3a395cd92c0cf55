use Rattle.cstn_lift.proofs.Kept.{plain_both, kept_both, lowered_both, full_both}
use Rattle.cstn_lift.proofs.laws.plain_constraints_are_kept.Goals as goal

pub returns : goal.returns
returns c = record {
  plain = λ m c good. plain_both m good c;
  kept = λ m c good. kept_both m good c;
  lowered = λ m c good. lowered_both m good c;
  full = λ m d good. full_both m good d;
}
