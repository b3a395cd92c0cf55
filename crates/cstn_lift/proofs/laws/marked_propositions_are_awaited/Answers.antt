use Rattle.cstn_lift.proofs.Kept.{waits_both, guards_both}
use Rattle.cstn_lift.proofs.laws.marked_propositions_are_awaited.Goals as goal

pub returns : goal.returns
returns c = record {
  waits = λ m x d good. waits_both m good x d;
  guards = λ m d good. guards_both m good d;
}
