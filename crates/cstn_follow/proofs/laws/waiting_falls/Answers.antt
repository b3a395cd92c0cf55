use Rattle.cstn_follow.proofs.WaitingFalls.{waits_before, late_before}
use Rattle.cstn_follow.proofs.laws.waiting_falls.Goals as goal

pub returns : goal.returns
returns c = record {
  waits = λ m h later x t good before after on waits. waits_before m h later good on before after x t waits;
  late = λ m h later p t good before after on can. late_before m h later good on p t before after can;
}
