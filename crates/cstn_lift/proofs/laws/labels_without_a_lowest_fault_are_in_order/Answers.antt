use Rattle.std.proofs.Common.{arith}
use Rattle.cstn_net.proofs.NoFault.{no_faults}
use Rattle.cstn_lift.specs.Faults.{HasLiftFault, lift_number}
use Rattle.cstn_lift.proofs.NoFault.{labelled_made}
use Rattle.cstn_lift.proofs.laws.labels_without_a_lowest_fault_are_in_order.Goals as goal

pub returns : goal.returns
returns c = record {
  labelled = labelled_made;
  faultless = λ m e none has. no_faults (HasLiftFault m) lift_number none (lift_number e) e (omega arith) has;
}
