use Rattle.cstn_net.proofs.HandedLemmas.{no_fault, refused_for_memory}
use Rattle.cstn_net.proofs.handing.handed_networks_are_closed.Goals as goal

pub returns : goal.returns
returns c = record { faultless = no_fault; memory = refused_for_memory }
