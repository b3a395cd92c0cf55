use Rattle.cstn_follow.proofs.Parts.{part_labelled, part_short, part_above, part_room}
use Rattle.cstn_follow.proofs.laws.parts_are_labelled.Goals as goal

pub returns : goal.returns
returns c = record {
  labelled = part_labelled;
  short = part_short;
  above = part_above;
  room = λ m test h fresh good. part_room m test good h fresh;
}
