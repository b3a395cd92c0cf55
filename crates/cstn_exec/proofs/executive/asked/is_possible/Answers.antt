use Rattle.cstn_exec.proofs.Values.{possible_is}
use Rattle.cstn_exec.proofs.executive.asked.is_possible.Goals as goal

pub returns : goal.returns
returns c = record {
  possible = possible_is c.labels_are_their_marks.ensures.above c.args.known.now c.args.label c.possible.result c.possible.ensures.possible;
}
