use Rattle.cstn_follow.proofs.Blamed.{found_stops, found_needed, found_ascend}
use Rattle.cstn_follow.proofs.laws.blame_is_found.Goals as goal

pub returns : goal.returns
returns c = record {
  cannot = λ m h fresh cap ids good timely above room never is. found_stops m h fresh good timely above room cap ids is never;
  needed = λ m h fresh cap id ids good timely above room is. found_needed m h fresh good timely above room cap ids is id;
  ascending = found_ascend;
}
