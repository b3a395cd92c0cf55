use Rattle.cstn_history.proofs.Places.{new_inside}
use Rattle.cstn_follow.proofs.Until.{waiting_labelled, waiting_long, ids_below, last_found}
use Rattle.cstn_follow.proofs.laws.waiting_is_found.Goals as goal

pub returns : goal.returns
returns c = record {
  found = λ m h fresh x cap t good timely above room here none left can. last_found m h fresh x good timely above room here none left cap can t;
  ids = λ m h fresh good timely above room. ids_below m h fresh 0 good timely above room;
  numbers = λ m h fresh x good known here left. new_inside m h fresh good known x here left;
  labelled = λ n fresh k t good. waiting_labelled n good fresh k t;
  long = λ n fresh k t good. waiting_long n good fresh k t;
}
