use Rattle.cstn_follow.proofs.Going.{least_table, goes_on, all_go_on, named_accepted, still_named, still_quiet}
use Rattle.cstn_follow.proofs.laws.next_keeps_going.Goals as goal

pub returns : goal.returns
returns c = record {
  least = λ m h good timely room can. least_table m h good timely room can;
  step = λ m h later good timely can step. goes_on m h good timely can later step;
  steps = all_go_on;
  accepted = λ m h t x good timely named. named_accepted m h good timely t x named;
  named = λ m h t y x good timely room can quiet named also other. (
    still_named m h good timely room can t x quiet named y also other,
    still_quiet m h good timely room can t x quiet named,
  );
}
