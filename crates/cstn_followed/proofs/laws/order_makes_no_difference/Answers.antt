use Rattle.cstn_followed.proofs.Ordered.{one_history, lines_tell}
use Rattle.cstn_followed.proofs.Verdicts.{reached_sound}
use Rattle.cstn_followed.proofs.laws.order_makes_no_difference.Goals as goal

pub returns : goal.returns
returns c = record {
  one = λ s one two lines others reached. one_history s one two lines others (reached_sound s reached);
  told = λ s later lines reached. lines_tell s later 0 lines (reached_sound s reached);
}
