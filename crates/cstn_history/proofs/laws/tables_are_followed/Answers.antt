use Rattle.cstn_history.proofs.Followed.{time_passes, outcome_comes, step_is_done}
use Rattle.cstn_history.proofs.laws.tables_are_followed.Goals as goal

pub returns : goal.returns
returns c = record {
  time = λ m h table t goes quiet. time_passes m h table goes t quiet;
  told = λ m h table t p v goes quiet untold. outcome_comes m h table goes t p v untold quiet;
  done = λ m h table t x good known goes quiet here undone always. step_is_done m h good known table goes t x here undone quiet always;
}
