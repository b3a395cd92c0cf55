use Rattle.cstn_history.proofs.NextMoment.{quiet_upto, quiet_before, time_goes_on, told_goes_on, done_goes_on}
use Rattle.cstn_history.proofs.laws.next_moment_is_first.Goals as goal

pub returns : goal.returns
returns c = record {
  unless = λ m h table t good first goes. quiet_upto m h good t first table goes;
  quiet = λ m h table t good next goes. quiet_before m h good t next table goes;
  time = λ m h t u good next upto can. time_goes_on m h good t next u upto can;
  told = λ m h t u p v good next upto untold can. told_goes_on m h good t next u p v upto untold can;
  done = λ m h table t x good known next goes least named. done_goes_on m h good t next known table x goes least named;
}
