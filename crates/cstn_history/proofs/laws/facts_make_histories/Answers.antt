use Rattle.cstn_history.proofs.Recorded.{timely_now, timely_done, timely_told, timely_expected, timely_ready}
use Rattle.cstn_history.proofs.laws.facts_make_histories.Goals as goal

pub returns : goal.returns
returns c = record {
  now = timely_now;
  done = λ m h t x good known timely e. timely_done m h good known timely t x e;
  told = λ m h t p v good known timely e. timely_told m h good known timely t p v e;
  expected = λ m h t p good known timely e. timely_expected m h good known timely t p e;
  ready = λ m h t x good known timely e. timely_ready m h good known timely t x e;
}
