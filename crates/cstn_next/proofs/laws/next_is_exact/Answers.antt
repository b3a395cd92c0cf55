use Rattle.cstn_next.proofs.Exact.{is_next, named_exactly, awaited_exactly, done_exactly}
use Rattle.cstn_next.proofs.laws.next_is_exact.Goals as goal

pub returns : goal.returns
returns c = record {
  next = λ m h fresh bounds t plan is. is_next m h fresh bounds plan t is;
  named = λ m h fresh bounds t x plan is. named_exactly m h fresh bounds plan t is x;
  awaited = λ m h fresh bounds t p plan is. awaited_exactly m h fresh bounds plan t is p;
  done = λ m h fresh bounds plan. done_exactly m h fresh bounds plan;
}
