use Rattle.std.proofs.lemmas.Bool.{false≢true}
use Rattle.cstn_check.proofs.SiftLemmas.{next_taken, next_none, next_dead}
use Rattle.cstn_check.proofs.waits.next_place.Goals as goal

pub returns-then-not-live : goal.returns-then-not-live
returns-then-not-live c = record {
  next = λ net from upto ahead.
      next_dead net c.args.log.now c.clear_agenda.new.self c.args.j from c.clear_agenda.ensures.stays ahead upto
      (λ live. false≢true (c.if-not-live.ensures.live.1 live));
}

pub returns-in-Some : goal.returns-in-Some
returns-in-Some c = record {
  next = λ net from upto ahead.
      let taken = c.in-Some.ensures in
      next_taken net c.args.log.now c.take_next.new.self c.args.j from c.take_next.ensures.stays ahead c.in-Some.i taken.here taken.least taken.gone taken.others;
}

pub returns-in-None : goal.returns-in-None
returns-in-None c = record {
  next = λ net from upto ahead.
      next_none net c.args.log.now c.take_next.new.self c.args.j from c.take_next.ensures.stays ahead upto c.in-None.ensures.none;
}
