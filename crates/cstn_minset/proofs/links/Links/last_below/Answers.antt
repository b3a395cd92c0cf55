use Rattle.std.proofs.Common.{arith}
use Rattle.cstn_minset.proofs.LinkLemmas.{in_inside}
use Rattle.cstn_minset.proofs.NumberLemmas.{nearer, key_is, reached_more}
use Rattle.cstn_minset.proofs.links.Links.last_below.Goals as goal

pub loop-place-smaller : goal.loop-place-smaller
loop-place-smaller c =
    let table = c.requires.numbers.0 in
    let linked = c.requires.numbers.1 in
    let numbers = c.requires.numbers.2 in
    let walk = rw c.in-Some.is at (c.loop-place.invariant.reached table linked numbers) in
    rw c.in-Some.is (nearer table c.args.self.now.slots c.args.head c.in-Some.next walk.here.key c.next-place.result linked.size numbers walk.here.there
    (c.next-place.ensures table c.args.head c.in-Some.next linked (key_is table c.args.head walk.low c.in-Some.next numbers walk.here)))

pub loop-place-preserved : goal.loop-place-preserved
loop-place-preserved c =
    let linked = c.requires.numbers.1 in
    let first = rw c.in-Some.is at (c.loop-place.invariant.reached c.requires.numbers.0 linked c.requires.numbers.2) in
    let within = in_inside c.requires.numbers.0 c.args.head c.in-Some.next first.here.key first.here.there in
    record {
      inside = omega (arith, within, linked.size);
      reached = λ table linked numbers.
          reached_more table _ _ _ _ _ _ _ numbers (rw c.in-Some.is at (c.loop-place.invariant.reached table linked numbers)) (omega (arith, c.if-slot-next.false)) (λ h k there. c.next-place.ensures table h k linked there);
    }
