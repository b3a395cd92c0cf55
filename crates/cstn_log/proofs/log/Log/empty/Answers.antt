use Rattle.std.proofs.Common.{arith}
use Rattle.std.proofs.lemmas.List.{length-replicate}
use Rattle.cstn_log.proofs.KeptLemmas.{kept_empty, no_slot}
use Rattle.cstn_log.proofs.log.Log.empty.Goals as goal

pub invariant_of-result : goal.invariant_of-result
invariant_of-result c =
    rw (c.in_ok-minimal.ensures.empty, c.in_ok-list.ensures) (record {
      kept = kept_empty c.args.cap.entries 0 c.args.nodes;
      room = record {
        size = omega (arith, length-replicate c.args.cap.entries no_slot);
        for_marks = omega (arith, c.in_ok-marks.ensures.capacity, length-replicate c.args.cap.entries no_slot);
        for_slots = omega (arith, c.in_ok-found.ensures.capacity, length-replicate c.args.cap.entries no_slot);
        for_places = omega (arith, c.in_ok-agenda.ensures, length-replicate c.args.cap.entries no_slot);
        few = omega (arith, c.args.cap.most, length-replicate c.args.cap.entries no_slot);
      };
    })
