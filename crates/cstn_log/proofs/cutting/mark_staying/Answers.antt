use Rattle.std.proofs.Common.{suc, ◌≡◌, ◌+◌, ◌∷◌, [], length, arith, ◌∙◌, ap, length-append}
use Rattle.cstn_log.proofs.MarkLemmas.{below_more}
use Rattle.cstn_log.proofs.StepLemmas.{staying_step}
use Rattle.cstn_log.proofs.cutting.mark_staying.Goals as goal

pub is_staying-stays-requires : goal.is_staying-stays-requires
is_staying-stays-requires c =
    below_more c.entry.result.why c.loop-k.k (length c.deref.result.now) c.entry.ensures.premises (omega (arith, ap length c.deref.ensures.value, c.loop-k.invariant.size))

pub loop-k-preserved : goal.loop-k-preserved
loop-k-preserved c =
    let L = c.args.list.now.entries in
    let marks = c.loop-k.marks.items in
    let e = c.entry.result in
    let pushed = rw c.unwrap.ensures at c.push.ensures.items in
    let stay = rw c.deref.ensures.value at c.is_staying-stays.ensures in
    let step = staying_step c.args.constraint L c.loop-k.k e marks c.entry.ensures.entry in
    let next : c.loop-k.k + 1 ≡ suc c.loop-k.k = omega arith in
    record {
      end = c.loop-k.invariant.end;
      size = omega (arith, ap length pushed, length-append marks (c.is_staying-stays.result ∷ []), c.loop-k.invariant.size);
      room = omega (arith, c.push.ensures.lower_bound, c.loop-k.invariant.room);
      reach = rw (pushed, stay, next) (step ∙ c.loop-k.invariant.reach);
    }
