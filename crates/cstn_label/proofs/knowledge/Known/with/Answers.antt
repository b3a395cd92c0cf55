use Rattle.cstn_label.proofs.WordLemmas.{still_among}
use Rattle.cstn_label.proofs.knowledge.Known.with.Goals as goal

pub invariant_of-result : goal.invariant_of-result
invariant_of-result c = record {
  among_seen = still_among c.args.self.bits c.args.self.seen _ _ c.args.p.index c.args.value c.args.self.among_seen
      c.with_bit-2.ensures.bits c.with_bit.ensures.bits;
}
