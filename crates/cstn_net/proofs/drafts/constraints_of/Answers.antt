use Rattle.std.proofs.Common.{arith, ◌∙◌, ap}
use Rattle.cstn_net.specs.Drafts.{constraint_of}
use Rattle.cstn_net.proofs.DraftLemmas.{constraints_turn}
use Rattle.cstn_net.proofs.drafts.constraints_of.Goals as goal

pub loop-draft-preserved : goal.loop-draft-preserved
loop-draft-preserved c =
    let loop = c.loop-draft.invariant in
    record {
      so_far = constraints_turn c.args.drafts.now _ _ c.loop-draft.draft-index _ _ _ c.loop-draft-test.true (omega arith) loop.so_far
          (c.constraint_of.ensures ∙ ap (constraint_of c.len-id.result) c.draft-item.is) c.push_reserved.ensures.items;
      len = omega (arith, c.push_reserved.ensures.len);
      room = c.push_reserved.ensures.capacity ∙ loop.room;
    }
