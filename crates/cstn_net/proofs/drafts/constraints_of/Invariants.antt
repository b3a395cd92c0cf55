use Rattle.std.proofs.Common.{◌≡◌, take, length, vec_len}
use Rattle.std.specs.Vec.{vec_capacity}
use Rattle.cstn_net.specs.Drafts.{constraints_from}
use Rattle.cstn_net.proofs.drafts.constraints_of.Given as goal

abbrev pub invariant-loop-draft : goal.invariant-loop-draft
invariant-loop-draft l = record {
  so_far : l.constraints.items ≡ constraints_from 0 (take l.draft-index l.drafts);
  len : vec_len l.constraints ≡ l.draft-index;
  room : vec_capacity l.constraints ≡ length l.drafts;
}
