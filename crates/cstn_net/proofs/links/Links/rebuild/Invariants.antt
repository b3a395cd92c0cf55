use Rattle.std.proofs.Common.{◌≡◌, take, length, vec_len}
use Rattle.std.specs.Vec.{vec_capacity}
use Rattle.cstn_net.specs.Links.{AreLinked, ends}
use Rattle.cstn_net.proofs.links.Links.rebuild.Given as goal

abbrev pub invariant-loop-c : goal.invariant-loop-c
invariant-loop-c l = record {
  linked : AreLinked (ends (take l.c-index l.constraints)) l.self.chains.items l.self.nexts.items;
  wide : length l.self.chains.items ≡ length l.initial.self.chains.items;
  long : vec_len l.self.nexts ≡ l.c-index;
  room : vec_capacity l.self.nexts ≡ vec_capacity l.initial.self.nexts;
}
