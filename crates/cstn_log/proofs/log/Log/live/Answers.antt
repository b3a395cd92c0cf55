use Rattle.std.proofs.Common.{subst, ◌↔◌, IsTrue}
use Rattle.cstn_log.specs.Entries.{State, IsLive}
use Rattle.cstn_log.proofs.KeptLemmas.{live_there}
use Rattle.cstn_log.proofs.log.Log.live.Goals as goal

pub returns : goal.returns
returns c = record {
  live = subst (λ (v : State). IsTrue c.holds.result ↔ IsLive v.entries c.args.k) c.self.view_is (live_there _ _ _ _ _ _ c.args.k c.id.result c.holds.result c.self.invariant.kept c.id.ensures c.holds.ensures.holds);
}
