use Rattle.std.proofs.Common.{subst, ◌↔◌, IsTrue}
use Rattle.cstn_log.specs.Entries.{State, IsCoveredBy}
use Rattle.cstn_log.proofs.KeptLemmas.{covered_there}
use Rattle.cstn_log.proofs.log.Log.covered.Goals as goal

pub returns : goal.returns
returns c = record {
  covered = subst (λ (v : State). IsTrue c.covers.result ↔ IsCoveredBy v.entries c.args.b.now) c.self.view_is (covered_there _ _ _ c.args.b.now c.covers.result c.self.invariant.kept.tabled c.covers.ensures.covers);
}
