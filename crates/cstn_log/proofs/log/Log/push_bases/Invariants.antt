use Rattle.std.proofs.Common.{◌≡◌, ◌+◌}
use Rattle.cstn_net.specs.Networks.{count}
use Rattle.cstn_net.specs.Read.{the_network}
use Rattle.cstn_rules.specs.Derivations.{IsDerivation}
use Rattle.cstn_log.specs.Entries.{AreBornFrom, the_entries, bases}
use Rattle.cstn_log.proofs.log.Log.push_bases.Given as goal

abbrev pub invariant-loop-node : goal.invariant-loop-node
invariant-loop-node l = record {
  end : l.node-end ≡ count (the_network l.net);
  entries : the_entries l.self.entries ≡ bases l.node;
  cap : l.self.cap ≡ l.fn.self.cap;
  nodes : l.self.nodes ≡ l.fn.self.nodes;
  ids : AreBornFrom l.fn.self.births l.self.ids;
  births : l.self.births ≡ l.fn.self.births + l.node;
  derivation : IsDerivation (the_network l.net) (the_entries l.self.entries);
}
