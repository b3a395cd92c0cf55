use Rattle.cstn_label.proofs.KnownLemmas.{value_taken}
use Rattle.cstn_label.proofs.WordLemmas.{and_again}
use Rattle.cstn_label.proofs.knowledge.Known.of.Goals as goal

pub invariant_of-result : goal.invariant_of-result
invariant_of-result c = record { among_seen = and_again c.args.scenario.bits c.args.seen }

pub returns-clause-known : goal.returns-clause-known
returns-clause-known c q = value_taken c.args.scenario.bits c.args.seen q
