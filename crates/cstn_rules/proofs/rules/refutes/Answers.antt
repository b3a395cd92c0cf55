use Rattle.std.proofs.Common.{rules}
use Rattle.cstn_label.specs.Read.{the_bound}
use Rattle.cstn_net.specs.Read.{the_network}
use Rattle.cstn_rules.proofs.Sound.{refuting_fails}
use Rattle.cstn_rules.proofs.rules.refutes.Goals as goal

pub returns-then-is_plain-clause-refutes : goal.returns-then-is_plain-clause-refutes
returns-then-is_plain-clause-refutes c = search rules

pub returns-then-is_plain-clause-sound : goal.returns-then-is_plain-clause-sound
returns-then-is_plain-clause-sound c t table strategy holds =
    refuting_fails (the_network c.args.net.now) table (the_bound c.args.b.now) strategy
    ((returns-then-is_plain-clause-refutes c).0 t) holds
