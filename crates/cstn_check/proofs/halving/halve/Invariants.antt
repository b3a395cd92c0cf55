use Rattle.std.proofs.Common.{◌≡◌, ◌≤◌, ◌-◌}
use Rattle.cstn_net.specs.Limits.{most_deadline}
use Rattle.cstn_check.specs.Search.{halving}
use Rattle.cstn_check.proofs.halving.halve.Given as goal

abbrev pub invariant-loop-turn : goal.invariant-loop-turn
invariant-loop-turn g l = record {
  range : l.span.high ≤ most_deadline;
  left : halving (g.T.MomentTrial.says l.trial) 20 l.initial.span ≡ halving (g.T.MomentTrial.says l.trial) (20 - l._turn) l.span;
}
