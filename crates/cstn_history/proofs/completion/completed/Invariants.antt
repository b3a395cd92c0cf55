use Rattle.std.proofs.Common.{◌≡◌}
use Rattle.cstn_label.specs.Read.{marks}
use Rattle.cstn_lift.specs.Completion.{rounds}
use Rattle.cstn_lift.specs.Read.{the_labelled}
use Rattle.cstn_history.proofs.completion.completed.Given as goal

abbrev pub invariant-loop-round : goal.invariant-loop-round
invariant-loop-round l = marks l.whole ≡ rounds (the_labelled l.network) l._round (marks l.initial.whole)
