use Rattle.std.proofs.Common.{◌≡◌}
use Rattle.std.specs.Prelude.{map}
use Rattle.cstn_lift.specs.Read.{the_labelled}
use Rattle.cstn_history.specs.Rest.{left_upto}
use Rattle.cstn_history.specs.Read.{the_history}
use Rattle.cstn_follow.specs.LeastDeadline.{label_coming}
use Rattle.cstn_follow.proofs.Coming.{label_read}
use Rattle.cstn_follow.proofs.deadlines.labels_coming.Given as goal

abbrev pub invariant-loop-x : goal.invariant-loop-x
invariant-loop-x l =
    map label_read l.labels.items ≡ map (label_coming (the_labelled l.fn.network) (the_history l.fn.history)) (left_upto (the_labelled l.fn.network) (the_history l.fn.history) l.x)
