use Rattle.cstn_lift.specs.Read.{the_labelled}
use Rattle.cstn_history.specs.Read.{the_history}
use Rattle.cstn_follow.proofs.Coming.{labels_turn}
use Rattle.cstn_follow.proofs.deadlines.labels_coming.Goals as goal

pub loop-x-preserved : goal.loop-x-preserved
loop-x-preserved c =
    labels_turn (the_labelled c.args.network.now) (the_history c.args.history.now) c.loop-x.labels.items _ c.loop-x.x c.is_left-is_kept.result c.label_coming.result
    c.loop-x.invariant c.is_left-is_kept.ensures c.label_coming.ensures c.in_ok-push_label.ensures
