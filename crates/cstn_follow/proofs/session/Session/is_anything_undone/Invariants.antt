use Rattle.std.proofs.Common.{◌≡◌}
use Rattle.cstn_lift.specs.Read.{the_labelled}
use Rattle.cstn_history.specs.Read.{the_history}
use Rattle.cstn_follow.specs.Following.{any_below}
use Rattle.cstn_follow.specs.Pauses.{is_undone}
use Rattle.cstn_follow.proofs.session.Session.is_anything_undone.Given as goal

abbrev pub invariant-loop-x : goal.invariant-loop-x
invariant-loop-x l = l.is_any ≡ any_below (is_undone (the_labelled l.self.network) (the_history l.self.history)) l.x
