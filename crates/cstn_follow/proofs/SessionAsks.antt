-- What a session answers to further questions is right.
use Rattle.cstn_net.specs.Limits.{most_deadline}
use Rattle.cstn_lift.specs.Read.{the_labelled}
use Rattle.cstn_history.specs.Histories.{IsTimelyHistory}
use Rattle.cstn_history.specs.Read.{the_history}
use Rattle.cstn_follow.specs.Lateness.{late_of, IsRightLate}
use Rattle.cstn_follow.specs.LeastDeadline.{least_of, IsRightLeast}
use Rattle.cstn_follow.specs.Pauses.{pause_of, IsRightPause}
use Rattle.cstn_follow.specs.Raises.{raise_of, IsRightRaise}
use Rattle.cstn_follow.specs.Sessions.{SessionParts, IsSession}
use Rattle.cstn_follow.proofs.DeadlineFound.{right_least}
use Rattle.cstn_follow.proofs.LastExpected.{right_late}
use Rattle.cstn_follow.proofs.LastNow.{right_pause}
use Rattle.cstn_follow.proofs.RaiseFound.{right_raise}
use Rattle.cstn_follow.proofs.Roomy.{deadline_fits}
use Rattle.std.proofs.Common.{ℕ}

module _ (s : SessionParts) (good : IsSession s) where
  timely : IsTimelyHistory (the_labelled s.network) (the_history s.history)
  timely = record { history = good.execution.kept.history; in_time = good.execution.kept.in_time }

  pub pause_right : IsRightPause (the_labelled s.network) (the_history s.history) s.fresh s.cap
      (pause_of (the_labelled s.network) (the_history s.history) s.fresh s.cap s.verdict)
  pause_right =
      right_pause (the_labelled s.network) (the_history s.history) s.fresh s.cap good.execution.labelled timely good.execution.above s.verdict good.verdict

  pub late_right : (p : ℕ) → IsRightLate (the_labelled s.network) (the_history s.history) s.fresh s.cap p
      (late_of (the_labelled s.network) (the_history s.history) s.fresh s.cap p s.verdict)
  late_right p =
      right_late (the_labelled s.network) (the_history s.history) s.fresh s.cap good.execution.labelled timely good.execution.above p s.verdict good.verdict

  pub least_right : IsRightLeast (the_labelled s.network) (the_history s.history) s.fresh s.cap (least_of (the_labelled s.network) (the_history s.history) s.fresh s.cap)
  least_right =
      right_least (the_labelled s.network) (the_history s.history) s.fresh s.cap good.execution.labelled timely good.execution.above
      (deadline_fits (the_labelled s.network) most_deadline (the_history s.history) s.fresh s.cap s.verdict good.execution.labelled.base.in_time good.verdict)

  pub raise_right : (id : ℕ) → IsRightRaise (the_labelled s.network) (the_history s.history) s.fresh s.cap id
      (raise_of (the_labelled s.network) (the_history s.history) s.fresh s.cap id s.verdict)
  raise_right id =
      right_raise (the_labelled s.network) (the_history s.history) s.fresh s.cap id s.verdict good.execution.labelled timely good.execution.above good.verdict
