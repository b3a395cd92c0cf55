-- The states of sessions that follow.
use Rattle.std.specs.Prelude.{ℕ, ◌≡◌, ◌≤◌, List, length, Some}
use Rattle.cstn_net.specs.Limits.{most_constraints}
use Rattle.cstn_net.specs.Networks.{count}
use Rattle.cstn_lift.specs.Labelled.{Labelled}
use Rattle.cstn_lift.specs.Lowered.{lowered}
use Rattle.cstn_lift.specs.WellFormed.{IsLabelled}
use Rattle.cstn_save.specs.Canonical.{canonical}
use Rattle.cstn_reply.specs.Sessions.{Turn}
use Rattle.cstn_reply.specs.Reached.{state_after}
use Rattle.cstn_follow.specs.Following.{Following, begun_following}
use Rattle.cstn_follow.specs.Turns.{turn_by}

-- the answer to a line, which may be none of the session; what is left is written as its canonical document
abbrev pub follow_turn : Following → List ℕ → Turn Following
follow_turn = turn_by canonical

-- lines lead a session of some labelled network, whose time-points have names, to this state
pub record IsReached (s : Following) : Type 0 where
  pub cap : ℕ
  pub names : List (List ℕ)
  pub network : Labelled
  pub lines : List (List ℕ)
  pub labelled : IsLabelled network
  pub few : length (lowered network).constraints ≤ most_constraints
  pub named : length names ≡ count network.base
  pub leads : state_after follow_turn (begun_following cap names network) 0 lines ≡ Some s
