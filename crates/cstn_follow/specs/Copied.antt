-- Copies of what a session is made of.
use Rattle.std.specs.Prelude.{ℕ, ◌≡◌}
use Rattle.cstn_net.specs.Networks.{Network}
use Rattle.cstn_lift.specs.Read.{the_labelled}
use Rattle.cstn_follow.specs.Executions.{ExecutionParts}
use Rattle.cstn_follow.specs.Findings.{verdict_of, IsFindingOn}
use Rattle.cstn_follow.specs.Sessions.{SessionParts}
use Rattle.cstn_follow.specs.declared.findings.Finding.{Finding}

-- the execution of the same labelled network with the same history, and the same next id
pub record IsSameExecution (e copy : ExecutionParts) : Type 0 where
  pub network : the_labelled copy.network ≡ the_labelled e.network
  pub history : copy.history ≡ e.history
  pub fresh : copy.fresh ≡ e.fresh

-- the finding has the same verdict, and is one on each network that the other is one on
pub record IsSameFinding (f copy : Finding) : Type 0 where
  pub verdict : verdict_of copy ≡ verdict_of f
  pub found : (cap : ℕ) (net : Network) → IsFindingOn cap net f → IsFindingOn cap net copy

-- the session on the same labelled network, with all else the same
pub record IsSameSession (s copy : SessionParts) : Type 0 where
  pub network : the_labelled copy.network ≡ the_labelled s.network
  pub history : copy.history ≡ s.history
  pub cap : copy.cap ≡ s.cap
  pub edits : copy.edits ≡ s.edits
  pub fresh : copy.fresh ≡ s.fresh
  pub verdict : copy.verdict ≡ s.verdict
