-- The time-points of a session that forgave.
use Rattle.std.proofs.Common.{◌≡◌, ap}
use Rattle.std.specs.Prelude.{Result, Ok, Err, IfOk, OnErr}
use Rattle.cstn_change.specs.Changes.{EditedNetwork}
use Rattle.cstn_follow.specs.declared.errors.ForgiveError.{ForgiveError}
use Rattle.cstn_follow.specs.Forgiving.{broken_now, forgiven_now}
use Rattle.cstn_follow.specs.Replans.{Replans, edited_now}
use Rattle.cstn_follow.specs.Sessions.{SessionParts}
use Rattle.cstn_follow.proofs.Forgiven.{removed_is}
use Rattle.cstn_follow.proofs.Lines.{points_of, replan_keeps}

-- the time-points stay, whether it forgave or not
pub forgive_keeps : {I : Type 0} (old new : SessionParts) (r : Result I ForgiveError) → IfOk r (λ _. Replans (forgiven_now old) old new (Ok new.verdict))
    → OnErr r (new ≡ old) → points_of new ≡ points_of old
forgive_keeps old new (Ok ids) made same =
    replan_keeps (forgiven_now old) old new (Ok new.verdict) made (ap (λ (e : EditedNetwork). e.net.observes) (removed_is (edited_now old) (broken_now old)))
forgive_keeps old new (Err error) made same = ap points_of same
