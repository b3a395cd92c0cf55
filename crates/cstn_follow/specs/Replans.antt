-- Edits of the network of a session: what a call that makes one makes of the session.
use Rattle.std.specs.Prelude.{ℕ, ◌≡◌, Option, None, Some, Result, Ok, Err}
use Rattle.cstn_net.specs.Limits.{most_constraints}
use Rattle.cstn_lift.specs.Labelled.{Labelled}
use Rattle.cstn_lift.specs.Read.{the_labelled}
use Rattle.cstn_check.specs.declared.verdicts.Verdict.{Verdict}
use Rattle.cstn_history.specs.declared.errors.RestError.{RestError}
use Rattle.cstn_history.specs.declared.errors.RestError.TheVariants.{TooManyConstraints as AreTooMany, Memory as OutOfMemory}
use Rattle.cstn_history.specs.Read.{the_history}
use Rattle.cstn_change.specs.Changes.{EditedNetwork, Change, ChangeRefusal, edited_base, refusal, edited_by}
use Rattle.cstn_change.specs.Read.{the_change_refusal}
use Rattle.cstn_follow.specs.Following.{verdict_left}
use Rattle.cstn_follow.specs.declared.errors.ReplanError.{ReplanError}
use Rattle.cstn_follow.specs.declared.errors.ReplanError.TheVariants.{Refused, TooManyConstraints, Memory}
use Rattle.cstn_follow.specs.Sessions.{SessionParts}

-- the network as edited, with the next id and the count of its edits
abbrev pub edited_now : SessionParts → EditedNetwork
edited_now s = edited_base (the_labelled s.network) s.fresh s.edits

-- the network with another deadline, which is no counted edit
abbrev pub with_due : EditedNetwork → ℕ → EditedNetwork
with_due e deadline = record e { net = record e.net { deadline = deadline } }

-- the labelled network of a session as edited so, in which time-points have the labels that they had
abbrev pub labelled_replanned : SessionParts → EditedNetwork → Labelled
labelled_replanned s e = record (the_labelled s.network) { base = e.net }

-- the verdict on what is left then, where there are no more constraints than there may be
abbrev pub verdict_replanned : SessionParts → EditedNetwork → Option Verdict
verdict_replanned s e = verdict_left (labelled_replanned s e) (the_history s.history) e.fresh s.cap

-- What a call that edits the network makes of a session, where this is the network as edited then: it is that, with the verdict on
-- what is left then; or nothing has changed, since there would be too many constraints, or memory is refused.
abbrev pub Replans : EditedNetwork → SessionParts → SessionParts → Result Verdict RestError → Type 0
Replans e old new (Ok v) =
    (the_labelled new.network ≡ labelled_replanned old e)
    × (new ≡ record old { network = new.network; edits = e.edits; fresh = e.fresh; verdict = v })
    × (verdict_replanned old e ≡ Some v)
Replans e old new (Err AreTooMany) = (verdict_replanned old e ≡ None) × (new ≡ old)
Replans e old new (Err (OutOfMemory error)) = new ≡ old

-- the first of S1 to S6 for which a change of the network is refused, if one applies
abbrev pub change_refused : SessionParts → Change → Option ChangeRefusal
change_refused s change = refusal most_constraints (edited_now s) change

-- What a call that makes a change makes of a session: the change is made; or nothing has changed, since it is refused, or there
-- would be too many constraints, or memory is refused.
abbrev pub MakesChange : Change → SessionParts → SessionParts → Result Verdict ReplanError → Type 0
MakesChange change old new (Ok v) = (change_refused old change ≡ None) × Replans (edited_by (edited_now old) change) old new (Ok v)
MakesChange change old new (Err (Refused error)) = (change_refused old change ≡ Some (the_change_refusal error)) × (new ≡ old)
MakesChange change old new (Err TooManyConstraints) =
    (change_refused old change ≡ None) × Replans (edited_by (edited_now old) change) old new (Err AreTooMany)
MakesChange change old new (Err (Memory error)) = new ≡ old

-- why a change isn't made, by why there is no network of what would be left
abbrev pub unreplanned : RestError → ReplanError
unreplanned AreTooMany = TooManyConstraints
unreplanned (OutOfMemory error) = Memory error
