-- What facts that a session is told come to.
use Rattle.std.proofs.Common.{ℕ, ◌≡◌, Option, Some, None, refl, sym, subst, ap}
use Rattle.std.specs.Prelude.{Result, Ok, Err}
use Rattle.cstn_lift.specs.Read.{the_labelled}
use Rattle.cstn_check.specs.declared.verdicts.Verdict.{Verdict}
use Rattle.cstn_history.specs.declared.errors.RestError.{RestError}
use Rattle.cstn_history.specs.declared.errors.RestError.TheVariants.{TooManyConstraints as IsTooMany, Memory as IsMemory}
use Rattle.cstn_history.specs.Facts.{FactRefusal}
use Rattle.cstn_history.specs.Histories.{History}
use Rattle.cstn_history.specs.Read.{HistoryParts, the_history}
use Rattle.cstn_follow.specs.declared.findings.Finding.{Finding}
use Rattle.cstn_follow.specs.Executions.{ExecutionParts}
use Rattle.cstn_follow.specs.Findings.{verdict_of}
use Rattle.cstn_follow.specs.declared.errors.FollowError.{FollowError}
use Rattle.cstn_follow.specs.FactLines.{unless_fact_refused}
use Rattle.cstn_follow.specs.Following.{verdict_left}
use Rattle.cstn_follow.specs.Sessions.{SessionParts, Records, session_parts, unrecorded}

pub fact_refused : (o : Option FactRefusal) (told : Result History FactRefusal) (e : FactRefusal) → Some e ≡ o → unless_fact_refused o told ≡ Err e
fact_refused o told e is = ap (λ p. unless_fact_refused p told) (sym is)

pub fact_accepted : (o : Option FactRefusal) (told : Result History FactRefusal) → None ≡ o → unless_fact_refused o told ≡ told
fact_accepted o told is = ap (λ p. unless_fact_refused p told) (sym is)

-- what the calls make of a session doesn't change with an equal account of the facts
pub records_same : (told same : Result History FactRefusal) (old new : SessionParts) (r : Result Verdict FollowError) → told ≡ same
    → Records same old new r → Records told old new r
records_same told same old new r is records = subst (λ t. Records t old new r) (sym is) records

-- without a check of what is left nothing is recorded
pub not_recorded : (later : History) (old : SessionParts) (e : RestError)
    → (e ≡ IsTooMany → verdict_left (the_labelled old.network) later old.fresh old.cap ≡ None) → Records (Ok later) old old (Err (unrecorded e))
not_recorded later old IsTooMany none = ((later, refl, none refl), refl)
not_recorded later old (IsMemory e) none = refl

-- what is found after these facts is recorded with them
pub recorded : (x : ExecutionParts) (later : HistoryParts) (y : ExecutionParts) (cap edits : ℕ) (f g : Finding) (v : Verdict) → y ≡ record x { history = later }
    → v ≡ verdict_of g → verdict_left (the_labelled x.network) (the_history later) x.fresh cap ≡ Some (verdict_of g)
    → Records (Ok (the_history later)) (session_parts x cap edits f) (session_parts y cap edits g) (Ok v)
recorded x later y cap edits f g v is said found =
    subst (λ (z : ExecutionParts). Records (Ok (the_history later)) (session_parts x cap edits f) (session_parts z cap edits g) (Ok v)) (sym is)
    (subst (λ (u : Verdict). Records (Ok (the_history later)) (session_parts x cap edits f) (session_parts (record x { history = later }) cap edits g) (Ok u)) (sym said)
    (refl, refl, found))
