-- What follows of what a call tells, all of it of the same contents.
use Rattle.std.proofs.Common.{◌≡◌, ℕ, List, ◌++◌, sym, subst, inl, inr}
use Rattle.std.specs.Prelude.{◌⊎◌, IfSome, Option, None, Some}
use Rattle.std.proofs.lemmas.List.{append_cancel_left}
use Rattle.std.proofs.lemmas.Option.{same_Some}
use Rattle.cstn_reply.specs.Written.{LiveState}
use Rattle.cstn_reply.specs.declared.status.Status.{Status}
use Rattle.cstn_top.specs.Meanings.{IsStopped}
use Rattle.cstn_request.specs.Requests.{Request}
use Rattle.cstn_top.specs.Told.{IsToldOfCall}
use Rattle.cstn_headline.specs.Tells.{RequestTells, WasAnswered}
use Rattle.cstn_headline.specs.Told.{IsToldOf}
use Rattle.cstn_headline.specs.Headline.{RequestCall, CallTells}
use Rattle.cstn_headline.proofs.Standing.{YesAccepted, NoAccepted}
use Rattle.cstn_headline.proofs.Calls.{answered}

module _ (yes_text : YesAccepted) (no_text : NoAccepted) where
  pub tells_of : {S : Type 0} (words : Option Request) (files : Option (List ℕ → Option (List ℕ))) (seen : S → LiveState) (before after : S) (old new : Option (List ℕ)) (status : Status) →
      (told : IsToldOfCall words files seen before after old new status) → IfSome words (IsToldOf (seen before) old new status told.contents)
  tells_of None files seen before after old new status told = tt
  tells_of (Some r) files seen before after old new status told = answered yes_text no_text r told.contents (seen before) (seen after) old new status told.ranged told.output

  -- and of a call of the headline
  pub call_tells : (request : Request) (contents : List (List ℕ)) (c : RequestCall request contents) → CallTells request contents c
  call_tells request contents c = by_answer (answered yes_text no_text request contents c.before c.after (Some c.old) (Some (c.old ++ c.text)) c.status c.ranged c.output)
    where
      by_answer : IsStopped c.status ⊎ WasAnswered request c.before.left (Some c.old) (Some (c.old ++ c.text)) c.status contents → CallTells request contents c
      by_answer (inl stopped) = absurd (c.unstopped stopped)
      by_answer (inr was) =
          let same : was.text ≡ c.text = sym (append_cancel_left c.old c.text was.text (same_Some (c.old ++ c.text) (c.old ++ was.text) was.wrote)) in (
            was.outcome,
            was.status_is,
            subst (λ (text : List ℕ). RequestTells request was.outcome (Some c.live) text contents) same
                (subst (λ (live : Option (List ℕ)). RequestTells request was.outcome live was.text contents) c.live_is was.tells),
          )
