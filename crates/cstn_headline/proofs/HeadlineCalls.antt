-- A call of the headline, of what `run` tells.
use Rattle.std.proofs.Common.{◌≡◌, ℕ, List, ◌++◌, refl, sym, subst, ◌∙◌, inl, inr}
use Rattle.std.specs.Prelude.{Option, Some}
use Rattle.cstn_request.specs.Requests.{Request}
use Rattle.cstn_reply.specs.Written.{LiveState, IsWritten}
use Rattle.cstn_reply.specs.declared.status.Status.{Status}
use Rattle.cstn_top.specs.Plans.{PlanEnds}
use Rattle.cstn_top.specs.Dispatch.{plan_at}
use Rattle.cstn_top.specs.Meanings.{IsStopped, IsCapRanged}
use Rattle.cstn_top.specs.Told.{IsToldOfCall}
use Rattle.cstn_headline.specs.Headline.{HasContents, IsCall}

-- what was written for a request, whose cap is in range
abbrev Tells : Request → LiveState → LiveState → List ℕ → Status → List (List ℕ) → Option (List ℕ) → Type 0
Tells request before after old status contents new =
    PlanEnds (plan_at request contents) before after (Some old) new status × IsCapRanged request

-- a call that wrote this text, and wasn't stopped
wrote : (request : Request) (contents : List (List ℕ)) (live old text : List ℕ) (new : Option (List ℕ)) (status : Status) (before after : LiveState) → before.left ≡ Some live → (IsStopped status → ⊥) → new ≡ Some (old ++ text) → Tells request before after old status contents new → IsCall request contents live old new status
wrote request contents live old text new status before after live_is unstopped new_is tells =
    let here : Tells request before after old status contents (Some (old ++ text)) = subst (Tells request before after old status contents) new_is tells in
    record {
      call = record { live = live; status = status; text = text; before = before; after = after; old = old; output = here.0; ranged = here.1; live_is = live_is; unstopped = unstopped };
      live_is = refl;
      old_is = refl;
      new_is = new_is;
      status_is = refl;
    }

tells_call : (request : Request) (contents : List (List ℕ)) (live old : List ℕ) (new : Option (List ℕ)) (status : Status) (before after : LiveState) → before.left ≡ Some live → (IsStopped status → ⊥) → Tells request before after old status contents new → IsCall request contents live old new status
tells_call request contents live old new status before after live_is unstopped tells = by_end tells.0.3
  where
    by_end : IsWritten (Some old) new tells.0.1 tells.0.0 status → IsCall request contents live old new status
    by_end (inl whole) = wrote request contents live old tells.0.1 new status before after live_is unstopped whole.1 tells
    by_end (inr cut) = absurd (unstopped (inr (inl cut.0)))

pub call_is : {S : Type 0} (request : Request) (contents : List (List ℕ)) (live had : List ℕ) (words : Option Request) (files : Option (List ℕ → Option (List ℕ))) (seen : S → LiveState) (before after : S) (old new : Option (List ℕ)) (status : Status) → IsToldOfCall words files seen before after old new status → words ≡ Some request → HasContents files request contents → (seen before).left ≡ Some live → old ≡ Some had → (IsStopped status → ⊥) → IsCall request contents live had new status
call_is request contents live had words files seen before after old new status told words_is has live_is old_is unstopped =
    of_told (subst (λ (o : Option (List ℕ)). IsToldOfCall (Some request) files seen before after o new status) old_is (subst (λ (w : Option Request). IsToldOfCall w files seen before after old new status) words_is told))
  where
    of_told : IsToldOfCall (Some request) files seen before after (Some had) new status → IsCall request contents live had new status
    of_told all =
        tells_call request contents live had new status (seen before) (seen after) live_is unstopped
        (subst (λ (cs : List (List ℕ)). Tells request (seen before) (seen after) had status cs new) (all.are has.0 has.1 ∙ sym has.2) (all.output, all.ranged))
