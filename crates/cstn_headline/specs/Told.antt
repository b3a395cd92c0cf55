-- What follows of what a call tells.
use Rattle.std.specs.Prelude.{◌⊎◌, ℕ, List, Option}
use Rattle.cstn_request.specs.Requests.{Request}
use Rattle.cstn_reply.specs.Written.{LiveState}
use Rattle.cstn_reply.specs.declared.status.Status.{Status}
use Rattle.cstn_top.specs.Meanings.{IsStopped}
use Rattle.cstn_headline.specs.Tells.{WasAnswered}

-- a fault or want of memory stopped the call, or the request was answered
abbrev pub IsToldOf : LiveState → Option (List ℕ) → Option (List ℕ) → Status → List (List ℕ) → Request → Type 0
IsToldOf before old new status contents request = IsStopped status ⊎ WasAnswered request before.left old new status contents
