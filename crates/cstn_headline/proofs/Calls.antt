-- What is told of a call.
use Rattle.std.proofs.Common.{◌≡◌, ℕ, List, inl, inr}
use Rattle.std.specs.Prelude.{◌⊎◌, Option}
use Rattle.cstn_io.specs.Contents.{with_bytes, IsAllOf}
use Rattle.cstn_reply.specs.Texts.{Said}
use Rattle.cstn_reply.specs.Written.{LiveState, IsWritten, is_output, is_file_fault, is_live_fault, is_memory, is_stopped}
use Rattle.cstn_reply.specs.Statuses.{status_of}
use Rattle.cstn_reply.specs.declared.status.Status.{Status}
use Rattle.cstn_top.specs.Plans.{Plan, IsPlanText, PlanEnds}
use Rattle.cstn_top.specs.Dispatch.{plan_at}
use Rattle.cstn_top.specs.Meanings.{IsStopped, IsCapRanged}
use Rattle.cstn_request.specs.Requests.{Request}
use Rattle.cstn_headline.specs.Tells.{WasAnswered}
use Rattle.cstn_headline.proofs.Standing.{YesAccepted, NoAccepted}
use Rattle.cstn_headline.proofs.Proved.{tells}

-- an output of the plan was written whole, with its status
abbrev pub WroteOutput : Plan → LiveState → Option (List ℕ) → Option (List ℕ) → Status → Type 0
WroteOutput plan before old new status = (live : List ℕ) × IsAllOf before.left live × ((said : Said) × plan.output live said × (status ≡ status_of said.outcome) × (new ≡ with_bytes old said.text))

output_wrote : (plan : Plan) (before after : LiveState) (old new : Option (List ℕ)) (status result : Status) (text : List ℕ) → IsPlanText plan before after status text → IsWritten old new text status result → WroteOutput plan before old new result ⊎ IsStopped result
output_wrote plan before after old new status result text what (inr cut) = inr (inr (inl cut.0))
output_wrote plan before after old new status result text (is_output live said all output took) (inl wrote) = inl (live, all, (said, output, wrote.0, wrote.1))
output_wrote plan before after old new status result text (is_file_fault same) (inl wrote) = inr (inl wrote.0)
output_wrote plan before after old new status result text (is_live_fault taken said left rose heard reads) (inl wrote) = inr (inl wrote.0)
output_wrote plan before after old new status result text (is_memory same) (inl wrote) = inr (inr (inr wrote.0))
output_wrote plan before after old new status result text (is_stopped said stops took) (inl wrote) = inr (inr (inr wrote.0))

-- a call that ended was stopped, or its request was answered
pub answered : YesAccepted → NoAccepted → (r : Request) (contents : List (List ℕ)) (before after : LiveState) (old new : Option (List ℕ)) (result : Status) → IsCapRanged r → PlanEnds (plan_at r contents) before after old new result → IsStopped result ⊎ WasAnswered r before.left old new result contents
answered yes_text no_text r contents before after old new result ranged ends = by_end (output_wrote (plan_at r contents) before after old new ends.0 result ends.1 ends.2 ends.3)
  where
    by_end : WroteOutput (plan_at r contents) before old new result ⊎ IsStopped result → IsStopped result ⊎ WasAnswered r before.left old new result contents
    by_end (inl (live, all, (said, output, at, wrote))) =
        inr (record { outcome = said.outcome; text = said.text; status_is = at; wrote = wrote; tells = tells yes_text no_text r ranged before.left contents live said all output })
    by_end (inr stopped) = inl stopped
