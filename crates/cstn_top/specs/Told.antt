-- What a call tells, all of it of the same contents of the files that its words name.
use Rattle.std.specs.Prelude.{◌≡◌, ℕ, List, Option, IfSome, String, codes}
use Rattle.cstn_io.specs.Causes.{Rose}
use Rattle.cstn_io.specs.Contents.{with_bytes}
use Rattle.cstn_request.specs.Requests.{Request, names_of}
use Rattle.cstn_request.specs.Read.{request_in}
use Rattle.cstn_request.specs.declared.words.Release.{Release}
use Rattle.cstn_reply.specs.Texts.{line}
use Rattle.cstn_request.specs.Files.{AreContents}
use Rattle.cstn_reply.specs.Written.{LiveState}
use Rattle.cstn_top.specs.Plans.{PlanEnds, Untouched}
use Rattle.cstn_top.specs.Dispatch.{plan_of}
use Rattle.cstn_top.specs.Meanings.{HoldsOf, ReadsLive, IsCapRanged}
use Rattle.cstn_reply.specs.declared.status.Status.{Status}

-- calls failed: the count of faults rose, or it stood at 2^64 - 1
abbrev pub Failed : {A : Type 0} → (A → ℕ) → A → A → Type 0
Failed faults old new = Rose (faults old) (faults new)

-- the words are a request, of which this holds with the contents of its files
abbrev pub TellsOf : {Z : Type 0} → Release → List (String Z) → Option (List ℕ → Option (List ℕ)) → (Request → List (List ℕ) → Type 0) → Type 0
TellsOf release words files holds = HoldsOf (request_in release words) files holds

-- the words are a request that reads the live source
abbrev pub WordsReadLive : {Z : Type 0} → Release → List (String Z) → Option (List ℕ → Option (List ℕ)) → Type 0
WordsReadLive release words files = TellsOf release words files ReadsLive

-- the line `memory` was written, and nothing else
abbrev pub WroteMemory : {K : Type 0} → (K → Option (List ℕ)) → K → K → Type 0
WroteMemory written old new = written new ≡ with_bytes (written old) (line (codes "memory"))

-- what a call with these words wrote, for some contents of the files that they name, and whether it left the live source
abbrev pub Answers : {S : Type 0} → Option Request → Option (List ℕ → Option (List ℕ)) → (S → LiveState) → S → S → Option (List ℕ) → Option (List ℕ) → Status → Type 0
Answers words files seen source now old new status =
    (contents : List (List ℕ)) × AreContents files (names_of words) contents
    × PlanEnds (plan_of words contents) (seen source) (seen now) old new status × Untouched (plan_of words contents) source now

-- all that is told of a call with these words
pub record IsToldOfCall {S : Type 0} (words : Option Request) (files : Option (List ℕ → Option (List ℕ))) (seen : S → LiveState) (source now : S) (old new : Option (List ℕ)) (status : Status) : Type 0 where
  -- the contents of the files that the words name, in their order
  pub contents : List (List ℕ)
  pub are : AreContents files (names_of words) contents
  -- what was written is the output, or what comes after a fault or want of memory; also where the words are no request
  pub output : PlanEnds (plan_of words contents) (seen source) (seen now) old new status
  -- the live source is as it was, unless the plan comes to a session
  pub untouched : Untouched (plan_of words contents) source now
  -- where the words are a request, its cap is in range
  pub ranged : IfSome words IsCapRanged
