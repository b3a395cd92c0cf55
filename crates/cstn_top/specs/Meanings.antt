-- How a call with a request ends.
use Rattle.std.specs.Prelude.{◌≡◌, ◌⊎◌, ◌≤◌, ℕ, suc, List, [], ◌∷◌, length, take, get_or, Option, None, Some}
use Rattle.cstn_net.specs.Limits.{most_load}
use Rattle.cstn_check.specs.Decisions.{IsYes}
use Rattle.cstn_request.specs.Requests.{Request, of_network, of_labelled, of_text, of_document, of_plan, drill, host, version, files_of}
use Rattle.cstn_request.specs.Asked.{WereRead, AskedFirst}
use Rattle.cstn_request.specs.Files.{AreContents, AreThere}
use Rattle.cstn_request.specs.Documents.{HasLabelled, HasNetwork, IsRefused}
use Rattle.cstn_reply.specs.declared.status.Status.{Status}
use Rattle.cstn_reply.specs.declared.status.Status.TheVariants.{Good, Bad, Words, Document, Full, ReadFault, WriteFault, Memory, Unfinished, Script, Wide}
use Rattle.cstn_top.specs.Kinds.{InSession}
use Rattle.cstn_top.specs.Dispatch.{network_kind, HoldsSession, file_in, plan_at}
use Rattle.cstn_top.specs.commands.Host.{EachHas}

-- the words are a request, and it holds of the request and the contents of its files
abbrev pub HoldsOf : Option Request → Option (List ℕ → Option (List ℕ)) → (Request → List (List ℕ) → Type 0) → Type 0
HoldsOf None shelf holds = ⊥
HoldsOf (Some request) shelf holds = (contents : List (List ℕ)) × AreContents shelf (files_of request) contents × holds request contents

-- a call was stopped by a fault or by want of memory
abbrev pub IsStopped : Status → Type 0
IsStopped status = (status ≡ ReadFault) ⊎ ((status ≡ WriteFault) ⊎ (status ≡ Memory))

-- the files that were read where a call has this status, of those that the words name
abbrev pub files_read : Status → List (List ℕ) → List (List ℕ)
files_read Good names = names
files_read Bad names = names
files_read Words names = []
files_read Document names = take 1 names
files_read Full names = names
files_read ReadFault names = []
files_read WriteFault names = []
files_read Memory names = []
files_read Unfinished names = names
files_read Script names = names
files_read Wide names = names

-- Which of these files were asked for, where a call has this status: the first of them, in their order and each once, and no other.
-- Those that were read are among them, and there.
pub record AreAsked (shelf : Option (List ℕ → Option (List ℕ))) (before after : Option (List (List ℕ))) (status : Status) (names : List (List ℕ)) : Type 0 where
  pub first : AskedFirst shelf before after names
  pub read : length (files_read status names) ≤ first.count
  pub there : AreThere shelf (files_read status names)

-- where a document or a plan in sentences is refused, it is there, and no file behind it was asked for: that of a host with each file before it
abbrev pub RefusedIsThere : Option (List ℕ → Option (List ℕ)) → Option (List (List ℕ)) → Option (List (List ℕ)) → Request → List (List ℕ) → Type 0
RefusedIsThere shelf before after (of_network verb asked cap) contents = WereRead shelf before after (asked.file ∷ [])
RefusedIsThere shelf before after (of_labelled verb asked cap) contents = WereRead shelf before after (asked.file ∷ [])
RefusedIsThere shelf before after (of_text verb asked proof) contents = WereRead shelf before after (asked.file ∷ [])
RefusedIsThere shelf before after (of_document verb asked) contents = WereRead shelf before after (asked.file ∷ [])
RefusedIsThere shelf before after (of_plan asked) contents = WereRead shelf before after (asked.file ∷ [])
RefusedIsThere shelf before after (drill number) contents = ⊥
RefusedIsThere shelf before after (host files deadline cap) contents =
    (place : ℕ) × IsRefused (get_or contents place []) deadline × WereRead shelf before after (take (suc place) files)
RefusedIsThere shelf before after (version release) contents = ⊥

-- the request reads the live source: a run after yes, `edit` and `follow` where the document has a network, and a host where each
-- network has a strategy
abbrev pub ReadsLive : Request → List (List ℕ) → Type 0
ReadsLive (of_network verb asked cap) contents = InSession (network_kind verb) (HasNetwork (file_in contents) asked.deadline (λ names net. Unit {0}))
ReadsLive (of_labelled verb asked cap) contents = HasLabelled (file_in contents) asked.deadline (λ names m. HoldsSession verb cap m)
ReadsLive (of_text verb asked proof) contents = ⊥
ReadsLive (of_document verb asked) contents = ⊥
ReadsLive (of_plan asked) contents = ⊥
ReadsLive (drill number) contents = ⊥
ReadsLive (host files deadline cap) contents = EachHas contents deadline (IsYes cap)
ReadsLive (version release) contents = ⊥

-- the session over the lines of the live source, which has these bytes, comes to a line whose answer may want memory
abbrev pub MayStop : Option (List ℕ) → Request → List (List ℕ) → Type 0
MayStop live request contents = ReadsLive request contents × ((said : List ℕ) × (plan_at request contents).stops live said)

-- the cap is at most 4,194,304
abbrev pub IsCapRanged : Request → Type 0
IsCapRanged (of_network verb asked cap) = cap ≤ most_load
IsCapRanged (of_labelled verb asked cap) = cap ≤ most_load
IsCapRanged (of_text verb asked proof) = Unit {0}
IsCapRanged (of_document verb asked) = Unit {0}
IsCapRanged (of_plan asked) = Unit {0}
IsCapRanged (drill number) = Unit {0}
IsCapRanged (host files deadline cap) = cap ≤ most_load
IsCapRanged (version release) = Unit {0}
