-- What the outcomes of requests tell.
use Rattle.std.specs.Prelude.{◌≡◌, ◌⊎◌, ℕ, List, Option}
use Rattle.cstn_net.specs.Networks.{Network}
use Rattle.cstn_lift.specs.Labelled.{Labelled}
use Rattle.cstn_reply.specs.declared.output.Outcome.{Outcome}
use Rattle.cstn_reply.specs.declared.output.Outcome.TheVariants.{Good, Bad, Words, Document, Full, Unfinished, Script, Wide}
use Rattle.cstn_request.specs.Documents.{HasLabelled, HasNetwork, IsNoDocument, IsRefused}

-- What each outcome tells. Document is told of the files alone, and Words comes of no request.
pub record Telling : Type 1 where
  pub good : Type 0
  pub bad : Type 0
  pub full : Type 0
  pub unfinished : Type 0
  pub script : Type 0
  pub wide : Type 0

-- what this outcome tells; there is no other
abbrev pub OutcomeTells : Telling → Outcome → Type 0
OutcomeTells telling Good = telling.good
OutcomeTells telling Bad = telling.bad
OutcomeTells telling Words = ⊥
OutcomeTells telling Document = ⊥
OutcomeTells telling Full = telling.full
OutcomeTells telling Unfinished = telling.unfinished
OutcomeTells telling Script = telling.script
OutcomeTells telling Wide = telling.wide

-- a verdict: yes, no, or that a log is too long
abbrev pub by_verdict : Type 0 → Type 0 → Type 0 → Telling
by_verdict holds fails long = record { good = holds; bad = fails; full = long; unfinished = ⊥; script = ⊥; wide = ⊥ }

-- a check of a text: it is right, it is wrong, or it is none of its grammar
abbrev pub by_check : Type 0 → Type 0 → Type 0 → Telling
by_check right wrong off = record { good = right; bad = wrong; full = ⊥; unfinished = ⊥; script = off; wide = ⊥ }

-- one answer alone
abbrev pub good_only : Type 0 → Telling
good_only holds = record { good = holds; bad = ⊥; full = ⊥; unfinished = ⊥; script = ⊥; wide = ⊥ }

-- the bytes are no document, or this is told of its labelled network under the names of its time-points
abbrev pub OfLabelled : List ℕ → Option ℕ → Outcome → (List (List ℕ) → Labelled → Telling) → Type 0
OfLabelled bytes deadline outcome telling =
    ((outcome ≡ Document) × IsNoDocument bytes deadline) ⊎ HasLabelled bytes deadline (λ names m. OutcomeTells (telling names m) outcome)

-- the document is refused, or this is told of its network, no time-point of which has a label
abbrev pub OfNetwork : List ℕ → Option ℕ → Outcome → (List (List ℕ) → Network → Telling) → Type 0
OfNetwork bytes deadline outcome telling =
    ((outcome ≡ Document) × IsRefused bytes deadline) ⊎ HasNetwork bytes deadline (λ names net. OutcomeTells (telling names net) outcome)
