-- What is written as evidence is accepted when it is handed in again.
use Rattle.std.specs.Prelude.{◌↔◌, ◌≡◌, ◌<◌, ◌^◌, ℕ, List, codes}
use Rattle.std.specs.List.{All}
use Rattle.cstn_net.specs.Networks.{Network}
use Rattle.cstn_replay.specs.Texts.{IsReplayOf}
use Rattle.cstn_closed.specs.Certificates.{IsCertificateOf}
use Rattle.cstn_reply.specs.Texts.{Said, say}
use Rattle.cstn_reply.specs.declared.output.Outcome.TheVariants.{Good}
use Rattle.cstn_top.specs.Plans.{Plan}
use Rattle.cstn_top.specs.Answers.{IsByText}

-- of all texts only `accepted` is said
abbrev pub IsAcceptance : (Said → Type 0) → Type 0
IsAcceptance speaks = (said : Said) → speaks said ↔ (said ≡ say Good (codes "accepted"))

-- the plan says `accepted`, and nothing else
abbrev pub IsAccepted : Plan → Type 0
IsAccepted plan = (live : List ℕ) → IsAcceptance (plan.output live)

-- `closedcheck` of the network accepts the text
abbrev pub IsYesText : List (List ℕ) → Network → List ℕ → Type 0
IsYesText names net text = IsAcceptance (IsByText (IsCertificateOf names text net) text)

-- `replay` of the network accepts the text
abbrev pub IsNoText : List (List ℕ) → Network → List ℕ → Type 0
IsNoText names net text = IsAcceptance (IsByText (IsReplayOf names text net) text)

-- the ids of the constraints are numbers of 32 bits
abbrev pub HasIds : Network → Type 0
HasIds net = All (λ c. c.id < 2 ^ 32) net.constraints
