-- What is said of a network by the text of a list of bounds.
use Rattle.std.specs.Prelude.{◌≡◌, ◌⊎◌, ℕ, List, [], ◌∷◌, ◌++◌, slice_index_or, codes, decimal}
use Rattle.cstn_label.specs.Bounds.{Bound}
use Rattle.cstn_net.specs.Networks.{Network}
use Rattle.cstn_text.specs.PrintedNames.{printed_name}
use Rattle.cstn_rules.specs.Closed.{IsClosed}
use Rattle.cstn_reply.specs.Texts.{Said, say}
use Rattle.cstn_reply.specs.Sessions.{script}
use Rattle.cstn_reply.specs.declared.output.Outcome.TheVariants.{Good, Bad}
use Rattle.cstn_closed.specs.Faults.{Fault, bad, no_base, no_chain, no_wait, IsFirstFault, IsFaultless}
use Rattle.cstn_closed.specs.Texts.{ClosedTold, tells, wrong, closed_told}

-- the text of a fault, with the places of bounds counted from 0, the name of a time-point, or the id of a constraint
abbrev pub fault_words : List (List ℕ) → Fault → List ℕ
fault_words names (bad i) = codes "bound " ++ decimal i
fault_words names (no_base x) = codes "base " ++ printed_name (slice_index_or names x [])
fault_words names (no_chain id i) = codes "chain " ++ decimal id ++ 32 ∷ decimal i
fault_words names (no_wait i j) = codes "wait " ++ decimal i ++ 32 ∷ decimal j

-- what the check of a list of bounds says: accepted where it has no fault for the network, so that it is closed; else rejected
-- with its first fault
abbrev pub IsCertificate : List (List ℕ) → List Bound → Network → Said → Type 0
IsCertificate names bounds net said =
    (IsFaultless net bounds × IsClosed net bounds × (said ≡ say Good (codes "accepted")))
    ⊎ ((f : Fault) × IsFirstFault net bounds f × (said ≡ say Bad (codes "rejected " ++ fault_words names f)))

-- the bounds of a text are checked, or its first wrong line is told
abbrev pub IsCertificateOfBounds : List (List ℕ) → ClosedTold → Network → Said → Type 0
IsCertificateOfBounds names (tells load bounds) net said = IsCertificate names bounds net said
IsCertificateOfBounds names (wrong at) net said = said ≡ script at

-- what `closedcheck` says of a network by a text
abbrev pub IsCertificateOf : List (List ℕ) → List ℕ → Network → Said → Type 0
IsCertificateOf names text net said = IsCertificateOfBounds names (closed_told names text) net said
