-- Verdicts on networks, and what is said of them.
use Rattle.std.specs.Prelude.{◌≡◌, ◌≤◌, ℕ, nat_lt, if◌then◌else◌, List, Option, None, Some}
use Rattle.cstn_net.specs.Networks.{Network}
use Rattle.cstn_net.specs.Strategies.{IsConsistent}
use Rattle.cstn_net.specs.Read.{NetworkParts, the_network}
use Rattle.cstn_log.specs.Cuts.{last_with_ancestors}
use Rattle.cstn_refute.specs.Texts.{refutation_shown}
use Rattle.cstn_reply.specs.Texts.{Said, yes_line, full_line}
use Rattle.cstn_reply.specs.Read.{the_said}
use Rattle.cstn_reply.specs.declared.output.Outcome.TheVariants.{Good, Bad, Full}
use Rattle.cstn_check.specs.Growth.{is_refuted, log_of, load_of}
use Rattle.cstn_check.specs.declared.verdicts.Verdict.{Verdict}
use Rattle.cstn_check.specs.declared.verdicts.Verdict.TheVariants.{Yes, No, Full as IsFull}
use Rattle.cstn_check.specs.declared.decisions.Judged.{Judged}
use Rattle.cstn_check.specs.declared.decisions.Judged.TheVariants.{Yes as SaysYes, Told}

-- the verdict on a network, whose log may have `cap` entries
abbrev pub verdict : ℕ → Network → Verdict
verdict cap net =
    if nat_lt cap (load_of net) then IsFull else if is_refuted net (log_of net) then No (load_of net) else Yes (load_of net)

-- what is said of a verdict on a network that isn't yes: the refutation after no, or the cap where the log has more entries
abbrev pub unless_yes : ℕ → List (List ℕ) → Network → Verdict → Option Said
unless_yes cap names net (Yes load) = None
unless_yes cap names net (No load) = Some (record { outcome = Bad; text = refutation_shown names load (last_with_ancestors (log_of net)) })
unless_yes cap names net IsFull = Some (record { outcome = Full; text = full_line cap })

-- this, unless something is said in its place
abbrev pub said_instead : Option Said → Said → Said
said_instead None said = said
said_instead (Some other) said = other

-- what is said of the verdict on a network: `after_yes`, the refutation after no, or the cap where the log has more entries
abbrev pub on_verdict : ℕ → List (List ℕ) → Network → Said → Said
on_verdict cap names net after_yes = said_instead (unless_yes cap names net (verdict cap net)) after_yes

-- what `check` says of a network
abbrev pub checked : ℕ → List (List ℕ) → Network → Said
checked cap names net = on_verdict cap names net (record { outcome = Good; text = yes_line (load_of net) })

-- the network has a strategy, and its log has at most `cap` entries
abbrev pub IsYes : ℕ → Network → Type 0
IsYes cap net = IsConsistent net × (load_of net ≤ cap)

-- the network has no strategy, and its log has at most `cap` entries
abbrev pub IsNo : ℕ → Network → Type 0
IsNo cap net = (IsConsistent net → ⊥) × (load_of net ≤ cap)

-- the verdict on a network is yes, with its load, or this is said of it
abbrev pub TellsVerdict : ℕ → List (List ℕ) → NetworkParts → Judged → Type 0
TellsVerdict cap names network (SaysYes load check) =
    (verdict cap (the_network network) ≡ Yes (load_of (the_network network))) × (load ≡ load_of (the_network network)) × (check.net ≡ network) × (check.verdict ≡ Some (Yes load))
TellsVerdict cap names network (Told said) = unless_yes cap names (the_network network) (verdict cap (the_network network)) ≡ Some (the_said said)
