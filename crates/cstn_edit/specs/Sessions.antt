-- Edit sessions: a network that is edited, with the list that is kept between its verdicts.
use Rattle.std.specs.Prelude.{ℕ, ◌≡◌, ◌+◌, ◌*◌, ◌^◌, ◌<◌, ◌≤◌, nat_lt, nat_le, Bool, ◌&&◌, if◌then◌else◌, List, [], ◌++◌, length, Option, Some, None}
use Rattle.std.specs.List.{All}
use Rattle.cstn_net.specs.Limits.{most_constraints, most_load, most_edits}
use Rattle.cstn_net.specs.Networks.{Network, count}
use Rattle.cstn_net.specs.Read.{NetworkParts, the_network}
use Rattle.cstn_net.specs.Strategies.{IsConsistent}
use Rattle.cstn_rules.specs.declared.entries.Entry.{Entry as DeclaredEntry}
use Rattle.cstn_rules.specs.Derivations.{Entry, IsDerivation}
use Rattle.cstn_pool.specs.declared.slot_id.SlotId.{SlotId}
use Rattle.cstn_log.specs.Entries.{State, the_entries, bases}
use Rattle.cstn_check.specs.declared.verdicts.Verdict.{Verdict}
use Rattle.cstn_check.specs.declared.verdicts.Verdict.TheVariants.{Yes, No, Full}
use Rattle.cstn_check.specs.Growth.{grow, log_of, load_of, is_refuted}
use Rattle.cstn_check.specs.Turns.{IsRefutedLast, LastRefutes}
use Rattle.cstn_edit.specs.declared.outcomes.Outcome.{Outcome}

-- what contracts see of a session: the network as edited; the entries of its log, and their ids in the pool; how many entries
-- (`cap`) and constraints (`room`) there may be; the number of accepted edits; the id of the next constraint that is added, above
-- all ever used; the last outcome, or none where an edit was accepted since; how many rules were tried; the ids of the constraints
-- that were added or changed since the last verdict; and whether that verdict was yes and no entry was taken out since
pub record EditSessionParts : Type 0 where
  pub net : NetworkParts
  pub entries : List DeclaredEntry
  pub ids : List SlotId
  pub cap : ℕ
  pub room : ℕ
  pub edits : ℕ
  pub next : ℕ
  pub last : Option Outcome
  pub tries : ℕ
  pub fresh : List ℕ
  pub settled : Bool

-- the kept list: the entries of the log, or the base bounds where the log has no room for them
abbrev pub kept_list : Network → ℕ → List Entry → List Entry
kept_list net cap entries = if nat_lt cap (count net) then bases (count net) else entries

-- the kept list of a session
abbrev pub kept_of : EditSessionParts → List Entry
kept_of s = kept_list (the_network s.net) s.cap (the_entries s.entries)

-- the list that is kept after a verdict: the kept list grown, or, where that is too long, the log of the network, or, where
-- that is too long as well, the base bounds
abbrev pub kept_after : Network → ℕ → List Entry → List Entry
kept_after net cap kept =
    if nat_le (length (grow net kept)) cap then grow net kept
    else if nat_le (load_of net) cap then log_of net
    else bases (count net)

-- the verdict that a grown list gives, with its length as the load
abbrev pub verdict_by : Network → List Entry → Verdict
verdict_by net list = if is_refuted net list then No (length list) else Yes (length list)

-- a new outcome: growth starts afresh where the kept list grows past the cap, and the verdict is full where the log of the
-- network is longer than the cap as well
abbrev pub new_outcome : Network → ℕ → List Entry → Outcome
new_outcome net cap kept = record {
  afresh = nat_lt cap (length (grow net kept));
  verdict = if nat_lt cap (length (grow net kept)) && nat_lt cap (load_of net) then Full else verdict_by net (kept_after net cap kept);
}

-- the most births that the log can have had: the start, each accepted edit and each new outcome add at most 2 ^ 24
abbrev pub most_births : ℕ → Option Outcome → ℕ
most_births edits None = (2 * edits + 1) * 2 ^ 24
most_births edits (Some o) = (2 * edits + 2) * 2 ^ 24

-- the log keeps a derivation of the network from its base bounds, in which no entry but perhaps the last refutes
pub record IsKeptLog (net : Network) (log : State) : Type 0 where
  pub nodes : log.nodes ≡ count net
  pub derivation : IsDerivation net (the_entries log.entries)
  pub based : count net ≤ log.cap → (more : List Entry) × (bases (count net) ++ more ≡ the_entries log.entries)
  pub empty : log.cap < count net → the_entries log.entries ≡ []
  pub refuted : IsRefutedLast net (the_entries log.entries)
  pub some : 1 ≤ log.cap
  pub most : log.cap ≤ most_load

-- after a no the last entry of the log refutes the network
abbrev pub Refuted : Network → State → Option Outcome → Type 0
Refuted net log None = Unit {0}
Refuted net log (Some o) = (load : ℕ) → o.verdict ≡ No load → (load ≡ length log.entries) × LastRefutes net (the_entries log.entries)

-- after a yes the network is consistent
abbrev pub Consistent : Network → Option Outcome → Type 0
Consistent net None = Unit {0}
Consistent net (Some o) = (load : ℕ) → o.verdict ≡ Yes load → IsConsistent net

pub record IsEditSession (net : NetworkParts) (log : State) (room edits next : ℕ) (last : Option Outcome) : Type 0 where
  pub kept : IsKeptLog (the_network net) log
  pub births : log.births ≤ most_births edits last
  pub few_edits : edits ≤ most_edits
  pub fits : length net.constraints ≤ room
  pub most_room : room ≤ most_constraints
  pub spare : room ≤ length net.constraints + net.spare
  pub below : All (λ c. c.id < next) net.constraints
  pub small : next ≤ 2 ^ 31 + edits
  pub refuted : Refuted (the_network net) log last
  pub consistent : Consistent (the_network net) last
