-- Checks of a network.
use Rattle.std.specs.Prelude.{ℕ, ◌≡◌, ◌<◌, ◌≤◌, Option, Some, None, List, [], ◌++◌, take, false}
use Rattle.cstn_label.specs.declared.bounds.Bound.{Bound}
use Rattle.cstn_net.specs.Networks.{Network, count}
use Rattle.cstn_net.specs.Read.{NetworkParts}
use Rattle.cstn_rules.specs.Derivations.{Entry}
use Rattle.cstn_log.specs.Entries.{State, the_entries, first_entries}
use Rattle.cstn_check.specs.Growth.{is_refuted, log_of, load_of}
use Rattle.cstn_check.specs.Tries.{HasTried}
use Rattle.cstn_check.specs.Turns.{LastRefutes}
use Rattle.cstn_check.specs.declared.verdicts.Verdict.{Verdict}
use Rattle.cstn_check.specs.declared.verdicts.Verdict.TheVariants.{Yes, No, Full}

-- what contracts see of a check: its network, how many entries its log may have, its verdict, if it has answered, and how
-- many rules it has tried
pub record CheckParts : Type 0 where
  pub net : NetworkParts
  pub cap : ℕ
  pub verdict : Option Verdict
  pub tries : ℕ

-- the log has the base bounds of the network, or nothing where its cap is below their number
pub record IsStarted (net : Network) (log : State) : Type 0 where
  pub entries : the_entries log.entries ≡ first_entries net log.cap
  pub nodes : log.nodes ≡ count net
  pub births : log.births ≤ count net

-- the second list begins with the first
pub record IsPrefix (front list : List Entry) : Type 0 where
  pub rest : List Entry
  pub is : front ++ rest ≡ list

-- what a verdict says, for a log with this cap: how the load compares with the cap, which entries the log has then, and whether
-- one of them refutes the network
abbrev pub IsVerdict : Network → ℕ → List Entry → Verdict → Type 0
IsVerdict net cap list (Yes load) = (load ≡ load_of net) × (load_of net ≤ cap) × (list ≡ log_of net) × (is_refuted net (log_of net) ≡ false)
IsVerdict net cap list (No load) = (load ≡ load_of net) × (load_of net ≤ cap) × (list ≡ log_of net) × LastRefutes net (log_of net)
IsVerdict net cap list Full = (cap < load_of net) × IsPrefix list (log_of net) × (cap < count net → list ≡ []) × (count net ≤ cap → list ≡ take cap (log_of net))

-- before a verdict the log has its first entries, and after one what the verdict says
abbrev pub HasAnswered : Network → State → Option Verdict → Type 0
HasAnswered net log None = IsStarted net log
HasAnswered net log (Some v) = IsVerdict net log.cap (the_entries log.entries) v

-- the log and the count of tries are as the verdict says, and `bounds` is empty, with room for as many bounds as the log's cap
pub record IsCheck (net : Network) (log : State) (verdict : Option Verdict) (tries : ℕ) (bounds : List Bound) (room : ℕ) : Type 0 where
  pub answered : HasAnswered net log verdict
  pub counted : HasTried net verdict tries
  pub empty : bounds ≡ []
  pub enough : log.cap ≤ room
