-- How much room logs take at most, and which list decides then what a no needs.
use Rattle.std.specs.Prelude.{ℕ, ◌≡◌, ◌≤◌, Bool, true, false, List, Option, None, Some}
use Rattle.cstn_net.specs.Networks.{Network}
use Rattle.cstn_rules.specs.Derivations.{Entry, IsRefutation}
use Rattle.cstn_check.specs.Growth.{log_of, most_entries}

-- how many marks a label may have of what a time-point observes: four of a proposition, one where nothing is observed
abbrev pub factor : Option ℕ → ℕ
factor None = 1
factor (Some p) = 4

-- a constraint that gave no entry of the list may be left out after a no: where no log can have more than `cap` entries, the
-- list refutes the network, and else it is the network's log
abbrev pub DecidesByList : ℕ → Network → Bool → List Entry → Type 0
DecidesByList cap net true list = IsRefutation net list × (most_entries net ≤ cap)
DecidesByList cap net false list = list ≡ log_of net
