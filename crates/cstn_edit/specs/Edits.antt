-- Edit sessions by their definition: the sessions that follow accepted changes, and the verdicts.
use Rattle.std.specs.Prelude.{ℕ, List, Option, None, Some}
use Rattle.std.specs.Option.{unwrap_or}
use Rattle.cstn_net.specs.Networks.{Network, count}
use Rattle.cstn_net.specs.Read.{the_network}
use Rattle.cstn_rules.specs.Derivations.{Entry}
use Rattle.cstn_log.specs.Entries.{bases}
use Rattle.cstn_log.specs.Cuts.{dropped}
use Rattle.cstn_change.specs.Changes.{EditedNetwork, Change, adds, removes, revalues, id_above, edited_by}
use Rattle.cstn_edit.specs.declared.outcomes.Outcome.{Outcome}
use Rattle.cstn_edit.specs.Sessions.{EditSessionParts, kept_of, kept_after, new_outcome}

-- a session: the network as edited, the list of bounds kept between its verdicts, the number of accepted edits, the id of the next
-- constraint that is added, above all ever used, and the outcome of the last verdict, or none where an edit was accepted since
pub record Session : Type 0 where
  pub net : Network
  pub kept : List Entry
  pub edits : ℕ
  pub next : ℕ
  pub last : Option Outcome

-- the session that starts on the network, whose kept list is the base bounds
abbrev pub begun_session : Network → Session
begun_session net = record { net = net; kept = bases (count net); edits = 0; next = id_above net.constraints; last = None }

-- what was edited of a session
abbrev pub edited_of : Session → EditedNetwork
edited_of s = record { net = s.net; fresh = s.next; edits = s.edits }

-- the kept list after a change: it loses the entries that the constraint of a removed id, or of one with another value, gave, and
-- those that descend from them
abbrev pub kept_through : List Entry → Change → List Entry
kept_through kept (adds from to most a) = kept
kept_through kept (removes id) = dropped kept id
kept_through kept (revalues id most) = dropped kept id

-- the session with this network as edited and this kept list, of which there is no verdict yet
abbrev pub with_edited : EditedNetwork → List Entry → Session
with_edited e kept = record { net = e.net; kept = kept; edits = e.edits; next = e.fresh; last = None }

-- the session after a change
abbrev pub with_change : Session → Change → Session
with_change s change = with_edited (edited_by (edited_of s) change) (kept_through s.kept change)

-- the outcome of a verdict: the last one, or a new one where an edit was accepted since
abbrev pub outcome_at : ℕ → Session → Outcome
outcome_at cap s = unwrap_or s.last (new_outcome s.net cap s.kept)

-- the kept list after a verdict, which leaves it as it is where the last outcome still stands
abbrev pub kept_at : ℕ → Session → Option Outcome → List Entry
kept_at cap s None = kept_after s.net cap s.kept
kept_at cap s (Some o) = s.kept

-- the session after a verdict
abbrev pub with_verdict : ℕ → Session → Session
with_verdict cap s = record {
  net = s.net;
  kept = kept_at cap s s.last;
  edits = s.edits;
  next = s.next;
  last = Some (outcome_at cap s);
}

-- the session of this definition, from what contracts see of one
abbrev pub the_session : EditSessionParts → Session
the_session s = record { net = the_network s.net; kept = kept_of s; edits = s.edits; next = s.next; last = s.last }
