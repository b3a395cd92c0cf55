-- What a session starts with.
use Rattle.std.proofs.Common.{ℕ, ◌≡◌, ◌-◌, ◌<◌, ◌≤◌, ◌^◌, inl, inr, List, [], length, false, None, arith, sym, subst, ap, ◌∙◌}
use Rattle.std.specs.Prelude.{nat_lt}
use Rattle.std.specs.List.{All}
use Rattle.std.proofs.lemmas.Bool.{cases_Bool, lt-ltb, le-ltb, cond-true, cond-false}
use Rattle.std.proofs.lemmas.List.{append-nil}
use Rattle.std.proofs.lemmas.Option.{none-some}
use Rattle.cstn_net.specs.Limits.{most_constraints, most_load}
use Rattle.cstn_net.specs.Networks.{Network, IsWellFormed, count}
use Rattle.cstn_net.specs.Read.{NetworkParts, the_network}
use Rattle.cstn_rules.specs.Derivations.{Entry, IsDerivation}
use Rattle.cstn_log.specs.Entries.{State, the_entries, bases, first_entries}
use Rattle.cstn_check.specs.Turns.{IsRefutedLast}
use Rattle.cstn_check.proofs.Last.{bases_stand}
use Rattle.cstn_change.specs.Changes.{id_above}
use Rattle.cstn_edit.specs.Sessions.{kept_list, IsKeptLog, IsEditSession}
use Rattle.cstn_edit.specs.Edits.{Session, begun_session, the_session}

no_entry : (net : Network) (list : List Entry) → list ≡ [] → IsRefutedLast net list
no_entry net list is = subst (λ l. IsRefutedLast net l) (sym is) (record { before = λ k e there inside r. absurd (none-some e there) })

-- a log that was just started is a kept log
pub started_log : (net : Network) (log : State) → the_entries log.entries ≡ first_entries net log.cap → log.nodes ≡ count net →
    IsDerivation net (the_entries log.entries) → 1 ≤ log.cap → log.cap ≤ most_load → IsKeptLog net log
started_log net log starts nodes derivation some most = record {
  nodes = nodes;
  derivation = derivation;
  based = λ room. ([], append-nil (bases (count net)) ∙ sym (starts ∙ cond-false _ _ _ (le-ltb log.cap (count net) room)));
  empty = λ few. starts ∙ cond-true _ _ _ (lt-ltb log.cap (count net) few);
  refuted = elim (cases_Bool (nat_lt log.cap (count net))) [
    | inl small ↦ no_entry net (the_entries log.entries) (starts ∙ cond-true _ _ _ small)
    | inr large ↦ subst (λ l. IsRefutedLast net l) (sym (starts ∙ cond-false _ _ _ large)) (bases_stand net)
  ];
  some = some;
  most = most;
}

-- what was just started, without an edit, is a session
pub started_session : (given net : NetworkParts) (log : State) (room next : ℕ) → IsWellFormed (the_network net) →
    net ≡ record given { spare = net.spare } → length given.constraints ≤ room → room ≤ most_constraints →
    All (λ c. c.id < id_above (the_network net).constraints) net.constraints → id_above (the_network net).constraints ≤ 2 ^ 31 → room - length given.constraints ≤ net.spare → IsKeptLog (the_network net) log →
    log.births ≤ count (the_network net) → next ≡ id_above (the_network net).constraints → IsEditSession net log room 0 next None
started_session given net log room next good same fits most ids small spare kept births is =
    let all : net.constraints ≡ given.constraints = ap (λ n. n.constraints) same in
    let long : length net.constraints ≡ length given.constraints = ap length all in
    let few = good.few_points in
    record {
      kept = kept;
      births = omega arith;
      few_edits = omega arith;
      fits = omega arith;
      most_room = most;
      spare = omega arith;
      below = subst (λ h. All (λ c. c.id < h) net.constraints) (sym is) ids;
      small = omega (arith, is, small);
      refuted = tt;
      consistent = tt;
    }

-- what contracts see of a session that was just started is `begun`
kept_started : (net : Network) (cap : ℕ) (entries : List Entry) → entries ≡ first_entries net cap →
    kept_list net cap entries ≡ bases (count net)
kept_started net cap entries is = elim (cases_Bool (nat_lt cap (count net))) [
  | inl small ↦ cond-true _ _ _ small
  | inr large ↦ cond-false _ _ _ large ∙ is ∙ cond-false _ _ _ large
]

begun_same : (given net : NetworkParts) (kept : List Entry) (next : ℕ) → net ≡ record given { spare = net.spare } →
    kept ≡ bases (count (the_network net)) → next ≡ id_above (the_network net).constraints →
    ◌≡◌ {A = Session} (record { net = the_network net; kept = kept; edits = 0; next = next; last = None }) (begun_session (the_network given))
begun_same given net kept next same list is =
    let start : Network → List Entry → ℕ → Session = λ n k h. record { net = n; kept = k; edits = 0; next = h; last = None } in
    ap (λ k. start (the_network net) k next) list ∙ ap (start (the_network net) (bases (count (the_network net)))) is
    ∙ ap (λ (n : NetworkParts). begun_session (the_network n)) same

pub started_seen : (given net : NetworkParts) (log : State) (room tries next : ℕ) → net ≡ record given { spare = net.spare } →
    the_entries log.entries ≡ first_entries (the_network net) log.cap → next ≡ id_above (the_network net).constraints →
    the_session (record { net = net; entries = log.entries; ids = log.ids; cap = log.cap; room = room; edits = 0; next = next; last = None; tries = tries; fresh = []; settled = false })
    ≡ begun_session (the_network given)
started_seen given net log room tries next same start is =
    begun_same given net (kept_list (the_network net) log.cap (the_entries log.entries)) next same
    (kept_started (the_network net) log.cap (the_entries log.entries) start) is
