-- The refutation that a session hands out after a no.
use Rattle.std.proofs.Common.{ℕ, ◌≡◌, ◌-◌, ◌<◌, ◌≤◌, List, length, Option, Some, arith, sym, subst, ap, ◌∙◌}
use Rattle.std.specs.List.{All}
use Rattle.std.proofs.lemmas.List.{length-map}
use Rattle.std.proofs.lemmas.Option.{slice_get_within}
use Rattle.cstn_net.specs.Limits.{most_load}
use Rattle.cstn_net.specs.Networks.{Network, IsWellFormed, count}
use Rattle.cstn_rules.specs.declared.entries.Entry.{Entry as DeclaredEntry}
use Rattle.cstn_rules.specs.Read.{the_entry}
use Rattle.cstn_log.specs.Entries.{State, the_entries, AllNew}
use Rattle.cstn_log.specs.Cuts.{last_with_ancestors}
use Rattle.cstn_refute.specs.Refutations.{RefutationParts, AreSteps, FitsText, the_steps}
use Rattle.cstn_check.specs.declared.verdicts.Verdict.TheVariants.{No}
use Rattle.cstn_check.specs.Turns.{LastRefutes}
use Rattle.cstn_check.proofs.PartLemmas.{part_steps, part_named, part_text}
use Rattle.cstn_edit.specs.declared.outcomes.Outcome.{Outcome}
use Rattle.cstn_edit.specs.Sessions.{Refuted, IsKeptLog, kept_list}
use Rattle.cstn_edit.proofs.VerdictLemmas.{log_on, room_where_not, room_kept}

-- after a no the last entry refutes
pub last_refutes : (net : Network) (log : State) (last : Option Outcome) (o : Outcome) (load : ℕ) → last ≡ Some o → o.verdict ≡ No load →
    Refuted net log last → LastRefutes net (the_entries log.entries)
last_refutes net log last o load same verdict refuted = (subst (λ l. Refuted net log l) same refuted load verdict).1

-- a log whose last entry refutes has room for the base bounds
room_refuted : (net : Network) (log : State) → IsKeptLog net log → LastRefutes net (the_entries log.entries) → count net ≤ log.cap
room_refuted net log kept last =
    let L = the_entries log.entries in
    let long : length L ≡ length log.entries = length-map log.entries the_entry in
    let inside = slice_get_within L (length L - 1) last.last last.is_last in
    room_where_not net log kept (λ none. omega arith)

-- the load of the no is the length of the kept list
pub kept_load : (net : Network) (log : State) (o : Outcome) (load : ℕ) → IsKeptLog net log → Refuted net log (Some o) → o.verdict ≡ No load →
    load ≡ length (kept_list net log.cap (the_entries log.entries))
kept_load net log o load kept refuted said =
    let L = the_entries log.entries in
    let no = refuted load said in
    no.0 ∙ sym (length-map log.entries the_entry) ∙ ap length (sym (room_kept net log.cap L (room_refuted net log kept no.1)))

-- a refutation of the last entry of the log with its ancestors is in the ranges of a text
pub kept_text : (net : Network) (log : State) (r : RefutationParts) → IsKeptLog net log → LastRefutes net (the_entries log.entries) →
    r.load ≡ length log.entries → the_steps r ≡ last_with_ancestors (the_entries log.entries) → length log.entries ≤ most_load → FitsText r
kept_text net log r kept last load is few =
    let L = the_entries log.entries in
    let long : length L ≡ length log.entries = length-map log.entries the_entry in
    part_text net L r (record { derivation = kept.derivation; last = last.last; is_last = last.is_last; refutes = last.refutes })
    (load ∙ sym long) is (omega (arith, few, long))

module _ (net : Network) (log : State) (steps : List DeclaredEntry) (good : IsWellFormed net) (kept : IsKeptLog net log)
    (last : LastRefutes net (the_entries log.entries)) (new : AllNew log.entries) (is : the_entries steps ≡ last_with_ancestors (the_entries log.entries)) where
  -- the last entry of the log with its ancestors has the form of the steps of a refutation
  pub kept_steps : length log.entries ≤ most_load → AreSteps steps
  kept_steps few =
      let L = the_entries log.entries in
      let long : length L ≡ length log.entries = length-map log.entries the_entry in
      part_steps net good L (log_on net log good kept new (room_refuted net log kept last)).kept steps
      (record { derivation = kept.derivation; last = last.last; is_last = last.is_last; refutes = last.refutes }) is (omega arith)

  -- each step is at a time-point of the network
  pub kept_named : All (λ e. e.bound.node.0 < count net) steps
  kept_named = part_named net good (the_entries log.entries) (log_on net log good kept new (room_refuted net log kept last)).kept steps is
