-- The least deadline of a network whose check has answered yes, with its evidence.
use Rattle.std.proofs.Common.{ℕ, suc, zero, ◌≡◌, ◌<◌, ◌≤◌, ◌-◌, w32, to_z, of_z, Some, Option, Ok, List, length, map, arith, sym, subst, ap, ◌∙◌}
use Rattle.std.specs.Prelude.{◌↔◌, pos, ◌≤ℤ◌, slice_get, IsNone, IfSome}
use Rattle.std.specs.List.{Contains}
use Rattle.std.proofs.lemmas.Int.{ints}
use Rattle.std.proofs.lemmas.List.{length-map}
use Rattle.std.proofs.lemmas.Option.{same_Some}
use Rattle.cstn_label.specs.declared.bounds.Bound.{Bound as Declared}
use Rattle.cstn_label.specs.Bounds.{Bound}
use Rattle.cstn_label.specs.Read.{the_bound}
use Rattle.cstn_net.specs.Limits.{most_deadline, most_load}
use Rattle.cstn_net.specs.Networks.{Network, IsWellFormed, limit}
use Rattle.cstn_net.specs.Strategies.{IsConsistent}
use Rattle.cstn_rules.specs.declared.entries.Entry.{Entry as DeclaredEntry}
use Rattle.cstn_rules.specs.Closed.{IsClosed}
use Rattle.cstn_rules.specs.Derivations.{Entry}
use Rattle.cstn_rules.specs.Rules.{IsBoundOf}
use Rattle.cstn_rules.specs.Read.{the_entry}
use Rattle.cstn_log.specs.Entries.{the_entries}
use Rattle.cstn_refute.specs.Limits.{most_least}
use Rattle.cstn_refute.specs.Refutations.{RefutationParts}
use Rattle.cstn_check.specs.Growth.{log_of, load_of, live_bounds}
use Rattle.cstn_check.specs.Verdicts.{IsRefutationOf}
use Rattle.cstn_check.proofs.Bounded.{log_kept}
use Rattle.cstn_check.proofs.Ends.{load_above}
use Rattle.cstn_closed.specs.Closed.{ClosedParts}
use Rattle.cstn_closed.specs.Faults.{IsFaultless}
use Rattle.cstn_tight.specs.Deadlines.{at_deadline}
use Rattle.cstn_tight.specs.Evidence.{IsTightOf}
use Rattle.cstn_tight.specs.Greatest.{IsFirstGreatest}
use Rattle.cstn_tight.proofs.ClosedLemmas.{closed_of}
use Rattle.cstn_tight.proofs.GreatestLemmas.{greatest_of, greatest_upto, greatest_same, greatest_consistent, greatest_least}
use Rattle.cstn_tight.proofs.LeastLemmas.{good_at_deadline}
use Rattle.cstn_log.proofs.StepLemmas.{entry_read}

module _ (net : Network) (good : IsWellFormed net) (entries : List DeclaredEntry) (whole : the_entries entries ≡ log_of net) where
  pub load_is : length entries ≡ load_of net
  load_is = sym (length-map entries the_entry) ∙ ap length whole

  pub some_entries : 0 < length entries
  some_entries =
      let long = load_is in
      let above = load_above net good in
      let origin = good.network.origin in
      omega arith

  there : (place : ℕ) (e : DeclaredEntry) → slice_get entries place ≡ Some e → slice_get (log_of net) place ≡ Some (the_entry e)
  there place e at = ap (λ l. slice_get l place) (sym whole) ∙ entry_read entries place e at

  limit_small : (x : ℕ) → limit net x ≤ most_deadline
  limit_small zero = omega arith
  limit_small (suc x) = good.in_time

  pub range_at : (place : ℕ) (e : DeclaredEntry) → slice_get entries place ≡ Some e → (pos 0 ≤ℤ e.bound.least) × (e.bound.least ≤ℤ pos most_least)
  range_at place e at =
      let range = (log_kept net good.network good.letters).ranged place (the_entry e) (there place e at) in
      let high = range.high in
      let limit = limit_small e.bound.node.0 in
      (range.low, omega (arith, ints))

  -- the first greatest entry of the list is that of the log, with the value that was read again
  pub first_read : (again : List DeclaredEntry) → the_entries again ≡ log_of net → (place value : ℕ) (e : DeclaredEntry) →
      IsFirstGreatest (the_entries again) (length again) place → slice_get entries place ≡ Some e → pos value ≡ to_z w32 (of_z w32 e.bound.least) →
      (f : IsFirstGreatest (log_of net) (load_of net) place) × (f.entry.bound.least ≡ pos value)
  first_read again all place value e first at read =
      let f = from again all first in
      let range = range_at place e at in
      let same : to_z w32 (of_z w32 e.bound.least) ≡ e.bound.least = omega (arith, ints, range) in
      (f, ap (λ (x : Entry). x.bound.least) (same_Some f.entry (the_entry e) (sym f.there ∙ there place e at)) ∙ sym (read ∙ same))
    where
      from : (others : List DeclaredEntry) → the_entries others ≡ log_of net → IsFirstGreatest (the_entries others) (length others) place → IsFirstGreatest (log_of net) (load_of net) place
      from others all f =
          subst (λ l. IsFirstGreatest l (load_of net) place) all
          (subst (λ n. IsFirstGreatest (the_entries others) n place) (sym (length-map others the_entry) ∙ ap length all) f)

module _ (net : Network) (good : IsWellFormed net) (consistent : IsConsistent net) (place deadline : ℕ)
    (f : IsFirstGreatest (log_of net) (load_of net) place) (is : f.entry.bound.least ≡ pos deadline) where
  pub tight_is : ((n : Network) (bounds : List Bound) → IsClosed n bounds → ((b : Bound) → Contains bounds b → IsBoundOf n b) → IsFaultless n bounds) →
      (load : ℕ) (bounds : List Declared) (closed : ClosedParts) (refutation : Option RefutationParts) → load ≡ load_of net → load ≤ most_load →
      map the_bound bounds ≡ live_bounds (log_of net) → closed ≡ record { load = load; bounds = bounds } →
      (IsNone refutation ↔ (deadline ≡ 0)) → IfSome refutation (IsRefutationOf (at_deadline net (deadline - 1))) →
      IsTightOf net (record { deadline = deadline; closed = closed; refutation = refutation })
  tight_is accepts load bounds closed refutation load_is few live made none some =
      let g = greatest_of (log_of net) place deadline f is in
      let upto = greatest_upto net good consistent deadline g in
      let in_time = good.in_time in
      let good_there = good_at_deadline net good deadline (omega arith) in
      let same = greatest_same net good consistent deadline g in
      record {
        least = greatest_least net good consistent deadline g;
        closed = closed_of (at_deadline net deadline) good_there (greatest_consistent net good consistent deadline g) (accepts (at_deadline net deadline))
            load bounds (load_is ∙ sym (ap length same)) few (live ∙ sym (ap live_bounds same)) (Ok closed) made;
        none = none;
        refutation = some;
      }
