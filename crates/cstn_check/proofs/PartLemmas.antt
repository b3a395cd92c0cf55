-- The last entry of a list with its ancestors, as steps of a refutation.
use Rattle.std.proofs.Common.{ℕ, ◌≡◌, ◌-◌, ◌<◌, ◌≤◌, List, length, get_or, Some, arith, sym, subst, ap, ◌∙◌}
use Rattle.std.specs.Prelude.{slice_get}
use Rattle.std.specs.List.{All}
use Rattle.std.proofs.lemmas.Int.{ints}
use Rattle.std.proofs.lemmas.List.{length-map}
use Rattle.std.proofs.lemmas.Option.{slice_get_within, slice_get-get_or}
use Rattle.cstn_label.specs.Bounds.{Bound}
use Rattle.cstn_net.specs.Limits.{most_load}
use Rattle.cstn_net.specs.Networks.{Network, IsWellFormed, count}
use Rattle.cstn_rules.specs.declared.entries.Entry.{Entry as DeclaredEntry}
use Rattle.cstn_rules.specs.Derivations.{Entry, IsRefutation}
use Rattle.cstn_rules.specs.Read.{the_entry}
use Rattle.cstn_log.specs.Entries.{the_entries}
use Rattle.cstn_log.specs.Cuts.{last_marked, with_ancestors, last_with_ancestors}
use Rattle.cstn_log.proofs.ChoiceLemmas.{rank_upto}
use Rattle.cstn_log.proofs.CutLemmas.{length_cut, comes}
use Rattle.cstn_log.proofs.MarkLemmas.{part_refutation}
use Rattle.cstn_refute.specs.Refutations.{RefutationParts, IsStep, AreSteps, FitsText, the_steps}
use Rattle.cstn_check.specs.Growth.{log_of}
use Rattle.cstn_check.specs.Kept.{IsKeptList, IsRanged}
use Rattle.cstn_check.specs.Turns.{LastRefutes}
use Rattle.cstn_check.proofs.Decides.{log_derived}
use Rattle.cstn_check.proofs.FloorLemmas.{limit_in_time}
use Rattle.cstn_check.proofs.GoodLemmas.{good_at}
use Rattle.cstn_log.proofs.StepLemmas.{entry_read}

pub part_short : (steps : List Entry) → length (last_with_ancestors steps) ≤ length steps
part_short steps =
    let marks = with_ancestors steps (length steps) (last_marked (length steps)) in
    let size = length_cut marks steps in
    let upto = rank_upto marks (length steps) in
    omega arith

pub part_refutes : (net : Network) (list steps : List Entry) → IsRefutation net list → steps ≡ last_with_ancestors list → IsRefutation net steps
part_refutes net list steps refuting is = subst (λ l. IsRefutation net l) (sym is) (part_refutation net list refuting)

pub part_text : (net : Network) (list : List Entry) (r : RefutationParts) → IsRefutation net list → r.load ≡ length list →
    the_steps r ≡ last_with_ancestors list → length list ≤ most_load → FitsText r
part_text net list r refuting load is few =
    let inside = slice_get_within list (length list - 1) refuting.last refuting.is_last in
    let long : length (the_steps r) ≡ length r.steps = length-map r.steps the_entry in
    let same = ap length is in
    let short = part_short list in
    record { load_low = omega arith; load_high = omega arith; few = omega arith }

module _ (net : Network) (good : IsWellFormed net) (list : List Entry) (kept : IsKeptList net list) where
  ranged_step : (e : DeclaredEntry) → IsRanged net (the_entry e).bound → IsStep e
  ranged_step e r =
      let most = limit_in_time net good e.bound.node.0 in
      let low = r.low in
      let high = r.high in
      record { low = low; high = omega (arith, ints) }

  -- each bound of the part is one of the list
  part_from : (k : ℕ) (e : Entry) → slice_get (last_with_ancestors list) k ≡ Some e →
      (i : ℕ) × (f : Entry) × (slice_get list i ≡ Some f) × (f.bound ≡ e.bound)
  part_from k e there =
      let from = comes (with_ancestors list (length list) (last_marked (length list))) list k e there in
      (from.0, from.1, from.2, sym (ap (λ (x : Entry). x.bound) from.5))

  part_ranged : (k : ℕ) (e : Entry) → slice_get (last_with_ancestors list) k ≡ Some e → IsRanged net e.bound
  part_ranged k e there =
      let from = part_from k e there in
      subst (λ b. IsRanged net b) from.3 (kept.ranged from.0 from.1 from.2)

  part_node : (k : ℕ) (e : Entry) → slice_get (last_with_ancestors list) k ≡ Some e → e.bound.node < count net
  part_node k e there =
      let from = part_from k e there in
      subst (λ (b : Bound). b.node < count net) from.3 (good_at net list from.0 from.1 kept.good from.2).node

  step_there : (steps : List DeclaredEntry) → the_entries steps ≡ last_with_ancestors list → (k : ℕ) (d : DeclaredEntry) → k < length steps →
      slice_get (last_with_ancestors list) k ≡ Some (the_entry (get_or steps k d))
  step_there steps is k d inside =
      ap (λ l. slice_get l k) (sym is) ∙ entry_read steps k (get_or steps k d) (slice_get-get_or steps k d inside)

  -- the part of a list that refutes has the form of steps
  pub part_steps : (steps : List DeclaredEntry) → IsRefutation net list → the_entries steps ≡ last_with_ancestors list → length list ≤ most_load →
      AreSteps steps
  part_steps steps refuting is few =
      let long : length (the_entries steps) ≡ length steps = length-map steps the_entry in
      let same = ap length is in
      let short = part_short list in
      let r = part_refutation net list refuting in
      let inside = slice_get_within (last_with_ancestors list) (length (last_with_ancestors list) - 1) r.last r.is_last in
      record {
        some = omega arith;
        few = omega arith;
        each = λ k d inside.
            ranged_step (get_or steps k d) (part_ranged k (the_entry (get_or steps k d)) (step_there steps is k d inside));
      }

  pub part_named : (steps : List DeclaredEntry) → the_entries steps ≡ last_with_ancestors list → All (λ e. e.bound.node.0 < count net) steps
  part_named steps is = λ k d inside. part_node k (the_entry (get_or steps k d)) (step_there steps is k d inside)

-- where its last entry refutes, the log of a network is a refutation
pub log_refutation : (net : Network) → IsWellFormed net → LastRefutes net (log_of net) → IsRefutation net (log_of net)
log_refutation net good last = record {
  derivation = log_derived net good.network good.letters;
  last = last.last;
  is_last = last.is_last;
  refutes = last.refutes;
}
