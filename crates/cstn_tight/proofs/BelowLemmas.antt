-- The refutation at one tick less than the least deadline.
use Rattle.std.proofs.Common.{ℕ, ◌≡◌, ◌<◌, ◌+◌, ◌-◌, Bool, true, false, List, length, map, take, arith, refl, sym, ap, ◌∙◌}
use Rattle.std.specs.Prelude.{pos}
use Rattle.std.proofs.lemmas.List.{length-take-le, take-map}
use Rattle.std.proofs.lemmas.Option.{slice_get_within}
use Rattle.cstn_net.specs.Limits.{most_load}
use Rattle.cstn_net.specs.Networks.{Network, IsWellFormed}
use Rattle.cstn_net.specs.Strategies.{IsConsistent}
use Rattle.cstn_rules.specs.declared.entries.Entry.{Entry as DeclaredEntry}
use Rattle.cstn_rules.specs.Derivations.{IsRefutation}
use Rattle.cstn_rules.specs.Read.{the_entry}
use Rattle.cstn_log.specs.Cuts.{last_with_ancestors}
use Rattle.cstn_log.specs.Entries.{the_entries}
use Rattle.cstn_refute.specs.Refutations.{RefutationParts, AreSteps}
use Rattle.cstn_check.specs.Growth.{is_refuted, log_of, load_of}
use Rattle.cstn_check.specs.Verdicts.{IsRefutationOf}
use Rattle.cstn_check.specs.declared.verdicts.Verdict.TheVariants.{Yes, Full}
use Rattle.cstn_check.proofs.Bounded.{log_kept}
use Rattle.cstn_check.proofs.Decides.{log_decides, log_last_refutes}
use Rattle.cstn_check.proofs.PartLemmas.{log_refutation, part_steps, part_refutes, part_named, part_text}
use Rattle.cstn_tight.specs.Deadlines.{at_deadline}
use Rattle.cstn_tight.specs.Greatest.{IsFirstGreatest}
use Rattle.cstn_tight.proofs.LeastLemmas.{good_at_deadline}
use Rattle.cstn_tight.proofs.GreatestLemmas.{greatest_of, greatest_upto, greatest_refuted, front_before}

module _ (net : Network) (good : IsWellFormed net) (consistent : IsConsistent net) (place deadline : ℕ)
    (f : IsFirstGreatest (log_of net) (load_of net) place) (is : f.entry.bound.least ≡ pos deadline) (some : 0 < deadline) where
  good_before : IsWellFormed (at_deadline net (deadline - 1))
  good_before =
      let upto = greatest_upto net good consistent deadline (greatest_of (log_of net) place deadline f is) in
      let in_time = good.in_time in
      good_at_deadline net good (deadline - 1) (omega arith)

  before : log_of (at_deadline net (deadline - 1)) ≡ take (place + 1) (log_of net)
  before = front_before net good consistent deadline (greatest_of (log_of net) place deadline f is) place f is some

  load_before : load_of (at_deadline net (deadline - 1)) ≡ place + 1
  load_before =
      let inside = slice_get_within (log_of net) place f.entry f.there in
      ap length before ∙ length-take-le (place + 1) (log_of net) (omega arith)

  refuting : IsRefutation (at_deadline net (deadline - 1)) (log_of (at_deadline net (deadline - 1)))
  refuting =
      let low = at_deadline net (deadline - 1) in
      log_refutation low good_before (log_last_refutes low good_before.network good_before.letters (over (is_refuted low (log_of low)) (log_decides low good_before.network good_before.letters).1))
    where
      over : (b : Bool) → (b ≡ false → IsConsistent (at_deadline net (deadline - 1))) → b ≡ true
      over true stands = refl
      over false stands = absurd (greatest_refuted net good consistent deadline (greatest_of (log_of net) place deadline f is) some (stands refl))

  module _ (few : place < most_load) (entries steps : List DeclaredEntry) (whole : the_entries entries ≡ log_of net)
      (cut : the_entries steps ≡ last_with_ancestors (the_entries (take (place + 1) entries))) where
    part_before : the_entries steps ≡ last_with_ancestors (log_of (at_deadline net (deadline - 1)))
    part_before = cut ∙ ap last_with_ancestors (sym (take-map the_entry (place + 1) entries) ∙ ap (take (place + 1)) whole ∙ sym before)

    pub steps_before : AreSteps steps
    steps_before =
        let load = load_before in
        part_steps (at_deadline net (deadline - 1)) good_before (log_of (at_deadline net (deadline - 1)))
        (log_kept (at_deadline net (deadline - 1)) good_before.network good_before.letters) steps refuting part_before (omega arith)

    pub refuted_before : (r : RefutationParts) → r.load ≡ place + 1 → r.steps ≡ steps → IsRefutationOf (at_deadline net (deadline - 1)) r
    refuted_before r load_is steps_are =
        let low = at_deadline net (deadline - 1) in
        let load = load_before in
        let same = ap (map the_entry) steps_are ∙ part_before in
        record {
          part = same;
          load = load_is ∙ sym load_before;
          refutes = part_refutes low (log_of low) (map the_entry r.steps) refuting same;
          named = part_named low good_before (log_of low) (log_kept low good_before.network good_before.letters) r.steps same;
          text = part_text low (log_of low) r refuting (load_is ∙ sym load_before) same (omega arith);
        }

-- yes isn't full
pub yes_not_full : (load : ℕ) → Yes load ≡ Full → ⊥
yes_not_full load e = cc
