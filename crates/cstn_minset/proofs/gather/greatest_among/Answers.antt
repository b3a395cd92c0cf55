use Rattle.std.proofs.Common.{arith, ◌≡◌, ◌⊎◌, inl, inr, ℕ, true, refl, ◌∙◌, sym, rules, SFits, w32}
use Rattle.std.specs.Prelude.{Some, slice_get}
use Rattle.std.proofs.lemmas.Int.{to_z-of_z}
use Rattle.cstn_label.specs.Words.{has_bit}
use Rattle.cstn_minset.specs.declared.columns.Record.{Record}
use Rattle.cstn_minset.proofs.BitLemmas.{count_less, part_less}
use Rattle.cstn_minset.proofs.RowLemmas.{got}
use Rattle.cstn_minset.proofs.gather.greatest_among.Goals as goal

pub loop-i-init : goal.loop-i-init
loop-i-init c = record { part = λ k set. set; found = inl refl }

pub loop-i-smaller : goal.loop-i-smaller
loop-i-smaller c =
    count_less c.loop-i.rest c.without_least-rest.result c.in-Some.i (c.without_least-rest.ensures.gone c.in-Some.i c.in-Some.ensures.set (λ j below. c.in-Some.ensures.least j (omega arith) below)) (λ k other. c.without_least-rest.ensures.others c.in-Some.i k c.in-Some.ensures.set (λ j below. c.in-Some.ensures.least j (omega arith) below) other) 64 c.in-Some.ensures.set c.in-Some.ensures.range

pub loop-i-preserved : goal.loop-i-preserved
loop-i-preserved c =
    let items = c.args.page.now.records.items in
    let i = c.in-Some.i in
    let set = c.loop-i.invariant.part i c.in-Some.ensures.set in
    let here = got items i (c.requires i set) in
    let floor : SFits w32 c.args.floor = search rules in
    let was = rw (to_z-of_z w32 c.args.floor floor) at c.loop-i.invariant.found in
    let next = c.higher-greatest.result in
    let fits : SFits w32 next = search rules in
    let least : SFits w32 c.least.result = search rules in
    let told : (next ≡ c.args.floor) ⊎ ((j : ℕ) × (r : Record) × (slice_get items j ≡ Some r) × (has_bit c.args.bits j ≡ true) × (r.least ≡ next)) = elim c.higher-greatest.ensures.either [
      | inl same ↦ elim was [
        | inl first ↦ inl (same ∙ first)
        | inr found ↦ inr (found.0, found.1, found.2, found.3, found.4 ∙ sym same)
      ]
      | inr new ↦ inr (i, here.0, here.1, set, sym (c.least.ensures here.0 here.1) ∙ sym (to_z-of_z w32 c.least.result least) ∙ sym new)
    ] in
    record {
      part = part_less c.loop-i.rest c.without_least-rest.result i (c.without_least-rest.ensures.gone c.in-Some.i c.in-Some.ensures.set (λ j below. c.in-Some.ensures.least j (omega arith) below)) (λ k other. c.without_least-rest.ensures.others c.in-Some.i k c.in-Some.ensures.set (λ j below. c.in-Some.ensures.least j (omega arith) below) other) c.args.bits c.loop-i.invariant.part;
      found = rw (to_z-of_z w32 next fits, to_z-of_z w32 c.args.floor floor) told;
    }

pub returns : goal.returns
returns c =
    let floor : SFits w32 c.args.floor = search rules in
    rw (to_z-of_z w32 c.args.floor floor) at c.loop-i.invariant.found
