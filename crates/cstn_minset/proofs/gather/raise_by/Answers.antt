use Rattle.std.proofs.Common.{◌≡◌, ◌⊎◌, inl, inr, length, refl, sym, ◌∙◌, arith, rules, SFits, w32}
use Rattle.std.specs.Prelude.{pos, slice_index_or}
use Rattle.std.proofs.lemmas.Int.{to_z-of_z}
use Rattle.std.proofs.lemmas.List.{length-set}
use Rattle.cstn_minset.proofs.BitLemmas.{count_less, part_less}
use Rattle.cstn_minset.proofs.FloorLemmas.{raised_at}
use Rattle.cstn_minset.proofs.SheetLemmas.{only_of_one}
use Rattle.cstn_minset.proofs.gather.raise_by.Goals as goal

pub loop-p-init : goal.loop-p-init
loop-p-init c = record { size = refl; part = λ k set. set; raised = λ p small. inl refl }

pub bounds-greatest-at : goal.bounds-greatest-at
bounds-greatest-at c =
    let set = c.loop-p.invariant.part c.in-Some.p c.in-Some.ensures.set in
    let only = only_of_one c.args.label c.args.kept.now.label c.words-positive.result.0 c.words-positive.result.1 c.words-kept_positive.result.0 c.words-kept_positive.result.1 c.in-Some.p c.labels_are_their_marks.ensures.above c.words-positive.ensures.words c.words-kept_positive.ensures.words
    (sym (c.bits_without-unmarked.ensures c.in-Some.p) ∙ set) in
    let size : length c.args.greatest.now ≡ 52 = search rules in
    omega (arith, only.0, size, c.loop-p.invariant.size)

pub bounds-greatest-at-in-Some : goal.bounds-greatest-at-in-Some
bounds-greatest-at-in-Some c =
    let set = c.loop-p.invariant.part c.in-Some.p c.in-Some.ensures.set in
    let only = only_of_one c.args.label c.args.kept.now.label c.words-positive.result.0 c.words-positive.result.1 c.words-kept_positive.result.0 c.words-kept_positive.result.1 c.in-Some.p
    c.labels_are_their_marks.ensures.above c.words-positive.ensures.words c.words-kept_positive.ensures.words (sym (c.bits_without-unmarked.ensures c.in-Some.p) ∙ set) in
    let size : length c.args.greatest.now ≡ 52 = search rules in
    omega (arith, only.0, size, c.loop-p.invariant.size)

pub loop-p-smaller : goal.loop-p-smaller
loop-p-smaller c =
    count_less c.loop-p.rest c.without_least-rest.result c.in-Some.p (c.without_least-rest.ensures.gone c.in-Some.p c.in-Some.ensures.set (λ j below. c.in-Some.ensures.least j (omega arith) below))
    (λ k other. c.without_least-rest.ensures.others c.in-Some.p k c.in-Some.ensures.set (λ j below. c.in-Some.ensures.least j (omega arith) below) other) 64 c.in-Some.ensures.set c.in-Some.ensures.range

pub loop-p-preserved : goal.loop-p-preserved
loop-p-preserved c =
    let p = c.in-Some.p in
    let set = c.loop-p.invariant.part p c.in-Some.ensures.set in
    let only = only_of_one c.args.label c.args.kept.now.label c.words-positive.result.0 c.words-positive.result.1 c.words-kept_positive.result.0 c.words-kept_positive.result.1 p c.labels_are_their_marks.ensures.above c.words-positive.ensures.words c.words-kept_positive.ensures.words
    (sym (c.bits_without-unmarked.ensures p) ∙ set) in
    let was = slice_index_or c.loop-p.greatest p (pos 0) in
    let next = c.higher.result in
    let size : length c.args.greatest.now ≡ 52 = search rules in
    let fits : SFits w32 next = search rules in
    let fitted : SFits w32 was = search rules in
    let least : SFits w32 c.args.kept.now.least = search rules in
    let told : (next ≡ was) ⊎ (c.args.kept.now.least ≡ next) = elim c.higher.ensures.either [
      | inl same ↦ inl (same ∙ to_z-of_z w32 was fitted)
      | inr new ↦ inr (sym (to_z-of_z w32 c.args.kept.now.least least) ∙ sym new)
    ] in
    rw (to_z-of_z w32 next fits) (record {
      size = length-set c.loop-p.greatest p next ∙ c.loop-p.invariant.size;
      part = part_less c.loop-p.rest c.without_least-rest.result p (c.without_least-rest.ensures.gone c.in-Some.p c.in-Some.ensures.set (λ j below. c.in-Some.ensures.least j (omega arith) below))
          (λ k other. c.without_least-rest.ensures.others c.in-Some.p k c.in-Some.ensures.set (λ j below. c.in-Some.ensures.least j (omega arith) below) other) c.bits_without-unmarked.result c.loop-p.invariant.part;
      raised = raised_at c.args.kept.now c.args.greatest.now c.loop-p.greatest p next (omega (arith, only.0, size, c.loop-p.invariant.size)) (λ marked. marked only.1)
          c.loop-p.invariant.raised told;
    })

pub returns : goal.returns
returns c = c.loop-p.invariant.raised
