use Rattle.std.proofs.Common.{◌≡◌, ◌≢◌, ◌<◌, ◌∙◌, inl, inr, Some, length, get_or, arith, refl, length-set}
use Rattle.std.specs.Prelude.{slice_get}
use Rattle.std.proofs.lemmas.Bool.{cases_eq}
use Rattle.std.proofs.lemmas.List.{get_or-set_other, get_or-set_same}
use Rattle.std.proofs.lemmas.Option.{slice_get-get_or, slice_get_within}
use Rattle.cstn_facts.proofs.Places.{one_there}
use Rattle.cstn_log.proofs.list.write_places.Goals as goal

pub loop-k-init : goal.loop-k-init
loop-k-init c = record { written = λ j s low there. absurd (omega (arith, low)); size = refl; room = omega arith }

pub index_mut-requires : goal.index_mut-requires
index_mut-requires c =
    let k = c.loop-k.k in
    let inside = c.requires.inside k (get_or c.args.slots.now k 0) (slice_get-get_or c.args.slots.now k 0 c.loop-k-test.true) in
    omega (arith, inside, c.loop-k.invariant.size, c.loop-k.places.ok)

pub loop-k-preserved : goal.loop-k-preserved
loop-k-preserved c =
    let slots = c.args.slots.now in
    let P = c.loop-k.places.items in
    let k = c.loop-k.k in
    let slot = get_or slots k 0 in
    let was = c.loop-k.invariant in
    let here : slice_get slots k ≡ Some slot = slice_get-get_or slots k 0 c.loop-k-test.true in
    let inside : slot < length P = omega (arith, c.requires.inside k slot here, was.size) in
    record {
      written = λ j s low there. elim (cases_eq j k) [
        | inl same ↦
            let one : s ≡ slot = one_there slots k s slot (rw same at there) here in
            rw (one, same) (get_or-set_same P slot k 0 inside)
        | inr other ↦
            let apart : s ≢ slot = λ e. other (c.requires.apart j k s there (rw e here)) in
            get_or-set_other P slot s k 0 apart ∙ was.written j s (omega (arith, low, other)) there
      ];
      size = length-set P slot k ∙ was.size;
      room = was.room;
    }

pub returns-clause-filed : goal.returns-clause-filed
returns-clause-filed c = record {
  inside = λ k s there. omega (arith, c.requires.inside k s there, c.loop-k.invariant.size);
  at = λ k s there. c.loop-k.invariant.written k s (omega (arith, slice_get_within c.args.slots.now k s there, c.loop-k.auto.k-end, c.loop-k-test.false)) there;
}

pub returns-clause-size : goal.returns-clause-size
returns-clause-size c = c.loop-k.invariant.size

pub returns-clause-room : goal.returns-clause-room
returns-clause-room c = c.loop-k.invariant.room
