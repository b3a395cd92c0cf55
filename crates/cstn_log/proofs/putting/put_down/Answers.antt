use Rattle.std.proofs.Common.{ℕ, ◌≡◌, ◌≤◌, ◌∙◌, inl, inr, true, List, get_or, arith, refl, sym, subst}
use Rattle.std.proofs.lemmas.Bool.{cases_eq}
use Rattle.std.proofs.lemmas.List.Elements.{All-get_or, All-from_get_or, All-contains}
use Rattle.cstn_log.specs.Agendas.{has_place}
use Rattle.cstn_log.specs.Kept.{IsIdAt}
use Rattle.cstn_log.proofs.putting.put_down.Goals.{then-place-upto, else-place-upto}
use Rattle.cstn_log.proofs.putting.put_down.Goals as goal

-- a place that was on the agenda stays there
still : (old new : List (List ℕ)) (place m : ℕ) → has_place new place ≡ true → ((n : ℕ) → (n ≡ place → ⊥) → has_place new n ≡ has_place old n) →
    has_place old m ≡ true → has_place new m ≡ true
still old new place m here others has = elim (cases_eq m place) [
  | inl same ↦ subst (λ n. has_place new n ≡ true) (sym same) here
  | inr ne ↦ others m ne ∙ has
]

pub loop-at-init : goal.loop-at-init
loop-at-init c = record {
  kept = λ m has. has;
  added = λ i birth k low id upto. absurd (omega (arith, low));
  upto = λ m has. inl has;
  size = refl;
}

pub place_in-place-requires : goal.place_in-place-requires
place_in-place-requires c =
    All-get_or (λ s. (birth : ℕ) × (k : ℕ) × IsIdAt c.args.list.now.ids s birth k) c.args.slots.now c.loop-at.at 0 c.loop-at-test.true c.requires.held

pub loop-at-preserved : goal.loop-at-preserved
loop-at-preserved c =
    let at = c.loop-at.at in
    let was = c.loop-at.invariant in
    let ids = c.args.list.now.ids in
    let slots = c.args.slots.now in
    let place = c.place_in-place.result in
    elim c.if-place-upto.branch [
      | then-place-upto w ↦
          let here = w.insert.ensures.here in
          let others = w.insert.ensures.others in
          record {
            kept = λ m has. rw w.agenda-is (still c.loop-at.agenda w.insert.new.self place m here others (was.kept m has));
            added = λ i birth k low id upto. elim (cases_eq i at) [
              | inl same ↦
                  let is = c.place_in-place.ensures birth k (subst (λ n. IsIdAt ids (get_or slots n 0) birth k) same id) in
                  rw w.agenda-is (subst (λ n. has_place w.insert.new.self n ≡ true) is here)
              | inr ne ↦ rw w.agenda-is (still c.loop-at.agenda w.insert.new.self place k here others (was.added i birth k (omega (arith, low, ne)) id upto))
            ];
            upto = λ m has. elim (cases_eq m place) [
              | inl same ↦ inr (omega (arith, same, w.if-place-upto.true))
              | inr ne ↦ was.upto m (sym (others m ne) ∙ (rw w.agenda-is at has))
            ];
            size = rw w.agenda-is (w.insert.ensures.size ∙ was.size);
          }
      | else-place-upto w ↦
          record {
            kept = λ m has. rw w.agenda-is (was.kept m has);
            added = λ i birth k low id upto. elim (cases_eq i at) [
              | inl same ↦
                  let is = c.place_in-place.ensures birth k (subst (λ n. IsIdAt ids (get_or slots n 0) birth k) same id) in
                  absurd (omega (arith, is, upto, w.if-place-upto.false))
              | inr ne ↦ rw w.agenda-is (was.added i birth k (omega (arith, low, ne)) id upto)
            ];
            upto = λ m has. was.upto m (rw w.agenda-is at has);
            size = rw w.agenda-is was.size;
          }
    ]

pub returns-clause-added : goal.returns-clause-added
returns-clause-added c = λ s birth k among id upto.
    let ids = c.args.list.now.ids in
    let slots = c.args.slots.now in
    let was = c.loop-at.invariant in
    let all = All-from_get_or (λ s. (birth k : ℕ) → IsIdAt ids s birth k → k ≤ c.args.upto → has_place c.loop-at.agenda k ≡ true) slots 0
    (λ i inside birth k id upto. was.added i birth k (omega (arith, inside, c.loop-at.auto.at-end, c.loop-at-test.false)) id upto) in
    All-contains (λ s. (birth k : ℕ) → IsIdAt ids s birth k → k ≤ c.args.upto → has_place c.loop-at.agenda k ≡ true) slots s all among birth k id upto
