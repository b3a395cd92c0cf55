-- What is left where bounds are placed one after the other.
use Rattle.std.proofs.Common.{◌≡◌, ◌≢◌, ◌⊎◌, inl, inr, ℕ, zero, suc, ◌<◌, List, [], ◌∷◌, length, set, replicate, refl, sym, ap, ◌∙◌, subst, arith}
use Rattle.std.specs.Prelude.{Option, Some, None, slice_get, ◌↔◌}
use Rattle.std.proofs.lemmas.List.{get_or-set_other, get_or-set_same, length-set, length-replicate}
use Rattle.std.proofs.lemmas.Option.{none-some, same_Some}
use Rattle.cstn_label.specs.declared.bounds.Bound.{Bound}
use Rattle.cstn_minset.specs.Sets.{Entries, entry_at, IsPlaced, IsBoundOver}
use Rattle.cstn_minset.specs.Placings.{Placing, AfterPlacings, HaveOwnSlots, IsLastOver}
use Rattle.cstn_minset.proofs.TableLemmas.{none_of, placed_more}

-- none of the bounds dominates this one
abbrev NoneOver : List Placing → Bound → Type 0
NoneOver ps b = (j : ℕ) (q : Placing) → slice_get ps j ≡ Some q → ¬ IsBoundOver q.bound b

none_over_more : (p : Placing) (ps : List Placing) (b : Bound) → ¬ IsBoundOver p.bound b → NoneOver ps b → NoneOver (p ∷ ps) b
none_over_more p ps b first rest zero q at over = first (subst (λ (x : Placing). IsBoundOver x.bound b) (sym (same_Some p q at)) over)
none_over_more p ps b first rest (suc j) q at over = rest j q at over

-- the bound of a slot under its birth
abbrev placing : ℕ → ℕ × Bound → Placing
placing slot e = record { id = record { slot = slot; birth = e.0 }; bound = e.1 }

later_first : (p : Placing) (ps : List Placing) → NoneOver ps p.bound → IsLastOver (p ∷ ps) 0 p
later_first p ps none = record { there = refl; none_over = λ j q less at. from j q less at }
  where
    from : (j : ℕ) (q : Placing) → 0 < j → slice_get (p ∷ ps) j ≡ Some q → ¬ IsBoundOver q.bound p.bound
    from zero q less at = absurd (omega (arith, less))
    from (suc j) q less at = none j q at

later_more : (p q : Placing) (ps : List Placing) (k : ℕ) → IsLastOver ps k q → IsLastOver (p ∷ ps) (suc k) q
later_more p q ps k is = record { there = is.there; none_over = λ j r less at. from j r less at }
  where
    from : (j : ℕ) (r : Placing) → suc k < j → slice_get (p ∷ ps) j ≡ Some r → ¬ IsBoundOver r.bound q.bound
    from zero r less at = absurd (omega (arith, less))
    from (suc j) r less at = is.none_over j r (omega (arith, less)) at

pub size_after : (ps : List Placing) (before after : Entries) → AfterPlacings ps before after → length after ≡ length before
size_after [] before after is = ap length (sym is)
size_after (p ∷ ps) before after is =
    let rest = size_after ps is.0 after is.2 in
    let cleared = is.1.0 in
    let first : length is.0 ≡ length cleared = ap length is.1.2 ∙ length-set cleared p.id.slot (Some (p.id.birth, p.bound)) in
    omega (arith, rest, first, is.1.1.size)

own_rest : (size : ℕ) (p : Placing) (ps : List Placing) → HaveOwnSlots size (p ∷ ps) → HaveOwnSlots size ps
own_rest size p ps own = record {
  inside = λ k q at. own.inside (suc k) q at;
  apart = λ j k q r one other same. (let e = own.apart (suc j) (suc k) q r one other same in omega (arith, e));
}

other_slot : (size : ℕ) (p : Placing) (ps : List Placing) → HaveOwnSlots size (p ∷ ps) → (k : ℕ) (q : Placing) → slice_get ps k ≡ Some q → p.id.slot ≢ q.id.slot
other_slot size p ps own k q at same = (let e = own.apart 0 (suc k) p q refl at same in omega (arith, e))

-- a bound that is left was in the table or was placed, and nothing that came later dominates it
left_from : (ps : List Placing) (before after : Entries) (s : ℕ) (e : ℕ × Bound) → HaveOwnSlots (length before) ps → AfterPlacings ps before after →
    IsPlaced after s e → ((k : ℕ) × IsLastOver ps k (placing s e)) ⊎ (IsPlaced before s e × NoneOver ps e.1)
left_from [] before after s e own is at = inr (subst (λ (t : Entries). IsPlaced t s e) (sym is) at, λ j q there. absurd (none-some q there))
left_from (p ∷ ps) before after s e own is at =
    let between = is.0 in
    let cleared = is.1.0 in
    let size : length between ≡ length before = ap length is.1.2 ∙ length-set cleared p.id.slot (Some (p.id.birth, p.bound)) ∙ is.1.1.size in
    let rest = left_from ps between after s e (subst (λ n. HaveOwnSlots n ps) (sym size) (own_rest (length before) p ps own)) is.2 at in
    elim rest [
      | inl placed ↦ inl (suc placed.0, later_more p (placing s e) ps placed.0 placed.1)
      | inr old ↦ elim (placed_more cleared p.id.slot s (p.id.birth, p.bound) e (omega (arith, own.inside 0 p refl, is.1.1.size))
          (subst (λ (t : Entries). IsPlaced t s e) is.1.2 old.0)) [
            | inl here ↦
                let none : NoneOver ps p.bound = subst (λ (x : ℕ × Bound). NoneOver ps x.1) (sym here.1) old.1 in
                inl (
                  0,
                  subst (λ n. IsLastOver (p ∷ ps) 0 (placing n e)) (sym here.0)
                      (subst (λ (x : ℕ × Bound). IsLastOver (p ∷ ps) 0 (placing p.id.slot x)) here.1 (later_first p ps none)),
                )
            | inr there ↦ inr (is.1.1.was s e there.1, none_over_more p ps e.1 (is.1.1.none_under s e there.1) old.1)
          ]
    ]

-- a bound of the table stays where none that is placed dominates it or takes its slot
stays_in : (ps : List Placing) (before after : Entries) (s : ℕ) (e : ℕ × Bound) → AfterPlacings ps before after → NoneOver ps e.1 →
    ((k : ℕ) (q : Placing) → slice_get ps k ≡ Some q → s ≢ q.id.slot) → IsPlaced before s e → IsPlaced after s e
stays_in [] before after s e is none others at = subst (λ (t : Entries). IsPlaced t s e) is at
stays_in (p ∷ ps) before after s e is none others at =
    let cleared = is.1.0 in
    let kept : IsPlaced cleared s e = is.1.1.kept s e at (none 0 p refl) in
    let more : IsPlaced (set cleared p.id.slot (Some (p.id.birth, p.bound))) s e = get_or-set_other cleared p.id.slot s (Some (p.id.birth, p.bound)) None (others 0 p refl) ∙ kept in
    stays_in ps is.0 after s e is.2 (λ j q there. none (suc j) q there) (λ k q there. others (suc k) q there)
    (subst (λ (t : Entries). IsPlaced t s e) (sym is.1.2) more)

-- a bound that is placed stays where no later one dominates it
placed_stays : (ps : List Placing) (before after : Entries) (k : ℕ) (q : Placing) → HaveOwnSlots (length before) ps → AfterPlacings ps before after →
    IsLastOver ps k q → IsPlaced after q.id.slot (q.id.birth, q.bound)
placed_stays [] before after k q own is last = absurd (none-some q last.there)
placed_stays (p ∷ ps) before after zero q own is last =
    let cleared = is.1.0 in
    let same : p ≡ q = same_Some p q last.there in
    let here : IsPlaced is.0 p.id.slot (p.id.birth, p.bound) = ap (λ (t : Entries). entry_at t p.id.slot) is.1.2
    ∙ get_or-set_same cleared p.id.slot (Some (p.id.birth, p.bound)) None (omega (arith, own.inside 0 p refl, is.1.1.size)) in
    subst (λ (x : Placing). IsPlaced after x.id.slot (x.id.birth, x.bound)) same
    (stays_in ps is.0 after p.id.slot (p.id.birth, p.bound) is.2
    (λ j r there. subst (λ (x : Placing). ¬ IsBoundOver r.bound x.bound) (sym same) (last.none_over (suc j) r (omega arith) there))
    (other_slot (length before) p ps own) here)
placed_stays (p ∷ ps) before after (suc k) q own is last =
    let cleared = is.1.0 in
    let size : length is.0 ≡ length before = ap length is.1.2 ∙ length-set cleared p.id.slot (Some (p.id.birth, p.bound)) ∙ is.1.1.size in
    placed_stays ps is.0 after k q (subst (λ n. HaveOwnSlots n ps) (sym size) (own_rest (length before) p ps own)) is.2
    (record { there = last.there; none_over = λ j r less there. last.none_over (suc j) r (omega (arith, less)) there })

pub placed_exactly : (size slot birth : ℕ) (b : Bound) (ps : List Placing) (table : Entries) → HaveOwnSlots size ps → AfterPlacings ps (replicate size None) table →
    IsPlaced table slot (birth, b) ↔ ((k : ℕ) × IsLastOver ps k (placing slot (birth, b)))
placed_exactly size slot birth b ps table own is =
    let long : size ≡ length {A = Option (ℕ × Bound)} (replicate size None) = sym (length-replicate size None) in
    let all = subst (λ n. HaveOwnSlots n ps) long own in (
      λ at. elim (left_from ps (replicate size None) table slot (birth, b) all is at) [
        | inl placed ↦ placed
        | inr old ↦ absurd (none-some (birth, b) (sym (none_of size slot) ∙ old.0))
      ],
      λ last. placed_stays ps (replicate size None) table last.0 (placing slot (birth, b)) all is last.1,
    )
