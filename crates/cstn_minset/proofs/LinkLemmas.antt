use Rattle.std.proofs.Common.{◌≡◌, ◌≢◌, ◌⊎◌, inl, inr, ℕ, zero, suc, ◌+◌, ◌<◌, ◌≤◌, ◌^◌, List, [], ◌∷◌, length, get_or, set, replicate, refl, sym, ◌∙◌, arith}
use Rattle.std.specs.Prelude.{None, Some}
use Rattle.std.proofs.lemmas.List.{get_or-set_other, get_or-set_same, length-set, length-replicate}
use Rattle.std.proofs.lemmas.Bool.{cases_eq, cases_lt}
use Rattle.std.proofs.lemmas.Option.{some_pair_parts, none-some}
use Rattle.cstn_minset.specs.Chains.{SlotChains, IsIn, HasLeastKey}
use Rattle.cstn_minset.specs.Links.{IsStart, IsStop, IsGap, IsNextSlot, IsPrev, IsKeyed, IsLinked, AreEnds}

-- a slot that is in a chain is inside the table
pub in_inside : (T : SlotChains) (h s k : ℕ) → IsIn T h s k → s < length T
in_inside [] h s k is = absurd (none-some (h, k) is)
in_inside (x ∷ T) h zero k is = omega arith
in_inside (x ∷ T) h (suc s) k is = let rest = in_inside T h s k is in omega arith

pub same_in : (T : SlotChains) (s h k h' k' : ℕ) → IsIn T h s k → IsIn T h' s k' → (h ≡ h') × (k ≡ k')
same_in T s h k h' k' a b = some_pair_parts h h' k k' (sym a ∙ b)

-- which slots are in chains after one was put in
pub in_more : (T : SlotChains) (slot head key h u j : ℕ) → slot < length T → IsIn (set T slot (Some (head, key))) h u j → ((u ≡ slot) × (h ≡ head) × (j ≡ key)) ⊎ ((u ≢ slot) × IsIn T h u j)
in_more T slot head key h u j inside is = elim (cases_eq u slot) [
  | inl same ↦ (let here = sym (get_or-set_same T slot (Some (head, key)) None inside) ∙ rw same at is in
      let both = some_pair_parts head h key j here in inl (same, sym both.0, sym both.1))
  | inr other ↦ inr (other, sym (get_or-set_other T slot u (Some (head, key)) None other) ∙ is)
]

pub more_in : (T : SlotChains) (slot head key h u j : ℕ) → u ≢ slot → IsIn T h u j → IsIn (set T slot (Some (head, key))) h u j
more_in T slot head key h u j other is = get_or-set_other T slot u (Some (head, key)) None other ∙ is

pub new_in : (T : SlotChains) (slot head key : ℕ) → slot < length T → IsIn (set T slot (Some (head, key))) head slot key
new_in T slot head key inside = get_or-set_same T slot (Some (head, key)) None inside

-- which slots are in chains after one was taken out
none_set : (T : SlotChains) (slot : ℕ) (e : ℕ × ℕ) → get_or (set T slot None) slot None ≡ Some e → ⊥
none_set [] slot e is = cc
none_set (x ∷ T) zero e is = cc
none_set (x ∷ T) (suc slot) e is = none_set T slot e is

pub in_less : (T : SlotChains) (slot h u j : ℕ) → IsIn (set T slot None) h u j → (u ≢ slot) × IsIn T h u j
in_less T slot h u j is = elim (cases_eq u slot) [
  | inl same ↦ absurd (none_set T slot (h, j) (rw same at is))
  | inr other ↦ (other, sym (get_or-set_other T slot u None None other) ∙ is)
]

pub less_in : (T : SlotChains) (slot h u j : ℕ) → u ≢ slot → IsIn T h u j → IsIn (set T slot None) h u j
less_in T slot h u j other is = get_or-set_other T slot u None None other ∙ is

-- two places that are followed by the same keys are one
same_start : (T : SlotChains) (n heads h i a low low' x : ℕ) → IsKeyed heads T → IsStart T n heads i h low → IsStart T n heads a h low' → low ≤ x → low' ≤ x → IsGap T h low x → IsGap T h low' x → i ≡ a
same_start T n heads h i a low low' x keyed (inl one) (inl two) le le' gap gap' =
    let k_is : one.0 ≡ two.0 = elim (gap' i one.0 one.1) [ inl p ↦ elim (gap a two.0 two.1) [ inl q ↦ omega (arith, one.2, two.2) | inr q ↦ absurd (omega (arith, two.2)) ] | inr p ↦ absurd (omega (arith, one.2)) ] in
    keyed.apart i a h two.0 (rw k_is at one.1) two.1
same_start T n heads h i a low low' x keyed (inl one) (inr two) le le' gap gap' =
    absurd (elim (gap' i one.0 one.1) [ inl p ↦ omega (arith, two.2) | inr p ↦ omega (arith, one.2) ])
same_start T n heads h i a low low' x keyed (inr one) (inl two) le le' gap gap' =
    absurd (elim (gap a two.0 two.1) [ inl p ↦ omega (arith, one.2) | inr p ↦ omega (arith, two.2) ])
same_start T n heads h i a low low' x keyed (inr one) (inr two) le le' gap gap' = one.0 ∙ sym two.0

-- two places that come after the same keys are one
same_stop : (T : SlotChains) (n heads h i b high high' x : ℕ) → IsKeyed heads T → IsStop T n heads i h high → IsStop T n heads b h high' → x ≤ high → x ≤ high' → IsGap T h x high → IsGap T h x high' → i ≡ b
same_stop T n heads h i b high high' x keyed (inl one) (inl two) le le' gap gap' =
    let k_is : high ≡ high' = elim (gap' i high one) [ inl p ↦ absurd (omega arith) | inr p ↦ elim (gap b high' two) [ inl q ↦ absurd (omega arith) | inr q ↦ omega arith ] ] in
    keyed.apart i b h high' (rw k_is at one) two
same_stop T n heads h i b high high' x keyed (inl one) (inr two) le le' gap gap' =
    absurd (elim (gap' i high one) [ inl p ↦ omega arith | inr p ↦ omega (arith, two.2, (keyed.in_range i h high one).1) ])
same_stop T n heads h i b high high' x keyed (inr one) (inl two) le le' gap gap' =
    absurd (elim (gap b high' two) [ inl p ↦ omega arith | inr p ↦ omega (arith, one.2, (keyed.in_range b h high' two).1) ])
same_stop T n heads h i b high high' x keyed (inr one) (inr two) le le' gap gap' = one.0 ∙ sym two.0

-- a place of a chain is one of the n slots and the ends behind them
pub start_inside : (T : SlotChains) (n heads i h low : ℕ) → length T ≡ n → IsStart T n heads i h low → i < n + heads
start_inside T n heads i h low size (inl one) = let l = in_inside T h i one.0 one.1 in omega arith
start_inside T n heads i h low size (inr one) = omega (arith, one.0, one.1)

pub stop_inside : (T : SlotChains) (n heads i h high : ℕ) → length T ≡ n → IsStop T n heads i h high → i < n + heads
stop_inside T n heads i h high size (inl one) = let l = in_inside T h i high one in omega arith
stop_inside T n heads i h high size (inr one) = omega (arith, one.0, one.1)

-- starts and stops after a slot was put in
start_more : (T : SlotChains) (n heads slot head key i h low : ℕ) → length T ≡ n → slot < n → i ≢ slot → IsStart (set T slot (Some (head, key))) n heads i h low → IsStart T n heads i h low
start_more T n heads slot head key i h low size inside other (inl one) =
    elim (in_more T slot head key h i one.0 (omega arith) one.1) [ inl p ↦ absurd (other p.0) | inr p ↦ inl (one.0, p.1, one.2) ]
start_more T n heads slot head key i h low size inside other (inr one) = inr one

stop_more : (T : SlotChains) (n heads slot head key i h high : ℕ) → length T ≡ n → slot < n → i ≢ slot → IsStop (set T slot (Some (head, key))) n heads i h high → IsStop T n heads i h high
stop_more T n heads slot head key i h high size inside other (inl one) =
    elim (in_more T slot head key h i high (omega arith) one) [ inl p ↦ absurd (other p.0) | inr p ↦ inl p.1 ]
stop_more T n heads slot head key i h high size inside other (inr one) = inr one

more_start : (T : SlotChains) (n heads slot head key i h low : ℕ) → get_or T slot None ≡ None → IsStart T n heads i h low → IsStart (set T slot (Some (head, key))) n heads i h low
more_start T n heads slot head key i h low free (inl one) =
    inl (one.0, more_in T slot head key h i one.0 (λ e. none-some (h, one.0) (sym free ∙ rw e at one.1)) one.1, one.2)
more_start T n heads slot head key i h low free (inr one) = inr one

more_stop : (T : SlotChains) (n heads slot head key i h high : ℕ) → get_or T slot None ≡ None → IsStop T n heads i h high → IsStop (set T slot (Some (head, key))) n heads i h high
more_stop T n heads slot head key i h high free (inl one) =
    inl (more_in T slot head key h i high (λ e. none-some (h, high) (sym free ∙ rw e at one)) one)
more_stop T n heads slot head key i h high free (inr one) = inr one

-- a key belongs between the places a and b, which are neighbors in its chain
pub record IsRoom (T : SlotChains) (n heads head key a b : ℕ) : Type 0 where
  pub low : ℕ
  pub high : ℕ
  pub start : IsStart T n heads a head low
  pub stop : IsStop T n heads b head high
  pub below : low ≤ key
  pub above : key < high
  pub gap : IsGap T head low high

-- a gap stays one where the new key isn't in it
gap_more : (T : SlotChains) (slot head key h low high : ℕ) → slot < length T → IsGap T h low high → (h ≡ head → (key < low) ⊎ (high ≤ key)) → IsGap (set T slot (Some (head, key))) h low high
gap_more T slot head key h low high inside gap out u j is =
    elim (in_more T slot head key h u j inside is) [
      | inl p ↦ elim (out p.1) [ inl q ↦ inl (omega (arith, p.2)) | inr q ↦ inr (omega (arith, p.2)) ]
      | inr p ↦ gap u j p.1
    ]

gap_part : (T : SlotChains) (h low high low' high' : ℕ) → IsGap T h low high → low ≤ low' → high' ≤ high → IsGap T h low' high'
gap_part T h low high low' high' gap le ge u j is = elim (gap u j is) [ inl p ↦ inl (omega arith) | inr p ↦ inr (omega arith) ]

-- a place is in one chain, at one key
start_once : (T : SlotChains) (n heads i h low h' low' : ℕ) → length T ≡ n → IsStart T n heads i h low → IsStart T n heads i h' low' → (h ≡ h') × (low ≡ low')
start_once T n heads i h low h' low' size (inl one) (inl two) =
    let e = same_in T i h one.0 h' two.0 one.1 two.1 in (e.0, omega (arith, e.1, one.2, two.2))
start_once T n heads i h low h' low' size (inl one) (inr two) = absurd (omega (arith, in_inside T h i one.0 one.1, two.0))
start_once T n heads i h low h' low' size (inr one) (inl two) = absurd (omega (arith, in_inside T h' i two.0 two.1, one.0))
start_once T n heads i h low h' low' size (inr one) (inr two) = (omega (arith, one.0, two.0), omega (arith, one.2, two.2))

stop_once : (T : SlotChains) (n heads i h high h' high' : ℕ) → length T ≡ n → IsStop T n heads i h high → IsStop T n heads i h' high' → (h ≡ h') × (high ≡ high')
stop_once T n heads i h high h' high' size (inl one) (inl two) = same_in T i h high h' high' one two
stop_once T n heads i h high h' high' size (inl one) (inr two) = absurd (omega (arith, in_inside T h i high one, two.0))
stop_once T n heads i h high h' high' size (inr one) (inl two) = absurd (omega (arith, in_inside T h' i high' two, one.0))
stop_once T n heads i h high h' high' size (inr one) (inr two) = (omega (arith, one.0, two.0), omega (arith, one.2, two.2))

-- links after a slot was put in: from the place before it, from the slot, and from the others
after_before : (T : SlotChains) (n heads slot head key a b h low : ℕ) → length T ≡ n → slot < n → a ≢ slot → IsRoom T n heads head key a b → IsStart (set T slot (Some (head, key))) n heads a h low → IsNextSlot (set T slot (Some (head, key))) n heads h low slot
after_before T n heads slot head key a b h low size inside other room start =
    let once = start_once T n heads a h low head room.low size (start_more T n heads slot head key a h low size inside other start) room.start in
    rw (once.0, once.1) (record {
      high = key;
      stop = inl (new_in T slot head key (omega arith));
      up = room.below;
      gap = gap_more T slot head key head room.low key (omega arith) (gap_part T head room.low room.high room.low key room.gap (omega arith) (omega (arith, room.above))) (λ e. inr (omega arith));
    })

after_slot : (T : SlotChains) (n heads slot head key a b h low : ℕ) → length T ≡ n → slot < n → get_or T slot None ≡ None → IsRoom T n heads head key a b → IsStart (set T slot (Some (head, key))) n heads slot h low → IsNextSlot (set T slot (Some (head, key))) n heads h low b
after_slot T n heads slot head key a b h low size inside free room (inr one) = absurd (omega (arith, one.0))
after_slot T n heads slot head key a b h low size inside free room (inl one) =
    elim (in_more T slot head key h slot one.0 (omega arith) one.1) [
      | inr p ↦ absurd (p.0 refl)
      | inl p ↦ (let e : low ≡ key + 1 = omega (arith, one.2, p.2) in
          rw (p.1, e) (record {
            high = room.high;
            stop = more_stop T n heads slot head key b head room.high free room.stop;
            up = omega (arith, room.above);
            gap = gap_more T slot head key head (key + 1) room.high (omega arith) (gap_part T head room.low room.high (key + 1) room.high room.gap (omega (arith, room.below)) (omega arith)) (λ e. inl (omega arith));
          }))
    ]

after_other : (T : SlotChains) (n heads slot head key a b i l h low : ℕ) → length T ≡ n → IsKeyed heads T → slot < n → get_or T slot None ≡ None → i ≢ slot → i ≢ a → IsRoom T n heads head key a b → IsStart T n heads i h low → IsNextSlot T n heads h low l → IsNextSlot (set T slot (Some (head, key))) n heads h low l
after_other T n heads slot head key a b i l h low size keyed inside free other far room start was = record {
  high = was.high;
  stop = more_stop T n heads slot head key l h was.high free was.stop;
  up = was.up;
  gap = gap_more T slot head key h low was.high (omega arith) was.gap (λ e.
      elim (cases_lt key low) [
        | inl p ↦ inl p
        | inr p ↦
            elim (cases_lt key was.high) [
              | inl q ↦ absurd (far (same_start T n heads head i a low room.low key keyed (rw e at start) room.start p room.below (gap_part T head low was.high low key (rw e at was.gap) (omega arith) (omega arith)) (gap_part T head room.low room.high room.low key room.gap (omega arith) (omega (arith, room.above)))))
              | inr q ↦ inr q
            ]
      ]);
}

before_after : (T : SlotChains) (n heads slot head key a b h high : ℕ) → length T ≡ n → slot < n → b ≢ slot → IsRoom T n heads head key a b → IsStop (set T slot (Some (head, key))) n heads b h high → IsPrev (set T slot (Some (head, key))) n heads h high slot
before_after T n heads slot head key a b h high size inside other room stop =
    let once = stop_once T n heads b h high head room.high size (stop_more T n heads slot head key b h high size inside other stop) room.stop in
    rw (once.0, once.1) (record {
      low = key + 1;
      start = inl (key, new_in T slot head key (omega arith), refl);
      up = omega (arith, room.above);
      gap = gap_more T slot head key head (key + 1) room.high (omega arith) (gap_part T head room.low room.high (key + 1) room.high room.gap (omega (arith, room.below)) (omega arith)) (λ e. inl (omega arith));
    })

before_slot : (T : SlotChains) (n heads slot head key a b h high : ℕ) → length T ≡ n → slot < n → get_or T slot None ≡ None → IsRoom T n heads head key a b → IsStop (set T slot (Some (head, key))) n heads slot h high → IsPrev (set T slot (Some (head, key))) n heads h high a
before_slot T n heads slot head key a b h high size inside free room (inr one) = absurd (omega (arith, one.0))
before_slot T n heads slot head key a b h high size inside free room (inl one) =
    elim (in_more T slot head key h slot high (omega arith) one) [
      | inr p ↦ absurd (p.0 refl)
      | inl p ↦ rw (p.1, p.2) (record {
        low = room.low;
        start = more_start T n heads slot head key a head room.low free room.start;
        up = room.below;
        gap = gap_more T slot head key head room.low key (omega arith) (gap_part T head room.low room.high room.low key room.gap (omega arith) (omega (arith, room.above))) (λ e. inr (omega arith));
      })
    ]

before_other : (T : SlotChains) (n heads slot head key a b i l h high : ℕ) → length T ≡ n → IsKeyed heads T → slot < n → get_or T slot None ≡ None → i ≢ slot → i ≢ b → IsRoom T n heads head key a b → IsStop T n heads i h high → IsPrev T n heads h high l → IsPrev (set T slot (Some (head, key))) n heads h high l
before_other T n heads slot head key a b i l h high size keyed inside free other far room stop was = record {
  low = was.low;
  start = more_start T n heads slot head key l h was.low free was.start;
  up = was.up;
  gap = gap_more T slot head key h was.low high (omega arith) was.gap (λ e.
      elim (cases_lt key was.low) [
        | inl p ↦ inl p
        | inr p ↦
            elim (cases_lt key high) [
              | inl q ↦ absurd (far (same_stop T n heads head i b high room.high (key + 1) keyed (rw e at stop) room.stop (omega arith) (omega (arith, room.above)) (gap_part T head was.low high (key + 1) high (rw e at was.gap) (omega arith) (omega arith)) (gap_part T head room.low room.high (key + 1) room.high room.gap (omega (arith, room.below)) (omega arith))))
              | inr q ↦ inr q
            ]
      ]);
}

-- starts and stops after a slot was taken out
start_less : (T : SlotChains) (n heads slot i h low : ℕ) → slot < n → IsStart (set T slot None) n heads i h low → (i ≢ slot) × IsStart T n heads i h low
start_less T n heads slot i h low inside (inl one) = let p = in_less T slot h i one.0 one.1 in (p.0, inl (one.0, p.1, one.2))
start_less T n heads slot i h low inside (inr one) = ((λ e. omega (arith, e, one.0)), inr one)

stop_less : (T : SlotChains) (n heads slot i h high : ℕ) → slot < n → IsStop (set T slot None) n heads i h high → (i ≢ slot) × IsStop T n heads i h high
stop_less T n heads slot i h high inside (inl one) = let p = in_less T slot h i high one in (p.0, inl p.1)
stop_less T n heads slot i h high inside (inr one) = ((λ e. omega (arith, e, one.0)), inr one)

less_start : (T : SlotChains) (n heads slot i h low : ℕ) → i ≢ slot → IsStart T n heads i h low → IsStart (set T slot None) n heads i h low
less_start T n heads slot i h low other (inl one) = inl (one.0, less_in T slot h i one.0 other one.1, one.2)
less_start T n heads slot i h low other (inr one) = inr one

less_stop : (T : SlotChains) (n heads slot i h high : ℕ) → i ≢ slot → IsStop T n heads i h high → IsStop (set T slot None) n heads i h high
less_stop T n heads slot i h high other (inl one) = inl (less_in T slot h i high other one)
less_stop T n heads slot i h high other (inr one) = inr one

gap_less : (T : SlotChains) (slot h low high : ℕ) → IsGap T h low high → IsGap (set T slot None) h low high
gap_less T slot h low high gap u j is = gap u j (in_less T slot h u j is).1

-- without the slot the gaps on its sides are one
gap_joined : (T : SlotChains) (heads slot h k low high : ℕ) → IsKeyed heads T → IsIn T h slot k → low ≤ k → k + 1 ≤ high → IsGap T h low k → IsGap T h (k + 1) high → IsGap (set T slot None) h low high
gap_joined T heads slot h k low high keyed there le le' gap gap' u j is =
    let p = in_less T slot h u j is in
    elim (gap u j p.1) [
      | inl q ↦ inl q
      | inr q ↦
          elim (gap' u j p.1) [ inl r ↦ absurd (let e : j ≡ k = omega arith in p.0 (keyed.apart u slot h k (rw e at p.1) there)) | inr r ↦ inr r ]
    ]

stop_not : (T : SlotChains) (n heads slot h k b high : ℕ) → slot < n → IsIn T h slot k → k + 1 ≤ high → IsStop T n heads b h high → b ≢ slot
stop_not T n heads slot h k b high inside there le (inl one) e = omega (arith, (same_in T slot h k h high there (rw e at one)).1)
stop_not T n heads slot h k b high inside there le (inr one) e = omega (arith, one.0)

start_not : (T : SlotChains) (n heads slot h k a low : ℕ) → slot < n → IsIn T h slot k → low ≤ k → IsStart T n heads a h low → a ≢ slot
start_not T n heads slot h k a low inside there le (inl one) e = omega (arith, one.2, (same_in T slot h k h one.0 there (rw e at one.1)).1)
start_not T n heads slot h k a low inside there le (inr one) e = omega (arith, one.0)

after_joined : (T : SlotChains) (n heads slot head k a b h low : ℕ) → length T ≡ n → slot < n → IsKeyed heads T → IsIn T head slot k → (P : IsPrev T n heads head k a) → (N : IsNextSlot T n heads head (k + 1) b) → IsStart (set T slot None) n heads a h low → IsNextSlot (set T slot None) n heads h low b
after_joined T n heads slot head k a b h low size inside keyed there P N start =
    let once = start_once T n heads a h low head P.low size (start_less T n heads slot a h low inside start).1 P.start in
    rw (once.0, once.1) (record {
      high = N.high;
      stop = less_stop T n heads slot b head N.high (stop_not T n heads slot head k b N.high inside there N.up N.stop) N.stop;
      up = omega (arith, P.up, N.up);
      gap = gap_joined T heads slot head k P.low N.high keyed there P.up N.up P.gap N.gap;
    })

after_rest : (T : SlotChains) (n heads slot head k a b i l h low : ℕ) → length T ≡ n → slot < n → IsKeyed heads T → IsIn T head slot k → (P : IsPrev T n heads head k a) → i ≢ a → IsStart (set T slot None) n heads i h low → IsNextSlot T n heads h low l → IsNextSlot (set T slot None) n heads h low l
after_rest T n heads slot head k a b i l h low size inside keyed there P far start was =
    let was_start = (start_less T n heads slot i h low inside start).1 in
    record {
      high = was.high;
      stop = less_stop T n heads slot l h was.high (λ e.
          let once = stop_once T n heads slot h was.high head k size (rw e at was.stop) (inl there) in
          far (same_start T n heads head i a low P.low k keyed (rw once.0 at was_start) P.start (omega (arith, was.up, once.1)) P.up (rw (once.0, once.1) at was.gap) P.gap)) was.stop;
      up = was.up;
      gap = gap_less T slot h low was.high was.gap;
    }

before_joined : (T : SlotChains) (n heads slot head k a b h high : ℕ) → length T ≡ n → slot < n → IsKeyed heads T → IsIn T head slot k → (P : IsPrev T n heads head k a) → (N : IsNextSlot T n heads head (k + 1) b) → IsStop (set T slot None) n heads b h high → IsPrev (set T slot None) n heads h high a
before_joined T n heads slot head k a b h high size inside keyed there P N stop =
    let once = stop_once T n heads b h high head N.high size (stop_less T n heads slot b h high inside stop).1 N.stop in
    rw (once.0, once.1) (record {
      low = P.low;
      start = less_start T n heads slot a head P.low (start_not T n heads slot head k a P.low inside there P.up P.start) P.start;
      up = omega (arith, P.up, N.up);
      gap = gap_joined T heads slot head k P.low N.high keyed there P.up N.up P.gap N.gap;
    })

before_rest : (T : SlotChains) (n heads slot head k a b i l h high : ℕ) → length T ≡ n → slot < n → IsKeyed heads T → IsIn T head slot k → (N : IsNextSlot T n heads head (k + 1) b) → i ≢ b → IsStop (set T slot None) n heads i h high → IsPrev T n heads h high l → IsPrev (set T slot None) n heads h high l
before_rest T n heads slot head k a b i l h high size inside keyed there N far stop was =
    let was_stop = (stop_less T n heads slot i h high inside stop).1 in
    record {
      low = was.low;
      start = less_start T n heads slot l h was.low (λ e.
          let once = start_once T n heads slot h was.low head (k + 1) size (rw e at was.start) (inl (k, there, refl)) in
          far (same_stop T n heads head i b high N.high (k + 1) keyed (rw once.0 at was_stop) N.stop (omega (arith, was.up, once.1)) N.up (rw (once.0, once.1) at was.gap) N.gap)) was.start;
      up = was.up;
      gap = gap_less T slot h was.low high was.gap;
    }

-- what a list holds after two writes
at_second : (xs : List ℕ) (i a v w : ℕ) → a < length xs → get_or (set (set xs i v) a w) a 0 ≡ w
at_second xs i a v w inside = get_or-set_same (set xs i v) a w 0 (omega (arith, length-set xs i v))

at_first : (xs : List ℕ) (i a v w : ℕ) → i < length xs → i ≢ a → get_or (set (set xs i v) a w) i 0 ≡ v
at_first xs i a v w inside far = get_or-set_other (set xs i v) a i w 0 far ∙ get_or-set_same xs i v 0 inside

at_others : (xs : List ℕ) (i a v w k : ℕ) → k ≢ i → k ≢ a → get_or (set (set xs i v) a w) k 0 ≡ get_or xs k 0
at_others xs i a v w k other far = get_or-set_other (set xs i v) a k w 0 far ∙ get_or-set_other xs i k v 0 other

two_set : (xs : List ℕ) (i a v w : ℕ) → length (set (set xs i v) a w) ≡ length xs
two_set xs i a v w = length-set (set xs i v) a w ∙ length-set xs i v

keyed_more : (T : SlotChains) (heads slot head key : ℕ) → slot < length T → head < heads → key < 2 ^ 128 → ((u : ℕ) → IsIn T head u key → ⊥) → IsKeyed heads T → IsKeyed heads (set T slot (Some (head, key)))
keyed_more T heads slot head key inside in_heads small new keyed = record {
  in_range = λ s h k is. elim (in_more T slot head key h s k inside is) [ inl p ↦ (omega (arith, p.1), omega (arith, p.2)) | inr p ↦ keyed.in_range s h k p.1 ];
  apart = λ s t h k is also.
      elim (in_more T slot head key h s k inside is) [
        | inl p ↦ elim (in_more T slot head key h t k inside also) [ inl q ↦ p.0 ∙ sym q.0 | inr q ↦ absurd (new t (rw (p.1, p.2) at q.1)) ]
        | inr p ↦ elim (in_more T slot head key h t k inside also) [ inl q ↦ absurd (new s (rw (q.1, q.2) at p.1)) | inr q ↦ keyed.apart s t h k p.1 q.1 ]
      ];
}

keyed_less : (T : SlotChains) (heads slot : ℕ) → IsKeyed heads T → IsKeyed heads (set T slot None)
keyed_less T heads slot keyed = record {
  in_range = λ s h k is. keyed.in_range s h k (in_less T slot h s k is).1;
  apart = λ s t h k is also. keyed.apart s t h k (in_less T slot h s k is).1 (in_less T slot h t k also).1;
}

room_of : (T : SlotChains) (n heads head key a b : ℕ) → key < 2 ^ 128 → ((u : ℕ) → IsIn T head u key → ⊥) → (P : IsPrev T n heads head key a) → IsNextSlot T n heads head P.low b → IsRoom T n heads head key a b
room_of T n heads head key a b small new P N = record {
  low = P.low;
  high = N.high;
  start = P.start;
  stop = N.stop;
  below = P.up;
  above = higher N.stop;
  gap = N.gap;
}
  where
    higher : IsStop T n heads b head N.high → key < N.high
    higher (inl one) = elim (P.gap b N.high one) [ inl p ↦ absurd (omega (arith, N.up)) | inr p ↦ elim (cases_eq N.high key) [ inl e ↦ absurd (new b (rw e at one)) | inr e ↦ omega arith ] ]
    higher (inr one) = omega (arith, one.2)

pub inserted : (T : SlotChains) (n heads slot head key a b : ℕ) (next prev : List ℕ) → IsLinked n heads T next prev → slot < n → head < heads → key < 2 ^ 128 → get_or T slot None ≡ None → ((u : ℕ) → IsIn T head u key → ⊥) → (P : IsPrev T n heads head key a) → b ≡ get_or next a 0 → IsLinked n heads (set T slot (Some (head, key))) (set (set next slot b) a slot) (set (set prev slot a) b slot)
inserted T n heads slot head key a b next prev linked inside in_heads small free new P b_is =
    let N : IsNextSlot T n heads head P.low b = rw b_is (linked.after a head P.low P.start) in
    let room = room_of T n heads head key a b small new P N in
    let a_not : a ≢ slot = λ e. start_at e P.start in
    let b_not : b ≢ slot = λ e. stop_at e N.high N.stop in
    let a_in = start_inside T n heads a head P.low linked.size P.start in
    let b_in = stop_inside T n heads b head N.high linked.size N.stop in
    record {
      size = length-set T slot (Some (head, key)) ∙ linked.size;
      next_size = two_set next slot a b slot ∙ linked.next_size;
      prev_size = two_set prev slot b a slot ∙ linked.prev_size;
      small = linked.small;
      keyed = keyed_more T heads slot head key (omega (arith, linked.size)) in_heads small new linked.keyed;
      after = λ i h low start.
          elim (cases_eq i a) [
            | inl e ↦ (let s = rw e at start in rw (e, at_second next slot a b slot (omega (arith, linked.next_size))) (after_before T n heads slot head key a b h low linked.size inside a_not room s))
            | inr far ↦ elim (cases_eq i slot) [
              | inl e ↦ (let s = rw e at start in rw (e, at_first next slot a b slot (omega (arith, linked.next_size)) (λ f. a_not (sym f))) (after_slot T n heads slot head key a b h low linked.size inside free room s))
              | inr other ↦ (let s = start_more T n heads slot head key i h low linked.size inside other start in
                  rw (at_others next slot a b slot i other far) (after_other T n heads slot head key a b i (get_or next i 0) h low linked.size linked.keyed inside free other far room s (linked.after i h low s)))
            ]
          ];
      before = λ i h high stop.
          elim (cases_eq i b) [
            | inl e ↦ (let s = rw e at stop in rw (e, at_second prev slot b a slot (omega (arith, linked.prev_size))) (before_after T n heads slot head key a b h high linked.size inside b_not room s))
            | inr far ↦ elim (cases_eq i slot) [
              | inl e ↦ (let s = rw e at stop in rw (e, at_first prev slot b a slot (omega (arith, linked.prev_size)) (λ f. b_not (sym f))) (before_slot T n heads slot head key a b h high linked.size inside free room s))
              | inr other ↦ (let s = stop_more T n heads slot head key i h high linked.size inside other stop in
                  rw (at_others prev slot b a slot i other far) (before_other T n heads slot head key a b i (get_or prev i 0) h high linked.size linked.keyed inside free other far room s (linked.before i h high s)))
            ]
          ];
    }
  where
    start_at : a ≡ slot → IsStart T n heads a head P.low → ⊥
    start_at e (inl one) = none-some (head, one.0) (sym free ∙ rw e at one.1)
    start_at e (inr one) = omega (arith, one.0)

    stop_at : (e : b ≡ slot) (high : ℕ) → IsStop T n heads b head high → ⊥
    stop_at e high (inl one) = none-some (head, high) (sym free ∙ rw e at one)
    stop_at e high (inr one) = omega (arith, one.0)

pub removed : (T : SlotChains) (n heads slot head k : ℕ) (next prev : List ℕ) → IsLinked n heads T next prev → IsIn T head slot k → IsLinked n heads (set T slot None) (set next (get_or prev slot 0) (get_or next slot 0)) (set prev (get_or next slot 0) (get_or prev slot 0))
removed T n heads slot head k next prev linked there =
    let a : ℕ = get_or prev slot 0 in
    let b : ℕ = get_or next slot 0 in
    let inside : slot < n = omega (arith, in_inside T head slot k there, linked.size) in
    let P : IsPrev T n heads head k a = linked.before slot head k (inl there) in
    let N : IsNextSlot T n heads head (k + 1) b = linked.after slot head (k + 1) (inl (k, there, refl)) in
    let a_in = start_inside T n heads a head P.low linked.size P.start in
    let b_in = stop_inside T n heads b head N.high linked.size N.stop in
    record {
      size = length-set T slot None ∙ linked.size;
      next_size = length-set next a b ∙ linked.next_size;
      prev_size = length-set prev b a ∙ linked.prev_size;
      small = linked.small;
      keyed = keyed_less T heads slot linked.keyed;
      after = λ i h low start.
          elim (cases_eq i a) [
            | inl e ↦ (let s = rw e at start in rw (e, get_or-set_same next a b 0 (omega (arith, linked.next_size))) (after_joined T n heads slot head k a b h low linked.size inside linked.keyed there P N s))
            | inr far ↦ rw (get_or-set_other next a i b 0 far) (after_rest T n heads slot head k a b i (get_or next i 0) h low linked.size inside linked.keyed there P far start (linked.after i h low (start_less T n heads slot i h low inside start).1))
          ];
      before = λ i h high stop.
          elim (cases_eq i b) [
            | inl e ↦ (let s = rw e at stop in rw (e, get_or-set_same prev b a 0 (omega (arith, linked.prev_size))) (before_joined T n heads slot head k a b h high linked.size inside linked.keyed there P N s))
            | inr far ↦ rw (get_or-set_other prev b i a 0 far) (before_rest T n heads slot head k a b i (get_or prev i 0) h high linked.size inside linked.keyed there N far stop (linked.before i h high (stop_less T n heads slot i h high inside stop).1))
          ];
    }

-- what is read of the links is the next place, or the place before
pub next_of : (T : SlotChains) (n heads i h low l : ℕ) (next prev : List ℕ) → IsLinked n heads T next prev → IsStart T n heads i h low → l ≡ get_or next i 0 → IsNextSlot T n heads h low l
next_of T n heads i h low l next prev linked start read = rw read (linked.after i h low start)

pub prev_of : (T : SlotChains) (n heads i h high l : ℕ) (next prev : List ℕ) → IsLinked n heads T next prev → IsStop T n heads i h high → l ≡ get_or prev i 0 → IsPrev T n heads h high l
prev_of T n heads i h high l next prev linked stop read = rw read (linked.before i h high stop)

next_least : (T : SlotChains) (n heads h low l : ℕ) → IsNextSlot T n heads h low l → l < n → HasLeastKey T h low l
next_least T n heads h low l is inside = go is.stop
  where
    go : IsStop T n heads l h is.high → HasLeastKey T h low l
    go (inl one) = record { key = is.high; there = one; above = is.up; least = is.gap }
    go (inr one) = absurd (omega (arith, one.0))

next_none : (T : SlotChains) (n heads h low l : ℕ) → length T ≡ n → IsKeyed heads T → IsNextSlot T n heads h low l → n ≤ l → (u j : ℕ) → IsIn T h u j → j < low
next_none T n heads h low l size keyed is outside u j there = go is.stop
  where
    go : IsStop T n heads l h is.high → j < low
    go (inl one) = absurd (omega (arith, in_inside T h l is.high one))
    go (inr one) = elim (is.gap u j there) [ inl p ↦ p | inr p ↦ absurd (omega (arith, one.2, (keyed.in_range u h j there).1)) ]

pub first_answers : (T : SlotChains) (n heads head len l : ℕ) (next prev : List ℕ) → IsLinked n heads T next prev → head < heads → len ≡ n → l ≡ get_or next (len + head) 0 → (l < len → HasLeastKey T head 0 l) × (len ≤ l → (u j : ℕ) → IsIn T head u j → j < 0)
first_answers T n heads head len l next prev linked in_heads size read =
    let N : IsNextSlot T n heads head 0 l = next_of T n heads (len + head) head 0 l next prev linked (inr (omega arith, in_heads, refl)) read in
    ((λ h. next_least T n heads head 0 l N (omega arith)), (λ h. next_none T n heads head 0 l linked.size linked.keyed N (omega arith)))

-- past the last chain there are no keys
pub no_chain : (T : SlotChains) (n heads head : ℕ) (next prev : List ℕ) → IsLinked n heads T next prev → heads ≤ head → (u j : ℕ) → IsIn T head u j → j < 0
no_chain T n heads head next prev linked beyond u j there = absurd (omega (arith, (linked.keyed.in_range u head j there).0))

pub next_answers : (T : SlotChains) (n heads h slot k len l : ℕ) (next prev : List ℕ) → IsLinked n heads T next prev → IsIn T h slot k → len ≡ n → l ≡ get_or next slot 0 → (l < len → HasLeastKey T h (k + 1) l) × (len ≤ l → (u j : ℕ) → IsIn T h u j → j < k + 1)
next_answers T n heads h slot k len l next prev linked there size read =
    let N : IsNextSlot T n heads h (k + 1) l = next_of T n heads slot h (k + 1) l next prev linked (inl (k, there, refl)) read in
    ((λ h'. next_least T n heads h (k + 1) l N (omega arith)), (λ h'. next_none T n heads h (k + 1) l linked.size linked.keyed N (omega arith)))

pub narrowed : (T : SlotChains) (n heads h high key slot : ℕ) → IsPrev T n heads h high slot → key ≤ high → ((u : ℕ) → IsIn T h u key → ⊥) → ((k : ℕ) → IsIn T h slot k → k ≤ key) → IsPrev T n heads h key slot
narrowed T n heads h high key slot is le new small = record {
  low = is.low;
  start = is.start;
  up = up is.start;
  gap = gap_part T h is.low high is.low key is.gap (omega arith) le;
}
  where
    up : IsStart T n heads slot h is.low → is.low ≤ key
    up (inl one) = elim (cases_eq one.0 key) [ inl e ↦ absurd (new slot (rw e at one.1)) | inr e ↦ omega (arith, small one.0 one.1, one.2) ]
    up (inr one) = omega (arith, one.2)

-- the last slot with a key below `high` has such a key
pub prev_below : (T : SlotChains) (n heads h high slot k : ℕ) → length T ≡ n → IsPrev T n heads h high slot → IsIn T h slot k → k < high
prev_below T n heads h high slot k size is there = go is.start
  where
    go : IsStart T n heads slot h is.low → k < high
    go (inl one) = omega (arith, (same_in T slot h k h one.0 there one.1).1, one.2, is.up)
    go (inr one) = absurd (omega (arith, one.0, in_inside T h slot k there))

-- in a table without entries no slot is in a chain
none_in : (n h u j : ℕ) → IsIn (replicate n None) h u j → ⊥
none_in zero h u j is = cc
none_in (suc n) h zero j is = cc
none_in (suc n) h (suc u) j is = none_in n h u j is

pub all_free : (n heads : ℕ) (next prev : List ℕ) → length next ≡ n + heads → length prev ≡ n + heads → n + heads < 2 ^ 32 → AreEnds n heads next → AreEnds n heads prev → IsLinked n heads (replicate n None) next prev
all_free n heads next prev next_size prev_size small next_ends prev_ends = record {
  size = length-replicate n None;
  next_size = next_size;
  prev_size = prev_size;
  small = small;
  keyed = record { in_range = λ s h k is. absurd (none_in n h s k is); apart = λ s t h k is also. absurd (none_in n h s k is) };
  after = after;
  before = before;
}
  where
    after : (i h low : ℕ) → IsStart (replicate n None) n heads i h low → IsNextSlot (replicate n None) n heads h low (get_or next i 0)
    after i h low (inl one) = absurd (none_in n h i one.0 one.1)
    after i h low (inr one) = rw (one.0, next_ends h one.1, one.2) (record { high = 2 ^ 128; stop = inr (refl, one.1, refl); up = omega arith; gap = λ u j is. absurd (none_in n h u j is) })

    before : (i h high : ℕ) → IsStop (replicate n None) n heads i h high → IsPrev (replicate n None) n heads h high (get_or prev i 0)
    before i h high (inl one) = absurd (none_in n h i high one)
    before i h high (inr one) = rw (one.0, prev_ends h one.1, one.2) (record { low = 0; start = inr (refl, one.1, refl); up = omega arith; gap = λ u j is. absurd (none_in n h u j is) })
