-- Places of bounds that no earlier one dominates.
use Rattle.std.proofs.Common.{ℕ, ◌≡◌, ◌+◌, ◌≤◌, ◌<◌, List, [], ◌∷◌, ◌++◌, Some, length, get_or, arith, inl, inr, sym, subst, ap, ◌∙◌}
use Rattle.std.specs.Prelude.{slice_get}
use Rattle.std.specs.List.{Contains}
use Rattle.std.proofs.Math.Seq.{get_or-append_seam}
use Rattle.std.proofs.lemmas.Bool.{cases_lt, cases_eq}
use Rattle.std.proofs.lemmas.List.{get_or_append_left, get_or_default, length-append}
use Rattle.std.proofs.lemmas.Option.{slice_get_within}
use Rattle.cstn_facts.proofs.Members.{there_is}
use Rattle.cstn_facts.proofs.Places.{get_left, get_last, get_more}
use Rattle.cstn_label.specs.Bounds.{Bound, Dominates}
use Rattle.cstn_rules.specs.Closed.{IsCovered}
use Rattle.cstn_closed.specs.Instances.{IsSoBefore, IsSoAt}
use Rattle.cstn_closed.specs.Minimal.{IsFreshOver, AreFresh}
use Rattle.cstn_label.proofs.BoundLemmas.{dominates_through, dominates_itself}

pub none_fresh : AreFresh [] []
none_fresh = record {
  inside = λ n h. absurd (omega arith);
  ascending = λ m n less h. absurd (omega arith);
  over = λ i b there. absurd (let within = slice_get_within {A = Bound} [] i b there in omega arith);
}

module _ (bounds : List Bound) (b : Bound) (places : List ℕ) (fresh : AreFresh bounds places) where
  longer : length (bounds ++ b ∷ []) ≡ length bounds + 1
  longer = length-append bounds (b ∷ [])

  -- a bound that is covered already is dominated by an earlier one
  pub fresh_still : IsCovered bounds b → AreFresh (bounds ++ b ∷ []) places
  fresh_still covered = record {
    inside = λ n h. let below = fresh.inside n h in omega (arith, longer);
    ascending = fresh.ascending;
    over = λ i c there. elim (get_more bounds b i c there) [
      | inl before ↦
          let o = fresh.over i c before in
          record { nth = o.nth; inside = o.inside; upto = o.upto; by = o.by; there = get_left bounds b _ o.by o.there; dominates = o.dominates }
      | inr last ↦
          let at = there_is bounds covered.by covered.in_list in
          let o = fresh.over at.0 covered.by at.1 in
          record {
            nth = o.nth;
            inside = o.inside;
            upto = omega (arith, o.upto, slice_get_within bounds at.0 covered.by at.1, last.0);
            by = o.by;
            there = get_left bounds b _ o.by o.there;
            dominates = subst (λ x. Dominates o.by x) last.1 (dominates_through o.by covered.by b o.dominates covered.dominates);
          }
    ];
  }

  last_place : get_or (places ++ length bounds ∷ []) (length places) 0 ≡ length bounds
  last_place = get_or-append_seam places (length bounds) [] 0

  more_places : length (places ++ length bounds ∷ []) ≡ length places + 1
  more_places = length-append places (length bounds ∷ [])

  early_place : (n : ℕ) → n < length places → get_or (places ++ length bounds ∷ []) n 0 ≡ get_or places n 0
  early_place n h = get_or_append_left places (length bounds ∷ []) 0 n h

  up_to_last : (n : ℕ) → n < length (places ++ length bounds ∷ []) → get_or (places ++ length bounds ∷ []) n 0 ≤ length bounds
  up_to_last n h = elim (cases_lt n (length places)) [
    | inl before ↦ omega (arith, early_place n before, fresh.inside n before)
    | inr past ↦
        let same : n ≡ length places = omega (arith, more_places) in
        omega (arith, ap (λ k. get_or (places ++ length bounds ∷ []) k 0) same, last_place)
  ]

  -- the place of the next bound is put at the end
  pub fresh_put : AreFresh (bounds ++ b ∷ []) (places ++ length bounds ∷ [])
  fresh_put = record {
    inside = λ n h. omega (arith, longer, up_to_last n h);
    ascending = λ m n less h.
        let before : m < length places = omega (arith, more_places) in
        elim (cases_lt n (length places)) [
          | inl inside ↦ omega (arith, early_place m before, early_place n inside, fresh.ascending m n less inside)
          | inr past ↦
              let same : n ≡ length places = omega (arith, more_places) in
              omega (arith, early_place m before, fresh.inside m before, ap (λ k. get_or (places ++ length bounds ∷ []) k 0) same, last_place)
        ];
    over = λ i c there. elim (get_more bounds b i c there) [
      | inl before ↦
          let o = fresh.over i c before in
          let at = early_place o.nth o.inside in
          record {
            nth = o.nth;
            inside = omega (arith, more_places, o.inside);
            upto = omega (arith, at, o.upto);
            by = o.by;
            there = subst (λ k. slice_get (bounds ++ b ∷ []) k ≡ Some o.by) (sym at) (get_left bounds b _ o.by o.there);
            dominates = o.dominates;
          }
      | inr last ↦ record {
        nth = length places;
        inside = omega (arith, more_places);
        upto = omega (arith, last_place, last.0);
        by = c;
        there = subst (λ k. slice_get (bounds ++ b ∷ []) k ≡ Some c) (sym last_place) (get_last bounds b ∙ ap Some last.1);
        dominates = dominates_itself c;
      }
    ];
  }

-- P holds of each bound where it holds of those at such places, if it is handed on to what a bound dominates
module _ (P : Bound → Type 0) (under : (a b : Bound) → Dominates a b → P a → P b) (bounds : List Bound) (places : List ℕ) (fresh : AreFresh bounds places) (n : ℕ)
    (done : (m : ℕ) → m < n → IsSoAt P bounds (get_or places m 0)) where
  pub fresh_before : (d : ℕ) → n < length places → IsSoBefore P bounds (get_or places n d)
  fresh_before d inside j b less there = under o.by b o.dominates (done o.nth lower o.by o.there)
    where
      o : IsFreshOver bounds places j b
      o = fresh.over j b there

      at : get_or places n d ≡ get_or places n 0
      at = get_or_default places n d 0 inside

      lower : o.nth < n
      lower = elim (cases_lt o.nth n) [
        | inl before ↦ before
        | inr past ↦ elim (cases_eq o.nth n) [
          | inl same ↦ absurd (omega (arith, at, less, o.upto, ap (λ k. get_or places k 0) same))
          | inr other ↦ absurd (omega (arith, at, less, o.upto, fresh.ascending n o.nth (omega arith) o.inside))
        ]
      ]

  pub fresh_all : length places ≤ n → (b : Bound) → Contains bounds b → P b
  fresh_all all b has =
      let there = there_is bounds b has in
      let o = fresh.over there.0 b there.1 in
      under o.by b o.dominates (done o.nth (omega (arith, o.inside)) o.by o.there)
