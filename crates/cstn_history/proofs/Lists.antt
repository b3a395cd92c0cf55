-- Where an element of a list that is made from another one comes from, and the numbers that pass a test.
use Rattle.std.proofs.Common.{ℕ, zero, suc, ◌≡◌, inl, inr, ◌+◌, ◌<◌, Bool, true, false, List, [], ◌∷◌, ◌++◌, length, arith, refl, sym, subst, ap, ◌∙◌}
use Rattle.std.specs.Prelude.{cond, slice_index_or}
use Rattle.std.specs.List.{filter, range_with_len}
use Rattle.std.proofs.lemmas.Bool.{cases_lt, cases_Bool}
use Rattle.std.proofs.lemmas.List.{length-append, get_or_append_left, get_or_push, append-nil}
use Rattle.cstn_facts.proofs.Ranges.{passing_next as one_more}

-- the numbers below n that pass a test, and where each of them stands
module _ (test : ℕ → Bool) where
  abbrev pub passing : ℕ → List ℕ
  passing n = filter test (range_with_len 0 n)

  abbrev pub place : ℕ → ℕ
  place n = length (passing n)

  pub passing_next : (n : ℕ) → passing (suc n) ≡ passing n ++ cond (test n) (n ∷ []) []
  passing_next n = let next : suc n ≡ n + 1 = omega arith in ap passing next ∙ one_more test n

  pub passing_yes : (n : ℕ) → test n ≡ true → passing (suc n) ≡ passing n ++ n ∷ []
  passing_yes n e = passing_next n ∙ ap (λ b. passing n ++ cond b (n ∷ []) []) e

  pub passing_no : (n : ℕ) → test n ≡ false → passing (suc n) ≡ passing n
  passing_no n e = passing_next n ∙ ap (λ b. passing n ++ cond b (n ∷ []) []) e ∙ append-nil (passing n)

  -- x stands at place k among the numbers below n that pass
  abbrev pub StandsAt : ℕ → ℕ → ℕ → Type 0
  StandsAt n k x = (x < n) × (test x ≡ true) × (place x ≡ k)

  pub place_found : (n x : ℕ) → x < n → test x ≡ true → (place x < place n) × (slice_index_or (passing n) (place x) 0 ≡ x)
  place_found zero x before e = absurd (omega arith)
  place_found (suc n) x before e = elim (cases_lt x n) [
    | inl earlier ↦
        let at = place_found n x earlier e in
        elim (cases_Bool (test n)) [
          | inl y ↦ subst (λ l. (place x < length l) × (slice_index_or l (place x) 0 ≡ x)) (sym (passing_yes n y))
              ((let long = length-append (passing n) (n ∷ []) in let low = at.0 in omega arith), get_or_append_left (passing n) (n ∷ []) 0 (place x) at.0 ∙ at.1)
          | inr z ↦ subst (λ l. (place x < length l) × (slice_index_or l (place x) 0 ≡ x)) (sym (passing_no n z)) at
        ]
    | inr later ↦
        let same : n ≡ x = omega arith in
        subst (λ y. (place y < place (suc n)) × (slice_index_or (passing (suc n)) (place y) 0 ≡ y)) same
        (subst (λ l. (place n < length l) × (slice_index_or l (place n) 0 ≡ n)) (sym (passing_yes n (subst (λ y. test y ≡ true) (sym same) e)))
        ((let long = length-append (passing n) (n ∷ []) in omega arith), get_or_push (passing n) n 0 (place n) refl))
  ]

  pub place_back : (n k : ℕ) → k < place n → StandsAt n k (slice_index_or (passing n) k 0)
  place_back zero k = λ inside. absurd (omega arith)
  place_back (suc n) k = elim (cases_Bool (test n)) [
    | inr z ↦ subst (λ l. k < length l → StandsAt (suc n) k (slice_index_or l k 0)) (sym (passing_no n z)) (λ inside.
        let at = place_back n k inside in let low = at.0 in (omega arith, at.1, at.2))
    | inl y ↦ subst (λ l. k < length l → StandsAt (suc n) k (slice_index_or l k 0)) (sym (passing_yes n y)) (λ inside.
        elim (cases_lt k (place n)) [
          | inl before ↦
              let at = place_back n k before in
              let low = at.0 in
              subst (StandsAt (suc n) k) (sym (get_or_append_left (passing n) (n ∷ []) 0 k before)) (omega arith, at.1, at.2)
          | inr past ↦
              let long = length-append (passing n) (n ∷ []) in
              let same : place n ≡ k = omega arith in
              subst (StandsAt (suc n) k) (sym (get_or_push (passing n) n 0 k same)) (omega arith, y, same)
        ])
  ]
