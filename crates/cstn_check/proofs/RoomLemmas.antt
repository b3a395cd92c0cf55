-- The bound on every log of a network, counted time-point by time-point.
use Rattle.std.proofs.Common.{ℕ, zero, suc, ◌≡◌, ◌+◌, ◌*◌, ◌^◌, ◌<◌, ◌≤◌, List, [], ◌∷◌, Option, Some, None, take, length, arith, refl, sym, ap, ◌∙◌}
use Rattle.std.specs.Prelude.{slice_index_or}
use Rattle.std.proofs.Math.Nat.{mul_assoc, mul-le-mul_left, pow-suc, pow-le-pow_right}
use Rattle.std.proofs.lemmas.List.{take_all}
use Rattle.std.proofs.lemmas.Nat.{mul-le}
use Rattle.cstn_net.specs.Limits.{most_time_points, most_deadline}
use Rattle.cstn_check.specs.Growth.{count_observed}
use Rattle.cstn_check.specs.Room.{factor}

plus_one : (n : ℕ) → n + 1 ≡ suc n
plus_one n = omega arith

-- a time-point that observes nothing
observed_none : (os : List (Option ℕ)) (x : ℕ) → x < length os → slice_index_or os x None ≡ None → count_observed (take (suc x) os) ≡ count_observed (take x os)
observed_none [] x inside none = absurd (omega arith)
observed_none (None ∷ os) zero inside none = refl
observed_none (Some p ∷ os) zero inside none = let f : ⊥ = cc in absurd f
observed_none (None ∷ os) (suc x) inside none = observed_none os x (omega arith) none
observed_none (Some p ∷ os) (suc x) inside none = ap suc (observed_none os x (omega arith) none)

-- a time-point that observes a proposition
observed_one : (os : List (Option ℕ)) (x p : ℕ) → x < length os → slice_index_or os x None ≡ Some p → count_observed (take (suc x) os) ≡ suc (count_observed (take x os))
observed_one [] x p inside some = absurd (omega arith)
observed_one (None ∷ os) zero p inside some = let f : ⊥ = cc in absurd f
observed_one (Some q ∷ os) zero p inside some = refl
observed_one (None ∷ os) (suc x) p inside some = observed_one os x p (omega arith) some
observed_one (Some q ∷ os) (suc x) p inside some = ap suc (observed_one os x p (omega arith) some)

-- the bound by the first x of the time-points
abbrev pub most_by : ℕ → ℕ → List (Option ℕ) → ℕ → ℕ
most_by n h os x = n * (h + 2) * 4 ^ count_observed (take x os)

pub most_same : (n h : ℕ) (os : List (Option ℕ)) (x : ℕ) → x < length os → slice_index_or os x None ≡ None → most_by n h os (x + 1) ≡ most_by n h os x
most_same n h os x inside none =
    ap (λ (k : ℕ). most_by n h os k) (plus_one x) ∙ ap (λ (k : ℕ). n * (h + 2) * 4 ^ k) (observed_none os x inside none)

pub most_more : (n h : ℕ) (os : List (Option ℕ)) (x p : ℕ) → x < length os → slice_index_or os x None ≡ Some p → most_by n h os (x + 1) ≡ most_by n h os x * 4
most_more n h os x p inside some =
    ap (λ (k : ℕ). most_by n h os k) (plus_one x) ∙ ap (λ (k : ℕ). n * (h + 2) * 4 ^ k) (observed_one os x p inside some)
    ∙ ap (λ (k : ℕ). n * (h + 2) * k) (pow-suc 4 (count_observed (take x os)))
    ∙ sym (mul_assoc (n * (h + 2)) (4 ^ count_observed (take x os)) 4)

observed_upto : (os : List (Option ℕ)) (x : ℕ) → count_observed (take x os) ≤ count_observed os
observed_upto os zero = omega arith
observed_upto [] (suc x) = omega arith
observed_upto (None ∷ os) (suc x) = observed_upto os x
observed_upto (Some p ∷ os) (suc x) = let rest = observed_upto os x in omega (arith, rest)

-- the bound by some of the time-points is no greater than that by all
pub most_upto : (n h : ℕ) (os : List (Option ℕ)) (x : ℕ) → most_by n h os x ≤ n * (h + 2) * 4 ^ count_observed os
most_upto n h os x = mul-le-mul_left (n * (h + 2)) (pow-le-pow_right {n = 4} (omega arith) (observed_upto os x))

pub most_whole : (n h : ℕ) (os : List (Option ℕ)) (x : ℕ) → length os ≤ x → most_by n h os x ≡ n * (h + 2) * 4 ^ count_observed os
most_whole n h os x all = ap (λ (l : List (Option ℕ)). n * (h + 2) * 4 ^ count_observed l) (take_all x os all)

pub most_first : (n h : ℕ) (os : List (Option ℕ)) → n * (h + 2) ≡ most_by n h os 0
most_first n h os = omega arith

-- the bound by one more time-point
pub most_next : (n h : ℕ) (os : List (Option ℕ)) (x : ℕ) → x < length os → most_by n h os (x + 1) ≡ most_by n h os x * factor (slice_index_or os x None)
most_next n h os x inside = by (slice_index_or os x None) refl
  where
    by : (o : Option ℕ) → slice_index_or os x None ≡ o → most_by n h os (x + 1) ≡ most_by n h os x * factor o
    by None e = most_same n h os x inside e ∙ omega arith
    by (Some p) e = most_more n h os x p inside e

-- the bound where nothing is observed is small
pub first_small : (n h : ℕ) → n ≤ most_time_points → h ≤ most_deadline → n * (h + 2) ≤ 1024002048
first_small n h few soon = let le = mul-le n (h + 2) most_time_points 1000002 few (omega arith) in omega (arith, le)
