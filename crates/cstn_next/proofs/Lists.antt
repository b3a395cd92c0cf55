-- The earliest of moments, and the numbers range_from n that pass a test.
use Rattle.std.proofs.Common.{ℕ, zero, suc, ◌≡◌, ◌⊎◌, inl, inr, ◌+◌, ◌<◌, ◌≤◌, min, List, [], ◌∷◌, ◌++◌, Option, Some, None, length, take, arith, refl, sym, ap, ◌∙◌}
use Rattle.std.specs.Prelude.{slice_index_or}
use Rattle.std.specs.List.{Contains}
use Rattle.std.proofs.lemmas.List.{take_more}
use Rattle.cstn_facts.proofs.Ranges.{range_from}
use Rattle.cstn_next.specs.Next.{earlier, earliest}

-- ---- the earliest of moments

-- there is a moment, which is t or earlier
abbrev pub IsBy : Option ℕ → ℕ → Type 0
IsBy o t = (u : ℕ) × (o ≡ Some u) × (u ≤ t)

pub by_left : (a b : Option ℕ) (t : ℕ) → IsBy a t → IsBy (earlier a b) t
by_left None b t (u, e, upto) = absurd (cc)
by_left (Some v) None t by = by
by_left (Some v) (Some w) t (u, e, upto) = let same : v ≡ u = cc in (min v w, refl, omega arith)

pub by_right : (a b : Option ℕ) (t : ℕ) → IsBy b t → IsBy (earlier a b) t
by_right None b t by = by
by_right (Some v) None t (u, e, upto) = absurd (cc)
by_right (Some v) (Some w) t (u, e, upto) = let same : w ≡ u = cc in (min v w, refl, omega arith)

min_one : (v w : ℕ) → (v ≡ min v w) ⊎ (w ≡ min v w)
min_one v w = grind arith

pub earlier_one : (a b : Option ℕ) (t : ℕ) → earlier a b ≡ Some t → (a ≡ Some t) ⊎ (b ≡ Some t)
earlier_one None b t e = inr e
earlier_one (Some v) None t e = inl e
earlier_one (Some v) (Some w) t e = elim (min_one v w) [
  | inl one ↦ inl (ap (λ n. Some n) one ∙ e)
  | inr other ↦ inr (ap (λ n. Some n) other ∙ e)
]

pub earlier_none : (a b : Option ℕ) → a ≡ None → b ≡ None → earlier a b ≡ None
earlier_none a b e d = ap (λ o. earlier o b) e ∙ d

-- the earliest of these is one of them, and none is earlier
pub earliest_by : (xs : List (Option ℕ)) (t : ℕ) → Contains xs (Some t) → IsBy (earliest xs) t
earliest_by [] t (k, inside, is) = absurd (omega arith)
earliest_by (x ∷ xs) t (zero, inside, is) = by_left x (earliest xs) t (t, is, omega arith)
earliest_by (x ∷ xs) t (suc k, inside, is) = by_right x (earliest xs) t (earliest_by xs t (k, omega arith, is))

pub earliest_one : (xs : List (Option ℕ)) (t : ℕ) → earliest xs ≡ Some t → Contains xs (Some t)
earliest_one [] t e = absurd (cc)
earliest_one (x ∷ xs) t e = elim (earlier_one x (earliest xs) t e) [
  | inl here ↦ (0, omega arith, here)
  | inr later ↦ let c = earliest_one xs t later in (suc c.0, let h = c.1 in omega arith, c.2)
]

pub earlier_three : (a b c : Option ℕ) → earlier (earlier a b) c ≡ earlier a (earlier b c)
earlier_three None b c = refl
earlier_three (Some t) None c = refl
earlier_three (Some t) (Some u) None = refl
earlier_three (Some t) (Some u) (Some v) = let same : min (min t u) v ≡ min t (min u v) = omega arith in ap (λ n. Some n) same

earlier_alone : (a : Option ℕ) → earlier a None ≡ a
earlier_alone None = refl
earlier_alone (Some t) = refl

pub earliest_push : (xs : List (Option ℕ)) (a : Option ℕ) → earliest (xs ++ a ∷ []) ≡ earlier (earliest xs) a
earliest_push [] a = earlier_alone a
earliest_push (x ∷ xs) a = ap (earlier x) (earliest_push xs a) ∙ sym (earlier_three x (earliest xs) a)

pub earliest_more : (xs : List (Option ℕ)) (k : ℕ) → k < length xs → earlier (earliest (take k xs)) (slice_index_or xs k None) ≡ earliest (take (k + 1) xs)
earliest_more xs k inside = sym (earliest_push (take k xs) (slice_index_or xs k None)) ∙ ap earliest (sym (take_more xs k None inside))

-- ---- lists that are made of the numbers range_from n
