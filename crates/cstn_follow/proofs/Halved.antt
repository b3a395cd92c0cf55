-- Halving by one try more, and counted from another moment.
use Rattle.std.proofs.Common.{ℕ, zero, suc, ◌≡◌, inl, inr, ◌+◌, ◌-◌, ◌<◌, ◌≤◌, Bool, true, false, Option, Some, None, arith, refl, sym, ap, ◌∙◌}
use Rattle.std.specs.Prelude.{◌/◌, ℤ, pos, negsuc, ◌+ℤ◌, ◌-ℤ◌, ◌≤ℤ◌, ◌<ℤ◌, nat_lt, option_and_then, if◌then◌else◌}
use Rattle.std.specs.Option.{option_map}
use Rattle.std.proofs.Math.Path.{fun_ext}
use Rattle.std.proofs.lemmas.Int.{ints}
use Rattle.std.proofs.lemmas.Bool.{cases_lt, cond-true, cond-false, lt-ltb, le-ltb}
use Rattle.cstn_plan.specs.Asked.{moment_of}
use Rattle.cstn_check.specs.declared.halving.Span.{Span}
use Rattle.cstn_check.proofs.Halves.{halving_zero, halving_turn, halving_over, halving_more}
use Rattle.cstn_check.specs.Search.{middle, halved, halving}
use Rattle.cstn_follow.specs.Raises.{middle_value, least_between}

-- ---- turns

record IsMiddle (s : Span) : Type 0 where
  over : s.low < middle s
  upto : middle s ≤ s.high

middle_is : (s : Span) → s.low < s.high → IsMiddle s
middle_is s less = record { over = half_over s.low s.high less; upto = half_upto s.low s.high less }
  where
    half_over : (a b : ℕ) → a < b → a < (a + b + 1) / 2
    half_over a b more = omega arith

    half_upto : (a b : ℕ) → a < b → (a + b + 1) / 2 ≤ b
    half_upto a b more = omega arith

-- ---- what is found is in the span, and where nothing is found, nothing is said of a moment in it

pub found_within : (says : ℕ → Option Bool) (n : ℕ) (s : Span) (t : ℕ) → s.low ≤ s.high → halving says n s ≡ Some t → t ≤ s.high
found_within says zero s t order is = let at : ◌≡◌ {A = Option ℕ} (Some s.low) (Some t) = sym (halving_zero says s) ∙ is in let same : s.low ≡ t = cc in omega arith
found_within says (suc n) s t order is = elim (cases_lt s.low s.high) [
  | inr over ↦
      let at : ◌≡◌ {A = Option ℕ} (Some s.low) (Some t) = sym (halving_over says (suc n) s over) ∙ is in let same : s.low ≡ t = cc in omega arith
  | inl more ↦ by (λ k upto go. found_within says n k t upto go) (says (middle s)) (middle_is s more) (sym (halving_more says n s more) ∙ is)
]
  where
    by : ((k : Span) → k.low ≤ k.high → halving says n k ≡ Some t → t ≤ k.high) → (o : Option Bool) → IsMiddle s
        → option_and_then (halving says n) (halved s o) ≡ Some t → t ≤ s.high
    by again None mid go = absurd (cc)
    by again (Some true) mid go = again (record { low = middle s; high = s.high }) mid.upto go
    by again (Some false) mid go =
        let over = mid.over in
        let upto = mid.upto in
        let there = again (record { low = s.low; high = middle s - 1 }) (omega arith) go in
        omega arith

pub found_upto : (says : ℕ → Option Bool) (n high t : ℕ) → halving says n (record { low = 0; high = high }) ≡ Some t → t ≤ high
found_upto says n high t is = found_within says n (record { low = 0; high = high }) t (omega arith) is

pub none_within : (says : ℕ → Option Bool) (n : ℕ) (s : Span) → s.low ≤ s.high → halving says n s ≡ None → (t : ℕ) × (s.low < t) × (t ≤ s.high) × (says t ≡ None)
none_within says zero s order none = absurd (let some : ◌≡◌ {A = Option ℕ} (Some s.low) None = sym (halving_zero says s) ∙ none in cc)
none_within says (suc n) s order none = elim (cases_lt s.low s.high) [
  | inr over ↦ absurd (let some : ◌≡◌ {A = Option ℕ} (Some s.low) None = sym (halving_over says (suc n) s over) ∙ none in cc)
  | inl more ↦ by (λ k upto go. none_within says n k upto go) (says (middle s)) refl (middle_is s more) (sym (halving_more says n s more) ∙ none)
]
  where
    by : ((k : Span) → k.low ≤ k.high → halving says n k ≡ None → (t : ℕ) × (k.low < t) × (t ≤ k.high) × (says t ≡ None)) → (o : Option Bool) → says (middle s) ≡ o
        → IsMiddle s → option_and_then (halving says n) (halved s o) ≡ None → (t : ℕ) × (s.low < t) × (t ≤ s.high) × (says t ≡ None)
    by again None said mid go = (middle s, mid.over, mid.upto, said)
    by again (Some true) said mid go =
        let over = mid.over in
        let there = again (record { low = middle s; high = s.high }) mid.upto go in
        (there.0, (let above = there.1 in omega arith), there.2, there.3)
    by again (Some false) said mid go =
        let over = mid.over in
        let upto = mid.upto in
        let there = again (record { low = s.low; high = middle s - 1 }) (omega arith) go in
        (there.0, there.1, (let within = there.2 in omega arith), there.3)

-- ---- counted from another moment

abbrev span_at : ℕ → ℕ → Span
span_at low high = record { low = low; high = high }

middle_shift : (a x y : ℕ) → (a + x + (a + y) + 1) / 2 ≡ a + (x + y + 1) / 2
middle_shift a x y = omega arith

shift : (says : ℕ → Option Bool) (a n x y : ℕ) → halving says n (record { low = a + x; high = a + y })
    ≡ option_map (λ u. a + u) (halving (λ u. says (a + u)) n (record { low = x; high = y }))
shift says a zero x y =
    halving_zero says (record { low = a + x; high = a + y })
    ∙ sym (ap (option_map (λ u. a + u)) (halving_zero (λ u. says (a + u)) (record { low = x; high = y })))
shift says a (suc n) x y = elim (cases_lt x y) [
  | inr over ↦
      halving_over says (suc n) (record { low = a + x; high = a + y }) (omega arith)
      ∙ sym (ap (option_map (λ u. a + u)) (halving_over (λ u. says (a + u)) (suc n) (record { low = x; high = y }) over))
  | inl more ↦
      halving_more says n (record { low = a + x; high = a + y }) (omega arith)
      ∙ ap (λ (o : Option Bool). option_and_then (halving says n) (halved (record { low = a + x; high = a + y }) o)) (ap says (middle_shift a x y))
      ∙ turn (λ j k. shift says a n j k) (says (a + (x + y + 1) / 2)) (middle_is (record { low = x; high = y }) more)
      ∙ sym (ap (option_map (λ u. a + u)) (halving_more (λ u. says (a + u)) n (record { low = x; high = y }) more))
]
  where
    turn : ((j k : ℕ) → halving says n (record { low = a + j; high = a + k })
        ≡ option_map (λ u. a + u) (halving (λ u. says (a + u)) n (record { low = j; high = k }))) → (o : Option Bool) → IsMiddle (record { low = x; high = y }) → option_and_then (halving says n) (halved (record { low = a + x; high = a + y }) o)
        ≡ option_map (λ u. a + u) (option_and_then (halving (λ u. says (a + u)) n) (halved (record { low = x; high = y }) o))
    turn again None mid = refl
    turn again (Some true) mid =
        ap (λ (k : ℕ). halving says n (record { low = k; high = a + y })) (middle_shift a x y) ∙ again ((x + y + 1) / 2) y
    turn again (Some false) mid =
        let shifted = middle_shift a x y in
        let over = mid.over in
        ap (λ (k : ℕ). halving says n (record { low = a + x; high = k })) (before (a + x + (a + y) + 1) ((x + y + 1) / 2) shifted over)
        ∙ again x ((x + y + 1) / 2 - 1)
      where
        before : (k j : ℕ) → k / 2 ≡ a + j → x < j → k / 2 - 1 ≡ a + (j - 1)
        before k j same over = omega arith

-- ---- a search for a value

pub moment_pos : (z : ℤ) → pos 0 ≤ℤ z → z ≡ pos (moment_of z)
moment_pos (pos n) over = refl
moment_pos (negsuc n) over = absurd (omega (arith, ints))

moment_is : (z : ℤ) (n : ℕ) → z ≡ pos n → moment_of z ≡ n
moment_is z n is = ap moment_of is

further : (z : ℤ) (b c : ℕ) → z -ℤ pos (b + c) ≡ (z -ℤ pos b) -ℤ pos c
further z b c = omega (arith, ints)

less_none : (z : ℤ) → z -ℤ pos 0 ≡ z
less_none z = omega (arith, ints)

-- what is left of a difference
rest_of : (z y : ℤ) (r j k : ℕ) → z -ℤ y ≡ pos r → r ≡ j + k → (z -ℤ pos j) -ℤ y ≡ pos k
rest_of z y r j k whole parts = omega (arith, ints)

one_less : (z : ℤ) (j k : ℕ) → j ≡ k + 1 → z -ℤ ((z -ℤ pos j) +ℤ pos 1) ≡ pos k
one_less z j k next = omega (arith, ints)

mapped_twice : (high : ℤ) (a : ℕ) (o : Option ℕ) → option_map (λ u. high -ℤ pos u) (option_map (λ u. a + u) o) ≡ option_map (λ u. (high -ℤ pos a) -ℤ pos u) o
mapped_twice high a None = refl
mapped_twice high a (Some u) = ap (λ (z : ℤ). Some z) (further high a u)

module _ (says : ℤ → Option Bool) (low high : ℤ) (order : low ≤ℤ high) where
  abbrev reach : ℕ
  reach = moment_of (high -ℤ low)

  pub reach_is : (high -ℤ low) ≡ pos reach
  reach_is = moment_pos (high -ℤ low) (omega (arith, ints))

  abbrev below : ℕ → Option Bool
  below u = says (high -ℤ pos u)

  abbrev value : ℕ → ℤ
  value u = high -ℤ pos u

  -- one value is left
  pub between_over : (n : ℕ) → high ≤ℤ low → least_between says n low high ≡ Some high
  between_over n over =
      let none = moment_is (high -ℤ low) 0 (omega (arith, ints)) in
      ap (option_map value) (halving_over below n (span_at 0 reach) (omega arith)) ∙ ap (λ (z : ℤ). Some z) (less_none high)

  module _ (more : low <ℤ high) (n : ℕ) where
    abbrev half : ℕ
    half = (reach + 1) / 2

    some : 0 < reach
    some = let whole = reach_is in omega (arith, ints)

    half_over : 0 < half
    half_over = let there = some in omega arith

    half_upto : half ≤ reach
    half_upto = let there = some in omega arith

    halfway : (0 + reach + 1) / 2 ≡ half
    halfway = omega arith

    abbrev after : Option Bool → Option ℤ
    after o = option_map value (option_and_then (halving below n) (halved (span_at 0 reach) o))

    tried : (o : Option Bool) → says (middle_value low high) ≡ o → least_between says (suc n) low high ≡ after o
    tried o is = ap (option_map value) (halving_more below n (span_at 0 reach) some) ∙ ap after (ap below halfway ∙ is)

    pub between_none : says (middle_value low high) ≡ None → least_between says (suc n) low high ≡ None
    between_none is = tried None is

    pub between_yes : says (middle_value low high) ≡ Some true → least_between says (suc n) low high ≡ least_between says n low (middle_value low high)
    between_yes is =
        let half_low = half_upto in
        tried (Some true) is
        ∙ ap (λ (k : ℕ). option_map value (halving below n (span_at k reach))) (let at = halfway in let e : (0 + reach + 1) / 2 ≡ half + 0 = omega arith in e)
        ∙ ap (λ (k : ℕ). option_map value (halving below n (span_at (half + 0) k))) (let e : reach ≡ half + (reach - half) = omega arith in e)
        ∙ ap (option_map value) (shift below half n 0 (reach - half))
        ∙ mapped_twice high half (halving (λ u. below (half + u)) n (span_at 0 (reach - half)))
        ∙ ap (λ (k : ℕ → Option Bool). option_map (λ u. (high -ℤ pos half) -ℤ pos u) (halving k n (span_at 0 (reach - half)))) (fun_ext (λ u. ap says (further high half u)))
        ∙ ap (λ (r : ℕ). option_map (λ u. (high -ℤ pos half) -ℤ pos u) (halving (λ u. says ((high -ℤ pos half) -ℤ pos u)) n (span_at 0 r)))
        (sym (moment_is ((high -ℤ pos half) -ℤ low) (reach - half) (rest_of high low reach half (reach - half) reach_is (omega arith))))

    pub between_no : says (middle_value low high) ≡ Some false → least_between says (suc n) low high ≡ least_between says n (middle_value low high +ℤ pos 1) high
    between_no is =
        let over = half_over in
        tried (Some false) is
        ∙ ap (λ (k : ℕ). option_map value (halving below n (span_at 0 k))) (let at = halfway in let e : (0 + reach + 1) / 2 - 1 ≡ half - 1 = omega arith in e)
        ∙ ap (λ (k : ℕ). option_map value (halving below n (span_at 0 k)))
        (sym (moment_is (high -ℤ ((high -ℤ pos half) +ℤ pos 1)) (half - 1) (one_less high half (half - 1) (omega arith))))

    pub middle_from : low ≤ℤ middle_value low high
    middle_from = let whole = reach_is in let upto = half_upto in omega (arith, ints)

    pub middle_before : middle_value low high <ℤ high
    middle_before = let over = half_over in omega (arith, ints)

    -- each half is half as long
    pub middle_short : (k : ℕ) → (high -ℤ low) ≤ℤ pos (k + k)
        → ((middle_value low high -ℤ low) ≤ℤ pos k) × ((high -ℤ (middle_value low high +ℤ pos 1)) ≤ℤ pos k)
    middle_short k short =
        let whole = reach_is in
        let twice : half + half ≤ reach + 1 = omega arith in
        let again : reach ≤ half + half = omega arith in
        (omega (arith, ints), omega (arith, ints))
