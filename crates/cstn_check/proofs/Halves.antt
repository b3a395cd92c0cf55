-- What a search by halving finds.
use Rattle.std.proofs.Common.{ℕ, zero, suc, ◌≡◌, inl, inr, ◌+◌, ◌-◌, ◌*◌, ◌^◌, ◌<◌, ◌≤◌, Bool, true, false, Option, Some, None, arith, refl, sym, subst, ap, ◌∙◌}
use Rattle.std.specs.Prelude.{◌/◌, nat_lt, option_and_then, if◌then◌else◌}
use Rattle.std.proofs.Math.Nat.{mul-div-le, two-pow-succ}
use Rattle.std.proofs.lemmas.Nat.{le-div}
use Rattle.std.proofs.lemmas.Bool.{cases_lt, cond-true, cond-false, lt-ltb, le-ltb}
use Rattle.cstn_check.specs.declared.halving.Span.{Span}
use Rattle.cstn_check.specs.Search.{middle, halved, halving}

pub halving_zero : (says : ℕ → Option Bool) (s : Span) → halving says 0 s ≡ Some s.low
unfolding halving
halving_zero says s = refl

pub halving_turn : (says : ℕ → Option Bool) (n : ℕ) (s : Span) → halving says (suc n) s
    ≡ (if nat_lt s.low s.high then option_and_then (halving says n) (halved s (says (middle s))) else Some s.low)
unfolding halving
halving_turn says n s = refl

-- one moment is left
pub halving_over : (says : ℕ → Option Bool) (n : ℕ) (s : Span) → s.high ≤ s.low → halving says n s ≡ Some s.low
halving_over says zero s over = halving_zero says s
halving_over says (suc n) s over = halving_turn says n s ∙ cond-false (nat_lt s.low s.high) _ _ (le-ltb s.low s.high over)

pub halving_more : (says : ℕ → Option Bool) (n : ℕ) (s : Span) → s.low < s.high → halving says (suc n) s ≡ option_and_then (halving says n) (halved s (says (middle s)))
halving_more says n s more = halving_turn says n s ∙ cond-true (nat_lt s.low s.high) _ _ (lt-ltb s.low s.high more)

-- ---- one try, after k of 20

module _ (says : ℕ → Option Bool) (k : ℕ) (s : Span) (x : Option ℕ) (is : x ≡ halving says (20 - k) s) where
  pub halving_ends : 20 ≤ k → x ≡ Some s.low
  halving_ends over = let none : 20 - k ≡ 0 = omega arith in is ∙ ap (λ (n : ℕ). halving says n s) none ∙ halving_zero says s

  pub halving_stops : s.high ≤ s.low → x ≡ Some s.low
  halving_stops over = is ∙ halving_over says (20 - k) s over

  module _ (more : s.low < s.high) (some : k < 20) where
    tried : x ≡ option_and_then (halving says (20 - (k + 1))) (halved s (says (middle s)))
    tried =
        let next : 20 - k ≡ suc (20 - (k + 1)) = omega arith in
        is ∙ ap (λ (n : ℕ). halving says n s) next ∙ halving_more says (20 - (k + 1)) s more

    pub halving_next : (half : Span) (o : Option Bool) → o ≡ says (middle s) → halved s o ≡ Some half → x ≡ halving says (20 - (k + 1)) half
    halving_next half o said is_half =
        tried ∙ ap (λ (p : Option Bool). option_and_then (halving says (20 - (k + 1))) (halved s p)) (sym said)
        ∙ ap (λ (p : Option Span). option_and_then (halving says (20 - (k + 1))) p) is_half

    pub halving_none : (o : Option Bool) → o ≡ says (middle s) → halved s o ≡ None → x ≡ None
    halving_none o said none =
        tried ∙ ap (λ (p : Option Bool). option_and_then (halving says (20 - (k + 1))) (halved s p)) (sym said)
        ∙ ap (λ (p : Option Span). option_and_then (halving says (20 - (k + 1))) p) none

-- ---- the middle

record IsMiddle (s : Span) : Type 0 where
  over : s.low < middle s
  upto : middle s ≤ s.high
  half : s.high + s.low ≤ 2 * middle s
  twice : 2 * middle s ≤ s.high + s.low + 1

middle_is : (s : Span) → s.low < s.high → IsMiddle s
middle_is s less =
    let low = le-div (s.low + 1) (s.low + s.high + 1) 2 (omega arith) (omega arith) in
    let twice = mul-div-le (s.low + s.high + 1) 2 in
    let half = half_up (s.low + s.high) in
    record { over = omega arith; upto = omega arith; half = omega arith; twice = omega arith }
  where
    half_up : (a : ℕ) → a ≤ 2 * ((a + 1) / 2)
    half_up a = omega arith

-- ---- what is found: where yes and no say whether it goes at a moment up to `most`, and it goes at all moments before one at which
-- it goes, the last moment at which it goes

module _ (says : ℕ → Option Bool) (Goes : ℕ → Type 0) (most : ℕ)
    (holds : (t : ℕ) → t ≤ most → says t ≡ Some true → Goes t)
    (fails : (t : ℕ) → t ≤ most → says t ≡ Some false → Goes t → ⊥)
    (earlier : (t u : ℕ) → t ≤ u → Goes u → Goes t) where
  abbrev IsLast : ℕ → Type 0
  IsLast t = Goes t × ((u : ℕ) → Goes u → u ≤ t)

  -- it goes at the lower end, and not beyond the upper one
  pub record IsSpan (s : Span) : Type 0 where
    pub low : Goes s.low
    pub high : (u : ℕ) → Goes u → u ≤ s.high
    pub upto : s.high ≤ most

  abbrev Finds : ℕ → Type 0
  Finds n = (s : Span) (t : ℕ) → IsSpan s → s.high < s.low + 2 ^ n → halving says n s ≡ Some t → IsLast t

  turned : (n : ℕ) → Finds n → (s : Span) (t : ℕ) → IsSpan s → s.high < s.low + 2 ^ suc n → (o : Option Bool) → says (middle s) ≡ o → IsMiddle s →
      option_and_then (halving says n) (halved s o) ≡ Some t → IsLast t
  turned n finds s t is small None at mid go = absurd (cc)
  turned n finds s t is small (Some true) at mid go =
      let double = two-pow-succ n in
      let half = mid.half in
      let twice = mid.twice in
      finds (record { low = middle s; high = s.high }) t
      (record { low = holds (middle s) (let a = mid.upto in let b = is.upto in omega arith) at; high = is.high; upto = is.upto }) (omega arith) go
  turned n finds s t is small (Some false) at mid go =
      let double = two-pow-succ n in
      let half = mid.half in
      let twice = mid.twice in
      let over = mid.over in
      finds (record { low = s.low; high = middle s - 1 }) t (record {
        low = is.low;
        high = λ u goes. elim (cases_lt u (middle s)) [
          | inl less ↦ omega arith
          | inr late ↦ absurd (fails (middle s) (let a = mid.upto in let b = is.upto in omega arith) at (earlier (middle s) u late goes))
        ];
        upto = let a = mid.upto in let b = is.upto in omega arith;
      }) (omega arith) go

  one_left : (s : Span) (t : ℕ) → IsSpan s → s.high ≤ s.low → Some s.low ≡ Some t → IsLast t
  one_left s t is over e =
      let at : s.low ≡ t = cc in
      (subst Goes at is.low, (λ u goes. let upto = is.high u goes in omega arith))

  pub last_found : (n : ℕ) → Finds n
  last_found zero s t is small e = one_left s t is (omega arith) (sym (halving_zero says s) ∙ e)
  last_found (suc n) s t is small e = elim (cases_lt s.low s.high) [
    | inr over ↦ one_left s t is over (sym (halving_over says (suc n) s over) ∙ e)
    | inl more ↦ turned n (last_found n) s t is small (says (middle s)) refl (middle_is s more) (sym (halving_more says n s more) ∙ e)
  ]

-- where nothing is found, nothing is said of some moment
pub none_found : (says : ℕ → Option Bool) (n : ℕ) (s : Span) → halving says n s ≡ None → (t : ℕ) × (says t ≡ None)
none_found says zero s none = absurd (let some : ◌≡◌ {A = Option ℕ} (Some s.low) None = sym (halving_zero says s) ∙ none in cc)
none_found says (suc n) s none = elim (cases_lt s.low s.high) [
  | inr over ↦ absurd (let some : ◌≡◌ {A = Option ℕ} (Some s.low) None = sym (halving_over says (suc n) s over) ∙ none in cc)
  | inl more ↦ by (says (middle s)) refl (none_found says n) (sym (halving_more says n s more) ∙ none)
]
  where
    by : (o : Option Bool) → says (middle s) ≡ o → ((h : Span) → halving says n h ≡ None → (t : ℕ) × (says t ≡ None)) →
        option_and_then (halving says n) (halved s o) ≡ None → (t : ℕ) × (says t ≡ None)
    by None is later go = (middle s, is)
    by (Some true) is later go = later (record { low = middle s; high = s.high }) go
    by (Some false) is later go = later (record { low = s.low; high = middle s - 1 }) go
