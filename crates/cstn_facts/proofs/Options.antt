-- What an optional value is, and what a reading that succeeds is made from.
use Rattle.std.proofs.Common.{◌≡◌, ◌⊎◌, inl, inr, Bool, true, false, Option, Some, None, refl, sym, ◌∙◌}
use Rattle.std.specs.Prelude.{is_none, is_some, IfNone, if◌then◌else◌}
use Rattle.std.specs.Option.{option_and_then, option_map}
use Rattle.std.proofs.lemmas.Bool.{true≢false, false≢true}
use Rattle.std.proofs.lemmas.Option.{same_Some}

module _ {X : Type 0} where
  pub cases_option : (o : Option X) → (o ≡ None) ⊎ ((x : X) × (o ≡ Some x))
  cases_option None = inl refl
  cases_option (Some x) = inr (x, refl)

  pub is_none-true : (o : Option X) → is_none o ≡ true → o ≡ None
  is_none-true None h = refl
  is_none-true (Some x) h = absurd (false≢true h)

  pub is_some-true : (o : Option X) → is_some o ≡ true → (x : X) × (o ≡ Some x)
  is_some-true None h = absurd (false≢true h)
  is_some-true (Some x) h = (x, refl)

  pub is_some-false : (o : Option X) → is_some o ≡ false → o ≡ None
  is_some-false None h = refl
  is_some-false (Some x) h = absurd (true≢false h)

  pub some_or_none : (o : Option X) (x : X) → o ≡ Some x → o ≡ None → ⊥
  some_or_none o x h k = let f : ⊥ = cc in f

  pub none_where : (o : Option X) → ((x : X) → o ≡ Some x → ⊥) → o ≡ None
  none_where None never = refl
  none_where (Some x) never = absurd (never x refl)

  pub in_any_case : {P : Type 0} (o : Option X) → P → IfNone o P
  in_any_case None p = p
  in_any_case (Some x) p = tt

  -- an option has one value
  pub one_value : (o : Option X) (x y : X) → o ≡ Some x → o ≡ Some y → x ≡ y
  one_value o x y is also = same_Some x y (sym is ∙ also)

-- where one reading after another succeeds, the first one does, and then the second
pub then_read : {A B : Type 0} (o : Option A) (f : A → Option B) (y : B) → option_and_then f o ≡ Some y → (x : A) × (o ≡ Some x) × (f x ≡ Some y)
then_read None f y e = absurd (cc)
then_read (Some x) f y e = (x, refl, e)

pub map_read : {A B : Type 0} (o : Option A) (f : A → B) (y : B) → option_map f o ≡ Some y → (x : A) × (o ≡ Some x) × (f x ≡ y)
map_read None f y e = absurd (cc)
map_read (Some x) f y e = (x, refl, same_Some (f x) y e)

-- where something is read after a test, the test passed
pub if_read : {A : Type 0} (b : Bool) (o : Option A) (y : A) → (if b then o else None) ≡ Some y → (b ≡ true) × (o ≡ Some y)
if_read true o y e = (refl, e)
if_read false o y e = absurd (cc)
