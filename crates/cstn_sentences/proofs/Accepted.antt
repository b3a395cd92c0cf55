-- What was accepted was accepted at each step.
use Rattle.std.proofs.Common.{◌≡◌, Bool, true, false, refl, Option, Some, None, Result, Ok, Err}
use Rattle.cstn_sentences.specs.Results.{◌>>?◌, some_or, holds_or}

pub bind_ok : {A B E : Type 0} (o : Result A E) (f : A → Result B E) (y : B) → (o >>? f) ≡ Ok y → (x : A) × (o ≡ Ok x) × (f x ≡ Ok y)
bind_ok (Ok x) f y e = (x, refl, e)
bind_ok (Err r) f y e = absurd (cc)

pub ok_is : {A E : Type 0} (x y : A) → ◌≡◌ {A = Result A E} (Ok x) (Ok y) → x ≡ y
ok_is x y e = cc

pub given : {A E : Type 0} (o : Option A) (r : E) (x : A) → some_or o r ≡ Ok x → o ≡ Some x
given (Some y) r x e = cc
given None r x e = absurd (cc)

pub demanded : {E : Type 0} (b : Bool) (r : E) (u : Unit {0}) → holds_or b r ≡ Ok u → b ≡ true
demanded true r u e = refl
demanded false r u e = absurd (cc)
