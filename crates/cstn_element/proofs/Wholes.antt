-- Elements that are closed at once.
use Rattle.std.proofs.Common.{◌≡◌, ℕ, List, ap, ◌∙◌, Ok, Result, Bool, true}
use Rattle.cstn_markup.specs.Tokens.{Token}
use Rattle.cstn_element.specs.Results.{Refusal}
use Rattle.cstn_element.specs.Contents.{Content}
use Rattle.cstn_element.specs.Contents.Content.{done}
use Rattle.cstn_element.specs.Reads.{ReadsWhole, inside, behind}

pub closed_whole : {A B : Type 0} (view : A → B) (meaning : Content → Result B Refusal) (x : A) (closed : Bool) (at : ℕ) (name : List ℕ) (names : List (List ℕ)) (left : List Token)
    → closed ≡ true → meaning (done at) ≡ Ok (view x) → ReadsWhole view meaning closed at name names left left (Ok x)
closed_whole view meaning x closed at name names left e m = record {
  told = ap (λ q. meaning (inside q at name names left)) e ∙ m;
  left = ap (λ q. behind q name names left) e;
}
