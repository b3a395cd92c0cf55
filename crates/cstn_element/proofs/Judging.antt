-- An element whose content is read first, and judged when it has ended.
use Rattle.std.proofs.Common.{◌≡◌, ℕ, List, ap, sym, ◌∙◌, Ok, Err, Result, Bool, true, false, subst}
use Rattle.std.specs.List.{list_all}
use Rattle.cstn_markup.specs.Bytes.{is_white}
use Rattle.cstn_markup.specs.Tokens.{Token}
use Rattle.cstn_element.specs.Results.{Refusal, ◌>>=◌, demand}
use Rattle.cstn_element.specs.Results.Refusal.{shape}
use Rattle.cstn_element.specs.Elements.{passed, blank, Datum, child}
use Rattle.cstn_element.specs.Contents.{Tag, Content}
use Rattle.cstn_element.specs.Reads.{ReadsWhole, Fails, inside}
use Rattle.cstn_element.specs.declared.errors.DocError.{DocError}
use Rattle.cstn_element.proofs.PassedOver.{fails_through}

module _ {V D U B : Type 0} (view : V → D) (meaning : Content → Result D Refusal) (seen : U → B) (f : D → Result B Refusal) (closed : Bool) (at : ℕ) (name : List ℕ) (names : List (List ℕ)) (before after : List Token) where
  -- an element whose content is refused is refused
  pub unread : (e : DocError) → ReadsWhole view meaning closed at name names before after (Err e) → ReadsWhole seen (λ content. meaning content >>= f) closed at name names before after (Err e)
  unread e h = record { told = fails_through e (meaning (inside closed at name names before)) f h.told; left = tt }

-- what is read by one meaning is read by an equal one
pub same_meaning : {V D : Type 0} (view : V → D) (meaning other : Content → Result D Refusal) (closed : Bool) (at : ℕ) (name : List ℕ) (names : List (List ℕ)) (before after : List Token) (r : Result V DocError)
    → ((content : Content) → other content ≡ meaning content) → ReadsWhole view meaning closed at name names before after r → ReadsWhole view other closed at name names before after r
same_meaning view meaning other closed at name names before after (Ok v) e h = record { told = e _ ∙ h.told; left = h.left }
same_meaning view meaning other closed at name names before after (Err x) e h = record { told = subst (Fails x) (sym (e _)) h.told; left = tt }

-- an element that is passed over leaves what was found as it is
pub passed_as : {B : Type 0} (b : B) (closed : Bool) (at : ℕ) (name : List ℕ) (names : List (List ℕ)) (before after : List Token) (r : Result (Unit {0}) DocError)
    → ReadsWhole {A = Unit {0}} (λ u. u) passed closed at name names before after r → ReadsWhole {A = Unit {0}} (λ u. b) (λ content. passed content >>= λ same. Ok b) closed at name names before after r
passed_as b closed at name names before after (Ok v) h = record { told = ap (λ o. o >>= λ same. Ok b) h.told; left = h.left }
passed_as b closed at name names before after (Err e) h = record { told = fails_through e (passed (inside closed at name names before)) (λ same. Ok b) h.told; left = tt }

-- an element in a node or an edge that isn't a data element is passed over
pub child_passed : (b : Bool) (used : List (List ℕ)) (found : List Datum) (tag : Tag) (closed : Bool) (name : List ℕ) (names : List (List ℕ)) (before after : List Token) (r : Result (Unit {0}) DocError) → b ≡ false
    → ReadsWhole {A = Unit {0}} (λ u. u) passed closed tag.at name names before after r → ReadsWhole {A = Unit {0}} (λ u. found) (child b used found tag) closed tag.at name names before after r
child_passed b used found tag closed name names before after r e h = subst (λ q. ReadsWhole {A = Unit {0}} (λ u. found) (child q used found tag) closed tag.at name names before after r) (sym e) (passed_as found closed tag.at name names before after r h)

-- a text that isn't white space is refused, and another changes nothing
pub blank_refused : {S : Type 0} (s : S) (at : ℕ) (raw : List ℕ) → list_all is_white raw ≡ false → (blank at raw >>= λ same. Ok s) ≡ Err (shape at)
blank_refused s at raw e = ap (λ b. demand b (shape at) >>= λ same. Ok s) e

pub blank_passed : {S : Type 0} (s : S) (at : ℕ) (raw : List ℕ) → list_all is_white raw ≡ true → (blank at raw >>= λ same. Ok s) ≡ Ok s
blank_passed s at raw e = ap (λ b. demand b (shape at) >>= λ same. Ok s) e
