-- Passing over elements that are open one inside the other.
use Rattle.std.specs.Prelude.{◌≡◌, ℕ, List, [], ◌∷◌, ◌++◌, Result, Ok}
use Rattle.cstn_markup.specs.Tokens.{Token}
use Rattle.cstn_element.specs.Results.{Refusal, ◌>>=◌}
use Rattle.cstn_element.specs.Contents.{Content, contents, inner, outer}
use Rattle.cstn_element.specs.Elements.{passed}

-- the rest of each of these open elements is passed over, the innermost first
unfoldable pub all_passed : List (List ℕ) → List Content → Result (Unit {0}) Refusal
all_passed [] later = Ok tt
all_passed (name ∷ names) later = passed (inner later) >>= λ done_inside. all_passed names (outer later)

-- the contents left of the elements around all of these
unfoldable pub around_all : List (List ℕ) → List Content → List Content
around_all [] later = later
around_all (name ∷ names) later = around_all names (outer later)

-- The element of this name is being passed over; of it and the elements in it, `open_names` are open now. Passing over the
-- rest of these, from the tokens `after` on, has the same result as passing over the element from `before` on.
pub record Passes (name : List ℕ) (open_names others : List (List ℕ)) (before after : List Token) : Type 0 where
  pub told : passed (inner (contents (name ∷ others) before)) ≡ all_passed open_names (contents (open_names ++ others) after)
  pub left : outer (contents (name ∷ others) before) ≡ around_all open_names (contents (open_names ++ others) after)
