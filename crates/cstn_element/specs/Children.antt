-- What stands next in an element that holds elements and white space alone.
use Rattle.std.specs.Prelude.{◌≡◌, ◌<◌, ◌≤◌, ℕ, List, ◌∷◌, length, Result, if◌then◌else◌}
use Rattle.std.specs.List.{list_all}
use Rattle.cstn_markup.specs.Bytes.{is_white}
use Rattle.cstn_markup.specs.Tokens.{Token}
use Rattle.cstn_element.specs.Results.{Refusal}
use Rattle.cstn_element.specs.Contents.{Tag, Content, contents, inner, outer}
use Rattle.cstn_element.specs.Contents.Content.{done, cut, run, element}
use Rattle.cstn_element.specs.Reads.{ReadsWhole, inside, behind}
use Rattle.cstn_element.specs.declared.errors.DocError.{DocError}
use Rattle.cstn_element.specs.declared.children.Start.{Start}
use Rattle.cstn_element.specs.declared.children.Next.{Next}
use Rattle.cstn_element.specs.declared.children.Next.TheVariants.{Child, End, Wrong}

-- the content behind the white space at its front; any other text cuts it
unfoldable pub past_blanks : Content → Content
past_blanks (done at) = done at
past_blanks (cut at) = cut at
past_blanks (run at raw after) = if list_all is_white raw then past_blanks after else cut at
past_blanks (element tag content after) = element tag content after

-- a start tag that the program read, as the definitions have it
abbrev pub tag_seen : Start → Tag
tag_seen start = record { at = start.at; name = start.name.now; attributes = start.attributes }

-- what stands in an element of which the start tag was read, inside elements of these names, and what stands behind it
abbrev pub inside_of : Start → List (List ℕ) → List Token → Content
inside_of start names left = inside start.closed start.at start.name.now names left

abbrev pub behind_of : Start → List (List ℕ) → List Token → List Content
behind_of start names left = behind start.closed start.name.now names left

-- An element whose start tag was read was read to its end, inside any others: what was returned is what `meaning` tells of its
-- content.
abbrev pub ReadsInside : {A B : Type 0} → (A → B) → (Content → Result B Refusal) → Start → List Token → List Token → Result A DocError → Type 0
ReadsInside view meaning start before after result =
    (names : List (List ℕ)) → ReadsWhole view meaning start.closed start.at start.name.now names before after result

-- An element whose start tag was read, inside so many others, was read to its end: what was returned is what `meaning` tells of
-- its tag and its content.
abbrev pub ReadsChild : {A B : Type 0} → ℕ → (A → B) → (Tag → Content → Result B Refusal) → Start → List Token → List Token → Result A DocError → Type 0
ReadsChild depth view meaning start before after result =
    (names : List (List ℕ)) → length names ≡ depth
    → ReadsWhole view (meaning (tag_seen start)) start.closed start.at start.name.now names before after result

-- Inside open elements of these names, the innermost first, the tokens `before` begin with `found` behind white space. `around`
-- is what is left of the elements around the innermost one.
pub record Reaches (names : List (List ℕ)) (before : List Token) (found : Content) (around : List Content) : Type 0 where
  pub told : past_blanks (inner (contents names before)) ≡ found
  pub left : outer (contents names before) ≡ around

-- What the tokens `before` begin with behind white space: an element, of which the start tag was read, the end of the innermost
-- element, which was read, or a token that isn't allowed there. `after` are the tokens left then.
abbrev pub BeginsWithPart : Next → List ℕ → List (List ℕ) → List Token → List Token → Type 0
BeginsWithPart (Child start) name others before after =
    Reaches (name ∷ others) before
    (element (tag_seen start) (inside_of start (name ∷ others) after) (inner (behind_of start (name ∷ others) after)))
    (outer (behind_of start (name ∷ others) after))
BeginsWithPart (End at) name others before after = Reaches (name ∷ others) before (done at) (contents others after)
BeginsWithPart (Wrong at) name others before after = past_blanks (inner (contents (name ∷ others) before)) ≡ cut at

-- fewer tokens are left after a start tag, and no more than before after anything else
abbrev pub TakesTokens : Next → ℕ → ℕ → Type 0
TakesTokens (Child start) before after = after < before
TakesTokens (End at) before after = after ≤ before
TakesTokens (Wrong at) before after = after ≤ before
