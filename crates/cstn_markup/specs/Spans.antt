-- Where the spans of tokens stand in their text.
use Rattle.std.specs.Prelude.{◌≡◌, ℕ, ◌-◌, ◌<◌, ◌≤◌, List, [], ◌∷◌, length, take, drop}
use Rattle.std.specs.List.{AllByRecursion}
use Rattle.std.specs.Str.{IsCharBoundary}
use Rattle.cstn_markup.specs.Tokens.{Attribute, Kind, Token}
use Rattle.cstn_markup.specs.Tokens.Kind.{start_tag, end_tag, text_run, wrong, finish}

abbrev pub attribute_spans : List Attribute → List (List ℕ)
attribute_spans [] = []
attribute_spans (a ∷ attributes) = a.name ∷ (a.raw ∷ attribute_spans attributes)

-- the spans that a token gives: its names, values and text, in order
abbrev pub spans : Kind → List (List ℕ)
spans (start_tag name attributes closed) = name ∷ attribute_spans attributes
spans (end_tag name) = name ∷ []
spans (text_run raw) = raw ∷ []
spans wrong = []
spans finish = []

-- the span is a slice of the text between two places, cut at the bounds of characters
pub record LiesBetween (text : List ℕ) (from to : ℕ) (span : List ℕ) : Type 0 where
  pub begin : ℕ
  pub end : ℕ
  pub after : from ≤ begin
  pub ordered : begin ≤ end
  pub before : end ≤ to
  pub is : span ≡ take (end - begin) (drop begin text)
  pub begins : IsCharBoundary text begin
  pub ends : IsCharBoundary text end

-- the places of the tokens ascend, none is behind the text, and the spans of each lie between its place and the next one
abbrev pub AreInPlace : List ℕ → List Token → Type 0
AreInPlace text [] = ⊥
AreInPlace text (t ∷ []) = (t.at ≤ length text) × (spans t.kind ≡ [])
AreInPlace text (t ∷ (next ∷ later)) = (t.at < next.at) × AllByRecursion (LiesBetween text t.at next.at) (spans t.kind) × AreInPlace text (next ∷ later)
