-- The pairs that are left of a text of values.
use Rattle.std.specs.Prelude.{ℕ, ◌≡◌, ◌<◌, List, [], ◌∷◌, length, Option, Some, None, option_map}
use Rattle.cstn_element.specs.declared.value_texts.First.{First}
use Rattle.cstn_element.specs.declared.value_texts.First.TheVariants.{Pair as FirstPair, End, Wrong}
use Rattle.cstn_element.specs.ValueTexts.{Pair, pairs_after}
use Rattle.cstn_element.specs.TextsSeen.{pair_seen}

abbrev or_none : Option (List Pair) → List Pair
or_none (Some pairs) = pairs
or_none None = []

-- the pairs up to the closing brace
abbrev pub pairs_left : List ℕ → List Pair
pairs_left bytes = or_none (pairs_after 0 [] bytes)

-- no pair was left, and what is left is as it was
abbrev pub HasNoPairs : List ℕ → List ℕ → Type 0
HasNoPairs old new = (pairs_left old ≡ []) × (new ≡ old)

-- all pairs, by the first one and the bytes behind it
abbrev pub first_seen : First → Option (List Pair)
first_seen (FirstPair pair rest) = option_map (λ pairs. pair_seen pair ∷ pairs) (pairs_after 0 [] rest.now)
first_seen End = Some []
first_seen Wrong = None

-- the bytes behind the first pair are fewer than these
abbrev pub IsShorter : List ℕ → First → Type 0
IsShorter bytes (FirstPair pair rest) = length rest.now < length bytes
IsShorter bytes End = Unit {0}
IsShorter bytes Wrong = Unit {0}
