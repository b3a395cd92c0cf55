-- Names of time-points, as lists of bytes.
use Rattle.std.specs.Prelude.{◌≡◌, ◌≢◌, ℕ, ◌<◌, ◌≤◌, ◌^◌, Bool, true, ◌&&◌, nat_lt, nat_le, List, length, Option, position, All}
use Rattle.std.specs.List.{AllPairs}
use Rattle.std.specs.Str.{bytes_eq, is_utf8}

-- a text of UTF-8 of 1 to 64 bytes
pub record IsName (text : List ℕ) : Type 0 where
  pub some : 1 ≤ length text
  pub few : length text ≤ 64
  pub utf8 : is_utf8 text ≡ true

-- whether a text is a name, as a test
abbrev pub is_name : List ℕ → Bool
is_name text = is_utf8 text && (nat_lt 0 (length text) && nat_le (length text) 64)

-- different names, fewer than 2^32
pub record AreNames (names : List (List ℕ)) : Type 0 where
  pub each : All IsName names
  pub different : AllPairs (λ a b. a ≢ b) names
  pub few : length names < 2 ^ 32

-- the number of a name in the list, if it stands there
abbrev pub number_of : List (List ℕ) → List ℕ → Option ℕ
number_of names name = position (bytes_eq name) names
