-- The letters of the propositions.
use Rattle.std.specs.Prelude.{ℕ, ◌+◌, ◌-◌, nat_lt, Option, Some, None, if◌then◌else◌}
use Rattle.std.specs.Char.{is_ascii_uppercase, is_ascii_lowercase}

-- the propositions 0 to 25 are the letters A to Z, and 26 to 51 are a to z
abbrev pub letter_of : ℕ → ℕ
letter_of p = if nat_lt p 26 then 65 + p else 71 + p

-- the proposition of a letter, and none of any other byte
abbrev pub prop_of : ℕ → Option ℕ
prop_of letter =
    if is_ascii_uppercase letter then Some (letter - 65)
    else if is_ascii_lowercase letter then Some (letter - 71) else None
