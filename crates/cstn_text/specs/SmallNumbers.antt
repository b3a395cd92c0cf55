-- Numbers of 32 bits.
use Rattle.std.specs.Prelude.{ℕ, List, Option}
use Rattle.cstn_text.specs.Numbers.{number_within}

-- the number below 2^32 that a text is read as: an id, a place or a moment
abbrev pub u32_read : List ℕ → Option ℕ
u32_read text = number_within 0 4294967295 text
