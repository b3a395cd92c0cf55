-- Numbers as texts.
use Rattle.std.specs.Prelude.{ℕ, ◌+◌, ◌<◌, ◌≤◌, ◌&&◌, nat_lt, nat_le, List, ◌∷◌, [], length, drop, Option, Some, None, if◌then◌else◌, codes, ℤ, pos, neg_ℤ}
use Rattle.cstn_net.specs.Limits.{most_reaction}
use Rattle.cstn_markup.specs.Bytes.{◌>>=◌, when, begins, past, number_after}

-- 1 to 10 decimal digits, of a value below the limit
abbrev pub short_number : ℕ → List ℕ → Option ℕ
short_number limit digits =
    when (nat_lt 0 (length digits) && nat_le (length digits) 10) digits >>= λ few.
    number_after 10 0 few >>= λ n. when (nat_lt n limit) n

-- a deadline is below 2 to the power of 32
abbrev pub deadline_of : List ℕ → Option ℕ
deadline_of bytes = short_number 4294967296 bytes

-- from 1 to 1,000 ticks
abbrev pub IsReaction : ℕ → Type 0
IsReaction ticks = (0 < ticks) × (ticks ≤ most_reaction)

-- 1 to 4 digits of a value from 1 to 1,000
abbrev pub few_ticks : List ℕ → Option ℕ
few_ticks digits = when (nat_le (length digits) 4) digits >>= λ few. short_number (most_reaction + 1) few >>= λ n. when (nat_lt 0 n) n

-- a reaction in ticks; an empty text is a reaction of one tick
abbrev pub reaction_in : List ℕ → Option ℕ
reaction_in [] = Some 1
reaction_in (b ∷ bytes) = few_ticks (b ∷ bytes)

-- what follows the minus sign at the front, which is `-` or the three bytes of U+2212
abbrev pub past_minus : List ℕ → Option (List ℕ)
past_minus bytes = if begins (codes "-") bytes then Some (drop 1 bytes) else past (226 ∷ 136 ∷ 146 ∷ []) bytes

abbrev pub signed_text : List ℕ → Option (List ℕ) → Option ℤ
signed_text bytes (Some digits) = short_number 2147483649 digits >>= λ n. Some (neg_ℤ (pos n))
signed_text bytes None = short_number 2147483648 bytes >>= λ n. Some (pos n)

-- the integer of 32 bits that a text writes, as 1 to 10 digits with a minus sign before them or none
abbrev pub integer_text : List ℕ → Option ℤ
integer_text bytes = signed_text bytes (past_minus bytes)
