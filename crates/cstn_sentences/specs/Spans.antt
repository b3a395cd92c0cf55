-- Times, spans and ranges.
use Rattle.std.specs.Prelude.{ℕ, ◌+◌, ◌*◌, min, Bool, true, false, ◌&&◌, ◌==◌, nat_lt, nat_le, List, [], ◌∷◌, length, Option, Some, None, if◌then◌else◌, pos, neg_ℤ, int_lt}
use Rattle.std.specs.List.{list_all}
use Rattle.std.specs.Option.{option_map}
use Rattle.std.specs.Char.{is_ascii_digit}
use Rattle.std.specs.Str.Parse.{digits_value}
use Rattle.cstn_markup.specs.Bytes.{◌>>=◌, when}
use Rattle.cstn_text.specs.Cuts.{cut_at}
use Rattle.cstn_text.specs.Numbers.{is_numeral}
use Rattle.cstn_sentences.specs.Limits.{most_ticks}
use Rattle.cstn_sentences.specs.declared.lines.Span.{Span}
use Rattle.cstn_sentences.specs.declared.lines.Range.{Range}

-- the value of digits, in which all values beyond the most ticks count as one
abbrev pub digits_read : List ℕ → Option ℕ
digits_read digits = when (nat_lt 0 (length digits) && list_all is_ascii_digit digits) (min (digits_value 10 digits) (most_ticks + 1))

-- a number of ticks
abbrev pub ticks_read : List ℕ → Option ℕ
ticks_read digits = when (is_numeral digits) digits >>= digits_read

-- hours of one to four digits, and minutes of two, from 00 to 59
abbrev pub minutes_read : List ℕ → List ℕ → Option ℕ
minutes_read hours minutes =
    when (nat_le (length hours) 4) hours >>= digits_read >>= λ h.
    when (length minutes == 2) minutes >>= digits_read >>= λ m.
    when (nat_le h 9999 && nat_le m 59) (60 * h + m)

abbrev pub span_of_ticks : Bool → ℕ → Span
span_of_ticks clock n = record { ticks = pos n; clock = clock }

-- a time: a number of ticks, or `H:MM`
abbrev pub time_by : List ℕ → Option (List ℕ × List ℕ) → Option Span
time_by word None = option_map (span_of_ticks false) (ticks_read word)
time_by word (Some parts) = option_map (span_of_ticks true) (minutes_read parts.0 parts.1)

abbrev pub time_read : List ℕ → Option Span
time_read word = time_by word (cut_at 58 word)

-- what stands before a time above 0
abbrev pub negated : Span → Option Span
negated span = when (int_lt (pos 0) span.ticks) (record { ticks = neg_ℤ span.ticks; clock = false })

-- a span: a time, or `-` and a time above 0
abbrev pub span_read : List ℕ → Option Span
span_read [] = None
span_read (b ∷ bytes) = if b == 45 then time_read bytes >>= negated else time_read (b ∷ bytes)

-- the range from a span on, up to the one that is written, if one is
abbrev pub range_to : Span → List ℕ → Option Range
range_to least [] = Some (record { least = least; most = None })
range_to least (b ∷ bytes) = span_read (b ∷ bytes) >>= λ most. Some (record { least = least; most = Some most })

-- what stands behind the second point of `..`
abbrev pub past_point : List ℕ → Option (List ℕ)
past_point [] = None
past_point (b ∷ bytes) = when (b == 46) bytes

-- a range: `A..B`, `A..`, or `A` for `A..A`
abbrev pub range_by : List ℕ → Option (List ℕ × List ℕ) → Option Range
range_by word None = span_read word >>= λ span. Some (record { least = span; most = Some span })
range_by word (Some parts) = span_read parts.0 >>= λ least. past_point parts.1 >>= range_to least

abbrev pub range_read : List ℕ → Option Range
range_read word = range_by word (cut_at 46 word)
