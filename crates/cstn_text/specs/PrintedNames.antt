-- Names as they stand in lines.
use Rattle.std.specs.Prelude.{ℕ, zero, suc, ◌+◌, ◌-◌, ◌*◌, ◌/◌, ◌%◌, Bool, true, ◌&&◌, ◌||◌, not, ◌==◌, nat_le, List, [], ◌∷◌, slice_index, flat_map, Option, Some, None, if◌then◌else◌, bytes_eq}
use Rattle.std.specs.Fmt.{digit_glyph}
use Rattle.cstn_text.specs.Names.{is_name}

-- a byte that stands for itself: from 21 to 7E hexadecimal but for `%`, and from 80 on
abbrev pub is_plain_byte : ℕ → Bool
is_plain_byte b = nat_le 33 b && nat_le b 126 && not (b == 37) || nat_le 128 b

-- a plain byte is printed as itself, and every other byte as `%` and two upper-case hexadecimal digits
abbrev pub printed_byte : ℕ → List ℕ
printed_byte b = if is_plain_byte b then b ∷ [] else 37 ∷ digit_glyph true (b / 16) ∷ digit_glyph true (b % 16) ∷ []

-- a name is printed byte by byte
abbrev pub printed_name : List ℕ → List ℕ
printed_name text = flat_map printed_byte text

-- the value of an upper-case hexadecimal digit, and 0 of any other byte
abbrev pub hex_value : ℕ → ℕ
hex_value b = if nat_le 48 b && nat_le b 57 then b - 48 else if nat_le 65 b && nat_le b 70 then b - 55 else 0

-- the byte that the two digits after a `%` write
abbrev pub unescaped_byte : List ℕ → ℕ
unescaped_byte bytes = 16 * hex_value (slice_index bytes 0) + hex_value (slice_index bytes 1)

-- the text that was printed as these bytes, of which the first `skip` are passed over
unfoldable pub unprinted_after : ℕ → List ℕ → List ℕ
unprinted_after skip [] = []
unprinted_after zero (b ∷ bytes) = (if b == 37 then unescaped_byte bytes else b) ∷ unprinted_after (if b == 37 then 2 else 0) bytes
unprinted_after (suc skip) (b ∷ bytes) = unprinted_after skip bytes

-- the text that was printed as these bytes, if one was
abbrev pub unprinted : List ℕ → List ℕ
unprinted bytes = unprinted_after 0 bytes

-- the name whose printed form these bytes are; none where they are no name's
abbrev pub name_read : List ℕ → Option (List ℕ)
name_read bytes = if is_name (unprinted bytes) && bytes_eq (printed_name (unprinted bytes)) bytes then Some (unprinted bytes) else None
