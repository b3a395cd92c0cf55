-- White space at the ends of a text.
use Rattle.std.specs.Prelude.{ℕ, ◌-◌, List, length, take}
use Rattle.std.specs.List.{suffix_len}
use Rattle.cstn_markup.specs.Bytes.{is_white, past_white}

-- the bytes without the white space at both ends
abbrev pub trimmed : List ℕ → List ℕ
trimmed bytes = let front = past_white bytes in take (length front - suffix_len is_white front) front
