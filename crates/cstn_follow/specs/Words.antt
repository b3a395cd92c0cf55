-- Lines that begin with a word.
use Rattle.std.specs.Prelude.{ℕ, List, Option, None, Some, if◌then◌else◌, length, take, drop, bytes_eq}

-- what follows these bytes, where a line begins with them
abbrev pub behind_word : List ℕ → List ℕ → Option (List ℕ)
behind_word word bytes = if bytes_eq (take (length word) bytes) word then Some (drop (length word) bytes) else None
