-- The room of the text of an answer.
use Rattle.std.specs.Prelude.{ℕ, ◌+◌, ◌≤◌, List, length}

-- so many bytes can be put after these without asking for memory
abbrev pub HasRoom : List ℕ → ℕ → Type 0
HasRoom text more = length text + more ≤ 200000
