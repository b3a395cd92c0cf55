-- Texts, and what is said.
use Rattle.std.specs.Prelude.{ℕ, List, [], ◌∷◌, ◌++◌, codes, decimal}
use Rattle.cstn_reply.specs.declared.output.Outcome.{Outcome}

-- a text, and how the request ends
pub record Said : Type 0 where
  pub outcome : Outcome
  pub text : List ℕ

-- the text as a line, with its LF
abbrev pub line : List ℕ → List ℕ
line text = text ++ 10 ∷ []

-- the line that says yes, with the load
abbrev pub yes_line : ℕ → List ℕ
yes_line load = line (codes "yes " ++ decimal load)

-- the line that says that a log has more entries than its cap
abbrev pub full_line : ℕ → List ℕ
full_line cap = line (codes "full " ++ decimal cap)

-- a text as a line, and how the request ends
abbrev pub say : Outcome → List ℕ → Said
say outcome text = record { outcome = outcome; text = line text }

-- this text, and then what is said
abbrev pub after_text : List ℕ → Said → Said
after_text text said = record { outcome = said.outcome; text = text ++ said.text }
