-- Labels as texts.
use Rattle.std.specs.Prelude.{ℕ, ◌≡◌, ◌≤◌, Bool, true, false, ◌||◌, ◌==◌, List, [], ◌∷◌, Option, Some, None, if◌then◌else◌}
use Rattle.cstn_label.specs.Marks.{is_absent}
use Rattle.cstn_label.specs.Labels.{Label, empty, with_mark, IsPlain}
use Rattle.cstn_label.specs.Letters.{prop_of}
use Rattle.cstn_label.specs.declared.marks.Mark.{Mark}
use Rattle.cstn_label.specs.declared.marks.Mark.TheVariants.{Absent, Yes, No, Unknown}
use Rattle.cstn_markup.specs.Bytes.{◌>>=◌, when, is_same, is_white}

-- a literal: its proposition, and whether it is negated
pub record Literal : Type 0 where
  pub prop : ℕ
  pub negated : Bool

-- what may follow in a label text: a literal, the second byte of a negation, or a letter that is negated
pub data Expects : Type 0 where
  literal : Expects
  second_byte : Expects
  letter : Expects

-- the literal that a byte completes, if it completes one, and what may follow it; None where the byte may not stand there
abbrev pub after_byte : Expects → ℕ → Option (Option Literal × Expects)
after_byte literal b =
    if is_white b then Some (None, literal) else
    if b == 33 then Some (None, letter) else
    if b == 194 then Some (None, second_byte) else
    (prop_of b >>= λ p. Some (Some (record { prop = p; negated = false }), literal))
after_byte second_byte b = when (b == 172) (None, letter)
after_byte letter b =
    if is_white b then Some (None, letter) else
    (prop_of b >>= λ p. Some (Some (record { prop = p; negated = true }), literal))

abbrev pub mark_said_by : Bool → Mark
mark_said_by true = No
mark_said_by false = Yes

-- the label with the literal, if there is one; None where the label has its letter already
abbrev pub with_literal : Label → Option Literal → Option Label
with_literal a None = Some a
with_literal a (Some l) = when (is_absent (a l.prop)) (with_mark a l.prop (mark_said_by l.negated))

-- the label of the literals of a and of those that the bytes write behind them; None where the bytes aren't of the form
unfoldable pub label_after : Expects → Label → List ℕ → Option Label
label_after literal a [] = Some a
label_after second_byte a [] = None
label_after letter a [] = None
label_after expects a (b ∷ bytes) = after_byte expects b >>= λ found. with_literal a found.0 >>= λ more. label_after found.1 more bytes

-- a text of the empty label: empty, or the three bytes of U+22A1
abbrev pub is_of_empty : List ℕ → Bool
is_of_empty bytes = is_same bytes [] || is_same bytes (226 ∷ 138 ∷ 161 ∷ [])

-- the label of a label text, which is a text of the empty label, or literals
abbrev pub label_of_text : List ℕ → Option Label
label_of_text bytes = if is_of_empty bytes then Some empty else label_after literal empty bytes

-- a label that consists of literals: it has no unknown mark, and marks none but the 52 propositions that have letters
pub record IsOfLiterals (a : Label) : Type 0 where
  pub plain : IsPlain a
  pub letters : (p : ℕ) → 52 ≤ p → a p ≡ Absent
