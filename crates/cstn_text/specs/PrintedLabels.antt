-- Labels as they stand in lines.
use Rattle.std.specs.Prelude.{ℕ, zero, suc, ◌≡◌, ◌≢◌, ◌<◌, ◌&&◌, ◌==◌, List, [], ◌∷◌, ◌++◌, length, flat_map, Option, Some, None, if◌then◌else◌}
use Rattle.std.specs.Option.{option_and_then}
use Rattle.cstn_label.specs.declared.marks.Mark.{Mark}
use Rattle.cstn_label.specs.declared.marks.Mark.TheVariants.{Absent, Yes, No, Unknown}
use Rattle.cstn_label.specs.Labels.{Label, empty, with_mark}
use Rattle.cstn_label.specs.Letters.{letter_of, prop_of}

-- the text of a mark: its letter, after `!` for no and after `?` for unknown; none for absent
abbrev pub printed_mark : ℕ → Mark → List ℕ
printed_mark letter Absent = []
printed_mark letter Yes = letter ∷ []
printed_mark letter No = 33 ∷ letter ∷ []
printed_mark letter Unknown = 63 ∷ letter ∷ []

-- the texts of the marks on the propositions below n, in ascending order
unfoldable pub marks_below : Label → ℕ → List ℕ
marks_below a zero = []
marks_below a (suc n) = marks_below a n ++ printed_mark (letter_of n) (a n)

-- `-` stands for no mark
abbrev pub or_dash : List ℕ → List ℕ
or_dash [] = 45 ∷ []
or_dash (b ∷ bytes) = b ∷ bytes

-- a label is printed by its marks
abbrev pub printed_label : Label → List ℕ
printed_label a = or_dash (marks_below a 52)

-- the marks read so far, and the mark that the next letter gets: yes where no sign was read
pub record LabelReading : Type 0 where
  pub label : Label
  pub sign : Mark

abbrev pub nothing_read : LabelReading
nothing_read = record { label = empty; sign = Yes }

-- the reading after a sign; none where another sign is waiting for its letter
abbrev pub signed : Label → Mark → Mark → Option LabelReading
signed a Absent sign = None
signed a Yes sign = Some (record { label = a; sign = sign })
signed a No sign = None
signed a Unknown sign = None

-- the reading after a letter: its proposition gets the mark of the sign; none where it has a mark already
abbrev pub marked : Label → Mark → Mark → ℕ → Option LabelReading
marked a sign Absent p = Some (record { label = with_mark a p sign; sign = Yes })
marked a sign Yes p = None
marked a sign No p = None
marked a sign Unknown p = None

-- the reading after one more byte, a sign or a letter; none where the byte is out of place
abbrev pub reading_after : LabelReading → ℕ → Option LabelReading
reading_after r b =
    if b == 33 then signed r.label r.sign No
    else if b == 63 then signed r.label r.sign Unknown
    else option_and_then (λ p. marked r.label r.sign (r.label p) p) (prop_of b)

-- the label at the end of the bytes; none where a sign is left without its letter
abbrev pub label_ended : Label → Mark → Option Label
label_ended a Absent = None
label_ended a Yes = Some a
label_ended a No = None
label_ended a Unknown = None

-- the label that the bytes are read as, one after the other
abbrev pub marks_read : LabelReading → List ℕ → Option Label
marks_read r [] = label_ended r.label r.sign
marks_read r (b ∷ bytes) = option_and_then (λ next. marks_read next bytes) (reading_after r b)

-- the label of a text: `-` alone, or one or more marks, of each letter at most one
abbrev pub label_read : List ℕ → Option Label
label_read [] = None
label_read (b ∷ bytes) = if b == 45 && length bytes == 0 then Some empty else marks_read nothing_read (b ∷ bytes)

-- marks in any order, as a text
abbrev pub marks_text : List (ℕ × Mark) → List ℕ
marks_text ms = flat_map (λ m. printed_mark (letter_of m.0) m.1) ms

-- the label with these marks set in it
abbrev pub label_with : Label → List (ℕ × Mark) → Label
label_with a [] = a
label_with a (m ∷ ms) = label_with (with_mark a m.0 m.1) ms

-- each element gives a mark to one of the 52 propositions, which neither the label nor an earlier element marks
abbrev pub AreNew : Label → List (ℕ × Mark) → Type 0
AreNew a [] = Unit {0}
AreNew a (m ∷ ms) = (m.0 < 52) × (m.1 ≢ Absent) × (a m.0 ≡ Absent) × AreNew (with_mark a m.0 m.1) ms
