-- The words of what a line says, and its text: times in ticks, and one space between words.
use Rattle.std.specs.Prelude.{ℕ, Bool, true, false, ◌==◌, List, [], ◌∷◌, ◌++◌, flat_map, Option, Some, None, if◌then◌else◌, codes, int_le, nat_abs}
use Rattle.cstn_text.specs.Numbers.{printed_value}
use Rattle.cstn_sentences.specs.declared.lines.Span.{Span}
use Rattle.cstn_sentences.specs.declared.lines.Range.{Range}
use Rattle.cstn_sentences.specs.declared.lines.Side.{Side}
use Rattle.cstn_sentences.specs.declared.lines.Side.TheVariants.{Alone, First, Last}
use Rattle.cstn_sentences.specs.declared.lines.Point.{Point}
use Rattle.cstn_sentences.specs.declared.lines.Reference.{Reference}
use Rattle.cstn_sentences.specs.declared.lines.Reference.TheVariants.{Moment, Outcome}
use Rattle.cstn_sentences.specs.declared.lines.Literal.{Literal}
use Rattle.cstn_sentences.specs.declared.lines.Observed.{Observed}
use Rattle.cstn_sentences.specs.declared.lines.Says.{Says}
use Rattle.cstn_sentences.specs.declared.lines.Says.TheVariants.{At, By, Between, ByAfter, Within, NotBefore, Together}
use Rattle.cstn_sentences.specs.Spelling.{spelling}
use Rattle.cstn_sentences.specs.Lines.{PlanStep, Rule}
use Rattle.cstn_sentences.specs.Grammar.{Words}

abbrev pub span_word : Span → List ℕ
span_word t = printed_value t.ticks

-- what stands behind the least of a range: nothing where the range is a single span
abbrev pub most_word : Span → Option Span → List ℕ
most_word least None = codes ".."
most_word least (Some most) = if int_le most.ticks least.ticks then [] else codes ".." ++ span_word most

abbrev pub range_word : Range → List ℕ
range_word r = span_word r.least ++ most_word r.least r.most

abbrev pub point_words : Point → Words
point_words p = sided p.side (spelling p.name)
  where
    sided : Side → List ℕ → Words
    sided Alone name = name ∷ []
    sided First name = codes "start" ∷ codes "of" ∷ name ∷ []
    sided Last name = codes "end" ∷ codes "of" ∷ name ∷ []

abbrev pub reference_words : Reference → Words
reference_words (Moment p) = point_words p
reference_words (Outcome prop) = codes "result" ∷ codes "of" ∷ prop ∷ []

abbrev pub said_words : Bool → List ℕ → Words
said_words true prop = prop ∷ []
said_words false prop = codes "not" ∷ prop ∷ []

abbrev pub literal_words : Literal → Words
literal_words l = said_words l.holds l.prop

-- things with `and` between them
abbrev pub joined_words : {A : Type 0} → (A → Words) → List A → Words
joined_words words [] = []
joined_words words (x ∷ xs) = words x ++ flat_map (λ y. codes "and" ∷ words y) xs

-- a label behind `if`, and nothing for the empty one
abbrev pub label_words : List Literal → Words
label_words [] = []
label_words (l ∷ later) = codes "if" ∷ joined_words literal_words (l ∷ later)

-- a reaction behind `after`, and nothing for one tick
abbrev pub reaction_words : Span → Words
reaction_words t = if nat_abs t.ticks == 1 then [] else codes "after" ∷ span_word t ∷ []

abbrev pub letter_words : Option (List ℕ) → ℕ → Words
letter_words None letter = (letter ∷ []) ∷ []
letter_words (Some word) letter = word ∷ codes "as" ∷ (letter ∷ []) ∷ []

abbrev pub observed_words : Option Observed → Words
observed_words None = []
observed_words (Some o) = codes "observes" ∷ letter_words o.word o.letter ++ reaction_words o.reaction

abbrev pub step_words : PlanStep → Words
step_words s = codes "step" ∷ spelling s.name ∷ observed_words s.observed ++ label_words s.label

-- what a rule says of its time-point, up to what it counts from
abbrev pub says_words : Says → Words
says_words (At r) = codes "at" ∷ range_word r ∷ []
says_words (By t) = codes "by" ∷ span_word t ∷ []
says_words (Between r) = range_word r ∷ codes "after" ∷ []
says_words (ByAfter t) = codes "by" ∷ span_word t ∷ codes "after" ∷ []
says_words (Within t) = codes "within" ∷ span_word t ∷ codes "after" ∷ []
says_words NotBefore = codes "after" ∷ []
says_words Together = codes "with" ∷ []

abbrev pub rule_words : Rule → Words
rule_words r = point_words r.point ++ says_words r.says ++ joined_words reference_words r.since ++ label_words r.label

abbrev pub deadline_words : Span → Words
deadline_words t = codes "deadline" ∷ span_word t ∷ []

-- words, each behind a space
abbrev pub spaced_words : Words → List ℕ
spaced_words words = flat_map (λ w. 32 ∷ w) words

-- the text of a line, with its LF
abbrev pub line_text : Words → List ℕ
line_text [] = 10 ∷ []
line_text (word ∷ words) = word ++ spaced_words words ++ (10 ∷ [])
