-- A label text is its marks in any order.
use Rattle.std.proofs.Common.{◌≡◌, ◌≢◌, ℕ, ◌<◌, ◌≤◌, List, [], ◌∷◌, ◌++◌, length, refl, ap, sym, ◌∙◌, subst, arith, Bool, true, false, Some, length-append}
use Rattle.std.specs.Prelude.{◌==◌, ◌&&◌, ◌⊎◌, if◌then◌else◌}
use Rattle.std.specs.Option.{option_and_then}
use Rattle.std.proofs.Common.{inl, inr}
use Rattle.std.proofs.lemmas.Option.{same_Some, option_and_then_some}
use Rattle.cstn_label.specs.declared.marks.Mark.{Mark}
use Rattle.cstn_label.specs.declared.marks.Mark.TheVariants.{Absent, Yes, No, Unknown}
use Rattle.cstn_label.specs.Labels.{Label, empty, with_mark}
use Rattle.cstn_label.specs.Letters.{letter_of, prop_of}
use Rattle.cstn_text.specs.PrintedLabels.{printed_mark, marks_text, label_with, AreNew, LabelReading, nothing_read, signed, marked, reading_after, label_ended, marks_read, label_read}
use Rattle.std.specs.List.{All}
use Rattle.std.proofs.lemmas.List.Elements.{All-nil, All-cons, All-append}
use Rattle.cstn_text.specs.Parts.{IsOnePart}
use Rattle.cstn_text.proofs.PartLemmas.{mark_above}
use Rattle.cstn_text.proofs.PrintedLabelLemmas.{read_of, mark_back, mark_some, nonempty_read}
use Rattle.cstn_label.proofs.LetterLemmas.{letter_above}

-- marks of propositions that have none yet are read one after the other
marks_back : (a : Label) (ms : List (ℕ × Mark)) → AreNew a ms → marks_read (read_of a) (marks_text ms) ≡ Some (label_with a ms)
marks_back a [] new = refl
marks_back a (m ∷ ms) new =
    mark_back a m.0 m.1 (marks_text ms) new.0 new.1 new.2 ∙ marks_back (with_mark a m.0 m.1) ms new.3

text_some : (a : Label) (ms : List (ℕ × Mark)) → 1 ≤ length ms → AreNew a ms → 0 < length (marks_text ms)
text_some a [] some new = absurd (omega (arith, some))
text_some a (m ∷ ms) some new =
    omega (arith, length-append (printed_mark (letter_of m.0) m.1) (marks_text ms), mark_some (letter_of m.0) m.1 new.1)

-- one or more marks of different propositions are the text of a label
pub label_of_marks : (ms : List (ℕ × Mark)) → AreNew empty ms → 1 ≤ length ms → label_read (marks_text ms) ≡ Some (label_with empty ms)
label_of_marks ms new some = nonempty_read (marks_text ms) (label_with empty ms) (text_some empty ms some new) (marks_back empty ms new)

-- what a sign is written as
sign_text : Mark → List ℕ
sign_text Absent = []
sign_text Yes = []
sign_text No = 33 ∷ []
sign_text Unknown = 63 ∷ []

-- the sign and the bytes together are the text of some marks, and b is the label a with these marks set
record AreMarks (a : Label) (sign : Mark) (bytes : List ℕ) (b : Label) : Type 0 where
  pub marks : List (ℕ × Mark)
  pub new : AreNew a marks
  pub text : sign_text sign ++ bytes ≡ marks_text marks
  pub label : b ≡ label_with a marks

signed_marks : (a : Label) (s sign : Mark) (c : ℕ) (bytes : List ℕ) (next : LabelReading) (b : Label) → sign_text sign ≡ c ∷ [] → signed a s sign ≡ Some next →
    (next.sign ≢ Absent → AreMarks next.label next.sign bytes b) → sign ≢ Absent → AreMarks a s (c ∷ bytes) b
unfolding sign_text
signed_marks a Absent sign c bytes next b is e more some = absurd (cc)
signed_marks a No sign c bytes next b is e more some = absurd (cc)
signed_marks a Unknown sign c bytes next b is e more some = absurd (cc)
signed_marks a Yes sign c bytes next b is e more some =
    let same : record { label = a; sign = sign } ≡ next = same_Some _ next e in
    let its = subst (λ (r : LabelReading). (r.sign ≢ Absent → AreMarks r.label r.sign bytes b) → AreMarks a sign bytes b) same (λ f. f some) more in
    record { marks = its.marks; new = its.new; text = ap (λ (t : List ℕ). t ++ bytes) (sym is) ∙ its.text; label = its.label }

prop_letter : (b p : ℕ) → prop_of b ≡ Some p → (p < 52) × (letter_of p ≡ b)
prop_letter b p e = grind arith

mark_text : (letter : ℕ) (sign : Mark) (bytes : List ℕ) → sign ≢ Absent → sign_text sign ++ letter ∷ bytes ≡ printed_mark letter sign ++ bytes
unfolding sign_text
mark_text letter Absent bytes some = absurd (some refl)
mark_text letter Yes bytes some = refl
mark_text letter No bytes some = refl
mark_text letter Unknown bytes some = refl

marked_marks : (a : Label) (sign m : Mark) (p c : ℕ) (bytes : List ℕ) (next : LabelReading) (b : Label) → sign ≢ Absent → p < 52 → letter_of p ≡ c → a p ≡ m → marked a sign m p ≡ Some next →
    (next.sign ≢ Absent → AreMarks next.label next.sign bytes b) → AreMarks a sign (c ∷ bytes) b
unfolding sign_text
marked_marks a sign Yes p c bytes next b some small letter is e more = absurd (cc)
marked_marks a sign No p c bytes next b some small letter is e more = absurd (cc)
marked_marks a sign Unknown p c bytes next b some small letter is e more = absurd (cc)
marked_marks a sign Absent p c bytes next b some small letter is e more =
    let same : record { label = with_mark a p sign; sign = Yes } ≡ next = same_Some _ next e in
    let other : Yes ≢ Absent = λ f. cc in
    let its = subst (λ (r : LabelReading). (r.sign ≢ Absent → AreMarks r.label r.sign bytes b) → AreMarks (with_mark a p sign) Yes bytes b) same (λ f. f other) more in
    record {
      marks = (p, sign) ∷ its.marks;
      new = (small, some, is, its.new);
      text = mark_text c sign bytes some ∙ ap (λ l. printed_mark l sign ++ bytes) (sym letter) ∙ ap (λ (t : List ℕ). printed_mark (letter_of p) sign ++ t) its.text;
      label = its.label;
    }

byte_marks : (no unknown : Bool) (r : LabelReading) (c : ℕ) (bytes : List ℕ) (next : LabelReading) (b : Label) → (c == 33) ≡ no → (c == 63) ≡ unknown → r.sign ≢ Absent →
    (if no then signed r.label r.sign No else if unknown then signed r.label r.sign Unknown
    else option_and_then (λ p. marked r.label r.sign (r.label p) p) (prop_of c)) ≡ Some next →
    (next.sign ≢ Absent → AreMarks next.label next.sign bytes b) → AreMarks r.label r.sign (c ∷ bytes) b
unfolding sign_text
byte_marks true unknown r c bytes next b is other some e more =
    let same : c ≡ 33 = grind arith in
    signed_marks r.label r.sign No c bytes next b (ap (λ n. n ∷ []) (sym same)) e more (λ f. cc)
byte_marks false true r c bytes next b is other some e more =
    let same : c ≡ 63 = grind arith in
    signed_marks r.label r.sign Unknown c bytes next b (ap (λ n. n ∷ []) (sym same)) e more (λ f. cc)
byte_marks false false r c bytes next b is other some e more =
    option_and_then_some (λ p. marked r.label r.sign (r.label p) p) (prop_of c) next e
    (λ p there marks. marked_marks r.label r.sign (r.label p) p c bytes next b some (prop_letter c p there).0 (prop_letter c p there).1 refl marks more)

ended_marks : (a : Label) (s : Mark) (b : Label) → label_ended a s ≡ Some b → AreMarks a s [] b
unfolding sign_text
ended_marks a Absent b e = absurd (cc)
ended_marks a No b e = absurd (cc)
ended_marks a Unknown b e = absurd (cc)
ended_marks a Yes b e = record { marks = []; new = tt; text = refl; label = sym (same_Some a b e) }

-- bytes that are read as marks, together with the sign before them, are the text of marks
marks_said : (r : LabelReading) (bytes : List ℕ) (b : Label) → r.sign ≢ Absent → marks_read r bytes ≡ Some b → AreMarks r.label r.sign bytes b
marks_said r [] b some e = ended_marks r.label r.sign b e
marks_said r (c ∷ bytes) b some e =
    option_and_then_some (λ next. marks_read next bytes) (reading_after r c) b e
    (λ next is more. byte_marks (c == 33) (c == 63) r c bytes next b refl refl some is (λ sign. marks_said next bytes b sign more))

-- what a label's text is: `-` alone, or marks in any order, a proposition at most once
abbrev IsLabelText : List ℕ → Label → Type 0
IsLabelText text a = ((text ≡ 45 ∷ []) × (a ≡ empty)) ⊎ ((ms : List (ℕ × Mark)) × (1 ≤ length ms) × AreNew empty ms × (text ≡ marks_text ms) × (a ≡ label_with empty ms))

some_marks : (c : ℕ) (bytes : List ℕ) (ms : List (ℕ × Mark)) → c ∷ bytes ≡ marks_text ms → 1 ≤ length ms
some_marks c bytes [] e = absurd (omega (arith, ap length e))
some_marks c bytes (m ∷ ms) e = omega arith

dash_said : (dash : Bool) (c : ℕ) (bytes : List ℕ) (a : Label) → (c == 45 && length bytes == 0) ≡ dash →
    (if dash then Some empty else marks_read nothing_read (c ∷ bytes)) ≡ Some a → IsLabelText (c ∷ bytes) a
unfolding sign_text
dash_said true c bytes a is e = inl (dash_alone c bytes is, sym (same_Some empty a e))
  where
    dash_alone : (c : ℕ) (bytes : List ℕ) → (c == 45 && length bytes == 0) ≡ true → c ∷ bytes ≡ 45 ∷ []
    dash_alone c [] is = let same : c ≡ 45 = grind arith in ap (λ n. n ∷ []) same
    dash_alone c (d ∷ bytes) is = absurd (grind arith)
dash_said false c bytes a is e =
    let its = marks_said nothing_read (c ∷ bytes) a (λ f. cc) e in
    inr (its.marks, some_marks c bytes its.marks its.text, its.new, its.text, its.label)

pub label_said : (text : List ℕ) (a : Label) → label_read text ≡ Some a → IsLabelText text a
label_said [] a e = absurd (cc)
label_said (c ∷ bytes) a e = dash_said (c == 45 && length bytes == 0) c bytes a refl e

-- the bytes of a label's text are above the space
marks_above : (ms : List (ℕ × Mark)) → All (λ b. 32 < b) (marks_text ms)
marks_above [] = All-nil (λ b. 32 < b)
marks_above (m ∷ ms) =
    All-append (λ b. 32 < b) (printed_mark (letter_of m.0) m.1) (marks_text ms) (mark_above (letter_of m.0) m.1 (letter_above m.0)) (marks_above ms)

nonempty : (text : List ℕ) (a : Label) → label_read text ≡ Some a → 1 ≤ length text
nonempty [] a e = absurd (cc)
nonempty (c ∷ bytes) a e = omega arith

-- a label's text is one part of a line
pub label_text_part : (text : List ℕ) (a : Label) → label_read text ≡ Some a → IsOnePart text
label_text_part text a e = record {
  some = nonempty text a e;
  high = elim (label_said text a e) [
    | inl dash ↦ subst (All (λ b. 32 < b)) (sym dash.0) (All-cons (λ b. 32 < b) 45 [] (omega arith) (All-nil (λ b. 32 < b)))
    | inr marks ↦ subst (All (λ b. 32 < b)) (sym marks.3) (marks_above marks.0)
  ];
}
