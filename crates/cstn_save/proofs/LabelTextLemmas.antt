-- The label of a document is read back.
use Rattle.std.proofs.Common.{◌≡◌, ℕ, zero, suc, ◌<◌, ◌≤◌, List, [], ◌∷◌, ◌++◌, refl, ap, sym, ◌∙◌, arith, Bool, true, false, append_assoc, append-nil}
use Rattle.std.proofs.lemmas.Bool.{and_parts, eqb-true}
use Rattle.std.specs.Prelude.{◌==◌, nat_eq, Some, None}
use Rattle.cstn_label.specs.declared.marks.Mark.{Mark}
use Rattle.cstn_label.specs.declared.marks.Mark.TheVariants.{Absent, Yes, No, Unknown}
use Rattle.cstn_label.specs.Labels.{Label, empty, IsPlain, IsMarkPlain}
use Rattle.cstn_label.specs.Letters.{letter_of}
use Rattle.cstn_markup.specs.Bytes.{is_same, is_white}
use Rattle.cstn_element.specs.LabelTexts.{label_after, label_of_text}
use Rattle.cstn_element.specs.LabelTexts.Expects.{literal as for_literal}
use Rattle.cstn_text.proofs.PrintedLabelLemmas.{below, below_none, below_more, below_absent, below_here, below_all}
use Rattle.cstn_save.specs.Canonical.{literal_text, literals_below, or_empty, document_label}
use Rattle.cstn_label.proofs.LetterLemmas.{letter_back}

-- the letter of a proposition is neither white space nor `!`, nor the first byte of U+00AC
pub letter_kind : (p : ℕ) → p < 52 → (is_white (letter_of p) ≡ false) × ((letter_of p == 33) ≡ false) × ((letter_of p == 194) ≡ false)
letter_kind p small = grind arith

-- a literal is read
literal_read : (a : Label) (n : ℕ) (m : Mark) (rest : List ℕ) → n < 52 → a n ≡ m → IsMarkPlain m
    → label_after for_literal (below a n) (literal_text (letter_of n) m ++ rest) ≡ label_after for_literal (below a (suc n)) rest
unfolding label_after
literal_read a n Absent rest small is plain = ap (λ (b : Label). label_after for_literal b rest) (below_absent a n is)
literal_read a n Yes rest small is plain =
    let k = letter_kind n small in
    rw (k.0, k.1, k.2, letter_back n small, below_here n (a n)) (ap (λ (b : Label). label_after for_literal b rest) ((rw is at (below_more a n))))
literal_read a n No rest small is plain =
    let k = letter_kind n small in
    rw (k.0, letter_back n small, below_here n (a n)) (ap (λ (b : Label). label_after for_literal b rest) ((rw is at (below_more a n))))
literal_read a n Unknown rest small is plain = absurd plain

literals_read : (a : Label) (n : ℕ) (rest : List ℕ) → n ≤ 52 → IsPlain a → label_after for_literal empty (literals_below a n ++ rest) ≡ label_after for_literal (below a n) rest
unfolding literals_below
literals_read a zero rest small plain = ap (λ (b : Label). label_after for_literal b rest) (sym (below_none a))
literals_read a (suc n) rest small plain =
    rw append_assoc (literals_read a n (literal_text (letter_of n) (a n) ++ rest) (omega arith) plain ∙ literal_read a n (a n) rest (omega arith) refl (plain n))

-- a text that is read as literals isn't the sign of the empty label
empty_cases : (b : ℕ) (bytes : List ℕ) (a : Label) (is : Bool) → is_same (b ∷ bytes) (226 ∷ 138 ∷ 161 ∷ []) ≡ is → label_after for_literal empty (b ∷ bytes) ≡ Some a → label_of_text (b ∷ bytes) ≡ Some a
unfolding label_after
empty_cases b bytes a true is e =
    let first : b ≡ 226 = eqb-true b 226 (and_parts (nat_eq b 226) (is_same bytes (138 ∷ 161 ∷ [])) is).0 in
    let none : None ≡ Some a = rw first at e in
    absurd (cc none)
empty_cases b bytes a false is e = rw is e

or_literals : (bytes : List ℕ) (a : Label) → label_after for_literal empty bytes ≡ Some a → label_of_text (or_empty bytes) ≡ Some a
unfolding label_after
or_literals [] a e = e
or_literals (b ∷ bytes) a e = empty_cases b bytes a (is_same (b ∷ bytes) (226 ∷ 138 ∷ 161 ∷ [])) refl e

-- the label of a document is read back
pub label_back : (a : Label) → IsPlain a → ((p : ℕ) → 52 ≤ p → a p ≡ Absent) → label_of_text (document_label a) ≡ Some a
unfolding label_after
label_back a plain high =
    let read : label_after for_literal empty (literals_below a 52 ++ []) ≡ label_after for_literal (below a 52) [] = literals_read a 52 [] (omega arith) plain in
    or_literals (literals_below a 52) a (ap (label_after for_literal empty) (sym (append-nil (literals_below a 52))) ∙ read ∙ ap Some (below_all a high))
