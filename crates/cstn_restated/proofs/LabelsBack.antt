-- The literals of a label are of different propositions, and they mean that label.
use Rattle.std.proofs.Common.{◌≡◌, ℕ, zero, suc, ◌<◌, ◌≤◌, Bool, true, false, List, [], ◌∷◌, ◌++◌, refl, ap, sym, ◌∙◌, arith, append_assoc, append-nil}
use Rattle.std.specs.Prelude.{◌||◌, Ok}
use Rattle.std.specs.List.{list_any}
use Rattle.std.specs.Str.{bytes_eq}
use Rattle.std.proofs.lemmas.Bool.{and_parts}
use Rattle.std.proofs.lemmas.List.Folds.{list_any-append}
use Rattle.cstn_label.specs.declared.marks.Mark.{Mark}
use Rattle.cstn_label.specs.declared.marks.Mark.TheVariants.{Absent, Yes, No, Unknown}
use Rattle.cstn_label.specs.Labels.{Label, empty, IsPlain, IsMarkPlain}
use Rattle.cstn_label.specs.Letters.{letter_of}
use Rattle.cstn_label.specs.OnLetters.{IsOnLetters}
use Rattle.cstn_label.specs.Tests.{is_within}
use Rattle.cstn_label.proofs.LetterLemmas.{letter_back}
use Rattle.cstn_label.proofs.LabelLemmas.{within_same}
use Rattle.cstn_text.proofs.PrintedLabelLemmas.{below, below_none, below_more, below_absent, below_here, below_all}
use Rattle.cstn_sentences.specs.declared.lines.Literal.{Literal}
use Rattle.cstn_sentences.specs.declared.declarations.Meant.{Meant}
use Rattle.cstn_sentences.specs.Declarations.{Declared, are_new_literals}
use Rattle.cstn_sentences.specs.Meaning.{prop_in, label_meant_after, label_meant}
use Rattle.cstn_sentences.specs.Sentences.{literal_of_mark, literals_below, literals_of_label, is_same_label}
use Rattle.cstn_sentences.proofs.LabelTests.{true_within}
use Rattle.cstn_sentences.proofs.WrittenSteps.{is_letter_of}

-- ---- each proposition stands once

-- some of these literals is of the proposition n
abbrev has_letter : ℕ → List Literal → Bool
has_letter n ls = list_any (λ s. bytes_eq s.prop (letter_of n ∷ [])) ls

other_letter : (p n : ℕ) → p < n → n < 52 → bytes_eq (letter_of p ∷ []) (letter_of n ∷ []) ≡ false
other_letter p n before small = grind arith

literal_other : (p n : ℕ) (m : Mark) → p < n → n < 52 → has_letter n (literal_of_mark (letter_of p) m) ≡ false
literal_other p n Absent before small = refl
literal_other p n Yes before small = rw (other_letter p n before small) refl
literal_other p n No before small = rw (other_letter p n before small) refl
literal_other p n Unknown before small = refl

neither : (a b : Bool) → a ≡ false → b ≡ false → (a || b) ≡ false
neither a b h k = rw h k

-- the literals below k have no proposition from k on
below_other : (a : Label) (k n : ℕ) → k ≤ n → n < 52 → has_letter n (literals_below a k) ≡ false
unfolding literals_below
below_other a zero n before small = refl
below_other a (suc k) n before small =
    list_any-append (λ s. bytes_eq s.prop (letter_of n ∷ [])) (literals_below a k) (literal_of_mark (letter_of k) (a k))
    ∙ neither (has_letter n (literals_below a k)) (has_letter n (literal_of_mark (letter_of k) (a k))) (below_other a k n (omega arith) small)
    (literal_other k n (a k) (omega arith) small)

literal_new : (line : ℕ) (a : Label) (n : ℕ) (m : Mark) (rest : List Literal) → n < 52
    → are_new_literals line (literals_below a n) (literal_of_mark (letter_of n) m ++ rest)
    ≡ are_new_literals line (literals_below a n ++ literal_of_mark (letter_of n) m) rest
literal_new line a n Absent rest small = ap (λ (seen : List Literal). are_new_literals line seen rest) (sym (append-nil (literals_below a n)))
literal_new line a n Yes rest small = rw (below_other a n n (omega arith) small) refl
literal_new line a n No rest small = rw (below_other a n n (omega arith) small) refl
literal_new line a n Unknown rest small = ap (λ (seen : List Literal). are_new_literals line seen rest) (sym (append-nil (literals_below a n)))

literals_new : (line : ℕ) (a : Label) (n : ℕ) (rest : List Literal) → n ≤ 52
    → are_new_literals line [] (literals_below a n ++ rest) ≡ are_new_literals line (literals_below a n) rest
unfolding literals_below
literals_new line a zero rest few = refl
literals_new line a (suc n) rest few =
    rw append_assoc (literals_new line a n (literal_of_mark (letter_of n) (a n) ++ rest) (omega arith) ∙ literal_new line a n (a n) rest (omega arith))

-- no proposition stands twice in the literals of a label
pub all_new : (line : ℕ) (a : Label) → are_new_literals line [] (literals_of_label a) ≡ Ok tt
all_new line a = ap (are_new_literals line []) (sym (append-nil (literals_of_label a))) ∙ literals_new line a 52 [] (omega arith)

-- ---- what they mean

-- the proposition of its letter
pub prop_back : (line : ℕ) (words : List Meant) (p : ℕ) → p < 52 → prop_in line words (letter_of p ∷ []) ≡ Ok p
prop_back line words p small = rw (is_letter_of p small, letter_back p small) refl

literal_meant : (line : ℕ) (words : List Meant) (a : Label) (n : ℕ) (m : Mark) (rest : List Literal) → n < 52 → a n ≡ m → IsMarkPlain m
    → label_meant_after line words (below a n) (literal_of_mark (letter_of n) m ++ rest) ≡ label_meant_after line words (below a (suc n)) rest
literal_meant line words a n Absent rest small is plain = ap (λ (b : Label). label_meant_after line words b rest) (below_absent a n is)
literal_meant line words a n Yes rest small is plain =
    rw (prop_back line words n small, below_here n (a n)) (ap (λ (b : Label). label_meant_after line words b rest) ((rw is at (below_more a n))))
literal_meant line words a n No rest small is plain =
    rw (prop_back line words n small, below_here n (a n)) (ap (λ (b : Label). label_meant_after line words b rest) ((rw is at (below_more a n))))
literal_meant line words a n Unknown rest small is plain = absurd plain

literals_meant : (line : ℕ) (words : List Meant) (a : Label) (n : ℕ) (rest : List Literal) → n ≤ 52 → IsPlain a
    → label_meant_after line words empty (literals_below a n ++ rest) ≡ label_meant_after line words (below a n) rest
unfolding literals_below
literals_meant line words a zero rest few plain = ap (λ (b : Label). label_meant_after line words b rest) (sym (below_none a))
literals_meant line words a (suc n) rest few plain =
    rw append_assoc (literals_meant line words a n (literal_of_mark (letter_of n) (a n) ++ rest) (omega arith) plain
    ∙ literal_meant line words a n (a n) rest (omega arith) refl (plain n))

-- a plain label of the 52 letters
pub record IsWritable (a : Label) : Type 0 where
  pub plain : IsPlain a
  pub letters : IsOnLetters a

-- the literals of a label mean that label
pub label_back : (line : ℕ) (d : Declared) (a : Label) → IsWritable a → label_meant line d (literals_of_label a) ≡ Ok a
label_back line d a is =
    ap (label_meant_after line d.words empty) (sym (append-nil (literals_of_label a)))
    ∙ literals_meant line d.words a 52 [] (omega arith) is.plain
    ∙ ap (λ (b : Label). Ok b) (below_all a is.letters)

-- ---- equal labels

-- labels of the 52 letters with the same marks on these are equal
pub same_labels : (a b : Label) → IsOnLetters a → IsOnLetters b → is_same_label a b ≡ true → a ≡ b
same_labels a b one other e =
    let both = and_parts (is_within a b) (is_within b a) e in
    within_same a b (true_within a b one both.0) (true_within b a other both.1)
