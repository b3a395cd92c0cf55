-- What is printed of a label is read again.
use Rattle.std.proofs.Common.{◌≡◌, ℕ, zero, suc, ◌<◌, ◌≤◌, List, [], ◌∷◌, ◌++◌, refl, ap, sym, ◌∙◌, arith, Bool, true, false, append_assoc, append-nil, length-append, add-one, ◌≢◌, ◌+◌, length, subst, inl, inr}
use Rattle.std.proofs.Math.Path.{fun_ext}
use Rattle.std.proofs.lemmas.Bool.{cases_lt}
use Rattle.std.specs.Prelude.{◌==◌, nat_lt, Some, None, if◌then◌else◌}
use Rattle.cstn_label.specs.declared.marks.Mark.{Mark}
use Rattle.cstn_label.specs.declared.marks.Mark.TheVariants.{Absent, Yes, No, Unknown}
use Rattle.cstn_label.specs.Labels.{Label, empty, with_mark}
use Rattle.cstn_label.specs.Letters.{letter_of}
use Rattle.cstn_text.specs.PrintedLabels.{printed_mark, marks_below, or_dash, printed_label, LabelReading, nothing_read, reading_after, marks_read, label_read}
use Rattle.cstn_label.proofs.LetterLemmas.{letter_back}

unmarked_next : (a : Label) (n : ℕ) (m : Mark) → a n ≡ m → m ≡ Absent → marks_below a (suc n) ≡ marks_below a n
unfolding marks_below
unmarked_next a n m is absent = rw (is, absent, append-nil) refl

-- nothing is printed of propositions that have no mark
pub unmarked_between : (a : Label) (m n : ℕ) → m ≤ n → ((q : ℕ) → m ≤ q → q < n → a q ≡ Absent) → marks_below a n ≡ marks_below a m
unmarked_between a m zero le none = let same : m ≡ 0 = omega arith in ap (marks_below a) (sym same)
unmarked_between a m (suc n) le none = elim (cases_lt n m) [
  | inl last ↦ let same : m ≡ suc n = omega arith in ap (marks_below a) (sym same)
  | inr past ↦
      unmarked_next a n (a n) refl (none n past (omega arith))
      ∙ unmarked_between a m n past (λ q low high. none q low (omega arith))
]

-- the text of a mark that isn't absent has some bytes
pub mark_some : (letter : ℕ) (m : Mark) → m ≢ Absent → 0 < length (printed_mark letter m)
mark_some letter Absent marked = absurd (marked refl)
mark_some letter Yes marked = omega arith
mark_some letter No marked = omega arith
mark_some letter Unknown marked = omega arith

marked_some : (a : Label) (n p : ℕ) → p < n → a p ≢ Absent → 0 < length (marks_below a n)
unfolding marks_below
marked_some a zero p inside marked = absurd (omega (arith, inside))
marked_some a (suc n) p inside marked = elim (cases_lt p n) [
  | inl before ↦ rw length-append (omega (arith, marked_some a n p before marked))
  | inr past ↦
      let here : p ≡ n = omega arith in
      rw length-append (omega (arith, mark_some (letter_of n) (a n) (subst (λ q. a q ≢ Absent) here marked)))
]

dash_kept : (bytes : List ℕ) → 0 < length bytes → or_dash bytes ≡ bytes
dash_kept [] some = absurd (omega (arith, some))
dash_kept (b ∷ bytes) some = refl

-- a label with a mark is printed by its marks
pub printed_marks : (a : Label) (p : ℕ) → p < 52 → a p ≢ Absent → printed_label a ≡ marks_below a 52
printed_marks a p inside marked = dash_kept (marks_below a 52) (marked_some a 52 p inside marked)

-- a label without a mark is printed as `-`
pub printed_dash : (a : Label) → ((q : ℕ) → 0 ≤ q → a q ≡ Absent) → printed_label a ≡ 45 ∷ []
unfolding marks_below
printed_dash a none = ap or_dash (unmarked_between a 0 52 (omega arith) (λ q low high. none q low))

-- a text to which the next mark is appended has all marks up to that one
pub marks_on : (a : Label) (from p : ℕ) (old text new : List ℕ) → text ≡ old ++ marks_below a from → from ≤ p → ((q : ℕ) → from ≤ q → q < p → a q ≡ Absent) →
    new ≡ text ++ printed_mark (letter_of p) (a p) → new ≡ old ++ marks_below a (p + 1)
unfolding marks_below
marks_on a from p old text new so_far le least pushed =
    rw (add-one, pushed, so_far, append_assoc, unmarked_between a from p le least) refl

-- the marks of the propositions below n alone
abbrev pub below : Label → ℕ → Label
below a n = λ p. if nat_lt p n then a p else Absent

abbrev pub read_of : Label → LabelReading
read_of a = record { label = a; sign = Yes }

pub below_none : (a : Label) → below a 0 ≡ empty
below_none a = fun_ext (λ p. none_at p (a p))
  where
    none_at : (p : ℕ) (m : Mark) → (if nat_lt p 0 then m else Absent) ≡ Absent
    none_at p m = grind arith

more_at : (q n : ℕ) (x y : Mark) → (q ≡ n → y ≡ x) → (if q == n then x else (if nat_lt q n then y else Absent)) ≡ (if nat_lt q (suc n) then y else Absent)
more_at q n x y same = grind arith

pub below_more : (a : Label) (n : ℕ) → with_mark (below a n) n (a n) ≡ below a (suc n)
below_more a n = fun_ext (λ q. more_at q n (a n) (a q) (ap a))

same_at : (q n : ℕ) (y : Mark) → (q ≡ n → y ≡ Absent) → (if nat_lt q n then y else Absent) ≡ (if nat_lt q (suc n) then y else Absent)
same_at q n y absent = grind arith

pub below_absent : (a : Label) (n : ℕ) → a n ≡ Absent → below a n ≡ below a (suc n)
below_absent a n absent = fun_ext (λ q. same_at q n (a q) (λ e. ap a e ∙ absent))

pub below_here : (n : ℕ) (m : Mark) → (if nat_lt n n then m else Absent) ≡ Absent
below_here n m = grind arith

not_sign : (p : ℕ) → p < 52 → ((letter_of p == 33) ≡ false) × ((letter_of p == 63) ≡ false)
not_sign p small = grind arith

after_letter : (r : LabelReading) (p : ℕ) → p < 52 → r.label p ≡ Absent → reading_after r (letter_of p) ≡ Some (record { label = with_mark r.label p r.sign; sign = Yes })
after_letter r p small absent = rw ((not_sign p small).0, (not_sign p small).1, letter_back p small, absent) refl

-- a printed mark is read
mark_read : (a : Label) (n : ℕ) (m : Mark) (rest : List ℕ) → n < 52 → a n ≡ m
    → marks_read (read_of (below a n)) (printed_mark (letter_of n) m ++ rest) ≡ marks_read (read_of (below a (suc n))) rest
mark_read a n Absent rest small is = ap (λ (b : Label). marks_read (read_of b) rest) (below_absent a n is)
mark_read a n Yes rest small is =
    rw (after_letter (read_of (below a n)) n small (below_here n (a n))) (ap (λ (b : Label). marks_read (read_of b) rest) ((rw is at (below_more a n))))
mark_read a n No rest small is =
    rw (after_letter (record { label = below a n; sign = No }) n small (below_here n (a n))) (ap (λ (b : Label). marks_read (read_of b) rest) ((rw is at (below_more a n))))
mark_read a n Unknown rest small is =
    rw (after_letter (record { label = below a n; sign = Unknown }) n small (below_here n (a n))) (ap (λ (b : Label). marks_read (read_of b) rest) ((rw is at (below_more a n))))

-- a mark of a proposition that has none yet is read
pub mark_back : (a : Label) (p : ℕ) (m : Mark) (rest : List ℕ) → p < 52 → m ≢ Absent → a p ≡ Absent →
    marks_read (read_of a) (printed_mark (letter_of p) m ++ rest) ≡ marks_read (read_of (with_mark a p m)) rest
mark_back a p Absent rest small marked absent = absurd (marked refl)
mark_back a p Yes rest small marked absent = rw (after_letter (read_of a) p small absent) refl
mark_back a p No rest small marked absent = rw (after_letter (record { label = a; sign = No }) p small absent) refl
mark_back a p Unknown rest small marked absent = rw (after_letter (record { label = a; sign = Unknown }) p small absent) refl

marks_back : (a : Label) (n : ℕ) (rest : List ℕ) → n ≤ 52 → marks_read nothing_read (marks_below a n ++ rest) ≡ marks_read (read_of (below a n)) rest
unfolding marks_below
marks_back a zero rest small = ap (λ (b : Label). marks_read (read_of b) rest) (sym (below_none a))
marks_back a (suc n) rest small =
    rw append_assoc (marks_back a n (printed_mark (letter_of n) (a n) ++ rest) (omega arith) ∙ mark_read a n (a n) rest (omega arith) refl)

whole_at : (p : ℕ) (m : Mark) → (52 ≤ p → m ≡ Absent) → (if nat_lt p 52 then m else Absent) ≡ m
whole_at p m high = grind arith

pub below_all : (a : Label) → ((p : ℕ) → 52 ≤ p → a p ≡ Absent) → below a 52 ≡ a
below_all a high = fun_ext (λ p. whole_at p (a p) (high p))

dash_cases : (b : ℕ) (dash : Bool) (bytes : List ℕ) (a : Label) → (b == 45) ≡ dash → marks_read nothing_read (b ∷ bytes) ≡ Some a → label_read (b ∷ bytes) ≡ Some a
dash_cases b true bytes a is e =
    let same : b ≡ 45 = grind arith in
    let none : None ≡ Some a = rw same at e in
    absurd (cc none)
dash_cases b false bytes a is e = rw is e

dash_or_marks : (bytes : List ℕ) (a : Label) → marks_read nothing_read bytes ≡ Some a → label_read (or_dash bytes) ≡ Some a
dash_or_marks [] a e = e
dash_or_marks (b ∷ bytes) a e = dash_cases b (b == 45) bytes a refl e

-- a text with some bytes that is read as marks is read as a label
pub nonempty_read : (bytes : List ℕ) (a : Label) → 0 < length bytes → marks_read nothing_read bytes ≡ Some a → label_read bytes ≡ Some a
nonempty_read bytes a some e = ap label_read (sym (dash_kept bytes some)) ∙ dash_or_marks bytes a e

-- a printed label is read again
pub label_back : (a : Label) → ((p : ℕ) → 52 ≤ p → a p ≡ Absent) → label_read (printed_label a) ≡ Some a
label_back a high =
    let all : marks_read nothing_read (marks_below a 52) ≡ Some (below a 52) = rw append-nil at (marks_back a 52 [] (omega arith)) in
    dash_or_marks (marks_below a 52) a (all ∙ ap Some (below_all a high))
