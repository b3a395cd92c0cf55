-- Lines are read from what is written of them.
use Rattle.std.proofs.Common.{◌≡◌, ℕ, zero, suc, ◌<◌, ◌≤◌, Bool, true, false, List, [], ◌∷◌, ◌++◌, length, refl, ap, ◌∙◌, arith, Option, Some}
use Rattle.std.specs.Prelude.{nat_eq, All, codes, Result, Ok, if◌then◌else◌, ℤ, pos, negsuc, int_le}
use Rattle.std.specs.List.{list_all}
use Rattle.std.specs.Option.{option_map}
use Rattle.std.proofs.lemmas.Bool.{and_parts}
use Rattle.std.proofs.lemmas.List.Elements.{All-nil, All-cons, All-append}
use Rattle.cstn_label.specs.declared.marks.Mark.{Mark}
use Rattle.cstn_label.specs.declared.marks.Mark.TheVariants.{Absent, Yes, No, Unknown}
use Rattle.cstn_label.specs.Labels.{Label}
use Rattle.cstn_label.specs.Letters.{letter_of}
use Rattle.cstn_text.specs.Names.{IsName}
use Rattle.cstn_sentences.specs.Results.{◌>>?◌, some_or, holds_or}
use Rattle.cstn_sentences.specs.Judged.{is_sized}
use Rattle.cstn_sentences.specs.declared.lines.Span.{Span}
use Rattle.cstn_sentences.specs.declared.lines.Range.{Range}
use Rattle.cstn_sentences.specs.declared.lines.Side.TheVariants.{Alone}
use Rattle.cstn_sentences.specs.declared.lines.Point.{Point}
use Rattle.cstn_sentences.specs.declared.lines.Reference.{Reference}
use Rattle.cstn_sentences.specs.declared.lines.Literal.{Literal}
use Rattle.cstn_sentences.specs.declared.lines.Says.{Says}
use Rattle.cstn_sentences.specs.declared.lines.Says.TheVariants.{At, By, Between, ByAfter, Within, NotBefore, Together}
use Rattle.cstn_sentences.specs.declared.lines.Expects.TheVariants.{Since, If}
use Rattle.cstn_sentences.specs.Lines.{PlanLine, rule, deadline}
use Rattle.cstn_sentences.specs.Spelling.{name_spelled, spelling, is_prop_word}
use Rattle.cstn_sentences.specs.Spans.{time_read, span_read, range_read}
use Rattle.cstn_sentences.specs.Grammar.{Words, Rest, Read, is, past_keyword, begins_by, one, ended_line, rule_by, point_rule_read, named_rule, plan_line_read}
use Rattle.cstn_sentences.specs.Printed.{span_word, range_word, most_word, label_words, deadline_words}
use Rattle.cstn_sentences.specs.Sentences.{ticks, literal_of_mark, literals_below, literals_of_label}
use Rattle.cstn_sentences.proofs.SpelledNames.{name_back}
use Rattle.cstn_sentences.proofs.WrittenNumbers.{is_of_ticks, span_bytes, span_some, span_back, time_back}
use Rattle.cstn_sentences.proofs.WrittenRests.{IsLiteral, no_keyword, moment_of, label_alone, since_back}

-- ---- literals

letter_is_prop : (p : ℕ) → p < 52 → is_prop_word (letter_of p ∷ []) ≡ true
letter_is_prop p small = grind arith

one_letter : (b : ℕ) → is (codes "not") (b ∷ []) ≡ false
one_letter b = grind arith

literal_is : (p : ℕ) (holds : Bool) → p < 52 → IsLiteral (record { prop = letter_of p ∷ []; holds = holds })
literal_is p holds small = record { prop = letter_is_prop p small; other = one_letter (letter_of p) }

of_mark : (p : ℕ) (m : Mark) → p < 52 → All IsLiteral (literal_of_mark (letter_of p) m)
of_mark p Absent small = All-nil IsLiteral
of_mark p Yes small = All-cons IsLiteral (record { prop = letter_of p ∷ []; holds = true }) [] (literal_is p true small) (All-nil IsLiteral)
of_mark p No small = All-cons IsLiteral (record { prop = letter_of p ∷ []; holds = false }) [] (literal_is p false small) (All-nil IsLiteral)
of_mark p Unknown small = All-nil IsLiteral

literals_are : (a : Label) (n : ℕ) → n ≤ 52 → All IsLiteral (literals_below a n)
unfolding literals_below
literals_are a zero few = All-nil IsLiteral
literals_are a (suc n) few =
    All-append IsLiteral (literals_below a n) (literal_of_mark (letter_of n) (a n)) (literals_are a n (omega (arith, few)))
    (of_mark n (a n) (omega (arith, few)))

-- the literals of a label are literals
pub label_literals : (a : Label) → All IsLiteral (literals_of_label a)
label_literals a = literals_are a 52 (omega arith)

-- ---- the rest of a rule

abbrev pub rule_with : Point → Says → List Reference → List Literal → PlanLine
rule_with point says since label = rule (record { point = point; says = says; since = since; label = label })

by_alone : (point : Point) (says : Says) (ls : List Literal) → All IsLiteral ls → rule_by point says If (label_words ls) ≡ Ok (rule_with point says [] ls)
by_alone point says ls all = ap (λ (r : Result Rest ℕ). r >>? λ rest. Ok (rule_with point says rest.since rest.label)) (label_alone ls all)

by_since : (point : Point) (says : Says) (name : List ℕ) (ls : List Literal) → IsName name → All IsLiteral ls
    → rule_by point says Since (spelling name ∷ label_words ls) ≡ Ok (rule_with point says (moment_of name ∷ []) ls)
by_since point says name ls ok all = ap (λ (r : Result Rest ℕ). r >>? λ rest. Ok (rule_with point says rest.since rest.label)) (since_back name ls ok all)

-- what is read of the first word, and the words behind it
pub one_read : {A : Type 0} (read : List ℕ → Option A) (word : List ℕ) (words : Words) (x : A) → read word ≡ Some x → one read (word ∷ words) ≡ Ok (x, words)
one_read {A} read word words x e = ap (λ (o : Option A). some_or (option_map (λ y. (y, words)) o) (length (word ∷ words))) e

-- ---- each form

pub at_line : (point : Point) (r : Range) (ls : List Literal) → range_read (range_word r) ≡ Some r → All IsLiteral ls
    → point_rule_read point (codes "at" ∷ range_word r ∷ label_words ls) ≡ Ok (rule_with point (At r) [] ls)
at_line point r ls back all =
    ap (λ (o : Read Range). o >>? λ p. rule_by point (At p.0) If p.1) (one_read range_read (range_word r) (label_words ls) r back) ∙ by_alone point (At r) ls all

pub no_after : (ls : List Literal) → begins_by (codes "after") (label_words ls) ≡ false
no_after [] = refl
no_after (l ∷ ls) = refl

pub by_line : (point : Point) (v : ℤ) (ls : List Literal) → is_sized v ≡ true → int_le (pos 0) v ≡ true → All IsLiteral ls
    → point_rule_read point (codes "by" ∷ span_word (ticks v) ∷ label_words ls) ≡ Ok (rule_with point (By (ticks v)) [] ls)
by_line point v ls sized timely all =
    let words : Words = label_words ls in
    ap (λ (o : Read Span). o >>? λ r.
    if begins_by (codes "after") r.1 then (past_keyword (codes "after") r.1 >>? rule_by point (ByAfter r.0) Since)
    else (holds_or (int_le (pos 0) r.0.ticks) (length r.1) >>? λ timely. rule_by point (By r.0) If r.1))
    (one_read span_read (span_word (ticks v)) words (ticks v) (span_back v sized))
    ∙ ap (λ (b : Bool).
    if b then (past_keyword (codes "after") words >>? rule_by point (ByAfter (ticks v)) Since)
    else (holds_or (int_le (pos 0) v) (length words) >>? λ timely. rule_by point (By (ticks v)) If words)) (no_after ls)
    ∙ ap (λ (b : Bool). holds_or b (length words) >>? λ timely. rule_by point (By (ticks v)) If words) timely
    ∙ by_alone point (By (ticks v)) ls all

pub by_after_line : (point : Point) (v : ℤ) (name : List ℕ) (ls : List Literal) → is_sized v ≡ true → IsName name → All IsLiteral ls
    → point_rule_read point (codes "by" ∷ span_word (ticks v) ∷ codes "after" ∷ spelling name ∷ label_words ls) ≡ Ok (rule_with point (ByAfter (ticks v)) (moment_of name ∷ []) ls)
by_after_line point v name ls sized ok all =
    let words : Words = codes "after" ∷ spelling name ∷ label_words ls in
    ap (λ (o : Read Span). o >>? λ r.
    if begins_by (codes "after") r.1 then (past_keyword (codes "after") r.1 >>? rule_by point (ByAfter r.0) Since)
    else (holds_or (int_le (pos 0) r.0.ticks) (length r.1) >>? λ timely. rule_by point (By r.0) If r.1))
    (one_read span_read (span_word (ticks v)) words (ticks v) (span_back v sized))
    ∙ by_since point (ByAfter (ticks v)) name ls ok all

time_of : (v : ℤ) → is_sized v ≡ true → int_le (pos 0) v ≡ true → time_read (span_word (ticks v)) ≡ Some (ticks v)
time_of (pos n) sized timely = time_back n (grind (arith, sized))
time_of (negsuc n) sized timely = absurd (grind (arith, timely))

pub within_line : (point : Point) (v : ℤ) (name : List ℕ) (ls : List Literal) → is_sized v ≡ true → int_le (pos 0) v ≡ true → IsName name → All IsLiteral ls
    → point_rule_read point (codes "within" ∷ span_word (ticks v) ∷ codes "after" ∷ spelling name ∷ label_words ls) ≡ Ok (rule_with point (Within (ticks v)) (moment_of name ∷ []) ls)
within_line point v name ls sized timely ok all =
    let words : Words = codes "after" ∷ spelling name ∷ label_words ls in
    ap (λ (o : Read Span). o >>? λ r. past_keyword (codes "after") r.1 >>? rule_by point (Within r.0) Since)
    (one_read time_read (span_word (ticks v)) words (ticks v) (time_of v sized timely))
    ∙ by_since point (Within (ticks v)) name ls ok all

pub not_before_line : (point : Point) (name : List ℕ) (ls : List Literal) → IsName name → All IsLiteral ls
    → point_rule_read point (codes "after" ∷ spelling name ∷ label_words ls) ≡ Ok (rule_with point NotBefore (moment_of name ∷ []) ls)
not_before_line point name ls ok all = by_since point NotBefore name ls ok all

pub together_line : (point : Point) (name : List ℕ) (ls : List Literal) → IsName name → All IsLiteral ls
    → point_rule_read point (codes "with" ∷ spelling name ∷ label_words ls) ≡ Ok (rule_with point Together (moment_of name ∷ []) ls)
together_line point name ls ok all = by_since point Together name ls ok all

-- ---- a range before `after`

other_first : (b : ℕ) → is_of_ticks b ≡ true → (nat_eq b 97 ≡ false) × (nat_eq b 98 ≡ false) × (nat_eq b 119 ≡ false)
other_first b e = grind arith

-- a word that begins as a number of ticks is read as a range
first_says : (point : Point) (b : ℕ) (text : List ℕ) (words : Words) → is_of_ticks b ≡ true
    → point_rule_read point ((b ∷ text) ∷ words) ≡ (one range_read ((b ∷ text) ∷ words) >>? λ r. past_keyword (codes "after") r.1
    >>? rule_by point (Between r.0) Since)
first_says point b text words e =
    let other = other_first b e in
    rw (other.0, other.1, other.2) refl

between_at : (point : Point) (text more : List ℕ) (words : Words) → 1 ≤ length text → list_all is_of_ticks text ≡ true
    → point_rule_read point ((text ++ more) ∷ words) ≡ (one range_read ((text ++ more) ∷ words) >>? λ r. past_keyword (codes "after") r.1 >>? rule_by point (Between r.0) Since)
between_at point [] more words some all = absurd (omega (arith, some))
between_at point (b ∷ text) more words some all = first_says point b (text ++ more) words (and_parts (is_of_ticks b) (list_all is_of_ticks text) all).0

pub between_line : (point : Point) (r : Range) (a : ℤ) (name : List ℕ) (ls : List Literal) → r.least ≡ ticks a → is_sized a ≡ true → range_read (range_word r) ≡ Some r → IsName name
    → All IsLiteral ls → point_rule_read point (range_word r ∷ codes "after" ∷ spelling name ∷ label_words ls) ≡ Ok (rule_with point (Between r) (moment_of name ∷ []) ls)
between_line point r a name ls least sized back ok all =
    let words : Words = codes "after" ∷ spelling name ∷ label_words ls in
    let some : 1 ≤ length (span_word r.least) = rw least (span_some a sized) in
    let bytes : list_all is_of_ticks (span_word r.least) ≡ true = rw least (span_bytes a sized) in
    between_at point (span_word r.least) (most_word r.least r.most) words some bytes
    ∙ ap (λ (o : Read Range). o >>? λ p. past_keyword (codes "after") p.1 >>? rule_by point (Between p.0) Since)
    (one_read range_read (range_word r) words r back)
    ∙ by_since point (Between r) name ls ok all

-- ---- whole lines

named_line : (word : List ℕ) (words : Words) → is (codes "deadline") word ≡ false → is (codes "start") word ≡ false → is (codes "step") word ≡ false
    → is (codes "task") word ≡ false → is (codes "end") word ≡ false → plan_line_read (word ∷ words) ≡ named_rule (word ∷ words)
named_line word words d s t k e = rw (d, s, t, k, e) refl

-- a line that begins with a name is a rule of the time-point
pub rule_line : (name : List ℕ) (words : Words) → IsName name
    → plan_line_read (spelling name ∷ words) ≡ point_rule_read (record { name = name; side = Alone }) words
rule_line name words ok =
    let no = no_keyword name in
    named_line (spelling name) words no.deadline no.start no.step no.task no.end
    ∙ ap (λ (o : Read (List ℕ)). o >>? λ r. point_rule_read (record { name = r.0; side = Alone }) r.1) (one_read name_spelled (spelling name) words name (name_back name ok))

-- the line of the deadline
pub deadline_line : (n : ℕ) → is_sized (pos n) ≡ true → plan_line_read (deadline_words (ticks (pos n))) ≡ Ok (deadline (ticks (pos n)))
deadline_line n sized =
    ap (λ (o : Read Span). o >>? λ r. ended_line (deadline r.0) r.1) (one_read time_read (span_word (ticks (pos n))) [] (ticks (pos n)) (time_of (pos n) sized (grind arith)))
