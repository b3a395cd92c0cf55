-- No text of bounds or of steps is too long to be read.
use Rattle.std.proofs.Common.{◌≡◌, ℕ, zero, suc, ◌+◌, ◌*◌, ◌<◌, ◌≤◌, ◌^◌, List, [], ◌∷◌, ◌++◌, length, get_or, arith, length-append}
use Rattle.std.specs.Prelude.{codes, ℤ, pos, negsuc, ◌≤ℤ◌}
use Rattle.std.specs.List.{All}
use Rattle.std.proofs.lemmas.Fmt.{length-decimal-le}
use Rattle.std.proofs.lemmas.Int.{ints}
use Rattle.std.proofs.lemmas.List.Elements.{All-get_or, All-tail}
use Rattle.cstn_label.specs.declared.marks.Mark.{Mark}
use Rattle.cstn_label.specs.declared.marks.Mark.TheVariants.{Absent, Yes, No, Unknown}
use Rattle.cstn_label.specs.Bounds.{Bound}
use Rattle.cstn_label.specs.Labels.{Label}
use Rattle.cstn_label.specs.Letters.{letter_of}
use Rattle.cstn_net.specs.Limits.{most_load}
use Rattle.cstn_text.specs.Limits.{most_text}
use Rattle.cstn_rules.specs.declared.entries.Why.{Why}
use Rattle.cstn_rules.specs.declared.entries.Why.TheVariants.{Base, Chain, Wait}
use Rattle.cstn_rules.specs.Derivations.{Entry}
use Rattle.cstn_text.specs.Names.{AreNames}
use Rattle.cstn_text.specs.Numbers.{printed_number, printed_value}
use Rattle.cstn_text.specs.PrintedNames.{printed_name}
use Rattle.cstn_text.specs.PrintedLabels.{printed_mark, marks_below, or_dash, printed_label}
use Rattle.cstn_text.proofs.PrintedNameLemmas.{name_length}
use Rattle.cstn_refute.specs.Limits.{most_least}
use Rattle.cstn_refute.specs.Steps.{printed_why, printed_bound, printed_step}
use Rattle.cstn_refute.specs.Texts.{printed_steps, refutation_shown as shown_steps}
use Rattle.cstn_refute.specs.Written.{ArePlaces, IsPrintableStep as IsWrittenStep, AreStepsWritten as AreWrittenSteps}
use Rattle.cstn_closed.specs.Texts.{printed_bounds, closed_shown as shown_bounds}
use Rattle.cstn_closed.specs.Written.{IsPrintableBound as IsWrittenBound, AreBoundsWritten as AreWrittenBounds}

mark_short : (letter : ℕ) (m : Mark) → length (printed_mark letter m) ≤ 2
mark_short letter Absent = omega arith
mark_short letter Yes = omega arith
mark_short letter No = omega arith
mark_short letter Unknown = omega arith

marks_short : (a : Label) (n : ℕ) → length (marks_below a n) ≤ n + n
unfolding marks_below
marks_short a zero = omega arith
marks_short a (suc n) = omega (arith, length-append (marks_below a n) (printed_mark (letter_of n) (a n)), marks_short a n, mark_short (letter_of n) (a n))

dash_short : (bytes : List ℕ) (n : ℕ) → 1 ≤ n → length bytes ≤ n → length (or_dash bytes) ≤ n
dash_short [] n some short = some
dash_short (b ∷ bytes) n some short = short

label_short : (a : Label) → length (printed_label a) ≤ 104
label_short a = dash_short (marks_below a 52) 104 (omega arith) (marks_short a 52)

value_short : (v : ℤ) → pos 0 ≤ℤ v → v ≤ℤ pos most_least → length (printed_value v) ≤ 7
value_short (pos n) low high = length-decimal-le 7 n (omega arith) (omega (arith, ints)) (omega (arith, ints))
value_short (negsuc n) low high = absurd (omega (arith, ints))

name_short : (names : List (List ℕ)) (x : ℕ) → AreNames names → x < length names → length (printed_name (get_or names x [])) ≤ 192
name_short names x are inside = omega (arith, (are.each x [] inside).few, (name_length (get_or names x [])).1)

-- the length of texts with a byte between them
two_parts : (xs ys : List ℕ) (n : ℕ) → length (xs ++ n ∷ ys) ≡ length xs + length ys + 1
two_parts xs ys n = omega (arith, length-append xs (n ∷ ys))

three_parts : (xs ys zs : List ℕ) (n m : ℕ) → length (xs ++ n ∷ ys ++ m ∷ zs) ≡ length xs + length ys + length zs + 2
three_parts xs ys zs n m = omega (arith, two_parts (xs ++ n ∷ ys) zs m, two_parts xs ys n)

-- the length of a front and two texts with a byte between them
front_part : (front xs ys : List ℕ) (n : ℕ) → length (front ++ xs ++ n ∷ ys) ≡ length front + length xs + length ys + 1
front_part front xs ys n = omega (arith, two_parts (front ++ xs) ys n, length-append front xs)

bound_short : (names : List (List ℕ)) (b : Bound) → AreNames names → b.node < length names → pos 0 ≤ℤ b.least → b.least ≤ℤ pos most_least → length (printed_bound names b) ≤ 305
bound_short names b are inside low high =
    within (length (printed_bound names b)) (length (printed_name (get_or names b.node []))) (length (printed_value b.least)) (length (printed_label b.label))
    (three_parts (printed_name (get_or names b.node [])) (printed_value b.least) (printed_label b.label) 32 32)
    (name_short names b.node are inside) (value_short b.least low high) (label_short b.label)
  where
    within : (whole n v l : ℕ) → whole ≡ n + v + l + 2 → n ≤ 192 → v ≤ 7 → l ≤ 104 → whole ≤ 305
    within whole n v l is a b c = omega arith

bounds_short : (names : List (List ℕ)) (k : ℕ) (bounds : List Bound) → AreNames names → All (IsWrittenBound names) bounds → length (printed_bounds names k bounds) ≤ 312 * length bounds
bounds_short names k [] are all = omega arith
bounds_short names k (b ∷ bounds) are all =
    let here = All-get_or (IsWrittenBound names) (b ∷ bounds) 0 b (omega arith) all in
    within (length (printed_bounds names k (b ∷ bounds))) (length (printed_bound names b)) (length (printed_bounds names (k + 1) bounds)) (length bounds)
    (front_part (codes "bound ") (printed_bound names b) (printed_bounds names (k + 1) bounds) 10)
    (bound_short names b are here.node here.low here.high) (bounds_short names (k + 1) bounds are (All-tail (IsWrittenBound names) b bounds all))
  where
    within : (whole l r n : ℕ) → whole ≡ 6 + l + r + 1 → l ≤ 305 → r ≤ 312 * n → whole ≤ 312 * suc n
    within whole l r n is a b = omega arith

-- a text of bounds isn't too long
pub bounds_text_short : (names : List (List ℕ)) (load : ℕ) (bounds : List Bound) → AreNames names → AreWrittenBounds names load bounds → length (shown_bounds names load bounds) ≤ most_text
bounds_text_short names load bounds are written =
    within (length (shown_bounds names load bounds)) (length (printed_number load)) (length (printed_bounds names 0 bounds)) (length bounds)
    (front_part (codes "yes ") (printed_number load) (printed_bounds names 0 bounds) 10)
    (load_short load written.load_high) (bounds_short names 0 bounds are written.each) written.few
  where
    load_short : (load : ℕ) → load ≤ most_load → length (printed_number load) ≤ 7
    load_short load most = length-decimal-le 7 load (omega arith) (omega arith) (omega arith)

    within : (whole l r n : ℕ) → whole ≡ 4 + l + r + 1 → l ≤ 7 → r ≤ 312 * n → n ≤ most_load → whole ≤ most_text
    within whole l r n is a b few = omega arith

number_short : (n : ℕ) → n < 2 ^ 32 → length (printed_number n) ≤ 10
number_short n below = length-decimal-le 10 n (omega arith) (omega arith) (omega arith)

spaced_short : (whole front a b : ℕ) → whole ≡ front + a + b + 1 → front ≤ 6 → a ≤ 10 → b ≤ 10 → whole ≤ 27
spaced_short whole front a b is few one other = omega arith

why_short : (why : Why) → ArePlaces why → length (printed_why why) ≤ 27
why_short Base places = omega arith
why_short (Chain id i) places =
    spaced_short (length (printed_why (Chain id i))) 6 (length (printed_number id)) (length (printed_number i))
    (front_part (codes "chain ") (printed_number id) (printed_number i) 32) (omega arith) (number_short id places.0) (number_short i places.1)
why_short (Wait i j) places =
    spaced_short (length (printed_why (Wait i j))) 5 (length (printed_number i)) (length (printed_number j))
    (front_part (codes "wait ") (printed_number i) (printed_number j) 32) (omega arith) (number_short i places.0) (number_short j places.1)

steps_short : (names : List (List ℕ)) (k : ℕ) (steps : List Entry) → AreNames names → All (IsWrittenStep names) steps → k + length steps ≤ most_load → length (printed_steps names k steps) ≤ 342 * length steps
steps_short names k [] are all few = omega arith
steps_short names k (e ∷ steps) are all few =
    let here = All-get_or (IsWrittenStep names) (e ∷ steps) 0 e (omega arith) all in
    within (length (printed_steps names k (e ∷ steps))) (length (printed_step names k e)) (length (printed_number k)) (length (printed_why e.why)) (length (printed_bound names e.bound)) (length (printed_steps names (k + 1) steps)) (length steps)
    (two_parts (printed_step names k e) (printed_steps names (k + 1) steps) 10)
    (three_parts (printed_number k) (printed_why e.why) (printed_bound names e.bound) 32 32)
    (place_short k (omega arith)) (why_short e.why here.places) (bound_short names e.bound are here.node here.low here.high)
    (steps_short names (k + 1) steps are (All-tail (IsWrittenStep names) e steps all) (omega arith))
  where
    place_short : (k : ℕ) → k < most_load → length (printed_number k) ≤ 7
    place_short k below = length-decimal-le 7 k (omega arith) (omega arith) (omega arith)

    within : (whole line p w b r n : ℕ) → whole ≡ line + r + 1 → line ≡ p + w + b + 2 → p ≤ 7 → w ≤ 27 → b ≤ 305 → r ≤ 342 * n → whole ≤ 342 * suc n
    within whole line p w b r n is parts one two three rest = omega arith

-- a text of steps isn't too long
pub steps_text_short : (names : List (List ℕ)) (load : ℕ) (steps : List Entry) → AreNames names → AreWrittenSteps names load steps → length (shown_steps names load steps) ≤ most_text
steps_text_short names load steps are written =
    within (length (shown_steps names load steps)) (length (printed_number load)) (length (printed_steps names 0 steps)) (length steps)
    (front_part (codes "no ") (printed_number load) (printed_steps names 0 steps) 10)
    (load_short load written.load_high) (steps_short names 0 steps are written.each (let few = written.few in omega arith)) written.few
  where
    load_short : (load : ℕ) → load ≤ most_load → length (printed_number load) ≤ 7
    load_short load most = length-decimal-le 7 load (omega arith) (omega arith) (omega arith)

    within : (whole l r n : ℕ) → whole ≡ 3 + l + r + 1 → l ≤ 7 → r ≤ 342 * n → n ≤ most_load → whole ≤ most_text
    within whole l r n is a b few = omega arith
