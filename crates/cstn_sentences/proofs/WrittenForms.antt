-- The rules of constraints are read from their lines.
use Rattle.std.proofs.Common.{length-append, ◌≡◌, ℕ, zero, suc, Bool, true, false, List, [], ◌++◌, refl, ap, sym, subst, ◌∙◌, arith, Option, Some, None}
use Rattle.std.specs.Prelude.{◌==◌, ◌&&◌, slice_index_or, Ok, if◌then◌else◌, ℤ, pos, neg_ℤ, int_le}
use Rattle.std.proofs.lemmas.Int.{ints}
use Rattle.std.proofs.lemmas.Bool.{and_parts}
use Rattle.cstn_label.specs.Labels.{Label}
use Rattle.cstn_net.specs.Networks.{Constraint, IsValue}
use Rattle.cstn_text.specs.Names.{IsName}
use Rattle.cstn_sentences.specs.Judged.{is_sized, is_said}
use Rattle.cstn_sentences.specs.declared.lines.Side.TheVariants.{Alone}
use Rattle.cstn_sentences.specs.declared.lines.Point.{Point}
use Rattle.cstn_sentences.specs.declared.lines.Says.{Says}
use Rattle.cstn_sentences.specs.declared.lines.Says.TheVariants.{At, By, Between, ByAfter, Within, NotBefore, Together}
use Rattle.cstn_sentences.specs.Lines.{Rule, rule}
use Rattle.cstn_sentences.specs.Spans.{range_read}
use Rattle.cstn_sentences.specs.Grammar.{Words, point_rule_read}
use Rattle.cstn_sentences.specs.Printed.{spaced_words, range_word, label_words, says_words, rule_words}
use Rattle.cstn_sentences.specs.Spelling.{spelling}
use Rattle.cstn_sentences.specs.WrittenWords.{IsWrittenWord, IsReadAsLine}
use Rattle.cstn_sentences.specs.Sentences.{ticks, from_to, from_on, literals_of_label, since_words, rule_of, counted_from, range_says, least_says, is_same_label, is_range, are_turned, are_one_range, is_pair, pair_rule, alone_rule}
use Rattle.cstn_sentences.proofs.WrittenNumbers.{three_true, from_back, to_back, single_back}
use Rattle.cstn_sentences.proofs.WrittenLines.{label_literals, at_line, by_line, by_after_line, within_line, not_before_line, together_line, between_line, rule_line}
use Rattle.cstn_sentences.proofs.LineWords.{range_is_word, from_is_word, AreWords, one_more}
use Rattle.cstn_sentences.proofs.LineLengths.{spaced_both, words_few, says_count, since_count, label_few}
use Rattle.cstn_sentences.proofs.RuleWords.{at_are, by_are, between_are, by_after_are, within_are, not_before_are, together_are, since_none, since_one, rule_are}
use Rattle.cstn_sentences.proofs.SpelledWords.{spelled_is_written, written_back}

-- the line of a rule is read as that rule
abbrev pub IsReadBack : List (List ℕ) → ℕ → Option ℕ → Label → Says → Type 0
IsReadBack names x y label says = IsReadAsLine (rule_words (rule_of names x says y label)) (rule (rule_of names x says y label))

abbrev pub HasName : List (List ℕ) → ℕ → Type 0
HasName names x = IsName (slice_index_or names x [])

-- ---- numbers

pub value_sized : (v : ℤ) → IsValue v → is_sized v ≡ true
value_sized v h = grind (arith, ints, h.0, h.1)

pub negated_sized : (v : ℤ) → IsValue v → is_sized (neg_ℤ v) ≡ true
negated_sized v h = grind (arith, ints, h.0, h.1)

same_ends : (a b : ℤ) → int_le a b ≡ true → int_le b a ≡ true → b ≡ a
same_ends a b h k = grind (arith, ints)

le_same : (a : ℤ) → int_le a a ≡ true
le_same a = grind (arith, ints)

le_next : (a b : ℤ) → int_le (pos 0) a ≡ true → int_le a b ≡ true → int_le (pos 0) b ≡ true
le_next a b h k = grind (arith, ints)

pub negated_up : (v : ℤ) → int_le v (pos 0) ≡ true → int_le (pos 0) (neg_ℤ v) ≡ true
negated_up v h = grind (arith, ints)

-- a range is read back
range_back : (a b : ℤ) → is_sized a ≡ true → is_sized b ≡ true → int_le a b ≡ true → range_read (range_word (from_to a b)) ≡ Some (from_to a b)
range_back a b first last order = at (int_le b a) refl
  where
    at : (same : Bool) → int_le b a ≡ same → range_read (range_word (from_to a b)) ≡ Some (from_to a b)
    at true e = subst (λ (n : ℤ). range_read (range_word (from_to a n)) ≡ Some (from_to a n)) (sym (same_ends a b order e)) (single_back a first (le_same a))
    at false e = to_back a b first last e

-- ---- at least and at most

abbrev point_of : List (List ℕ) → ℕ → Point
point_of names x = record { name = slice_index_or names x []; side = Alone }

form : (names : List (List ℕ)) (x : ℕ) (says : Says) (y : Option ℕ) (label : Label) → HasName names x → AreWords (says_words says) → AreWords (since_words names y) → is_said says ≡ true
    → point_rule_read (point_of names x) (says_words says ++ since_words names y ++ label_words (literals_of_label label))
    ≡ Ok (rule (rule_of names x says y label))
    → IsReadBack names x y label says
form names x says y label named said since numbered read =
    let name : List ℕ = slice_index_or names x [] in
    let behind : Words = says_words says ++ since_words names y ++ label_words (literals_of_label label) in
    let words : AreWords behind = rule_are names x says y label named said since in
    let first : IsWrittenWord (spelling name) = spelled_is_written name named in
    record {
      written = one_more (spelling name) behind first words;
      short = omega (
        arith,
        length-append (spelling name) (spaced_words behind),
        first.few,
        spaced_both (says_words says ++ since_words names y) (label_words (literals_of_label label)),
        spaced_both (says_words says) (since_words names y),
        words_few (says_words says) said,
        words_few (since_words names y) since,
        says_count says,
        since_count names y,
        label_few label,
      );
      cut = written_back (spelling name) behind first words;
      read = rule_line name behind named ∙ read;
      numbered = numbered;
    }

at_numbered : (a b : ℤ) → is_sized a ≡ true → is_sized b ≡ true → is_said (At (from_to a b)) ≡ true
at_numbered a b first last = ap (λ (x : Bool). x && is_sized b) first ∙ last

between_numbered : (a b : ℤ) → is_sized a ≡ true → is_sized b ≡ true → int_le a b ≡ true → is_said (Between (from_to a b)) ≡ true
between_numbered a b first last order = three_true (is_sized a) (is_sized b) (int_le a b) first last order

from_numbered : (a : ℤ) → is_sized a ≡ true → is_said (Between (from_on a)) ≡ true
from_numbered a sized = ap (λ (x : Bool). x && true) sized

abbrev chosen : Bool → Bool → ℤ → ℤ → Says
chosen same none a b = if same then (if none then Together else Between (from_to a b)) else if none then Within (ticks b) else Between (from_to a b)

chosen_back : (names : List (List ℕ)) (x y : ℕ) (label : Label) (a b : ℤ) (same none : Bool) → HasName names x → HasName names y → is_sized a ≡ true → is_sized b ≡ true
    → int_le (pos 0) a ≡ true → int_le a b ≡ true → IsReadBack names x (Some y) label (chosen same none a b)
chosen_back names x y label a b true true named since first last above order =
    form names x Together (Some y) label named together_are (since_one names y since) refl
    (together_line (point_of names x) (slice_index_or names y []) (literals_of_label label) since (label_literals label))
chosen_back names x y label a b true false named since first last above order =
    form names x (Between (from_to a b)) (Some y) label named (between_are (from_to a b) (range_is_word a b first last)) (since_one names y since) (between_numbered a b first last order)
    (between_line (point_of names x) (from_to a b) a (slice_index_or names y []) (literals_of_label label) refl first (range_back a b first last order) since (label_literals label))
chosen_back names x y label a b false true named since first last above order =
    form names x (Within (ticks b)) (Some y) label named (within_are b last) (since_one names y since) last
    (within_line (point_of names x) b (slice_index_or names y []) (literals_of_label label) last (le_next a b above order) since (label_literals label))
chosen_back names x y label a b false false named since first last above order =
    form names x (Between (from_to a b)) (Some y) label named (between_are (from_to a b) (range_is_word a b first last)) (since_one names y since) (between_numbered a b first last order)
    (between_line (point_of names x) (from_to a b) a (slice_index_or names y []) (literals_of_label label) refl first (range_back a b first last order) since (label_literals label))

range_rule_back : (names : List (List ℕ)) (x y : ℕ) (label : Label) (a b : ℤ) → HasName names x → HasName names y → is_sized a ≡ true → is_sized b ≡ true
    → int_le (pos 0) a ≡ true → int_le a b ≡ true → IsReadBack names x (counted_from y) label (range_says (counted_from y) a b)
range_rule_back names x zero label a b named since first last above order =
    form names x (At (from_to a b)) None label named (at_are (from_to a b) (range_is_word a b first last)) (since_none names) (at_numbered a b first last)
    (at_line (point_of names x) (from_to a b) (literals_of_label label) (range_back a b first last order) (label_literals label))
range_rule_back names x (suc y) label a b named since first last above order =
    chosen_back names x (suc y) label a b (int_le b a) (int_le a (pos 0)) named since first last above order

range_parts : (least most : ℤ) → is_range least most ≡ true → (int_le least (pos 0) ≡ true) × (int_le (neg_ℤ least) most ≡ true)
range_parts least most e = and_parts (int_le least (pos 0)) (int_le (neg_ℤ least) most) e

-- the rule of a pair is read back
pub pair_back : (names : List (List ℕ)) (c d : Constraint) → HasName names c.from → HasName names c.to → IsValue c.most → IsValue d.most → is_pair c d ≡ true
    → IsReadAsLine (rule_words (pair_rule names c d)) (rule (pair_rule names c d))
pair_back names c d from to value other pair =
    let range = range_parts c.most d.most (and_parts (is_same_label c.label d.label) (is_range c.most d.most) (and_parts (are_turned c d) (are_one_range c d) pair).1).1 in
    range_rule_back names c.from c.to c.label (neg_ℤ c.most) d.most from to (negated_sized c.most value) (value_sized d.most other) (negated_up c.most range.0) range.1

-- ---- alone

least_at : (names : List (List ℕ)) (x y : ℕ) (label : Label) (a : ℤ) (none : Bool) → HasName names x → HasName names y → is_sized a ≡ true
    → IsReadBack names x (Some y) label (if none then NotBefore else Between (from_on a))
least_at names x y label a true named since sized =
    form names x NotBefore (Some y) label named not_before_are (since_one names y since) refl
    (not_before_line (point_of names x) (slice_index_or names y []) (literals_of_label label) since (label_literals label))
least_at names x y label a false named since sized =
    form names x (Between (from_on a)) (Some y) label named (between_are (from_on a) (from_is_word a sized)) (since_one names y since) (from_numbered a sized)
    (between_line (point_of names x) (from_on a) a (slice_index_or names y []) (literals_of_label label) refl sized (from_back a sized) since
    (label_literals label))

least_rule_back : (names : List (List ℕ)) (x y : ℕ) (label : Label) (a : ℤ) → HasName names x → HasName names y → is_sized a ≡ true
    → IsReadBack names x (counted_from y) label (least_says (counted_from y) a)
least_rule_back names x zero label a named since sized =
    form names x (At (from_on a)) None label named (at_are (from_on a) (from_is_word a sized)) (since_none names) sized
    (at_line (point_of names x) (from_on a) (literals_of_label label) (from_back a sized) (label_literals label))
least_rule_back names x (suc y) label a named since sized = least_at names x (suc y) label a (int_le a (pos 0)) named since sized

by_rule_back : (names : List (List ℕ)) (x : ℕ) (label : Label) (v : ℤ) → HasName names x → is_sized v ≡ true → int_le (pos 0) v ≡ true → IsReadBack names x None label (By (ticks v))
by_rule_back names x label v named sized timely =
    form names x (By (ticks v)) None label named (by_are v sized) (since_none names) sized (by_line (point_of names x) v (literals_of_label label) sized timely (label_literals label))

by_after_rule_back : (names : List (List ℕ)) (x y : ℕ) (label : Label) (v : ℤ) → HasName names x → HasName names y → is_sized v ≡ true
    → IsReadBack names x (Some y) label (ByAfter (ticks v))
by_after_rule_back names x y label v named since sized =
    form names x (ByAfter (ticks v)) (Some y) label named (by_after_are v sized) (since_one names y since) sized
    (by_after_line (point_of names x) v (slice_index_or names y []) (literals_of_label label) sized since (label_literals label))

-- the rule of a constraint alone, by what it is
abbrev pub alone_by : List (List ℕ) → Constraint → Bool → Bool → Rule
alone_by names c by least =
    if by then rule_of names c.to (By (ticks c.most)) None c.label
    else if least then rule_of names c.from (least_says (counted_from c.to) (neg_ℤ c.most)) (counted_from c.to) c.label
    else rule_of names c.to (ByAfter (ticks c.most)) (Some c.from) c.label

-- the rule of a constraint alone is read back
pub alone_back : (names : List (List ℕ)) (c : Constraint) → HasName names c.from → HasName names c.to → IsValue c.most
    → IsReadAsLine (rule_words (alone_rule names c)) (rule (alone_rule names c))
alone_back names c from to value = at (c.from == 0 && int_le (pos 0) c.most) (int_le c.most (pos 0)) refl
  where
    at : (by least : Bool) → (c.from == 0 && int_le (pos 0) c.most) ≡ by
        → IsReadAsLine (rule_words (alone_by names c by least)) (rule (alone_by names c by least))
    at true least e = by_rule_back names c.to c.label c.most to (value_sized c.most value) (and_parts (c.from == 0) (int_le (pos 0) c.most) e).1
    at false true e = least_rule_back names c.from c.to c.label (neg_ℤ c.most) from to (negated_sized c.most value)
    at false false e = by_after_rule_back names c.to c.from c.label c.most to from (value_sized c.most value)
