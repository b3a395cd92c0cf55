-- A label's marks by the bits of its two words.
use Rattle.std.proofs.Common.{ℕ, ◌≡◌, ◌≤◌, Bool, true, false, ◌||◌, ◌&&◌, arith, refl, sym, subst, ◌<◌, ◌^◌, ◌∙◌, bit_or, bit_and, IsTrue}
use Rattle.std.specs.Coded.{le_prop}
use Rattle.cstn_label.specs.declared.labels.Label.{Label}
use Rattle.cstn_label.specs.declared.marks.Mark.TheVariants.{Absent}
use Rattle.cstn_label.specs.Labels.{joined_mark, MarkFits}
use Rattle.cstn_label.specs.Words.{has_bit, IsApart, IsInside}
use Rattle.cstn_label.specs.Read.{mark_of, marks}
use Rattle.cstn_label.proofs.WordLemmas.{has_bit_or, has_bit_and, has_bit_above, same_word}

joined_bits : (y n z m : Bool) → mark_of (y || z) (n || m) ≡ joined_mark (mark_of y n) (mark_of z m)
joined_bits y n z m = grind arith

-- labels whose words are joined bit by bit are joined mark by mark
pub joined_at : (y n z m p : ℕ) → mark_of (has_bit (bit_or y z) p) (has_bit (bit_or n m) p)
    ≡ joined_mark (mark_of (has_bit y p) (has_bit n p)) (mark_of (has_bit z p) (has_bit m p))
joined_at y n z m p = rw (has_bit_or y z p, has_bit_or n m p)
    (joined_bits (has_bit y p) (has_bit n p) (has_bit z p) (has_bit m p))

possible_bits : (seen v y n : Bool) → ((y && seen) ≡ true → v ≡ true) → ((n && seen) ≡ true → v ≡ false) →
    seen ≡ true → MarkFits v (mark_of y n)
possible_bits seen v y n h k e = grind arith

bits_possible_yes : (seen v y n : Bool) → (seen ≡ true → MarkFits v (mark_of y n)) → (y && seen) ≡ true → v ≡ true
bits_possible_yes seen v y n h e = grind arith

bits_possible_no : (seen v y n : Bool) → (seen ≡ true → MarkFits v (mark_of y n)) → (n && seen) ≡ true → v ≡ false
bits_possible_no seen v y n h e = grind arith

-- marks on seen propositions fit their values where those of `y` are true and those of `n` false
pub possible_from_bits : (y n seen bits : ℕ) → IsInside (bit_and y seen) bits → IsApart (bit_and n seen) bits →
    (p : ℕ) → IsTrue (has_bit seen p) → MarkFits (has_bit bits p) (mark_of (has_bit y p) (has_bit n p))
possible_from_bits y n seen bits h k p e =
    possible_bits (has_bit seen p) (has_bit bits p) (has_bit y p) (has_bit n p)
    (λ e. h p (has_bit_and y seen p ∙ e)) (λ e. k p (has_bit_and n seen p ∙ e)) e

pub inside_from_possible : (y n seen bits : ℕ) →
    ((p : ℕ) → IsTrue (has_bit seen p) → MarkFits (has_bit bits p) (mark_of (has_bit y p) (has_bit n p))) →
    IsInside (bit_and y seen) bits
inside_from_possible y n seen bits h p e =
    bits_possible_yes (has_bit seen p) (has_bit bits p) (has_bit y p) (has_bit n p) (h p)
    (sym (has_bit_and y seen p) ∙ e)

pub apart_from_possible : (y n seen bits : ℕ) →
    ((p : ℕ) → IsTrue (has_bit seen p) → MarkFits (has_bit bits p) (mark_of (has_bit y p) (has_bit n p))) →
    IsApart (bit_and n seen) bits
apart_from_possible y n seen bits h p e =
    bits_possible_no (has_bit seen p) (has_bit bits p) (has_bit y p) (has_bit n p) (h p)
    (sym (has_bit_and n seen p) ∙ e)

bits_same_yes : (y n z m : Bool) → mark_of y n ≡ mark_of z m → y ≡ z
bits_same_yes y n z m e = grind arith

bits_same_no : (y n z m : Bool) → mark_of y n ≡ mark_of z m → n ≡ m
bits_same_no y n z m e = grind arith

same_built : (y n : ℕ) (h k : y < 2 ^ 52) (i j : n < 2 ^ 52) →
    ◌≡◌ {A = Label} (record { yes = y; no = n; yes_in_range = h; no_in_range = i })
    (record { yes = y; no = n; yes_in_range = k; no_in_range = j })
same_built y n h k i j =
    let e : h ≡ k = le_prop h k in
    let f : i ≡ j = le_prop i j in
    cc

same_words : (a b : Label) → a.yes ≡ b.yes → a.no ≡ b.no → a ≡ b
same_words a b e f =
    subst (λ z. (k : z < 2 ^ 52) → a ≡ record { yes = z; no = b.no; yes_in_range = k; no_in_range = b.no_in_range }) e
    (subst (λ m. (j : m < 2 ^ 52) (k : a.yes < 2 ^ 52) →
    a ≡ record { yes = a.yes; no = m; yes_in_range = k; no_in_range = j }) f
    (λ j k. same_built a.yes a.no a.yes_in_range k a.no_in_range j) b.no_in_range) b.yes_in_range

-- labels with the same marks are equal
pub same_label : (a b : Label) → ((p : ℕ) → marks a p ≡ marks b p) → a ≡ b
same_label a b same = same_words a b
    (same_word a.yes b.yes (λ p. bits_same_yes (has_bit a.yes p) (has_bit a.no p) (has_bit b.yes p) (has_bit b.no p) (same p)))
    (same_word a.no b.no (λ p. bits_same_no (has_bit a.yes p) (has_bit a.no p) (has_bit b.yes p) (has_bit b.no p) (same p)))

-- a label marks no proposition above 51
pub unmarked_above : (a : Label) (p : ℕ) → 52 ≤ p → marks a p ≡ Absent
unmarked_above a p above =
    rw (has_bit_above a.yes 52 p a.yes_in_range above, has_bit_above a.no 52 p a.no_in_range above) refl

bits_marked : (y n : Bool) → (y || n) ≡ true → mark_of y n ≡ Absent → ⊥
bits_marked y n set gone = grind arith

bits_absent : (y n : Bool) → (y || n) ≡ false → mark_of y n ≡ Absent
bits_absent y n clear = grind arith

-- a label marks a proposition whose bit is set in either of its words, and no other
pub marked_at : (a : Label) (p : ℕ) → has_bit (bit_or a.yes a.no) p ≡ true → marks a p ≡ Absent → ⊥
marked_at a p set = bits_marked (has_bit a.yes p) (has_bit a.no p) (sym (has_bit_or a.yes a.no p) ∙ set)

pub absent_at : (a : Label) (p : ℕ) → has_bit (bit_or a.yes a.no) p ≡ false → marks a p ≡ Absent
absent_at a p clear = bits_absent (has_bit a.yes p) (has_bit a.no p) (sym (has_bit_or a.yes a.no p) ∙ clear)
