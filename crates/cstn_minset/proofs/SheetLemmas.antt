-- The marks of labels side by side.
use Rattle.std.proofs.Common.{ℕ, zero, ◌≡◌, ◌⊎◌, inl, inr, ◌<◌, ◌≤◌, Bool, true, false, cond, not, ◌||◌, ◌&&◌, List, length, get_or, set, replicate, bit_and, bit_or, refl, sym, ap, subst, ◌∙◌, arith}
use Rattle.std.specs.Prelude.{◌↔◌}
use Rattle.std.proofs.lemmas.Bool.{cases_eq, cases_lt, false≢true, false_from_ne_true}
use Rattle.std.proofs.lemmas.List.{get_or-set_same, get_or-set_other, get_or-replicate, get_or_past, length-replicate, length-set}
use Rattle.cstn_label.specs.declared.marks.Mark.{Mark}
use Rattle.cstn_label.specs.declared.marks.Mark.TheVariants.{Absent}
use Rattle.cstn_label.specs.Labels.{IsMarkWithin}
use Rattle.cstn_label.specs.Marks.{is_marked}
use Rattle.cstn_label.specs.declared.labels.Label.{Label as TheLabel}
use Rattle.cstn_label.specs.Words.{has_bit}
use Rattle.cstn_label.specs.Read.{marks, mark_of}
use Rattle.cstn_label.proofs.WordLemmas.{has_bit_and, has_bit_or, has_bit-zero}
use Rattle.cstn_minset.specs.Sheets.{Marks, mark_in, IsInsideLabel, IsOutside, IsInNone, IsInAll}
use Rattle.cstn_minset.proofs.BitLemmas.{IsPart, part_less}
use Rattle.cstn_minset.proofs.BoundLemmas.{MarksEnd}

-- the first word has the positive literals of the label, and the second the negative ones
abbrev AreLiterals : TheLabel → ℕ → ℕ → Type 0
AreLiterals label positive negative = (p : ℕ) → mark_of (has_bit positive p) (has_bit negative p) ≡ marks label p

abbrev pub sheet_of : List ℕ → List ℕ → Marks
sheet_of ys ns = record { positive = ys; negative = ns }

-- bit i is flipped in the words of the numbers but for those that are still to be looked at
pub record AreFlippedBut (start words : List ℕ) (numbers i rest : ℕ) : Type 0 where
  pub size : length words ≡ length start
  pub part : IsPart rest numbers
  pub flipped : (p : ℕ) → has_bit numbers p ≡ true → has_bit rest p ≡ false → has_bit (get_or words p 0) i ≡ not (has_bit (get_or start p 0) i)
  pub left : (p : ℕ) → has_bit rest p ≡ true → get_or words p 0 ≡ get_or start p 0
  pub kept : (p : ℕ) → has_bit numbers p ≡ false → get_or words p 0 ≡ get_or start p 0
  pub others : (p k : ℕ) → (k ≡ i → ⊥) → has_bit (get_or words p 0) k ≡ has_bit (get_or start p 0) k

pub flipped_start : (start : List ℕ) (numbers i : ℕ) → AreFlippedBut start start numbers i numbers
flipped_start start numbers i = record {
  size = refl;
  part = λ k set. set;
  flipped = λ p set out. absurd (false≢true (sym out ∙ set));
  left = λ p set. refl;
  kept = λ p out. refl;
  others = λ p k away. refl;
}

pub flipped_next : (start words : List ℕ) (numbers i rest rest' p v : ℕ) → p < length words → AreFlippedBut start words numbers i rest → has_bit rest p ≡ true →
    has_bit rest' p ≡ false → ((k : ℕ) → (k ≡ p → ⊥) → has_bit rest' k ≡ has_bit rest k) → has_bit v i ≡ not (has_bit (get_or words p 0) i) →
    ((k : ℕ) → (k ≡ i → ⊥) → has_bit v k ≡ has_bit (get_or words p 0) k) → AreFlippedBut start (set words p v) numbers i rest'
flipped_next start words numbers i rest rest' p v inside was mine gone others here same = record {
  size = length-set words p v ∙ was.size;
  part = part_less rest rest' p gone others numbers was.part;
  flipped = λ q has out. elim (cases_eq q p) [
    | inl at ↦ subst (λ (n : ℕ). has_bit (get_or (set words p v) n 0) i ≡ not (has_bit (get_or start n 0) i)) (sym at)
        (ap (λ w. has_bit w i) (get_or-set_same words p v 0 inside) ∙ here ∙ ap (λ w. not (has_bit w i)) (was.left p mine))
    | inr away ↦ ap (λ w. has_bit w i) (get_or-set_other words p q v 0 away) ∙ was.flipped q has (sym (others q away) ∙ out)
  ];
  left = λ q has. elim (cases_eq q p) [
    | inl at ↦ absurd (false≢true (sym gone ∙ sym (ap (has_bit rest') at) ∙ has))
    | inr away ↦ get_or-set_other words p q v 0 away ∙ was.left q (sym (others q away) ∙ has)
  ];
  kept = λ q out. get_or-set_other words p q v 0 (λ at. false≢true (sym out ∙ ap (has_bit numbers) at ∙ was.part p mine)) ∙ was.kept q out;
  others = λ q k away. elim (cases_eq q p) [
    | inl at ↦ subst (λ (n : ℕ). has_bit (get_or (set words p v) n 0) k ≡ has_bit (get_or start n 0) k) (sym at)
        (ap (λ w. has_bit w k) (get_or-set_same words p v 0 inside) ∙ same k away ∙ was.others p k away)
    | inr apart ↦ ap (λ w. has_bit w k) (get_or-set_other words p q v 0 apart) ∙ was.others q k away
  ];
}

-- a bit that is flipped exactly where a literal is in one of two labels alone
flipped_to : (x y o n d : Bool) → x ≡ o → d ≡ cond x (not y) y → (d ≡ true → n ≡ not o) → (d ≡ false → n ≡ o) → n ≡ y
flipped_to true true o n d is differ flip keep = keep differ ∙ sym is
flipped_to true false o n d is differ flip keep = flip differ ∙ ap not (sym is)
flipped_to false true o n d is differ flip keep = flip differ ∙ ap not (sym is)
flipped_to false false o n d is differ flip keep = keep differ ∙ sym is

one_of : (x y d : Bool) → d ≡ cond x (not y) y → d ≡ true → (x ≡ true) ⊎ (y ≡ true)
one_of true y d differ set = inl refl
one_of false y d differ set = inr (sym differ ∙ set)

same_literals : (a b c d : Bool) → mark_of a b ≡ mark_of c d → (a ≡ c) × (b ≡ d)
same_literals a b c d same = (grind arith, grind arith)

-- exactly the bits are left that each word of the numbers has so, but for the numbers that are still to be looked at
module _ (words : List ℕ) (numbers front : ℕ) (v : Bool) where
  pub record IsLeftBut (rest left : ℕ) : Type 0 where
    pub part : IsPart rest numbers
    pub bits : (i : ℕ) → (has_bit left i ≡ true ↔ ((has_bit front i ≡ true)
        × ((p : ℕ) → has_bit rest p ≡ false → has_bit numbers p ≡ true → has_bit (get_or words p 0) i ≡ v)))

  abbrev pub IsLeft : ℕ → Type 0
  IsLeft left = (i : ℕ) → (has_bit left i ≡ true ↔ ((has_bit front i ≡ true) × ((p : ℕ) → has_bit numbers p ≡ true → has_bit (get_or words p 0) i ≡ v)))

  pub left_start : IsLeftBut numbers front
  left_start = record {
    part = λ k set. set;
    bits = λ i. (λ set. (set, λ p out in'. absurd (false≢true (sym out ∙ in'))), λ both. both.0);
  }

  pub left_next : (rest rest' p left left' : ℕ) → has_bit rest p ≡ true → has_bit rest' p ≡ false → ((k : ℕ) → (k ≡ p → ⊥) → has_bit rest' k ≡ has_bit rest k) →
      IsLeftBut rest left → ((i : ℕ) → (has_bit left' i ≡ true ↔ ((has_bit left i ≡ true) × (has_bit (get_or words p 0) i ≡ v)))) → IsLeftBut rest' left'
  left_next rest rest' p left left' mine gone others was step = record {
    part = part_less rest rest' p gone others numbers was.part;
    bits = λ i. (
      λ set.
          let both = (step i).0 set in
          let old = (was.bits i).0 both.0 in (
            old.0,
            λ q out in'. elim (cases_eq q p) [
              | inl same ↦ subst (λ (k : ℕ). has_bit (get_or words k 0) i ≡ v) (sym same) both.1
              | inr other ↦ old.1 q (sym (others q other) ∙ out) in'
            ],
          ),
      λ both. (step i).1 (
        (was.bits i).1 (both.0, λ q out in'. both.1 q (others q (λ same. false≢true (sym out ∙ ap (has_bit rest) same ∙ mine)) ∙ out) in'),
        both.1 p gone (was.part p mine),
      ),
    );
  }

  pub left_end : (rest left : ℕ) → ((p : ℕ) → 0 ≤ p → has_bit rest p ≡ false) → IsLeftBut rest left → IsLeft left
  left_end rest left clear was i = (
    λ set. (((was.bits i).0 set).0, λ p in'. ((was.bits i).0 set).1 p (clear p (omega arith)) in'),
    λ both. (was.bits i).1 (both.0, λ p out in'. both.1 p in'),
  )

both_bits : (a b : Bool) → ((a && b) ≡ true) ↔ ((a ≡ true) × (b ≡ true))
both_bits true b = (λ e. (refl, e), λ both. both.1)
both_bits false b = (λ e. absurd (false≢true e), λ both. absurd (false≢true both.0))

one_bit : (a b : Bool) → ((a && not b) ≡ true) ↔ ((a ≡ true) × (b ≡ false))
one_bit true true = (λ e. absurd (false≢true e), λ both. absurd (false≢true (sym both.1)))
one_bit true false = (λ e. (refl, refl), λ both. refl)
one_bit false b = (λ e. absurd (false≢true e), λ both. absurd (false≢true both.0))

pub and_bits : (left word left' : ℕ) → left' ≡ bit_and left word → (i : ℕ) → (has_bit left' i ≡ true ↔ ((has_bit left i ≡ true) × (has_bit word i ≡ true)))
and_bits left word left' is i = subst (λ (w : ℕ). has_bit w i ≡ true ↔ ((has_bit left i ≡ true) × (has_bit word i ≡ true))) (sym is)
    (subst (λ (t : Bool). t ≡ true ↔ ((has_bit left i ≡ true) × (has_bit word i ≡ true))) (sym (has_bit_and left word i)) (both_bits (has_bit left i) (has_bit word i)))

both_clear : (a b : Bool) → ((a || b) ≡ false) ↔ ((a ≡ false) × (b ≡ false))
both_clear true b = (λ e. absurd (false≢true (sym e)), λ both. absurd (false≢true (sym both.0)))
both_clear false b = (λ e. (refl, e), λ both. both.1)

-- exactly the bits are set that some word of the numbers has, but for the numbers that are still to be looked at
module _ (words : List ℕ) (numbers : ℕ) where
  pub record IsAnyBut (rest any : ℕ) : Type 0 where
    pub part : IsPart rest numbers
    pub bits : (i : ℕ) → (has_bit any i ≡ false ↔ ((p : ℕ) → has_bit rest p ≡ false → has_bit numbers p ≡ true → has_bit (get_or words p 0) i ≡ false))

  pub any_start : IsAnyBut numbers 0
  any_start = record {
    part = λ k set. set;
    bits = λ i. (λ clear p out in'. absurd (false≢true (sym out ∙ in')), λ none. has_bit-zero i);
  }

  pub any_next : (rest rest' p any : ℕ) → has_bit rest p ≡ true → has_bit rest' p ≡ false → ((k : ℕ) → (k ≡ p → ⊥) → has_bit rest' k ≡ has_bit rest k) →
      IsAnyBut rest any → IsAnyBut rest' (bit_or any (get_or words p 0))
  any_next rest rest' p any mine gone others was = record {
    part = part_less rest rest' p gone others numbers was.part;
    bits = λ i. (
      λ clear.
          let both = (both_clear (has_bit any i) (has_bit (get_or words p 0) i)).0 (sym (has_bit_or any (get_or words p 0) i) ∙ clear) in
          λ q out in'. elim (cases_eq q p) [
            | inl same ↦ subst (λ (k : ℕ). has_bit (get_or words k 0) i ≡ false) (sym same) both.1
            | inr other ↦ (was.bits i).0 both.0 q (sym (others q other) ∙ out) in'
          ],
      λ none. has_bit_or any (get_or words p 0) i ∙ (both_clear (has_bit any i) (has_bit (get_or words p 0) i)).1 (
        (was.bits i).1 (λ q out in'. none q (others q (λ same. false≢true (sym out ∙ ap (has_bit rest) same ∙ mine)) ∙ out) in'),
        none p gone (was.part p mine),
      ),
    );
  }

  pub any_end : (rest any front word : ℕ) → ((p : ℕ) → 0 ≤ p → has_bit rest p ≡ false) → IsAnyBut rest any →
      ((i : ℕ) → has_bit word i ≡ (has_bit front i && not (has_bit any i))) → (i : ℕ) → (has_bit word i ≡ true ↔ ((has_bit front i ≡ true) × IsInNone words numbers i))
  any_end rest any front word clear was is i = (
    λ set.
        let parts = (one_bit (has_bit front i) (has_bit any i)).0 (sym (is i) ∙ set) in
        (parts.0, λ p in'. (was.bits i).0 parts.1 p (clear p (omega arith)) in'),
    λ both. is i ∙ (one_bit (has_bit front i) (has_bit any i)).1 (both.0, (was.bits i).1 (λ p out in'. both.1 p in')),
  )

-- a mark is within another if each of its literals is one of the other's
pub literals_within : (a b c d : Bool) → (a ≡ true → c ≡ true) → (b ≡ true → d ≡ true) → IsMarkWithin (mark_of a b) (mark_of c d)
literals_within false false c d y n = tt
literals_within true false c d y n = rw (y refl) (only_yes d)
  where
    only_yes : (d : Bool) → IsMarkWithin (mark_of true false) (mark_of true d)
    only_yes true = tt
    only_yes false = tt
literals_within false true c d y n = rw (n refl) (only_no c)
  where
    only_no : (c : Bool) → IsMarkWithin (mark_of false true) (mark_of c true)
    only_no true = tt
    only_no false = tt
literals_within true true c d y n = rw (y refl, n refl) tt

pub positive_within : (a b c d : Bool) → IsMarkWithin (mark_of a b) (mark_of c d) → a ≡ true → c ≡ true
positive_within a b c d within set = grind arith

pub negative_within : (a b c d : Bool) → IsMarkWithin (mark_of a b) (mark_of c d) → b ≡ true → d ≡ true
negative_within a b c d within set = grind arith

-- the numbers of the literals of a label are below 52
pub literal_below : (label : TheLabel) (positive negative p : ℕ) → MarksEnd → AreLiterals label positive negative → ((has_bit positive p ≡ true) ⊎ (has_bit negative p ≡ true)) → p < 52
literal_below label positive negative p end are set = elim (cases_lt p 52) [
  | inl below ↦ below
  | inr above ↦ absurd (never (has_bit positive p) (has_bit negative p) (are p ∙ end label p above) set)
]
  where
    never : (a b : Bool) → mark_of a b ≡ Absent → (a ≡ true) ⊎ (b ≡ true) → ⊥
    never a b none one = grind arith

-- a number whose bit is set in one of the words of a label alone, and in none of those of another
pub only_of_one : (one other : TheLabel) (y n y' n' p : ℕ) → MarksEnd → AreLiterals one y n → AreLiterals other y' n' →
    (has_bit (bit_or y n) p && not (has_bit (bit_or y' n') p)) ≡ true → (p < 52) × (marks other p ≡ Absent)
only_of_one one other y n y' n' p end of_one of_other set = (
  literal_below one y n p end of_one (either (has_bit y p) (has_bit n p) (sym (has_bit_or y n p) ∙ parts.0)),
  sym (of_other p) ∙ neither (has_bit y' p) (has_bit n' p) (sym (has_bit_or y' n' p) ∙ parts.1),
)
  where
    parts : (has_bit (bit_or y n) p ≡ true) × (has_bit (bit_or y' n') p ≡ false)
    parts = (one_bit (has_bit (bit_or y n) p) (has_bit (bit_or y' n') p)).0 set

    either : (a b : Bool) → (a || b) ≡ true → (a ≡ true) ⊎ (b ≡ true)
    either true b e = inl refl
    either false b e = inr e

    neither : (a b : Bool) → (a || b) ≡ false → mark_of a b ≡ Absent
    neither a b e = grind arith

-- a label is put in the place of another
module _ (before after : TheLabel) (y n y' n' dy dn : ℕ) (of_before : AreLiterals before y n) (of_after : AreLiterals after y' n')
    (dy_is : (p : ℕ) → has_bit dy p ≡ cond (has_bit y p) (not (has_bit y' p)) (has_bit y' p))
    (dn_is : (p : ℕ) → has_bit dn p ≡ cond (has_bit n p) (not (has_bit n' p)) (has_bit n' p)) where
  pub positive_below : MarksEnd → (p : ℕ) → has_bit dy p ≡ true → p < 52
  positive_below end p set = elim (one_of (has_bit y p) (has_bit y' p) (has_bit dy p) (dy_is p) set) [
    | inl first ↦ literal_below before y n p end of_before (inl first)
    | inr second ↦ literal_below after y' n' p end of_after (inl second)
  ]

  pub negative_below : MarksEnd → (p : ℕ) → has_bit dn p ≡ true → p < 52
  negative_below end p set = elim (one_of (has_bit n p) (has_bit n' p) (has_bit dn p) (dn_is p) set) [
    | inl first ↦ literal_below before y n p end of_before (inr first)
    | inr second ↦ literal_below after y' n' p end of_after (inr second)
  ]

  pub mark_replaced : (p : ℕ) (o_y o_n n_y n_n : Bool) → mark_of o_y o_n ≡ marks before p → (has_bit dy p ≡ true → n_y ≡ not o_y) → (has_bit dy p ≡ false → n_y ≡ o_y) →
      (has_bit dn p ≡ true → n_n ≡ not o_n) → (has_bit dn p ≡ false → n_n ≡ o_n) → mark_of n_y n_n ≡ marks after p
  mark_replaced p o_y o_n n_y n_n is flip_y keep_y flip_n keep_n =
      let same : mark_of (has_bit y p) (has_bit n p) ≡ mark_of o_y o_n = of_before p ∙ sym is in
      rw (
        flipped_to (has_bit y p) (has_bit y' p) o_y n_y (has_bit dy p) (same_literals (has_bit y p) (has_bit n p) o_y o_n same).0 (dy_is p) flip_y keep_y,
        flipped_to (has_bit n p) (has_bit n' p) o_n n_n (has_bit dn p) (same_literals (has_bit y p) (has_bit n p) o_y o_n same).1 (dn_is p) flip_n keep_n,
      ) (of_after p)

-- a label is within another if it has no literal that the label of all has and the other hasn't
module _ (sheet : Marks) (used label : TheLabel) (used_positive used_negative positive negative : ℕ) (of_used : AreLiterals used used_positive used_negative)
    (of_label : AreLiterals label positive negative) (i : ℕ) (inside : IsInsideLabel sheet i (marks used)) where
  pub inside_from_none : (outside_positive outside_negative : ℕ) → ((p : ℕ) → has_bit outside_positive p ≡ (has_bit used_positive p && not (has_bit positive p))) →
      ((p : ℕ) → has_bit outside_negative p ≡ (has_bit used_negative p && not (has_bit negative p))) →
      IsInNone sheet.positive outside_positive i → IsInNone sheet.negative outside_negative i → IsInsideLabel sheet i (marks label)
  inside_from_none outside_positive outside_negative p_is n_is none_positive none_negative p small =
      let within = subst (λ (m : Mark). IsMarkWithin (mark_in sheet p i) m) (sym (of_used p)) (inside p small) in
      subst (λ (m : Mark). IsMarkWithin (mark_in sheet p i) m) (of_label p) (literals_within (bit sheet.positive p) (bit sheet.negative p) (has_bit positive p) (has_bit negative p)
      (λ set. has (bit sheet.positive p) (has_bit used_positive p) (has_bit positive p) (has_bit outside_positive p) (p_is p) set
      (positive_within (bit sheet.positive p) (bit sheet.negative p) (has_bit used_positive p) (has_bit used_negative p) within set) (none_positive p))
      (λ set. has (bit sheet.negative p) (has_bit used_negative p) (has_bit negative p) (has_bit outside_negative p) (n_is p) set
      (negative_within (bit sheet.positive p) (bit sheet.negative p) (has_bit used_positive p) (has_bit used_negative p) within set) (none_negative p)))
    where
      bit : List ℕ → ℕ → Bool
      bit words q = has_bit (get_or words q 0) i

      has : (a u l o : Bool) → o ≡ (u && not l) → a ≡ true → u ≡ true → (o ≡ true → a ≡ false) → l ≡ true
      has a u l o is set of none = grind arith

  pub none_from_inside : (outside_positive outside_negative : ℕ) → ((p : ℕ) → has_bit outside_positive p ≡ (has_bit used_positive p && not (has_bit positive p))) →
      ((p : ℕ) → has_bit outside_negative p ≡ (has_bit used_negative p && not (has_bit negative p))) → MarksEnd → IsInsideLabel sheet i (marks label) →
      IsInNone sheet.positive outside_positive i × IsInNone sheet.negative outside_negative i
  none_from_inside outside_positive outside_negative p_is n_is end within = (
    λ p set.
        let parts = (one_bit (has_bit used_positive p) (has_bit positive p)).0 (sym (p_is p) ∙ set) in
        let here = subst (λ (m : Mark). IsMarkWithin (mark_in sheet p i) m) (sym (of_label p)) (within p (literal_below used used_positive used_negative p end of_used (inl parts.0))) in
        false_from_ne_true (has_bit (get_or sheet.positive p 0) i) (λ mine. false≢true (sym parts.1 ∙ positive_within (has_bit (get_or sheet.positive p 0) i) (has_bit (get_or sheet.negative p 0) i) (has_bit positive p) (has_bit negative p) here mine)),
    λ p set.
        let parts = (one_bit (has_bit used_negative p) (has_bit negative p)).0 (sym (n_is p) ∙ set) in
        let here = subst (λ (m : Mark). IsMarkWithin (mark_in sheet p i) m) (sym (of_label p)) (within p (literal_below used used_positive used_negative p end of_used (inr parts.0))) in
        false_from_ne_true (has_bit (get_or sheet.negative p 0) i) (λ mine. false≢true (sym parts.1 ∙ negative_within (has_bit (get_or sheet.positive p 0) i) (has_bit (get_or sheet.negative p 0) i) (has_bit positive p) (has_bit negative p) here mine)),
  )

-- a label is above another if it has all its literals
module _ (sheet : Marks) (label : TheLabel) (positive negative : ℕ) (of_label : AreLiterals label positive negative) (i : ℕ) where
  pub outside_from_all : IsInAll sheet.positive positive i → IsInAll sheet.negative negative i → IsOutside sheet i (marks label)
  outside_from_all all_positive all_negative p small = subst (λ (m : Mark). IsMarkWithin m (mark_in sheet p i)) (of_label p)
      (literals_within (has_bit positive p) (has_bit negative p) (has_bit (get_or sheet.positive p 0) i) (has_bit (get_or sheet.negative p 0) i) (all_positive p) (all_negative p))

  pub all_from_outside : MarksEnd → IsOutside sheet i (marks label) → IsInAll sheet.positive positive i × IsInAll sheet.negative negative i
  all_from_outside end outside = (
    λ p set. positive_within (has_bit positive p) (has_bit negative p) (has_bit (get_or sheet.positive p 0) i) (has_bit (get_or sheet.negative p 0) i)
        (subst (λ (m : Mark). IsMarkWithin m (mark_in sheet p i)) (sym (of_label p)) (outside p (literal_below label positive negative p end of_label (inl set)))) set,
    λ p set. negative_within (has_bit positive p) (has_bit negative p) (has_bit (get_or sheet.positive p 0) i) (has_bit (get_or sheet.negative p 0) i)
        (subst (λ (m : Mark). IsMarkWithin m (mark_in sheet p i)) (sym (of_label p)) (outside p (literal_below label positive negative p end of_label (inr set)))) set,
  )

zero_word : (p : ℕ) → get_or (replicate 52 zero) p zero ≡ zero
zero_word p = elim (cases_lt p 52) [
  | inl low ↦ get_or-replicate 52 p 0 0 low
  | inr past ↦ get_or_past (replicate 52 0) p 0 (omega (arith, past, length-replicate 52 zero))
]

pub nothing_marked : (p i : ℕ) → mark_in (sheet_of (replicate 52 0) (replicate 52 0)) p i ≡ Absent
nothing_marked p i = rw (zero_word p, has_bit-zero i) refl

pub either_marked : (a b : Bool) → (a || b) ≡ is_marked (mark_of a b)
either_marked a b = grind arith
