-- Records with the marks of their labels side by side.
use Rattle.std.proofs.Common.{ℕ, zero, suc, ◌≡◌, ◌≢◌, inl, inr, ◌-◌, ◌<◌, ◌≤◌, true, ltb, List, [], ◌∷◌, ◌++◌, length, get_or, set, take, refl, sym, ap, subst, arith, ◌∙◌, length-append}
use Rattle.std.specs.Prelude.{Option, None, Some, slice_get, ◌↔◌}
use Rattle.std.specs.List.{swap_remove}
use Rattle.std.proofs.lemmas.Bool.{cases_eq, cases_lt, false≢true, ltb-true, lt-ltb}
use Rattle.std.proofs.lemmas.List.{length-take, length-set}
use Rattle.std.proofs.lemmas.Option.{none-some, same_Some, slice_get_past, slice_get_within, slice_get-get_or}
use Rattle.cstn_label.specs.declared.marks.Mark.{Mark}
use Rattle.cstn_label.specs.declared.marks.Mark.TheVariants.{Absent}
use Rattle.cstn_label.specs.declared.labels.Label.{Label}
use Rattle.cstn_label.specs.Labels.{IsMarked, IsMarkWithin, IsWithin}
use Rattle.cstn_label.specs.Marks.{is_marked}
use Rattle.cstn_label.specs.Words.{has_bit}
use Rattle.cstn_label.specs.Read.{marks}
use Rattle.cstn_label.proofs.MarkLemmas.{absent_within, marked_true, true_marked}
use Rattle.cstn_label.proofs.LabelLemmas.{within_through}
use Rattle.cstn_label.proofs.WordLemmas.{has_bit-zero}
use Rattle.cstn_minset.specs.declared.columns.Record.{Record}
use Rattle.cstn_minset.specs.Sheets.{Marks, mark_in, IsInsideLabel, IsOutside}
use Rattle.cstn_minset.specs.Columns.{AreColumns, AreThose, mark_on}
use Rattle.cstn_minset.proofs.BoundLemmas.{MarksEnd}
use Rattle.cstn_minset.proofs.HeldLemmas.{got_set, got_other}
use Rattle.cstn_minset.proofs.RowLemmas.{got}

module _ {X : Type 0} where
  pushed_here : (xs : List X) (x : X) → slice_get (xs ++ x ∷ []) (length xs) ≡ Some x
  pushed_here [] x = refl
  pushed_here (y ∷ xs) x = pushed_here xs x

  pushed_other : (xs : List X) (x : X) (i : ℕ) → i ≢ length xs → slice_get (xs ++ x ∷ []) i ≡ slice_get xs i
  pushed_other [] x zero other = absurd (other refl)
  pushed_other [] x (suc i) other = refl
  pushed_other (y ∷ xs) x zero other = refl
  pushed_other (y ∷ xs) x (suc i) other = pushed_other xs x i (λ same. other (ap suc same))

  taken_front : (xs : List X) (n k : ℕ) → k < n → slice_get (take n xs) k ≡ slice_get xs k
  taken_front [] zero k here = refl
  taken_front [] (suc n) k here = refl
  taken_front (y ∷ xs) zero k here = absurd (omega (arith, here))
  taken_front (y ∷ xs) (suc n) zero here = refl
  taken_front (y ∷ xs) (suc n) (suc k) here = taken_front xs n k (omega (arith, here))

  -- where an element is taken out and the last takes its place
  module _ (xs : List X) (i : ℕ) (x : X) (inside : i < length xs) where
    swapped_other : (k : ℕ) → k < length xs - 1 → k ≢ i → slice_get (swap_remove xs i x) k ≡ slice_get xs k
    swapped_other k front other =
        taken_front (set xs i (get_or xs (length xs - 1) x)) (length xs - 1) k front ∙ got_other xs i k (get_or xs (length xs - 1) x) (λ same. other (sym same))

    swapped_here : i < length xs - 1 → slice_get (swap_remove xs i x) i ≡ slice_get xs (length xs - 1)
    swapped_here front =
        taken_front (set xs i (get_or xs (length xs - 1) x)) (length xs - 1) i front
        ∙ got_set xs i (get_or xs (length xs - 1) x) (get_or xs i x) (slice_get-get_or xs i x inside)
        ∙ sym (slice_get-get_or xs (length xs - 1) x (omega (arith, inside)))

    swapped_past : (k : ℕ) → length xs - 1 ≤ k → slice_get (swap_remove xs i x) k ≡ None
    swapped_past k past = slice_get_past (swap_remove xs i x) k
        (omega (arith, past, length-take (length xs - 1) (set xs i (get_or xs (length xs - 1) x)), length-set xs i (get_or xs (length xs - 1) x)))

    -- what is left was there
    swapped_from : (k : ℕ) (y : X) → slice_get (swap_remove xs i x) k ≡ Some y → (j : ℕ) × (slice_get xs j ≡ Some y)
    swapped_from k y is = elim (cases_lt k (length xs - 1)) [
      | inr past ↦ absurd (none-some y (sym (swapped_past k past) ∙ is))
      | inl front ↦ elim (cases_eq k i) [
        | inl same ↦ (length xs - 1, sym (swapped_here (omega (arith, same, front))) ∙ rw same at is)
        | inr other ↦ (k, sym (swapped_other k front other) ∙ is)
      ]
    ]

-- a record is added
pub columns_pushed : (records : List Record) (sheet sheet' : Marks) (used used' : Label) (r : Record) → AreColumns records sheet used → length records < 64 →
    ((p : ℕ) → p < 52 → mark_in sheet' p (length records) ≡ marks r.label p) →
    ((p k : ℕ) → (k ≡ length records → ⊥) → mark_in sheet' p k ≡ mark_in sheet p k) →
    IsWithin (marks used) (marks used') → IsWithin (marks r.label) (marks used') →
    AreColumns (records ++ r ∷ []) sheet' used'
columns_pushed records sheet sheet' used used' r is room new others wider mine = record {
  few = omega (arith, room, length-append records (r ∷ []));
  told = λ p i small. elim (cases_eq i (length records)) [
    | inl same ↦ subst (λ (j : ℕ). mark_in sheet' p j ≡ mark_on (slice_get (records ++ r ∷ []) j) p) (sym same)
        (new p small ∙ ap (λ o. mark_on o p) (sym (pushed_here records r)))
    | inr other ↦ others p i other ∙ is.told p i small ∙ ap (λ o. mark_on o p) (sym (pushed_other records r i other))
  ];
  within = λ i s at. elim (cases_eq i (length records)) [
    | inl same ↦ subst (λ (x : Record). IsWithin (marks x.label) (marks used')) (same_Some r s (sym (pushed_here records r) ∙ rw same at at)) mine
    | inr other ↦ within_through _ _ _ (is.within i s (sym (pushed_other records r i other) ∙ at)) wider
  ];
}

-- a record is taken out
pub columns_taken : (records : List Record) (sheet between sheet' : Marks) (used : Label) (i : ℕ) (x last : Record) → AreColumns records sheet used → i < length records →
    slice_get records (length records - 1) ≡ Some last →
    ((p : ℕ) → p < 52 → mark_in between p i ≡ marks last.label p) →
    ((p k : ℕ) → (k ≡ i → ⊥) → mark_in between p k ≡ mark_in sheet p k) →
    ((p : ℕ) → p < 52 → mark_in sheet' p (length records - 1) ≡ Absent) →
    ((p k : ℕ) → (k ≡ length records - 1 → ⊥) → mark_in sheet' p k ≡ mark_in between p k) → AreColumns (swap_remove records i x) sheet' used
columns_taken records sheet between sheet' used i x last is inside at here others gone kept = record {
  few = omega (arith, is.few, length-take (length records - 1) (set records i (get_or records (length records - 1) x)), length-set records i (get_or records (length records - 1) x));
  told = told;
  within = λ k s there. (let from = swapped_from records i x inside k s there in is.within from.0 s from.1);
}
  where
    told : (p k : ℕ) → p < 52 → mark_in sheet' p k ≡ mark_on (slice_get (swap_remove records i x) k) p
    told p k small = elim (cases_eq k (length records - 1)) [
      | inl end ↦ subst (λ (j : ℕ). mark_in sheet' p j ≡ mark_on (slice_get (swap_remove records i x) j) p) (sym end)
          (gone p small ∙ ap (λ o. mark_on o p) (sym (swapped_past records i x inside (length records - 1) (omega arith))))
      | inr not_end ↦ elim (cases_lt k (length records - 1)) [
        | inr past ↦ kept p k not_end ∙ others p k (λ same. omega (arith, same, past, not_end, inside)) ∙ is.told p k small
            ∙ ap (λ o. mark_on o p) (slice_get_past records k (omega (arith, past, not_end)) ∙ sym (swapped_past records i x inside k past))
        | inl front ↦ elim (cases_eq k i) [
          | inl same ↦ subst (λ (j : ℕ). mark_in sheet' p j ≡ mark_on (slice_get (swap_remove records i x) j) p) (sym same)
              (kept p i (λ end. not_end (same ∙ end)) ∙ here p small ∙ ap (λ o. mark_on o p) (sym (swapped_here records i x inside (omega (arith, same, front)) ∙ at)))
          | inr other ↦ kept p k not_end ∙ others p k other ∙ is.told p k small ∙ ap (λ o. mark_on o p) (sym (swapped_other records i x inside k front other))
        ]
      ]
    ]

-- a column has the marks of its record
pub inside_record : (records : List Record) (sheet : Marks) (used label : Label) (i : ℕ) (r : Record) → MarksEnd → AreColumns records sheet used →
    slice_get records i ≡ Some r → (IsInsideLabel sheet i (marks label) ↔ IsWithin (marks r.label) (marks label))
inside_record records sheet used label i r end is at = (
  λ inside p. elim (cases_lt p 52) [
    | inl small ↦ subst (λ (m : Mark). IsMarkWithin m (marks label p)) (is.told p i small ∙ ap (λ o. mark_on o p) at) (inside p small)
    | inr above ↦ absent_within (marks r.label p) (marks label p) (end r.label p above)
  ],
  λ within p small. subst (λ (m : Mark). IsMarkWithin m (marks label p)) (sym (is.told p i small ∙ ap (λ o. mark_on o p) at)) (within p),
)

pub outside_record : (records : List Record) (sheet : Marks) (used label : Label) (i : ℕ) (r : Record) → MarksEnd → AreColumns records sheet used →
    slice_get records i ≡ Some r → (IsOutside sheet i (marks label) ↔ IsWithin (marks label) (marks r.label))
outside_record records sheet used label i r end is at = (
  λ outside p. elim (cases_lt p 52) [
    | inl small ↦ subst (λ (m : Mark). IsMarkWithin (marks label p) m) (is.told p i small ∙ ap (λ o. mark_on o p) at) (outside p small)
    | inr above ↦ absent_within (marks label p) (marks r.label p) (end label p above)
  ],
  λ within p small. subst (λ (m : Mark). IsMarkWithin (marks label p) m) (sym (is.told p i small ∙ ap (λ o. mark_on o p) at)) (within p),
)

-- each column is within the label that the labels of all records are within
pub columns_inside : (records : List Record) (sheet : Marks) (used : Label) → AreColumns records sheet used → (i : ℕ) → IsInsideLabel sheet i (marks used)
columns_inside records sheet used is i p small = go (slice_get records i) refl
  where
    go : (o : Option Record) → slice_get records i ≡ o → IsMarkWithin (mark_in sheet p i) (marks used p)
    go None none = absent_within (mark_in sheet p i) (marks used p) (is.told p i small ∙ ap (λ o. mark_on o p) none)
    go (Some r) at = subst (λ (m : Mark). IsMarkWithin m (marks used p)) (sym (is.told p i small ∙ ap (λ o. mark_on o p) at)) (is.within i r at p)

-- ---- the words that are answered

pub those_within : (records : List Record) (sheet : Marks) (used label : Label) (front word : ℕ) → MarksEnd → AreColumns records sheet used →
    ((i : ℕ) → has_bit front i ≡ ltb i (length records)) → ((i : ℕ) → (has_bit word i ≡ true ↔ ((has_bit front i ≡ true) × IsInsideLabel sheet i (marks label)))) →
    AreThose (λ r. IsWithin (marks r.label) (marks label)) records word
those_within records sheet used label front word end is first bits i = (
  λ set.
      let parts = (bits i).0 set in
      let r = got records i (ltb-true i (length records) (sym (first i) ∙ parts.0)) in
      (r.0, r.1, (inside_record records sheet used label i r.0 end is r.1).0 parts.1),
  λ there.
      let within = slice_get_within records i there.0 there.1 in
      (bits i).1 (first i ∙ lt-ltb i (length records) within, (inside_record records sheet used label i there.0 end is there.1).1 there.2),
)

pub those_above : (records : List Record) (sheet : Marks) (used label : Label) (front word : ℕ) → MarksEnd → AreColumns records sheet used →
    ((i : ℕ) → has_bit front i ≡ ltb i (length records)) → ((i : ℕ) → (has_bit word i ≡ true ↔ ((has_bit front i ≡ true) × IsOutside sheet i (marks label)))) →
    AreThose (λ r. IsWithin (marks label) (marks r.label)) records word
those_above records sheet used label front word end is first bits i = (
  λ set.
      let parts = (bits i).0 set in
      let r = got records i (ltb-true i (length records) (sym (first i) ∙ parts.0)) in
      (r.0, r.1, (outside_record records sheet used label i r.0 end is r.1).0 parts.1),
  λ there.
      let within = slice_get_within records i there.0 there.1 in
      (bits i).1 (first i ∙ lt-ltb i (length records) within, (outside_record records sheet used label i there.0 end is there.1).1 there.2),
)

-- no record's label has a label within it that isn't within the label of all
pub none_above : (records : List Record) (sheet : Marks) (used label : Label) → AreColumns records sheet used → ¬ IsWithin (marks label) (marks used) →
    AreThose (λ r. IsWithin (marks label) (marks r.label)) records 0
none_above records sheet used label is not i = (
  λ set. absurd (false≢true (sym (has_bit-zero i) ∙ set)),
  λ there. absurd (not (within_through (marks label) (marks there.0.label) (marks used) there.2 (is.within i there.0 there.1))),
)

pub those_marking : (records : List Record) (sheet : Marks) (used : Label) (p word : ℕ) → p < 52 → AreColumns records sheet used →
    ((i : ℕ) → has_bit word i ≡ is_marked (mark_in sheet p i)) → AreThose (λ r. IsMarked (marks r.label) p) records word
those_marking records sheet used p word small is bits i = (λ set. found (slice_get records i) refl set, λ there. bit ∙ ap (λ o. is_marked (mark_on o p)) there.1 ∙ marked_true (marks there.0.label p) there.2)
  where
    bit : has_bit word i ≡ is_marked (mark_on (slice_get records i) p)
    bit = bits i ∙ ap is_marked (is.told p i small)

    found : (o : Option Record) → slice_get records i ≡ o → has_bit word i ≡ true → (r : Record) × (slice_get records i ≡ Some r) × IsMarked (marks r.label) p
    found None none set = absurd (false≢true (sym (bit ∙ ap (λ o. is_marked (mark_on o p)) none) ∙ set))
    found (Some r) at set = (r, at, true_marked (marks r.label p) (sym (bit ∙ ap (λ o. is_marked (mark_on o p)) at) ∙ set))

pub those_all : (records : List Record) (word : ℕ) → ((i : ℕ) → has_bit word i ≡ ltb i (length records)) → AreThose (λ r. Unit {0}) records word
those_all records word first i = (
  λ set. let r = got records i (ltb-true i (length records) (sym (first i) ∙ set)) in (r.0, r.1, tt),
  λ there. first i ∙ lt-ltb i (length records) (slice_get_within records i there.0 there.1),
)
