-- A row of records, gathered page by page.
use Rattle.std.proofs.Common.{◌≡◌, inl, inr, ◌⊎◌, ℕ, zero, suc, ◌+◌, ◌<◌, ◌≤◌, ◌++◌, List, [], ◌∷◌, length, take, get_or, true, false, refl, ap, sym, ◌∙◌, subst, arith, length-append, append-nil, append_assoc}
use Rattle.std.specs.Prelude.{ℤ, ◌<ℤ◌, ◌≤ℤ◌, Option, None, Some, IfSome, All, slice_get}
use Rattle.std.specs.List.{Contains}
use Rattle.std.proofs.lemmas.Bool.{cases_eq, cases_lt, false≢true}
use Rattle.std.proofs.lemmas.Int.{ints}
use Rattle.std.proofs.lemmas.List.Elements.{All-append, Contains-append_left, Contains-append_right, Contains-get_or}
use Rattle.std.proofs.lemmas.Option.{none-some, same_Some, slice_get_within}
use Rattle.cstn_label.specs.declared.props.Prop.{Prop}
use Rattle.cstn_label.specs.Labels.{IsMarked}
use Rattle.cstn_label.specs.Read.{marks}
use Rattle.cstn_label.specs.Words.{has_bit}
use Rattle.cstn_minset.specs.declared.columns.Record.{Record}
use Rattle.cstn_minset.specs.declared.page.Page.{Page}
use Rattle.cstn_minset.specs.Chains.{IsFirstKey}
use Rattle.cstn_minset.specs.Columns.{AreThose}
use Rattle.cstn_minset.specs.Pages.{Paged, IsPage, IsPageOf, on_page, held_records, numbered_pages, most_pages}
use Rattle.cstn_minset.specs.Sets.{IsRecordAbove, IsRecordAt, AreSlotsOf}
use Rattle.cstn_minset.proofs.BoundLemmas.{least_or_not}
use Rattle.cstn_minset.proofs.HeldLemmas.{page_size}
use Rattle.cstn_minset.proofs.HomeLemmas.{first_page, page_of_in, pages_are_numbers}
use Rattle.cstn_minset.proofs.RowLemmas.{at_all}

-- how many records the first n pages hold
abbrev pub held_before : List Page → ℕ → ℕ
held_before pages n = length (held_records (take n pages))

before_all : (pages : List Page) (n : ℕ) → held_before pages n ≤ length (held_records pages)
before_all [] zero = omega arith
before_all [] (suc n) = omega arith
before_all (p ∷ pages) zero = omega arith
before_all (p ∷ pages) (suc n) =
    let rest = before_all pages n in
    omega (arith, rest, length-append (on_page p) (held_records pages), length-append (on_page p) (held_records (take n pages)))

before_more : (pages : List Page) (m n : ℕ) → m ≤ n → held_before pages m ≤ held_before pages n
before_more pages zero n le = omega arith
before_more [] (suc m) n le = omega arith
before_more (p ∷ pages) (suc m) zero le = absurd (omega (arith, le))
before_more (p ∷ pages) (suc m) (suc n) le =
    let rest = before_more pages m n (omega (arith, le)) in
    omega (arith, rest, length-append (on_page p) (held_records (take m pages)), length-append (on_page p) (held_records (take n pages)))

before_next : (pages : List Page) (k : ℕ) (p : Page) → slice_get pages k ≡ Some p → held_before pages k + length p.records.items ≡ held_before pages (suc k)
before_next [] k p is = absurd (none-some p is)
before_next (x ∷ pages) zero p is = rw (same_Some x p is) (omega (arith, page_size p, length-append (on_page p) (held_records (take 0 pages))))
before_next (x ∷ pages) (suc k) p is =
    let rest = before_next pages k p is in
    omega (arith, rest, length-append (on_page x) (held_records (take k pages)), length-append (on_page x) (held_records (take (suc k) pages)))

-- the slot is that of a record of the row, or of the page, that is sought
abbrev pub IsSlotIn : List Page → ℕ → ℤ → Option Prop → ℕ → Type 0
IsSlotIn pages h floor marking s = (k i : ℕ) × (r : Record) × IsRecordAt pages h k i r × IsRecordAbove floor marking r × (r.slot ≡ s)

abbrev pub IsSlotOf : List Record → ℤ → Option Prop → ℕ → Type 0
IsSlotOf records floor marking s = (i : ℕ) × (r : Record) × (slice_get records i ≡ Some r) × IsRecordAbove floor marking r × (r.slot ≡ s)

-- the slots of what is sought on the pages before a place of the row are found, and no others
pub record IsGathered (rows : Paged) (h : ℕ) (floor : ℤ) (marking : Option Prop) (found : List ℕ) (place : Option ℕ) : Type 0 where
  pub low : ℕ
  pub here : IsFirstKey (numbered_pages rows) h low place
  pub all : (k i : ℕ) (r : Record) → k < low → IsRecordAt rows.pages h k i r → IsRecordAbove floor marking r → Contains found r.slot
  pub only : All (IsSlotIn rows.pages h floor marking) found
  pub few : length found ≤ held_before rows.pages low

all_none : {X : Type 0} (P : X → Type 0) → All P []
all_none P k d inside = absurd (omega (arith, inside))

pub all_mapped : {X : Type 0} (P Q : X → Type 0) (xs : List X) → ((x : X) → P x → Q x) → All P xs → All Q xs
all_mapped P Q xs f all k d inside = f (get_or xs k d) (all k d inside)

pub gathered_start : (rows : Paged) (h : ℕ) (floor : ℤ) (marking : Option Prop) (found : List ℕ) (place : Option ℕ) → found ≡ [] → IsFirstKey (numbered_pages rows) h 0 place →
    IsGathered rows h floor marking found place
gathered_start rows h floor marking found place none first = record {
  low = 0;
  here = first;
  all = λ k i r less at is. absurd (omega (arith, less));
  only = rw none (all_none (IsSlotIn rows.pages h floor marking));
  few = rw none (omega arith);
}

module _ (rows : Paged) (h : ℕ) (floor : ℤ) (marking : Option Prop) (found : List ℕ) where
  pub gathered_page : (k : ℕ) → IsGathered rows h floor marking found (Some k) → IsPageOf rows.pages h k
  gathered_page k walk = first_page (most_pages rows.heads rows.capacity) h walk.low rows.pages (Some k) walk.here

  reached : (k : ℕ) (walk : IsGathered rows h floor marking found (Some k)) → walk.low ≤ k
  reached k walk = omega (arith, walk.here.above, pages_are_numbers (most_pages rows.heads rows.capacity) rows.pages k h walk.here.key walk.here.there)

  pub gathered_room : (k : ℕ) (p : Page) → IsGathered rows h floor marking found (Some k) → slice_get rows.pages k ≡ Some p → length found + length p.records.items ≤ length (held_records rows.pages)
  gathered_room k p walk is =
      omega (arith, walk.few, before_more rows.pages walk.low k (reached k walk), before_next rows.pages k p is, before_all rows.pages (suc k))

  pub gathered_more : (k : ℕ) (p : Page) (more : List ℕ) (next : Option ℕ) → IsGathered rows h floor marking found (Some k) → slice_get rows.pages k ≡ Some p → p.head ≡ h →
      AreSlotsOf p.records.items floor marking more → IsFirstKey (numbered_pages rows) h (k + 1) next → IsGathered rows h floor marking (found ++ more) next
  gathered_more k p more next walk is head slots first = record {
    low = k + 1;
    here = first;
    all = λ j i r less at sought. elim (cases_eq j k) [
      | inl same ↦
          let it : p ≡ at.0 = same_Some p at.0 (sym is ∙ rw same at at.1) in
          Contains-append_right found more r.slot (slots.all i r (ap (λ x. slice_get x.records.items i) it ∙ at.3) sought)
      | inr other ↦ elim (walk.here.least j j (page_of_in (most_pages rows.heads rows.capacity) j rows.pages h (at.0, at.1, at.2))) [
        | inl before ↦ Contains-append_left found more r.slot (walk.all j i r before at sought)
        | inr behind ↦ absurd (omega (arith, behind, less, other, pages_are_numbers (most_pages rows.heads rows.capacity) rows.pages k h walk.here.key walk.here.there))
      ]
    ];
    only = All-append (IsSlotIn rows.pages h floor marking) found more walk.only
        (all_mapped (IsSlotOf p.records.items floor marking) (IsSlotIn rows.pages h floor marking) more (λ s from. (k, from.0, from.1, (p, is, head, from.2), from.3, from.4)) slots.only);
    few =
        let step = before_next rows.pages k p is in
        let one : k + 1 ≡ suc k = omega arith in
        rw one (omega (arith, walk.few, slots.few, before_more rows.pages walk.low k (reached k walk), step, length-append found more));
  }

  pub gathered_all : (place : Option ℕ) → ((k : ℕ) → place ≡ Some k → ⊥) → IsGathered rows h floor marking found place → (k i : ℕ) (r : Record) → IsRecordAt rows.pages h k i r →
      IsRecordAbove floor marking r → Contains found r.slot
  gathered_all None not walk k i r at sought =
      walk.all k i r (walk.here k k (page_of_in (most_pages rows.heads rows.capacity) k rows.pages h (at.0, at.1, at.2))) at sought
  gathered_all (Some j) not walk k i r at sought = absurd (not j refl)

-- the slots of what is sought among the first records of a page were added
pub record AreAddedUpto (records : List Record) (floor : ℤ) (marking : Option Prop) (before now : List ℕ) (from : ℕ) : Type 0 where
  pub more : List ℕ
  pub is : now ≡ before ++ more
  pub all : (i : ℕ) (r : Record) → i < from → slice_get records i ≡ Some r → IsRecordAbove floor marking r → Contains more r.slot
  pub only : All (IsSlotOf records floor marking) more
  pub few : length more ≤ from
  pub inside : from ≤ length records

pub added_start : (records : List Record) (floor : ℤ) (marking : Option Prop) (before : List ℕ) → AreAddedUpto records floor marking before before 0
added_start records floor marking before = record {
  more = [];
  is = sym (append-nil before);
  all = λ i r less at sought. absurd (omega (arith, less));
  only = all_none (IsSlotOf records floor marking);
  few = omega arith;
  inside = omega arith;
}

-- the records that mark the proposition, if one is given
abbrev pub IsWanted : Option Prop → Record → Type 0
IsWanted marking r = IfSome marking (λ p. IsMarked (marks r.label) p.index)

module _ (records : List Record) (floor : ℤ) (marking : Option Prop) (before now : List ℕ) (word from : ℕ) (those : AreThose (IsWanted marking) records word)
    (was : AreAddedUpto records floor marking before now from) where
  pub added_next : (i : ℕ) (x : Record) (now' : List ℕ) → from ≤ i → has_bit word i ≡ true → ((j : ℕ) → from ≤ j → j < i → has_bit word j ≡ false) → slice_get records i ≡ Some x →
      (floor <ℤ x.least → now' ≡ now ++ x.slot ∷ []) → (x.least ≤ℤ floor → now' ≡ now) → AreAddedUpto records floor marking before now' (i + 1)
  added_next i x now' above set clear here added passed = elim (least_or_not x.least floor) [
    | inl low ↦ record {
      more = was.more;
      is = passed low ∙ was.is;
      all = λ j r less at sought. elim (earlier j r less at sought) [
        | inl old ↦ old
        | inr same ↦ absurd (too_low x.least floor low (subst (λ (y : Record). floor <ℤ y.least) (sym same) sought.0))
      ];
      only = was.only;
      few = omega (arith, was.few, above);
      inside = inside';
    }
    | inr not ↦ record {
      more = was.more ++ x.slot ∷ [];
      is = added (high x.least floor not) ∙ ap (λ xs. xs ++ x.slot ∷ []) was.is ∙ append_assoc before was.more (x.slot ∷ []);
      all = λ j r less at sought. elim (earlier j r less at sought) [
        | inl old ↦ Contains-append_left was.more (x.slot ∷ []) r.slot old
        | inr same ↦ subst (λ (y : Record). Contains (was.more ++ x.slot ∷ []) y.slot) same (Contains-append_right was.more (x.slot ∷ []) x.slot (Contains-get_or (x.slot ∷ []) 0 0 (omega arith)))
      ];
      only = All-append (IsSlotOf records floor marking) was.more (x.slot ∷ []) was.only
          (λ k d less. subst (λ (n : ℕ). IsSlotOf records floor marking (get_or (x.slot ∷ []) n d)) (sym (only_one k less)) (i, x, here, (high x.least floor not, wanted), refl));
      few = omega (arith, was.few, above, length-append was.more (x.slot ∷ []));
      inside = inside';
    }
  ]
    where
      high : (a b : ℤ) → ¬ (a ≤ℤ b) → b <ℤ a
      high a b not = grind (arith, ints)

      too_low : (a b : ℤ) → a ≤ℤ b → b <ℤ a → ⊥
      too_low a b low less = omega (arith, ints)

      inside' : i + 1 ≤ length records
      inside' = let within = slice_get_within records i x here in omega (arith, within)

      wanted : IsWanted marking x
      wanted = let there = (those i).0 set in subst (IsWanted marking) (same_Some there.0 x (sym there.1 ∙ here)) there.2

      only_one : (k : ℕ) → k < length (x.slot ∷ []) → k ≡ 0
      only_one k less = omega (arith, less)

      earlier : (j : ℕ) (r : Record) → j < i + 1 → slice_get records j ≡ Some r → IsRecordAbove floor marking r → Contains was.more r.slot ⊎ (x ≡ r)
      earlier j r less at sought = elim (cases_eq j i) [
        | inl same ↦ inr (same_Some x r (sym here ∙ rw same at at))
        | inr other ↦ elim (cases_lt j from) [
          | inl low ↦ inl (was.all j r low at sought)
          | inr behind ↦ absurd (false≢true (sym (clear j behind (omega (arith, less, other))) ∙ (those j).1 (r, at, sought.1)))
        ]
      ]

  pub added_end : ((j : ℕ) → from ≤ j → has_bit word j ≡ false) → AreSlotsOf records floor marking was.more
  added_end clear = record {
    all = λ i r at sought. elim (cases_lt i from) [
      | inl low ↦ was.all i r low at sought
      | inr behind ↦ absurd (false≢true (sym (clear i behind) ∙ (those i).1 (r, at, sought.1)))
    ];
    only = was.only;
    few = omega (arith, was.few, was.inside);
  }

-- the slots of what is sought among the records up to a place were added, and the bits of a word are left from there on
pub record AreAddedBut (records : List Record) (floor : ℤ) (marking : Option Prop) (before now : List ℕ) (word rest : ℕ) : Type 0 where
  pub from : ℕ
  pub added : AreAddedUpto records floor marking before now from
  pub above : (k : ℕ) → from ≤ k → has_bit rest k ≡ has_bit word k
  pub below : (k : ℕ) → k < from → has_bit rest k ≡ false

module _ (records : List Record) (floor : ℤ) (marking : Option Prop) (before : List ℕ) (word : ℕ) where
  pub left_start : AreAddedBut records floor marking before before word word
  left_start = record {
    from = 0;
    added = added_start records floor marking before;
    above = λ k from. refl;
    below = λ k less. absurd (omega (arith, less));
  }

  pub left_end : (now : List ℕ) (rest : ℕ) → AreThose (IsWanted marking) records word → ((j : ℕ) → 0 ≤ j → has_bit rest j ≡ false) →
      (was : AreAddedBut records floor marking before now word rest) → AreSlotsOf records floor marking was.added.more
  left_end now rest those clear was =
      added_end records floor marking before now word was.from those was.added (λ j from. sym (was.above j from) ∙ clear j (omega arith))

  -- a bit that is left is one of the word, behind what was looked at
  pub left_set : (now : List ℕ) (rest i : ℕ) (was : AreAddedBut records floor marking before now word rest) → has_bit rest i ≡ true → (was.from ≤ i) × (has_bit word i ≡ true)
  left_set now rest i was set = elim (cases_lt i was.from) [
    | inl low ↦ absurd (false≢true (sym (was.below i low) ∙ set))
    | inr behind ↦ (behind, sym (was.above i behind) ∙ set)
  ]

  pub left_next : (now now' : List ℕ) (rest rest' i : ℕ) (x : Record) → AreThose (IsWanted marking) records word → AreAddedBut records floor marking before now word rest →
      has_bit rest i ≡ true → ((j : ℕ) → j < i → has_bit rest j ≡ false) → has_bit rest' i ≡ false → ((k : ℕ) → (k ≡ i → ⊥) → has_bit rest' k ≡ has_bit rest k) →
      slice_get records i ≡ Some x → (floor <ℤ x.least → now' ≡ now ++ x.slot ∷ []) → (x.least ≤ℤ floor → now' ≡ now) → AreAddedBut records floor marking before now' word rest'
  left_next now now' rest rest' i x those was set least gone others here added passed = record {
    from = i + 1;
    added = added_next records floor marking before now word was.from those was.added i x now' at.0 at.1 (λ j from less. sym (was.above j from) ∙ least j less) here added passed;
    above = λ k from. others k (λ same. omega (arith, same, from)) ∙ was.above k (omega (arith, from, at.0));
    below = λ k less. elim (cases_eq k i) [
      | inl same ↦ ap (has_bit rest') same ∙ gone
      | inr other ↦ others k other ∙ least k (omega (arith, less, other))
    ];
  }
    where
      at : (was.from ≤ i) × (has_bit word i ≡ true)
      at = left_set now rest i was set

-- nothing is sought on a page whose least values end at the floor
pub none_sought : (page : Page) (floor : ℤ) (marking : Option Prop) → IsPage page → page.high ≤ℤ floor → AreSlotsOf page.records.items floor marking []
none_sought page floor marking is low = record {
  all = λ i r at sought. (let range = at_all (λ x. (page.low ≤ℤ x.least) × (x.least ≤ℤ page.high)) page.records.items i r is at in absurd (away r.least page.high floor range.1 low sought.0));
  only = all_none (IsSlotOf page.records.items floor marking);
  few = omega arith;
}
  where
    away : (a b c : ℤ) → a ≤ℤ b → b ≤ℤ c → c <ℤ a → ⊥
    away a b c p q r = omega (arith, ints)
