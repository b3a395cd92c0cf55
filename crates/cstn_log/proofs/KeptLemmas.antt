-- What a log keeps.
use Rattle.std.proofs.Common.{◌≡◌, ◌≢◌, inl, inr, ℕ, zero, suc, ◌<◌, ◌≤◌, List, [], ◌∷◌, length, get_or, replicate, Bool, true, false, nat_eq, refl, ap, sym, ◌∙◌, subst, arith}
use Rattle.std.specs.Prelude.{ℤ, Option, None, Some, IfSome, IfNone, IsTrue, ◌↔◌, is_some, slice_get, count_by, if◌then◌else◌}
use Rattle.std.proofs.lemmas.List.{length-replicate}
use Rattle.std.proofs.lemmas.Bool.{cases_lt, cases_Bool}
use Rattle.std.proofs.lemmas.Option.{none-some, same_Some, slice_get-get_or, slice_get_within}
use Rattle.std.proofs.lemmas.List.Sums.{count_by-le-length}
use Rattle.cstn_label.specs.declared.bounds.Bound.{Bound}
use Rattle.cstn_label.specs.Labels.{Label, IsWithin}
use Rattle.cstn_label.specs.Read.{marks}
use Rattle.cstn_rules.specs.declared.entries.Entry.{Entry}
use Rattle.cstn_pool.specs.declared.slot_id.SlotId.{SlotId}
use Rattle.cstn_pool.specs.Slots.{value_at}
use Rattle.cstn_minset.specs.Sets.{Entries, IsThere, IsBoundOver, IsCoveredInSet}
use Rattle.cstn_log.specs.Entries.{HasId, HasLeast, IsBoundAt, IsDominator, IsCoveredBy, IsLive}
use Rattle.cstn_log.specs.Kept.{IsLogKept, IsPooled, IsTabled}

-- no id has an empty slot
pub other_slot : (slots : List (Option (ℕ × Entry))) (births : ℕ) (entries : List Entry) (ids : List SlotId) (slot : ℕ) → IsPooled slots births entries ids → get_or slots slot None ≡ None → (k : ℕ) (id : SlotId) → slice_get ids k ≡ Some id → id.slot ≢ slot
other_slot slots births entries ids slot is free k id there e =
    let h = is.held k id there in none-some (id.birth, h.1) (sym free ∙ subst (λ (s : ℕ). get_or slots s None ≡ Some (id.birth, h.1)) e h.3)

-- ids at different places have different births
pub same_place : (slots : List (Option (ℕ × Entry))) (births : ℕ) (entries : List Entry) (ids : List SlotId) (k j : ℕ) (a b : SlotId) → IsPooled slots births entries ids → slice_get ids k ≡ Some a → slice_get ids j ≡ Some b → a.birth ≡ b.birth → k ≡ j
same_place slots births entries ids k j a b is p q same = elim (cases_lt k j) [
  | inl less ↦ absurd (omega (arith, is.ascending k j a b less p q))
  | inr more ↦ elim (cases_lt j k) [ inl less ↦ absurd (omega (arith, is.ascending j k b a less q p)) | inr le ↦ omega arith ]
]

-- ids at different places have different slots
pub same_slot : (slots : List (Option (ℕ × Entry))) (births : ℕ) (entries : List Entry) (ids : List SlotId) (k j : ℕ) (a b : SlotId) → IsPooled slots births entries ids → slice_get ids k ≡ Some a → slice_get ids j ≡ Some b → a.slot ≡ b.slot → k ≡ j
same_slot slots births entries ids k j a b is p q same =
    let h = is.held k a p in
    let g = is.held j b q in
    let one : (a.birth, h.1) ≡ (b.birth, g.1) = same_Some (a.birth, h.1) (b.birth, g.1) (sym h.3 ∙ ap (λ (s : ℕ). get_or slots s None) same ∙ g.3) in
    same_place slots births entries ids k j a b is p q (ap (λ (y : ℕ × Entry). y.0) one)

pub slot_inside : {X : Type 0} (slots : List (Option X)) (s : ℕ) (x : X) → get_or slots s None ≡ Some x → s < length slots
slot_inside [] s x is = absurd (none-some x is)
slot_inside (y ∷ ys) zero x is = omega arith
slot_inside (y ∷ ys) (suc s) x is = let rest = slot_inside ys s x is in omega (arith, rest)

-- no entry of the minimal set is in a slot that no id has
pub unplaced : (table : Entries) (entries : List Entry) (ids : List SlotId) (slot : ℕ) → IsTabled table entries ids → ((k : ℕ) (id : SlotId) → slice_get ids k ≡ Some id → id.slot ≢ slot) → get_or table slot None ≡ None
unplaced table entries ids slot is other = go (get_or table slot None) refl
  where
    go : (o : Option (ℕ × Bound)) → get_or table slot None ≡ o → get_or table slot None ≡ None
    go None e = e
    go (Some b) e = absurd (let f = is.placed slot b e in other f.0 (record { slot = slot; birth = b.0 }) f.2.there refl)

pub few : (slots : List (Option (ℕ × Entry))) (births : ℕ) (entries : List Entry) (ids : List SlotId) → IsPooled slots births entries ids → length ids ≤ length slots
few slots births entries ids is = omega (arith, is.used, count_by-le-length is_some slots)

-- the entry of a bound that is read
pub entry_with : (entries : List Entry) (k : ℕ) (b : Bound) (at : IsBoundAt entries k b) → slice_get entries k ≡ Some (record { bound = b; why = at.entry.why })
entry_with entries k b at = subst (λ z. slice_get entries k ≡ Some (record { bound = z; why = at.entry.why })) at.is at.there

-- what is read at a place
pub one_read : {X : Type 0} (xs : List X) (k : ℕ) (x : X) → k < length xs → x ≡ get_or xs k x → slice_get xs k ≡ Some x
one_read xs k x inside read = slice_get-get_or xs k x inside ∙ ap Some (sym read)

pub value_held : (slots : List (Option (ℕ × Entry))) (s birth : ℕ) (e : Entry) → get_or slots s None ≡ Some (birth, e) → value_at slots s birth ≡ Some e
value_held [] s birth e is = absurd (none-some (birth, e) is)
value_held (x ∷ slots) zero birth e is = rw is (itself birth e)
  where
    itself : (n : ℕ) (y : Entry) → (if nat_eq n n then Some y else None) ≡ Some y
    itself n y = let t : nat_eq n n ≡ true = grind arith in rw t refl
value_held (x ∷ slots) (suc s) birth e is = value_held slots s birth e is

-- an entry is live where its bound is placed under its id
pub live_there : (slots : List (Option (ℕ × Entry))) (births : ℕ) (table : Entries) (entries : List Entry) (ids : List SlotId) (nodes k : ℕ) (id : SlotId) (placed : Bool) → IsLogKept slots births table entries ids nodes → slice_get ids k ≡ Some id → (IsTrue placed ↔ IsThere table id) → IsTrue placed ↔ IsLive entries k
live_there slots births table entries ids nodes k id placed is there holds = (
  λ sure.
      let at' = holds.0 sure in
      let f = is.tabled.placed id.slot (id.birth, at'.0) at'.1 in
      let k_is : f.0 ≡ k = same_place slots births entries ids f.0 k (record { slot = id.slot; birth = id.birth }) id is.pooled f.2.there there refl in
      subst (λ (m : ℕ). IsLive entries m) k_is f.4,
  λ live. let h = is.pooled.held k id there in holds.1 (h.0.bound, is.tabled.live k id h.0 there h.2 live),
)

-- what is covered by the minimal set is covered by the list
pub covered_there : (table : Entries) (entries : List Entry) (ids : List SlotId) (b : Bound) (covered : Bool) → IsTabled table entries ids → (IsTrue covered ↔ IsCoveredInSet table b) → IsTrue covered ↔ IsCoveredBy entries b
covered_there table entries ids b covered is covers = (
  λ sure. by_list (covers.0 sure),
  λ some. elim (cases_Bool covered) [
    | inl sure ↦ sure
    | inr none ↦ absurd (is.covers b (λ more. clash covered none (covers.1 more)) some)
  ],
)
  where
    clash : (t : Bool) → t ≡ false → IsTrue t → ⊥
    clash t none sure = cc

    by_list : IsCoveredInSet table b → IsCoveredBy entries b
    by_list c =
        let f = is.placed c.0 c.1 c.2 in
        (f.0, f.1, f.3, subst (λ (z : Bound). IsBoundOver z b) (sym f.5) c.3)

-- the place of the id of a bound that dominates another is that of an entry which does
pub dominator_at : (slots : List (Option (ℕ × Entry))) (births : ℕ) (table : Entries) (entries : List Entry) (ids : List SlotId) (nodes : ℕ) (id : SlotId) (b : Bound) (place : Option ℕ) → IsLogKept slots births table entries ids nodes → (c : Bound) × (get_or table id.slot None ≡ Some (id.birth, c)) × IsBoundOver c b → IfSome place (λ k. slice_get ids k ≡ Some id) → IfSome place (λ k. IsDominator entries k b)
dominator_at slots births table entries ids nodes id b None is found there = there
dominator_at slots births table entries ids nodes id b (Some k) is found there =
    let f = is.tabled.placed id.slot (id.birth, found.0) found.1 in
    let k_is : f.0 ≡ k = same_place slots births entries ids f.0 k (record { slot = id.slot; birth = id.birth }) id is.pooled f.2.there there refl in
    (found.0, record { entry = f.1; there = subst (λ (m : ℕ). slice_get entries m ≡ Some f.1) k_is f.3; is = f.5 }, found.2)

-- an id of the minimal set has a place
pub placed_there : (table : Entries) (entries : List Entry) (ids : List SlotId) (id : SlotId) (c : Bound) (place : Option ℕ) (A : Type 0) → IsTabled table entries ids → get_or table id.slot None ≡ Some (id.birth, c) → IfNone place (¬ HasId ids id) → IfNone place A
placed_there table entries ids id c None A is there none = absurd (let f = is.placed id.slot (id.birth, c) there in none (f.0, f.2.there))
placed_there table entries ids id c (Some k) A is there none = none

-- what the list doesn't cover isn't covered by the minimal set
pub uncovered_there : (table : Entries) (entries : List Entry) (ids : List SlotId) (b : Bound) → IsTabled table entries ids → ¬ IsCoveredBy entries b → ¬ IsCoveredInSet table b
uncovered_there table entries ids b is not c =
    let f = is.placed c.0 c.1 c.2 in
    not (f.0, f.1, f.3, subst (λ (z : Bound). IsBoundOver z b) (sym f.5) c.3)

-- where the births of the ids are all below a number, so are those in the minimal set
pub born_before : (table : Entries) (entries : List Entry) (ids : List SlotId) (birth : ℕ) → IsTabled table entries ids → ((k : ℕ) (id : SlotId) → slice_get ids k ≡ Some id → id.birth < birth) → (s : ℕ) (b : ℕ × Bound) → get_or table s None ≡ Some b → b.0 < birth
born_before table entries ids birth is before s b there =
    let f = is.placed s b there in before f.0 (record { slot = s; birth = b.0 }) f.2.there

abbrev pub no_slot : Option (ℕ × Entry)
no_slot = None

none_filled : (n : ℕ) → count_by is_some (replicate n no_slot) ≡ 0
none_filled zero = refl
none_filled (suc n) = none_filled n

pub all_none : {X : Type 0} (n s : ℕ) (x : Option X) → x ≡ None → get_or (replicate n x) s None ≡ None
all_none zero s x is = refl
all_none (suc n) zero x is = is
all_none (suc n) (suc s) x is = all_none n s x is

-- nothing is placed in a table with empty slots alone
pub tabled_empty : (table : Entries) → ((s : ℕ) → get_or table s None ≡ None) → IsTabled table [] []
tabled_empty table none = record {
  covers = λ b not covered. none-some covered.1 covered.2;
  placed = λ s b there. absurd (none-some b (sym (none s) ∙ there));
  live = λ k id e there at live. absurd (none-some id there);
}

-- a pool and a table with empty slots alone keep the list without entries
pub kept_empty : (cap births nodes : ℕ) → IsLogKept (replicate cap None) births (replicate cap None) [] [] nodes
kept_empty cap births nodes = record {
  pooled = record {
    held = λ k id there. absurd (none-some id there);
    used = none_filled cap;
    found = λ s e there. absurd (none-some e (sym (all_none cap s None refl) ∙ there));
    ascending = λ k j id jd less there also. absurd (none-some id there);
    before = λ k id there. absurd (none-some id there);
  };
  tabled = tabled_empty (replicate cap None) (λ s. all_none cap s None refl);
  room = length-replicate cap None ∙ sym (length-replicate cap None);
  size = refl;
  fresh = record { none_over = λ j k e f less there also over. absurd (none-some e there) };
  inside = λ k e there. absurd (none-some e there);
}

-- ---- what the minimal set tells of the entries

-- a least value that the minimal set has, the list has
pub least_there : (table : Entries) (entries : List Entry) (ids : List SlotId) (x : ℕ) (label : Label) (least : ℤ) → IsTabled table entries ids →
    (slot : ℕ) × (b : ℕ × Bound) × (get_or table slot None ≡ Some b) × (b.1.node.0 ≡ x) × IsWithin (marks b.1.label) label × (b.1.least ≡ least) → HasLeast entries x label least
least_there table entries ids x label least is (slot, b, there, at, within, value) =
    let f = is.placed slot b there in
    (f.0, f.1, f.3, ap (λ (z : Bound). z.node.0) f.5 ∙ at, subst (λ (z : Bound). IsWithin (marks z.label) label) (sym f.5) within, ap (λ (z : Bound). z.least) f.5 ∙ value)

-- each place has an id
id_there : (ids : List SlotId) (k : ℕ) → k < length ids → (id : SlotId) × (slice_get ids k ≡ Some id)
id_there [] k h = absurd (omega (arith, h))
id_there (x ∷ xs) zero h = (x, refl)
id_there (x ∷ xs) (suc k) h = id_there xs k (omega (arith, h))

-- a live entry is in the minimal set
pub placed_live : (slots : List (Option (ℕ × Entry))) (births : ℕ) (table : Entries) (entries : List Entry) (ids : List SlotId) (nodes k : ℕ) (e : Entry) →
    IsLogKept slots births table entries ids nodes → slice_get entries k ≡ Some e → IsLive entries k →
    (id : SlotId) × (slice_get ids k ≡ Some id) × (get_or table id.slot None ≡ Some (id.birth, e.bound))
placed_live slots births table entries ids nodes k e is there live =
    let inside = slice_get_within entries k e there in
    let id = id_there ids k (omega (arith, inside, is.size)) in
    (id.0, id.1, is.tabled.live k id.0 e id.1 there live)
