-- What lists of bounds cover: with one more bound, and without those that it dominates.
use Rattle.std.proofs.Common.{ℕ, zero, suc, ◌≡◌, ◌+◌, ◌-◌, ◌<◌, ◌≤◌, ◌↔◌, ◌⊎◌, Bool, true, false, List, [], ◌∷◌, ◌++◌, length, get_or, set, map, arith, inl, inr, refl, sym, subst, ap, ◌∙◌}
use Rattle.std.specs.Prelude.{Vec}
use Rattle.std.specs.List.{Contains, items_where_true}
use Rattle.std.specs.List.Retain.{IsFiltered, ReturnsInTurn}
use Rattle.std.specs.declared.alloc.Global.{Global}
use Rattle.std.proofs.lemmas.Bool.{cases_lt, cases_eq}
use Rattle.std.proofs.lemmas.List.{get_or-set_same, get_or-set_other, get_or_append_left, get_or-append_right, get_or_default, get_or_past, get_or-map, length-map, map-append, map-set}
use Rattle.std.proofs.lemmas.List.Elements.{Contains-append_left, Contains-append_cases, Contains-push}
use Rattle.cstn_facts.proofs.Members.{there_is, is_there, contains_tail, contains_one}
use Rattle.cstn_facts.proofs.Places.{get_map}
use Rattle.cstn_label.specs.declared.bounds.Bound.{Bound as Declared}
use Rattle.cstn_label.specs.Bounds.{Bound, Dominates}
use Rattle.cstn_label.specs.Read.{the_bound}
use Rattle.cstn_rules.specs.Closed.{IsCovered}
use Rattle.cstn_closed.specs.Minimal.{held_bounds, kept_bounds_at, AreKept, IsPut}
use Rattle.cstn_closed.proofs.ListLemmas.{image_there}
use Rattle.cstn_label.proofs.BoundLemmas.{dominates_through}

-- what is dominated by something covered is covered
pub covered_through : (bounds : List Bound) (a r : Bound) → IsCovered bounds a → Dominates a r → IsCovered bounds r
covered_through bounds a r covered over = record {
  by = covered.by;
  in_list = covered.in_list;
  dominates = dominates_through covered.by a r covered.dominates over;
}

-- with one more bound, what it dominates is covered too
pub covered_by_last : (bounds : List Bound) (b r : Bound) → Dominates b r → IsCovered (bounds ++ b ∷ []) r
covered_by_last bounds b r over = record { by = b; in_list = Contains-push bounds b; dominates = over }

pub covered_still : (bounds : List Bound) (b r : Bound) → IsCovered bounds r → IsCovered (bounds ++ b ∷ []) r
covered_still bounds b r covered = record {
  by = covered.by;
  in_list = Contains-append_left bounds (b ∷ []) covered.by covered.in_list;
  dominates = covered.dominates;
}

pub covered_cases : (bounds : List Bound) (b r : Bound) → IsCovered (bounds ++ b ∷ []) r → IsCovered bounds r ⊎ Dominates b r
covered_cases bounds b r covered = elim (Contains-append_cases bounds (b ∷ []) covered.by covered.in_list) [
  | inl has ↦ inl (record { by = covered.by; in_list = has; dominates = covered.dominates })
  | inr last ↦ inr (subst (λ x. Dominates x r) (sym (contains_one b covered.by last)) covered.dominates)
]

-- the bound of the program by which a list covers r
pub covering : (bounds : List Declared) (r : Bound) → IsCovered (map the_bound bounds) r → (c : Declared) × Contains bounds c × Dominates (the_bound c) r
covering bounds r covered =
    let there = there_is (map the_bound bounds) covered.by covered.in_list in
    let from = get_map the_bound bounds there.0 covered.by there.1 in
    (from.0, is_there bounds there.0 from.0 from.1, subst (λ x. Dominates x r) (sym from.2) covered.dominates)

pub covered_by : (bounds : List Declared) (r : Bound) (c : Declared) → Contains bounds c → Dominates (the_bound c) r → IsCovered (map the_bound bounds) r
covered_by bounds r c has over =
    let there = there_is bounds c has in
    record { by = the_bound c; in_list = is_there (map the_bound bounds) there.0 (the_bound c) (image_there bounds there.0 c there.1); dominates = over }

-- a test that says `false` only of what d dominates leaves each of the others, and adds none
module _ {F : Type 0} (R : F → Declared → Bool → F → Type 0) (d : Bound) (f : F)
    (h : (x : Declared) (v : Bool) (g : F) → R f x v g → (v ≡ false → Dominates d (the_bound x)) × (g ≡ f)) where
  stays : (vs : List Bool) (xs : List Declared) (q : F) (c : Declared) → length vs ≡ length xs → ReturnsInTurn R f vs xs q → Contains xs c →
      Contains (items_where_true vs xs) c ⊎ Dominates d (the_bound c)
  stays [] [] q c many turns has = absurd (let none = has.1 in omega arith)
  stays [] (x ∷ xs) q c many turns has = absurd (omega arith)
  stays (v ∷ vs) [] q c many turns has = absurd (omega arith)
  stays (true ∷ vs) (x ∷ xs) q c many turns (zero, inside, at) = inl (0, omega arith, at)
  stays (true ∷ vs) (x ∷ xs) q c many turns (suc i, inside, at) =
      elim (stays vs xs q c (omega arith) (subst (λ g. ReturnsInTurn R g vs xs q) (h x true turns.0 turns.1).1 turns.2) (i, omega arith, at)) [
        | inl has ↦ inl (contains_tail x c (items_where_true vs xs) has)
        | inr under ↦ inr under
      ]
  stays (false ∷ vs) (x ∷ xs) q c many turns (zero, inside, at) =
      inr (subst (λ y. Dominates d (the_bound y)) at ((h x false turns.0 turns.1).0 refl))
  stays (false ∷ vs) (x ∷ xs) q c many turns (suc i, inside, at) =
      stays vs xs q c (omega arith) (subst (λ g. ReturnsInTurn R g vs xs q) (h x false turns.0 turns.1).1 turns.2) (i, omega arith, at)

  was : (vs : List Bool) (xs : List Declared) (c : Declared) → Contains (items_where_true vs xs) c → Contains xs c
  was [] xs c has = absurd (let none = has.1 in omega arith)
  was (v ∷ vs) [] c has = absurd (let none = has.1 in omega arith)
  was (true ∷ vs) (x ∷ xs) c (zero, inside, at) = (0, omega arith, at)
  was (true ∷ vs) (x ∷ xs) c (suc i, inside, at) = contains_tail x c xs (was vs xs c (i, omega arith, at))
  was (false ∷ vs) (x ∷ xs) c has = contains_tail x c xs (was vs xs c has)

  -- with d at the end, such a rest covers what the list covered, and what d dominates
  pub put_covers : (old rest new : List Declared) (b : Declared) → IsFiltered R f old rest → new ≡ rest ++ b ∷ [] → the_bound b ≡ d →
      (r : Bound) → IsCovered (map the_bound new) r ↔ (IsCovered (map the_bound old) r ⊎ Dominates d r)
  put_covers old rest new b kept put same r = (forth, back)
    where
      rest_is : rest ≡ items_where_true kept.0 old
      rest_is = kept.4

      by_new : (c : Declared) → Contains (rest ++ b ∷ []) c → Dominates (the_bound c) r → IsCovered (map the_bound new) r
      by_new c has over = covered_by new r c (subst (λ (xs : List Declared). Contains xs c) (sym put) has) over

      by_last : Dominates d r → IsCovered (map the_bound new) r
      by_last over = by_new b (Contains-push rest b) (subst (λ x. Dominates x r) (sym same) over)

      forth : IsCovered (map the_bound new) r → IsCovered (map the_bound old) r ⊎ Dominates d r
      forth covered =
          let c = covering new r covered in
          elim (Contains-append_cases rest (b ∷ []) c.0 (subst (λ (xs : List Declared). Contains xs c.0) put c.1)) [
            | inl has ↦ inl (covered_by old r c.0 (was kept.0 old c.0 (subst (λ (xs : List Declared). Contains xs c.0) rest_is has)) c.2)
            | inr last ↦ inr (subst (λ x. Dominates x r) same (subst (λ x. Dominates (the_bound x) r) (sym (contains_one b c.0 last)) c.2))
          ]

      back : IsCovered (map the_bound old) r ⊎ Dominates d r → IsCovered (map the_bound new) r
      back (inr over) = by_last over
      back (inl covered) =
          let c = covering old r covered in
          elim (stays kept.0 old kept.1 c.0 kept.2 kept.3 c.1) [
            | inl has ↦ by_new c.0 (Contains-append_left rest (b ∷ []) c.0 (subst (λ (xs : List Declared). Contains xs c.0) (sym rest_is) has)) c.2
            | inr under ↦ by_last (dominates_through d (the_bound c.0) r under c.2)
          ]

-- no bound of the first k of a list dominates r
abbrev pub IsUncovered : List Declared → Bound → ℕ → Type 0
IsUncovered bounds r k = (c : Declared) (n : ℕ) → n < k → n < length bounds → get_or bounds n c ≡ c → Dominates (the_bound c) r → ⊥

pub uncovered_more : (bounds : List Declared) (r : Bound) (k : ℕ) (b : Declared) → b ≡ get_or bounds k b → k < length bounds → (Dominates (the_bound b) r → ⊥) →
    IsUncovered bounds r k → IsUncovered bounds r (k + 1)
uncovered_more bounds r k b is inside under before c n less within at over = elim (cases_lt n k) [
  | inl earlier ↦ before c n earlier within at over
  | inr past ↦
      let here : b ≡ c = is ∙ get_or_default bounds k b c inside ∙ ap (λ m. get_or bounds m c) (let e : k ≡ n = omega arith in e) ∙ at in
      under (subst (λ x. Dominates (the_bound x) r) (sym here) over)
]

pub uncovered_all : (bounds : List Declared) (r : Bound) (k : ℕ) → length bounds ≤ k → IsUncovered bounds r k → IsCovered (map the_bound bounds) r → ⊥
uncovered_all bounds r k all none covered =
    let c = covering bounds r covered in
    none c.0 c.1.0 (omega (arith, c.1.1)) c.1.1 c.1.2 c.2

-- where nothing is kept, nothing is covered
pub nothing_kept : AreKept [] []
nothing_kept r = (λ covered. covered, λ covered. covered)

pub nothing_more : (lists new : List (Vec Declared Global)) (v : Vec Declared Global) → v.items ≡ [] → new ≡ lists ++ v ∷ [] → AreKept [] lists → AreKept [] new
nothing_more lists new v empty put none r = (λ covered. (none r).0 (subst (λ (bs : List Bound). IsCovered bs r) same covered), λ covered. absurd (let n = covered.in_list.1 in omega arith))
  where
    empty_at : (bs : List Bound) (k : ℕ) → bs ≡ [] → get_or (bs ∷ []) k [] ≡ []
    empty_at bs zero e = e
    empty_at bs (suc k) e = refl

    last_at : (x : ℕ) → get_or (map held_bounds (lists ++ v ∷ [])) x [] ≡ get_or (map held_bounds lists) x []
    last_at x = ap (λ (ls : List (List Bound)). get_or ls x []) (map-append held_bounds lists (v ∷ [])) ∙ elim (cases_lt x (length (map held_bounds lists))) [
      | inl before ↦ get_or_append_left (map held_bounds lists) (held_bounds v ∷ []) [] x before
      | inr past ↦ get_or-append_right (map held_bounds lists) (held_bounds v ∷ []) (length (map held_bounds lists)) x [] refl past
          ∙ empty_at (held_bounds v) (x - length (map held_bounds lists)) (ap (map the_bound) empty) ∙ sym (get_or_past (map held_bounds lists) x [] past)
    ]

    same : kept_bounds_at new r.node ≡ kept_bounds_at lists r.node
    same = ap (λ ls. kept_bounds_at ls r.node) put ∙ last_at r.node

-- one time-point's bounds are changed
pub put_at : (lists new : List (Vec Declared Global)) (x : ℕ) (v : Vec Declared Global) (b : Bound) → x < length lists → b.node ≡ x → new ≡ set lists x v →
    ((r : Bound) → IsCovered (held_bounds v) r ↔ (IsCovered (kept_bounds_at lists x) r ⊎ Dominates b r)) → IsPut b lists new
put_at lists new x v b inside node changed put r = elim (cases_eq r.node x) [
  | inl same ↦ subst (λ (bs : List Bound). IsCovered bs r ↔ (IsCovered (kept_bounds_at lists r.node) r ⊎ Dominates b r)) (sym (there same))
      (subst (λ y. IsCovered (held_bounds v) r ↔ (IsCovered (kept_bounds_at lists y) r ⊎ Dominates b r)) (sym same) (put r))
  | inr other ↦ subst (λ (bs : List Bound). IsCovered bs r ↔ (IsCovered (kept_bounds_at lists r.node) r ⊎ Dominates b r)) (sym (elsewhere other))
      (λ covered. inl covered, λ either. elim either [ inl covered ↦ covered | inr over ↦ absurd (other (sym over.node ∙ node)) ])
]
  where
    image : (y : ℕ) → kept_bounds_at new y ≡ get_or (set (map held_bounds lists) x (held_bounds v)) y []
    image y = ap (λ ls. kept_bounds_at ls y) changed ∙ ap (λ (ls : List (List Bound)). get_or ls y []) (map-set held_bounds lists x v)

    there : r.node ≡ x → kept_bounds_at new r.node ≡ held_bounds v
    there same = image r.node ∙ ap (λ y. get_or (set (map held_bounds lists) x (held_bounds v)) y []) same ∙ get_or-set_same (map held_bounds lists) x (held_bounds v) [] (omega (arith, length-map lists held_bounds))

    elsewhere : (r.node ≡ x → ⊥) → kept_bounds_at new r.node ≡ kept_bounds_at lists r.node
    elsewhere other = image r.node ∙ get_or-set_other (map held_bounds lists) x r.node (held_bounds v) [] other

-- one more bound is kept, or is covered already
pub kept_put : (bounds : List Bound) (b : Bound) (old new : List (Vec Declared Global)) → AreKept bounds old → IsPut b old new → AreKept (bounds ++ b ∷ []) new
kept_put bounds b old new kept put r = (
  (λ covered. elim ((put r).0 covered) [ inl before ↦ covered_still bounds b r ((kept r).0 before) | inr over ↦ covered_by_last bounds b r over ]),
  (λ covered. (put r).1 (elim (covered_cases bounds b r covered) [ inl before ↦ inl ((kept r).1 before) | inr over ↦ inr over ])),
)

pub kept_still : (bounds : List Bound) (b : Bound) (lists : List (Vec Declared Global)) → AreKept bounds lists → IsCovered bounds b → AreKept (bounds ++ b ∷ []) lists
kept_still bounds b lists kept already r = (
  (λ covered. covered_still bounds b r ((kept r).0 covered)),
  (λ covered. (kept r).1 (elim (covered_cases bounds b r covered) [ inl before ↦ before | inr over ↦ covered_through bounds b r already over ])),
)

-- the same for a list that was read and is put back
pub put_back : (lists : List (Vec Declared Global)) (x : ℕ) (v d : Vec Declared Global) (b : Bound) → x < length lists → b.node ≡ x → d ≡ get_or lists x d →
    ((r : Bound) → IsCovered (held_bounds v) r ↔ (IsCovered (held_bounds d) r ⊎ Dominates b r)) → IsPut b lists (set lists x v)
put_back lists x v d b inside node there put =
    put_at lists (set lists x v) x v b inside node refl
    (λ r. subst (λ (bs : List Bound). IsCovered (held_bounds v) r ↔ (IsCovered bs r ⊎ Dominates b r)) (ap held_bounds there ∙ sym (get_or-map held_bounds lists x d [] inside)) (put r))
