-- What a check says of what is left by fewer constraints.
use Rattle.std.proofs.Common.{ℕ, suc, ◌≡◌, inl, inr, ◌+◌, ◌<◌, ◌≤◌, Bool, true, false, ◌&&◌, List, [], ◌∷◌, ◌++◌, Option, Some, None, map, length, get_or}
use Rattle.std.proofs.Common.{arith, append_assoc, refl, sym, subst, ap, ◌∙◌}
use Rattle.std.specs.Prelude.{nat_lt, pos, if◌then◌else◌}
use Rattle.std.specs.List.{filter, filter_map, cons_option}
use Rattle.std.proofs.lemmas.Bool.{cases_Bool, both_ways, ltb-true, false_from_ne_true, and_parts, and_from}
use Rattle.std.proofs.lemmas.Bool.Decides.{nat_tests}
use Rattle.std.proofs.lemmas.List.{length-append, length-map, map-append, get_or-map}
use Rattle.std.proofs.Math.ListN.{get_or-append}
use Rattle.std.proofs.lemmas.List.Elements.{filter_passes, filter_map-append}
use Rattle.cstn_net.specs.Networks.{Network, Constraint}
use Rattle.cstn_check.specs.Givers.{is_of, with_some, IsPart}
use Rattle.cstn_check.specs.Growth.{load_of}
use Rattle.cstn_check.specs.Needs.{said, IfNo, Stands}
use Rattle.cstn_check.specs.Verdicts.{is_consistent}
use Rattle.cstn_check.specs.declared.needs.Finding.{Finding}
use Rattle.cstn_check.specs.declared.needs.Finding.TheVariants.{Full, Yes, No}
use Rattle.cstn_check.proofs.Parts.{some_twice}
use Rattle.cstn_lift.specs.Labelled.{Labelled}
use Rattle.cstn_lift.specs.Lowered.{with_full_label, full_of, full_constraints, guards, lowered, numbered}
use Rattle.cstn_lift.specs.Completion.{full_label}
use Rattle.cstn_history.specs.Histories.{History}
use Rattle.cstn_history.specs.Rest.{moved, constraint_left, bare, added, rest}
use Rattle.cstn_follow.specs.Tries.{with_base}
use Rattle.cstn_follow.specs.Blame.{network_alone, said_by_network, said_alone}
use Rattle.cstn_follow.specs.Needs.{sources, NeedsNoOther}
use Rattle.cstn_follow.proofs.Constraints.{these_full, these_lowered, rest_same}
use Rattle.cstn_follow.proofs.Nameless.{nameless, load_nameless, consistent_nameless}

-- ---- items that are left out before or after a map

module _ {X Y : Type 0} (g : X → Option Y) (p : X → Bool) (q : Y → Bool) (same : (x : X) (y : Y) → g x ≡ Some y → q y ≡ p x) where
  one_passes : (x : X) (o : Option Y) (ys : List Y) → g x ≡ o → p x ≡ true → filter q (cons_option o ys) ≡ cons_option o (filter q ys)
  one_passes x None ys is t = refl
  one_passes x (Some y) ys is t = rw (same x y is ∙ t) refl

  one_fails : (x : X) (o : Option Y) (ys : List Y) → g x ≡ o → p x ≡ false → filter q (cons_option o ys) ≡ filter q ys
  one_fails x None ys is f = refl
  one_fails x (Some y) ys is f = rw (same x y is ∙ f) refl

  filtered_map : (xs : List X) → filter_map g (filter p xs) ≡ filter q (filter_map g xs)
  filtered_map [] = refl
  filtered_map (x ∷ xs) = elim (cases_Bool (p x)) [
    | inl t ↦ rw t (ap (cons_option (g x)) (filtered_map xs) ∙ sym (one_passes x (g x) (filter_map g xs) refl t))
    | inr f ↦ rw f (filtered_map xs ∙ sym (one_fails x (g x) (filter_map g xs) refl f))
  ]

-- of those that pass a test, those that pass a stronger one
stronger : {X : Type 0} (p q : X → Bool) → ((x : X) → p x ≡ true → q x ≡ true) → (xs : List X) → filter p (filter q xs) ≡ filter p xs
stronger p q more [] = refl
stronger p q more (x ∷ xs) = elim (cases_Bool (p x)) [
  | inl t ↦ rw (more x t) (rw t (ap (λ l. x ∷ l) (stronger p q more xs)))
  | inr f ↦ elim (cases_Bool (q x)) [
    | inl there ↦ rw there (rw f (stronger p q more xs))
    | inr gone ↦ rw gone (rw f (stronger p q more xs))
  ]
]

-- ---- constraints that are numbered

ids_of_these : List Constraint → List ℕ
ids_of_these cs = map (λ c. c.id) cs

numbered_nameless : (n : ℕ) (cs : List Constraint) → map nameless (numbered n cs) ≡ map nameless cs
numbered_nameless n [] = refl
numbered_nameless n (c ∷ cs) = ap (λ l. nameless c ∷ l) (numbered_nameless (n + 1) cs)

-- constraints that are left out by their numbers are left out by their ids
module _ (f t : ℕ → Bool) where
  all_stay : (n : ℕ) (cs : List Constraint) → ((k : ℕ) → n ≤ k → f k ≡ true) → map nameless (filter (λ c. f c.id) (numbered n cs)) ≡ map nameless cs
  all_stay n [] above = refl
  all_stay n (c ∷ cs) above = rw (above n (omega arith)) (ap (λ l. nameless c ∷ l) (all_stay (n + 1) cs (λ k upto. above k (omega arith))))

  by_number : (n : ℕ) (cs ds : List Constraint) → ((k : ℕ) → k < length cs → f (n + k) ≡ t (get_or (map (λ (c : Constraint). c.id) cs) k 0)) →
      ((k : ℕ) → n + length cs ≤ k → f k ≡ true) →
      map nameless (filter (λ c. f c.id) (numbered n (cs ++ ds))) ≡ map nameless (filter (λ c. t c.id) cs ++ ds)
  by_number n [] ds at above = all_stay n ds (λ k upto. above k (omega arith))
  by_number n (c ∷ cs) ds at above =
      let first : f n ≡ t c.id = ap f (let e : n ≡ n + 0 = omega arith in e) ∙ at 0 (omega arith) in
      let later = by_number (n + 1) cs ds
      (λ k inside. ap f (let e : (n + 1) + k ≡ n + suc k = omega arith in e) ∙ at (suc k) (omega arith))
      (λ k upto. above k (omega arith)) in
      elim (cases_Bool (t c.id)) [
        | inl stays ↦ rw (first ∙ stays) (rw stays (ap (λ l. nameless c ∷ l) later))
        | inr goes ↦ rw (first ∙ goes) (rw goes later)
      ]

-- ---- what is left of a labelled network with some of its constraints

module _ (m : Labelled) (h : History) (fresh : ℕ) where
  abbrev R : Labelled
  R = rest m h fresh

  -- what is left of constraints, under their full labels; what is added; and what waits for labels
  abbrev own : List Constraint
  own = full_of R (filter_map (constraint_left m h) m.base.constraints)

  abbrev more : List Constraint
  more = full_of R (numbered fresh (added m h))

  abbrev own_of : (ℕ → Bool) → List Constraint
  own_of test = filter (λ c. test c.id) own

  left_by_if : (b : Bool) (c d : Constraint) → (if b then Some (moved m h c) else None) ≡ Some d → d.id ≡ c.id
  left_by_if true c d is = let same : moved m h c ≡ d = cc in ap (λ (e : Constraint). e.id) (sym same)
  left_by_if false c d is = absurd (cc)

  full_by_if : (b : Bool) (c d : Constraint) → (if b then Some (record c { label = full_label R c }) else None) ≡ Some d → d.id ≡ c.id
  full_by_if true c d is = let same : record c { label = full_label R c } ≡ d = cc in ap (λ (e : Constraint). e.id) (sym same)
  full_by_if false c d is = absurd (cc)

  own_same : (test : ℕ → Bool) → full_of R (filter_map (constraint_left m h) (filter (λ c. test c.id) m.base.constraints)) ≡ own_of test
  own_same test =
      ap (full_of R) (filtered_map (constraint_left m h) (λ c. test c.id) (λ d. test d.id) (λ c d is. ap test (left_by_if _ c d is)) m.base.constraints)
      ∙ filtered_map (with_full_label R) (λ d. test d.id) (λ d. test d.id) (λ c d is. ap test (full_by_if _ c d is))
      (filter_map (constraint_left m h) m.base.constraints)

  -- the constraints that are left under their full labels, and the lowered network
  full_left : (test : ℕ → Bool) → full_constraints (rest (network_alone m test) h fresh) ≡ own_of test ++ more
  full_left test =
      let left = filter_map (constraint_left m h) (filter (λ c. test c.id) m.base.constraints) in
      let behind = numbered fresh (added m h) in
      ap full_constraints (rest_same m (filter (λ c. test c.id) m.base.constraints) h fresh)
      ∙ these_full R (left ++ behind)
      ∙ filter_map-append (with_full_label R) left behind
      ∙ ap (λ l. l ++ more) (own_same test)

  lowered_left : (test : ℕ → Bool) → lowered (rest (network_alone m test) h fresh) ≡ record R.base { constraints = numbered 0 ((own_of test ++ more) ++ guards R) }
  lowered_left test =
      let left = filter_map (constraint_left m h) (filter (λ c. test c.id) m.base.constraints) in
      let behind = numbered fresh (added m h) in
      ap lowered (rest_same m (filter (λ c. test c.id) m.base.constraints) h fresh)
      ∙ these_lowered R (left ++ behind)
      ∙ ap (λ l. record R.base { constraints = numbered 0 (l ++ guards R) })
      (filter_map-append (with_full_label R) left behind ∙ ap (λ l. l ++ more) (own_same test))

  -- the number stays, of a constraint that is left
  abbrev stays : (ℕ → Bool) → (ℕ → Bool) → ℕ → Bool
  stays test t k = if nat_lt k (length (own_of test)) then t (get_or (map (λ (c : Constraint). c.id) (own_of test)) k 0) else true

  module _ (cap : ℕ) (test t : ℕ → Bool) (within : (i : ℕ) → t i ≡ true → test i ≡ true) where
    abbrev f : ℕ → Bool
    f = stays test t

    fewer_nameless : map nameless (filter (λ c. f c.id) (numbered 0 ((own_of test ++ more) ++ guards R)))
        ≡ map nameless (numbered 0 ((own_of t ++ more) ++ guards R))
    fewer_nameless =
        ap (λ l. map nameless (filter (λ c. f c.id) (numbered 0 l))) (append_assoc (own_of test) more (guards R))
        ∙ by_number f t 0 (own_of test) (more ++ guards R) (λ k inside. grind (arith, nat_tests)) (λ k upto. grind (arith, nat_tests))
        ∙ ap (λ l. map nameless (l ++ (more ++ guards R))) (stronger (λ c. t c.id) (λ c. test c.id) (λ c. within c.id) own)
        ∙ ap (map nameless) (sym (append_assoc (own_of t) more (guards R)))
        ∙ sym (numbered_nameless 0 ((own_of t ++ more) ++ guards R))

    -- what is said by fewer constraints is said of the lowered network without some of its constraints
    said_fewer : said cap (with_some (lowered (rest (network_alone m test) h fresh)) f) ≡ said_alone m h fresh cap t
    said_fewer =
        let cs = filter (λ c. f c.id) (numbered 0 ((own_of test ++ more) ++ guards R)) in
        let ds = numbered 0 ((own_of t ++ more) ++ guards R) in
        ap (λ n. said cap (with_some n f)) (lowered_left test)
        ∙ ap (λ n. if nat_lt cap n then None else Some (is_consistent (record R.base { constraints = cs }))) (load_nameless R.base cs ds fewer_nameless)
        ∙ ap (λ b. if nat_lt cap (load_of (record R.base { constraints = ds })) then None else Some b) (consistent_nameless R.base cs ds fewer_nameless)
        ∙ sym (ap (said cap) (lowered_left t))

  -- where a check settles by the needed constraints of what is left, a no stands without the others
  settled_stands : (cap : ℕ) (test : ℕ → Bool) (needed : List ℕ) →
      NeedsNoOther cap (lowered (rest (network_alone m test) h fresh)) (sources (rest (network_alone m test) h fresh)) needed →
      (t : ℕ → Bool) → ((i : ℕ) → t i ≡ true → test i ≡ true) → ((i : ℕ) → is_of needed i ≡ true → test i ≡ true → t i ≡ true) → said_alone m h fresh cap t ≡ Some false
  settled_stands cap test needed settles t within has =
      sym (said_fewer cap test t within) ∙ settles (stays test t) (λ k gone. idle k gone)
    where
      n : ℕ
      n = length (own_of test)

      id_at : ℕ → ℕ
      id_at k = get_or (map (λ (c : Constraint). c.id) (own_of test)) k 0

      idle : (k : ℕ) → stays test t k ≡ false →
          (k < length (sources (rest (network_alone m test) h fresh))) × (is_of needed (get_or (sources (rest (network_alone m test) h fresh)) k 0) ≡ false)
      idle k gone = by (nat_lt k n) refl gone
        where
          ids : List ℕ
          ids = sources (rest (network_alone m test) h fresh)

          are : ids ≡ map (λ (c : Constraint). c.id) (own_of test) ++ map (λ (c : Constraint). c.id) more
          are = ap (map (λ (c : Constraint). c.id)) (full_left test) ∙ map-append (λ (c : Constraint). c.id) (own_of test) more

          by : (b : Bool) → nat_lt k n ≡ b → (if b then t (id_at k) else true) ≡ false → (k < length ids) × (is_of needed (get_or ids k 0) ≡ false)
          by false past gone = absurd (both_ways true gone refl)
          by true before gone =
              let inside : k < n = ltb-true k n before in
              let long : length (map (λ (c : Constraint). c.id) (own_of test)) ≡ n = length-map (own_of test) (λ (c : Constraint). c.id) in
              let here : get_or ids k 0 ≡ id_at k =
              ap (λ l. get_or l k 0) are
              ∙ get_or-append (map (λ (c : Constraint). c.id) (own_of test)) (map (λ (c : Constraint). c.id) more) 0 k (omega arith) in
              let passes : test (id_at k) ≡ true =
              ap test (get_or-map (λ (c : Constraint). c.id) (own_of test) k (bare 0 0 (pos 0)) 0 inside)
              ∙ filter_passes (λ c. test c.id) own k (bare 0 0 (pos 0)) inside in (
                (let size = ap length are ∙ length-append (map (λ (c : Constraint). c.id) (own_of test)) (map (λ (c : Constraint). c.id) more) in omega arith),
                ap (is_of needed) here ∙ false_from_ne_true (is_of needed (id_at k)) (λ need. both_ways (t (id_at k)) gone (has (id_at k) need passes)),
              )

  -- what a check of what is left by some of the constraints needs
  pub stands_by : (cap : ℕ) (base net : Network) (ids : List ℕ) (o : Finding) → IsPart m.base base → net ≡ lowered (rest (with_base m base) h fresh) →
      ids ≡ sources (rest (with_base m base) h fresh) → IfNo o (NeedsNoOther cap net ids) → IfNo o (Stands (said_by_network m h fresh cap) base)
  stands_by cap base net ids Full part net_is ids_are settles = tt
  stands_by cap base net ids (Yes load) part net_is ids_are settles = tt
  stands_by cap base net ids (No needed) part net_is ids_are settles = λ test has.
      ap (said_by_network m h fresh cap) (ap (λ (n : Network). with_some n test) part.1 ∙ some_twice m.base part.0 test)
      ∙ settled_stands cap part.0 needed.items
      (subst (λ (n : Network). NeedsNoOther cap n (sources (rest (network_alone m part.0) h fresh)) needed.items)
      (net_is ∙ ap (λ (b : Network). lowered (rest (with_base m b) h fresh)) part.1)
      (subst (λ l. NeedsNoOther cap net l needed.items) (ids_are ∙ ap (λ (b : Network). sources (rest (with_base m b) h fresh)) part.1) settles))
      (λ i. part.0 i && test i) (λ i e. (and_parts (part.0 i) (test i) e).0) (λ i need passes. and_from (part.0 i) (test i) passes (has i need))
