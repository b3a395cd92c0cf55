-- The network that is generated for a number and a size is well-formed.
use Rattle.std.proofs.Common.{ℕ, zero, suc, ◌≡◌, ◌≢◌, ◌⊎◌, inl, inr, ◌+◌, ◌*◌, ◌/◌, ◌<◌, ◌≤◌, Some, None, true, false, refl, ap, sym, subst, arith, ◌∙◌}
use Rattle.std.specs.Prelude.{map, nat_lt, ◌==◌, if◌then◌else◌, cond, pos, ◌≤ℤ◌, negsuc}
use Rattle.std.specs.List.{All, range_with_len}
use Rattle.std.proofs.Math.Nat.{mod-lt, div-mul-le_self}
use Rattle.std.proofs.Math.ListN.{get_or-eq_default}
use Rattle.std.proofs.lemmas.Bool.{cases_lt}
use Rattle.std.proofs.lemmas.Int.{ints}
use Rattle.std.proofs.lemmas.List.Elements.{All-map, All-cons, All-nil}
use Rattle.std.proofs.lemmas.List.FromFn.{get_or-map-range_with_len, length-map-range_with_len}
use Rattle.cstn_label.specs.declared.marks.Mark.{Mark}
use Rattle.cstn_label.specs.declared.marks.Mark.TheVariants.{Absent}
use Rattle.cstn_label.specs.Labels.{Label, empty, IsPlain, IsMarkPlain, with_mark}
use Rattle.cstn_label.specs.Marks.{is_absent}
use Rattle.cstn_net.specs.Networks.{IsConstraint, IsOnObserved, IsWellFormed, IsValue, Observes, count}
use Rattle.cstn_gen.specs.Draws.{nth_state, drawn, number_below}
use Rattle.cstn_gen.specs.Generated.{props_of, observed_by, sign, with_drawn_literal, Literals, literals, letter_prop, span_of, span_at, literals_at, constraint_at, state_at, generated}
use Rattle.cstn_gen.specs.declared.constraints.Span.{Span}

-- what is drawn below m is below m
pub drawn_below : (n m x : ℕ) → 0 < m → drawn n m x < m
unfolding number_below
drawn_below n m x some = mod-lt (nth_state n x / 8589934592) some

-- what holds of each number holds of each of a range
each : (P : ℕ → Type 0) → ((i : ℕ) → P i) → (a n : ℕ) → All P (range_with_len a n)
each P holds a zero = All-nil P
each P holds a (suc n) = All-cons P a (range_with_len (a + 1) n) (holds a) (each P holds (a + 1) n)

-- there are no more propositions than time-points after the origin
props_fit : (size : ℕ) → 1 ≤ size → (0 < props_of size) × (props_of size ≤ 6) × (props_of size ≤ size)
props_fit size some = let third = div-mul-le_self size 3 in (omega arith, omega arith, omega arith)

module _ (number size : ℕ) (some : 1 ≤ size) (few : size ≤ 200) where
  abbrev k : ℕ
  k = props_of size

  points : count (generated number size) ≡ size + 1
  points = ap suc (length-map-range_with_len (observed_by k) 0 size) ∙ omega arith

  -- the i-th letter is observed by the i-th time-point after the origin
  observes_letter : (i : ℕ) → i < k → Observes (generated number size) (suc i) (letter_prop i)
  observes_letter i inside =
      let fits = (props_fit size some).2 in
      let before : i < size = omega (arith, fits, inside) in
      let yes : nat_lt i k ≡ true = grind arith in
      record {
        what = get_or-map-range_with_len (observed_by k) 0 size i i None before (omega arith)
            ∙ ap (λ b. if b then Some (letter_prop i) else None) yes;
      }

  -- x, which observes p, is one of the first k time-points after the origin, and p is its letter
  record Place (x p : ℕ) : Type 0 where
    later : 0 < x
    inside : x ≤ k
    letter : p ≡ 25 + x

  letter_at : (i p : ℕ) → observed_by k i ≡ Some p → Place (suc i) p
  letter_at i p is = elim (cases_lt i k) [
    | inl inside ↦
        let yes : nat_lt i k ≡ true = grind arith in
        let same : Some (letter_prop i) ≡ Some p = sym (ap (λ b. if b then Some (letter_prop i) else None) yes) ∙ is in
        let letter : letter_prop i ≡ p = cc in
        record { later = omega arith; inside = omega arith; letter = omega (arith, letter) }
    | inr past ↦
        let no : nat_lt i k ≡ false = grind arith in
        let none : None ≡ Some p = sym (ap (λ b. if b then Some (letter_prop i) else None) no) ∙ is in
        absurd (cc)
  ]

  place_of : (x p : ℕ) → Observes (generated number size) x p → Place x p
  place_of zero p o = let w = o.what in absurd (cc)
  place_of (suc i) p o = elim (cases_lt i size) [
    | inl before ↦ letter_at i p (sym (get_or-map-range_with_len (observed_by k) 0 size i i None before (omega arith)) ∙ o.what)
    | inr past ↦
        let len = length-map-range_with_len (observed_by k) 0 size in
        let none = get_or-eq_default (map (observed_by k) (range_with_len 0 size)) None {n = i} (omega (arith, len)) in
        let w = o.what in
        absurd (cc)
  ]

  -- each mark of a drawn label is plain, and on an observed proposition
  record IsDrawn (a : Label) : Type 0 where
    plain : IsPlain a
    observed : IsOnObserved (generated number size) a

  signs_plain : (n : ℕ) → IsMarkPlain (sign n)
  signs_plain n = grind arith

  drawn_with : (a : Label) (i n : ℕ) → i < k → IsDrawn a → IsDrawn (with_drawn_literal a (letter_prop i) (sign n))
  drawn_with a i n inside good = elim (absent_cases (a (letter_prop i))) [
    | inl free ↦ subst IsDrawn (sym (ap (λ b. if b then with_mark a (letter_prop i) (sign n) else a) free)) (record {
      plain = λ q. marked_plain q;
      observed = λ q there. marked_observed q there;
    })
    | inr taken ↦ subst IsDrawn (sym (ap (λ b. if b then with_mark a (letter_prop i) (sign n) else a) taken)) good
  ] where
    by_eq : (p q : ℕ) → ((p == q) ≡ true) ⊎ ((p == q) ≡ false)
    by_eq p q = grind arith

    nat_eq_true : (p q : ℕ) → (p == q) ≡ true → p ≡ q
    nat_eq_true p q e = grind arith

    absent_cases : (m : Mark) → (is_absent m ≡ true) ⊎ (is_absent m ≡ false)
    absent_cases m = grind arith

    marked_plain : (q : ℕ) → IsMarkPlain (with_mark a (letter_prop i) (sign n) q)
    marked_plain q = elim (by_eq q (letter_prop i)) [
      | inl same ↦ subst IsMarkPlain (sym (ap (λ b. cond b (sign n) (a q)) same)) (signs_plain n)
      | inr other ↦ subst IsMarkPlain (sym (ap (λ b. cond b (sign n) (a q)) other)) (good.plain q)
    ]

    marked_observed : (q : ℕ) → with_mark a (letter_prop i) (sign n) q ≢ Absent → (x : ℕ) × Observes (generated number size) x q
    marked_observed q there = elim (by_eq q (letter_prop i)) [
      | inl same ↦
          let e : q ≡ letter_prop i = nat_eq_true q (letter_prop i) same in
          (suc i, subst (λ p. Observes (generated number size) (suc i) p) (sym e) (observes_letter i inside))
      | inr other ↦ good.observed q (subst (λ m. m ≢ Absent) (ap (λ b. cond b (sign n) (a q)) other) there)
    ]

  drawn_label : (m : ℕ) (l : Literals) → IsDrawn l.label → IsDrawn (literals k m l).label
  drawn_label zero l good = good
  drawn_label (suc m) l good =
      let before = literals k m l in
      let fits = props_fit size some in
      drawn_with before.label (drawn 1 k before.state) (drawn 2 2 before.state) (drawn_below 1 k before.state fits.0) (drawn_label m l good)

  labels : (x : ℕ) → IsDrawn (literals_at size x).label
  labels x = drawn_label (drawn 1 3 (nth_state 4 x)) (record { label = empty; state = nth_state 5 x }) (record { plain = λ p. tt; observed = λ p there. absurd (there refl) })

  -- the ends are time-points, and the value is from -9 to 14
  record IsSpan (s : Span) : Type 0 where
    from : s.from ≤ size
    to : s.to ≤ size
    low : negsuc 8 ≤ℤ s.most
    high : s.most ≤ℤ pos 14

  spans_fit : (q i j w : ℕ) → i ≤ size → j ≤ size → w < 10 → IsSpan (span_of q i j w)
  spans_fit q i j w in_size also value = grind (arith, ints)

  spans : (x : ℕ) → IsSpan (span_at size x)
  spans x =
      let i = drawn_below 2 size x some in
      let j = drawn_below 3 size x some in
      spans_fit (drawn 1 4 x) (1 + drawn 2 size x) (1 + drawn 3 size x) (drawn 4 10 x) (omega (arith, i)) (omega (arith, j)) (drawn_below 4 10 x (omega arith))

  constraint_of_it : (id : ℕ) → IsConstraint (generated number size) (constraint_at number size id)
  constraint_of_it id =
      let x = state_at number size id in
      let span = spans x in
      let drawn_label = labels x in
      record {
        from = let e = points in omega (arith, e, span.from);
        to = let e = points in omega (arith, e, span.to);
        plain = drawn_label.plain;
        observed = drawn_label.observed;
      }

  pub well_formed : IsWellFormed (generated number size)
  well_formed =
      let fits = props_fit size some in
      record {
        network = record {
          origin = let e = points in omega (arith, e);
          one_observer = λ x y p o q. let a = place_of x p o in let b = place_of y p q in omega (arith, a.letter, b.letter);
          reacts = λ x p o. omega arith;
          constraints = All-map (IsConstraint (generated number size)) (constraint_at number size) (range_with_len 0 (2 * size))
              (each (λ id. IsConstraint (generated number size) (constraint_at number size id)) constraint_of_it 0 (2 * size));
        };
        few_points = let e = points in omega (arith, e);
        letters = λ x p o. let a = place_of x p o in let most = fits.1 in omega (arith, a.letter, a.inside, most);
        soon = λ x p o. omega arith;
        few_constraints = let e = length-map-range_with_len (constraint_at number size) 0 (2 * size) in omega (arith, e);
        ascending = λ i j d before inside.
            let len = length-map-range_with_len (constraint_at number size) 0 (2 * size) in
            let here : j < 2 * size = omega (arith, len, inside) in
            let first = ap (λ c. c.id) (get_or-map-range_with_len (constraint_at number size) 0 (2 * size) i i d (omega arith) (omega arith)) in
            let second = ap (λ c. c.id) (get_or-map-range_with_len (constraint_at number size) 0 (2 * size) j j d here (omega arith)) in
            omega (arith, first, second, before);
        values = All-map (λ c. IsValue c.most) (constraint_at number size) (range_with_len 0 (2 * size))
            (each (λ id. IsValue (constraint_at number size id).most) (λ id.
            let span = spans (state_at number size id) in
            let low = span.low in
            let high = span.high in
            (omega (arith, ints), omega (arith, ints))) 0 (2 * size));
        in_time = omega arith;
      }
