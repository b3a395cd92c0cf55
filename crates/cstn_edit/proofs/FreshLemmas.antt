-- The fresh ids of a session through its edits.
use Rattle.std.proofs.Common.{ℕ, ℤ, suc, ◌≡◌, inl, inr, ◌+◌, ◌<◌, ◌≤◌, Bool, true, false, not, ◌&&◌, ◌||◌, ◌==◌, List, [], ◌∷◌, ◌++◌, length, map, take, get_or}
use Rattle.std.proofs.Common.{Some, arith, refl, sym, subst, ap, ◌∙◌}
use Rattle.std.specs.Prelude.{slice_get, ◌↔◌}
use Rattle.std.specs.List.{All, Contains, filter}
use Rattle.std.proofs.lemmas.Bool.{cases_Bool, cond-true, cond-false, false≢true}
use Rattle.std.proofs.lemmas.List.{map-append, append-nil}
use Rattle.std.proofs.lemmas.List.Elements.{All-filter, All-map, All-contains, All-contains_itself, All-cons, Contains-push_cases}
use Rattle.cstn_net.specs.declared.constraints.Constraint.{Constraint as DeclaredConstraint}
use Rattle.cstn_net.specs.Networks.{Network, Constraint}
use Rattle.cstn_net.specs.Read.{NetworkParts, the_network, the_constraint}
use Rattle.cstn_rules.specs.declared.entries.Entry.{Entry as DeclaredEntry}
use Rattle.cstn_rules.specs.Derivations.{Entry}
use Rattle.cstn_check.specs.Spent.{AreSpent, is_fresh, fresh_count}
use Rattle.cstn_change.specs.Changes.{with_value, constraints_without}
use Rattle.cstn_log.specs.Entries.{State, the_entries}
use Rattle.cstn_facts.proofs.Places.{take_step}
use Rattle.cstn_edit.specs.Fresh.{constraint_ids, fresh_with, AreSome, IsFreshened}

-- a filter keeps the first element where it passes, and leaves it out where not
kept_first : (p : ℕ → Bool) (x : ℕ) (xs : List ℕ) → p x ≡ true → filter p (x ∷ xs) ≡ x ∷ filter p xs
kept_first p x xs t = cond-true (p x) (x ∷ filter p xs) (filter p xs) t

left_first : (p : ℕ → Bool) (x : ℕ) (xs : List ℕ) → p x ≡ false → filter p (x ∷ xs) ≡ filter p xs
left_first p x xs f = cond-false (p x) (x ∷ filter p xs) (filter p xs) f

-- an id is in a filtered list where it is in the list and passes
fresh_filter : (p : ℕ → Bool) (xs : List ℕ) (x : ℕ) → is_fresh (filter p xs) x ≡ p x && is_fresh xs x
fresh_filter p [] x = grind arith
fresh_filter p (y ∷ ys) x = elim (cases_Bool (p y)) [
  | inl t ↦ elim (cases_Bool (y == x)) [
    | inl same ↦
        let e : y ≡ x = grind (arith, same) in
        let passes : p x ≡ true = ap p (sym e) ∙ t in
        rw (kept_first p y ys t) (grind (arith, same, passes))
    | inr other ↦
        let rest = fresh_filter p ys x in
        rw (kept_first p y ys t) (grind (arith, other, rest))
  ]
  | inr f ↦ elim (cases_Bool (y == x)) [
    | inl same ↦
        let e : y ≡ x = grind (arith, same) in
        let fails : p x ≡ false = ap p (sym e) ∙ f in
        let rest = fresh_filter p ys x in
        rw (left_first p y ys f) (grind (arith, same, fails, rest))
    | inr other ↦
        let rest = fresh_filter p ys x in
        rw (left_first p y ys f) (grind (arith, other, rest))
  ]
]

filter_same : (p q : ℕ → Bool) (xs : List ℕ) → ((x : ℕ) → is_fresh xs x ≡ true → p x ≡ q x) → filter p xs ≡ filter q xs
filter_same p q [] same = refl
filter_same p q (x ∷ xs) same =
    let rest = filter_same p q xs (λ y has. same y (grind (arith, has))) in
    let here : p x ≡ q x = same x (grind arith) in
    elim (cases_Bool (q x)) [
      | inl t ↦ kept_first p x xs (here ∙ t) ∙ ap (λ ys. x ∷ ys) rest ∙ sym (kept_first q x xs t)
      | inr f ↦ left_first p x xs (here ∙ f) ∙ rest ∙ sym (left_first q x xs f)
    ]

short_filter : (p : ℕ → Bool) (xs : List ℕ) → length (filter p xs) ≤ length xs
short_filter p [] = omega arith
short_filter p (x ∷ xs) = let rest = short_filter p xs in elim (cases_Bool (p x)) [
  | inl t ↦ rw (kept_first p x xs t) (omega (arith, rest))
  | inr f ↦ rw (left_first p x xs f) (omega (arith, rest))
]

-- the fresh ids are at most as many as all ids
pub some_short : (fresh ids : List ℕ) → AreSome fresh ids → length fresh ≤ length ids
some_short fresh ids some = let all = short_filter (λ x. is_fresh fresh x) ids in omega (arith, all, ap length some)

-- the ids that were fresh or are equal to one id are some of the ids
pub some_with : (id : ℕ) (fresh ids : List ℕ) → AreSome (fresh_with id fresh ids) ids
some_with id fresh ids =
    let p : ℕ → Bool = λ x. (x == id) || is_fresh fresh x in
    filter_same p (λ x. is_fresh (filter p ids) x) ids (λ x has. let both = fresh_filter p ids x in sym (both ∙ grind (arith, has)))

filter_append : (p : ℕ → Bool) (xs ys : List ℕ) → filter p (xs ++ ys) ≡ filter p xs ++ filter p ys
filter_append p [] ys = refl
filter_append p (x ∷ xs) ys = elim (cases_Bool (p x)) [
  | inl t ↦ kept_first p x (xs ++ ys) t ∙ ap (λ zs. x ∷ zs) (filter_append p xs ys) ∙ ap (λ zs. zs ++ filter p ys) (sym (kept_first p x xs t))
  | inr f ↦ left_first p x (xs ++ ys) f ∙ filter_append p xs ys ∙ ap (λ zs. zs ++ filter p ys) (sym (left_first p x xs f))
]

fresh_more : (fresh : List ℕ) (id x : ℕ) → is_fresh (fresh ++ id ∷ []) x ≡ is_fresh fresh x || (id == x)
fresh_more [] id x = grind arith
fresh_more (y ∷ ys) id x = let rest = fresh_more ys id x in grind (arith, rest)

-- where the ids of all constraints are below n, an id that is among them is below n
below_ids : (n : ℕ) (cs : List DeclaredConstraint) (x : ℕ) → All (λ c. c.id < n) cs → is_fresh (constraint_ids cs) x ≡ true → x < n
below_ids n [] x below has = let no : false ≡ true = has in absurd (false≢true no)
below_ids n (c ∷ cs) x below has = elim (cases_Bool (c.id == x)) [
  | inl same ↦ let e : c.id ≡ x = grind (arith, same) in let first = below 0 c (omega arith) in omega (arith, e, first)
  | inr other ↦ below_ids n cs x (λ k d inside. below (suc k) d (omega (arith, inside))) (grind (arith, other, has))
]

-- with a new constraint at the end, the fresh ids and the new one are some of the ids
pub some_more : (n : ℕ) (fresh : List ℕ) (cs : List DeclaredConstraint) (c : DeclaredConstraint) → All (λ d. d.id < n) cs → n ≤ c.id → AreSome fresh (constraint_ids cs) → AreSome (fresh ++ c.id ∷ []) (constraint_ids (cs ++ c ∷ []))
some_more n fresh cs c below above some =
    let id = c.id in
    let p : ℕ → Bool = λ x. is_fresh (fresh ++ id ∷ []) x in
    let old : filter p (constraint_ids cs) ≡ fresh = filter_same p (λ x. is_fresh fresh x) (constraint_ids cs) (λ x has.
    let low = below_ids n cs x below has in
    let apart : (id == x) ≡ false = grind (arith, low, above) in
    let more = fresh_more fresh id x in
    more ∙ grind (arith, apart)) ∙ sym some in
    let last : filter p (id ∷ []) ≡ id ∷ [] = kept_first p id [] (let more = fresh_more fresh id id in more ∙ grind arith) in
    let ids : constraint_ids (cs ++ c ∷ []) ≡ constraint_ids cs ++ id ∷ [] = map-append (λ (d : DeclaredConstraint). d.id) cs (c ∷ []) in
    sym (ap (filter p) ids ∙ filter_append p (constraint_ids cs) (id ∷ []) ∙ ap (λ xs. xs ++ filter p (id ∷ [])) old ∙ ap (λ xs. fresh ++ xs) last)

-- as many constraints are fresh as there are fresh ids
pub count_some : (fresh : List ℕ) (cs : List DeclaredConstraint) → AreSome fresh (constraint_ids cs) → fresh_count fresh (map the_constraint cs) ≡ length fresh
count_some fresh cs some = counted cs ∙ sym (ap length some)
  where
    counted : (ds : List DeclaredConstraint) → fresh_count fresh (map the_constraint ds) ≡ length (filter (λ x. is_fresh fresh x) (constraint_ids ds))
    counted [] = refl
    counted (d ∷ ds) = let rest = counted ds in elim (cases_Bool (is_fresh fresh d.id)) [
      | inl t ↦ rw (kept_first (λ x. is_fresh fresh x) d.id (constraint_ids ds) t, cond-true {A = ℕ} (is_fresh fresh d.id) 1 0 t) (omega (arith, rest))
      | inr f ↦ rw (left_first (λ x. is_fresh fresh x) d.id (constraint_ids ds) f, cond-false {A = ℕ} (is_fresh fresh d.id) 1 0 f) (omega (arith, rest))
    ]

-- the id of a constraint of the list is among the ids of the list
has_id_of : (cs : List DeclaredConstraint) (c : Constraint) → Contains (map the_constraint cs) c → is_fresh (constraint_ids cs) c.id ≡ true
has_id_of cs c has = All-contains (λ (d : Constraint). is_fresh (constraint_ids cs) d.id ≡ true) (map the_constraint cs) c
    (All-map (λ (d : Constraint). is_fresh (constraint_ids cs) d.id ≡ true) the_constraint cs (each cs)) has
  where
    each : (ds : List DeclaredConstraint) → All (λ (d : DeclaredConstraint). is_fresh (constraint_ids ds) d.id ≡ true) ds
    each [] = λ k d inside. absurd (omega arith)
    each (d ∷ ds) = All-cons (λ (e : DeclaredConstraint). is_fresh (constraint_ids (d ∷ ds)) e.id ≡ true) d ds (grind arith)
        (λ k e inside. let rest = each ds k e inside in grind (arith, rest))

module _ (net : Network) (list : List Entry) (fresh : List ℕ) (n : ℕ) (are : AreSpent net list fresh n) where
  -- instances that are spent stay so with these constraints, if each of them was there before or is fresh
  pub spent_with : (id : ℕ) (cs : List DeclaredConstraint) → ((c : Constraint) → Contains (map the_constraint cs) c → (c.id ≡ id → ⊥) → Contains net.constraints c) →
      AreSpent (record net { constraints = map the_constraint cs }) list (fresh_with id fresh (constraint_ids cs)) n
  spent_with id cs old = record {
    chains = λ c j has not low.
        let p : ℕ → Bool = λ x. (x == id) || is_fresh fresh x in
        let in_ids = has_id_of cs c has in
        let both = fresh_filter p (constraint_ids cs) c.id in
        let fails : ((c.id == id) || is_fresh fresh c.id) ≡ false = grind (arith, both, in_ids, not) in
        let other : c.id ≡ id → ⊥ = λ e. let t : (c.id == id) ≡ true = grind (arith, e) in false≢true (sym fails ∙ grind (arith, t)) in
        let was : is_fresh fresh c.id ≡ false = grind (arith, fails) in
        λ r gives live. are.chains c j (old c has other) was low r gives live;
    waits = λ i j low below. λ r gives live. are.waits i j low below r gives live;
  }

  pub spent_more : (cs : List Constraint) (c : Constraint) → net.constraints ≡ cs →
      AreSpent (record net { constraints = cs ++ c ∷ [] }) list (fresh ++ c.id ∷ []) n
  spent_more cs c is = record {
    chains = λ d j has not low.
        let more = fresh_more fresh c.id d.id in
        let was : is_fresh fresh d.id ≡ false = grind (arith, more, not) in
        let other : (c.id == d.id) ≡ false = grind (arith, more, not) in
        let first : Contains net.constraints d = rw is (one_of cs d has (λ same. let t : (c.id == d.id) ≡ true = grind (arith, ap (λ (x : Constraint). x.id) same) in false≢true (sym other ∙ t))) in
        λ r gives live. are.chains d j first was low r gives live;
    waits = λ i j low below. λ r gives live. are.waits i j low below r gives live;
  }
    where
      one_of : (ds : List Constraint) (d : Constraint) → Contains (ds ++ c ∷ []) d → (c ≡ d → ⊥) → Contains ds d
      one_of ds d has apart = elim (Contains-push_cases ds c d has) [ inl old ↦ old | inr new ↦ absurd (apart new) ]

-- a constraint that is left after one was taken out was there before
pub left_there : (id : ℕ) (cs : List Constraint) (c : Constraint) → Contains (constraints_without id cs) c → Contains cs c
left_there id cs c has =
    All-contains (Contains cs) (constraints_without id cs) c (All-filter (λ d. not (d.id == id)) (Contains cs) cs (All-contains_itself cs)) has

-- a constraint with another id was there before the one with this id got its value
pub with_there : (id : ℕ) (most : ℤ) (cs : List Constraint) (c : Constraint) → Contains (map (with_value id most) cs) c → (c.id ≡ id → ⊥) → Contains cs c
with_there id most cs c has =
    All-contains (λ (d : Constraint). (d.id ≡ id → ⊥) → Contains cs d) (map (with_value id most) cs) c
    (All-map (λ (d : Constraint). (d.id ≡ id → ⊥) → Contains cs d) (with_value id most) cs (λ k d inside apart.
    unchanged (get_or cs k d) (All-contains_itself cs k d inside) apart)) has
  where
    unchanged : (d : Constraint) → Contains cs d → ((with_value id most d).id ≡ id → ⊥) → Contains cs (with_value id most d)
    unchanged d there apart = elim (cases_Bool (d.id == id)) [
      | inl t ↦
          let e : d.id ≡ id = grind (arith, t) in
          let same : (with_value id most d).id ≡ id = rw t e in
          absurd (apart same)
      | inr f ↦ rw f there
    ]

-- the empty list is some of the ids
pub some_none : (ids : List ℕ) → AreSome [] ids
some_none [] = refl
some_none (x ∷ xs) = some_none xs ∙ sym (left_first (λ y. is_fresh [] y) x xs refl)

-- what is picked of the first k + 1 ids, from what is picked of the first k
pub picked_step : (id : ℕ) (fresh ids : List ℕ) (k x : ℕ) → slice_get ids k ≡ Some x →
    (((x == id) || is_fresh fresh x) ≡ true → fresh_with id fresh (take (k + 1) ids) ≡ fresh_with id fresh (take k ids) ++ x ∷ [])
    × (((x == id) || is_fresh fresh x) ≡ false → fresh_with id fresh (take (k + 1) ids) ≡ fresh_with id fresh (take k ids))
picked_step id fresh ids k x there =
    let p : ℕ → Bool = λ y. (y == id) || is_fresh fresh y in
    let more = ap (filter p) (take_step ids k x there) ∙ filter_append p (take k ids) (x ∷ []) in (
      λ t. more ∙ ap (λ ys. filter p (take k ids) ++ ys) (kept_first p x [] t),
      λ f. more ∙ ap (λ ys. filter p (take k ids) ++ ys) (left_first p x [] f) ∙ append-nil (filter p (take k ids)),
    )

-- `IsFreshened` holds after a constraint is added
pub added_freshened : (old new : NetworkParts) (c : DeclaredConstraint) (log : State) (room : ℕ) (fresh more : List ℕ) (settled : Bool) (held spare wide n : ℕ) → IsFreshened old log room fresh settled held spare →
    All (λ d. d.id < n) old.constraints → n ≤ c.id → new ≡ record old { constraints = old.constraints ++ c ∷ []; spare = new.spare } → more ≡ fresh ++ c.id ∷ [] → held ≤ wide → IsFreshened new log room more settled wide spare
added_freshened old new c log room fresh more settled held spare wide n was below above is longer upto =
    subst (λ (w : NetworkParts). IsFreshened w log room more settled wide spare) (sym is)
    (subst (λ (f : List ℕ). IsFreshened (record old { constraints = old.constraints ++ c ∷ []; spare = new.spare }) log room f settled wide spare) (sym longer) (record {
      some = some_more n fresh old.constraints c below above was.some;
      spent = λ t.
          subst (λ cs. AreSpent (record (the_network old) { constraints = cs }) (the_entries log.entries) (fresh ++ c.id ∷ []) (length log.entries)) (sym (map-append the_constraint old.constraints (c ∷ [])))
          (spent_more (the_network old) (the_entries log.entries) fresh (length log.entries) (was.spent t) (map the_constraint old.constraints) (the_constraint c) refl);
      for_fresh = omega (arith, was.for_fresh, upto);
      for_list = was.for_list;
    }))

-- `IsFreshened` holds after a constraint is taken out or changed
pub cut_freshened : (old new : NetworkParts) (log left : State) (room id : ℕ) (fresh more : List ℕ) (settled now : Bool) (held spare : ℕ) (wide list : ℕ) → IsFreshened old log room fresh settled held spare →
    the_network new ≡ record (the_network old) { constraints = map the_constraint new.constraints } → ((c : Constraint) → Contains (map the_constraint new.constraints) c → (c.id ≡ id → ⊥) → Contains (map the_constraint old.constraints) c) →
    more ≡ fresh_with id fresh (constraint_ids new.constraints) → (now ≡ true ↔ ((settled ≡ true) × (left.entries ≡ log.entries))) → room ≤ wide → room ≤ list → IsFreshened new left room more now wide list
cut_freshened old new log left room id fresh more settled now held spare wide list was is others longer stays for_fresh for_list =
    rw longer (record {
      some = some_with id fresh (constraint_ids new.constraints);
      spent = λ t.
          let both = stays.0 t in
          let spent = spent_with (the_network old) (the_entries log.entries) fresh (length log.entries) (was.spent both.0) id new.constraints others in
          subst (λ (es : List DeclaredEntry). AreSpent (the_network new) (the_entries es) (fresh_with id fresh (constraint_ids new.constraints)) (length es)) (sym both.1)
          (subst (λ (n : Network). AreSpent n (the_entries log.entries) (fresh_with id fresh (constraint_ids new.constraints)) (length log.entries)) (sym is) spent);
      for_fresh = for_fresh;
      for_list = for_list;
    })
