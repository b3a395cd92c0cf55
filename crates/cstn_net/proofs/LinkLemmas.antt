-- Links, a constraint at a time, and walks along them.
use Rattle.std.proofs.Common.{ℕ, zero, suc, ◌≡◌, inl, inr, ◌+◌, ◌<◌, ◌≤◌, Option, Some, None, List, [], ◌∷◌, ◌++◌, length, get_or, set, drop, replicate, arith, refl, sym, subst, ◌∙◌, ap}
use Rattle.std.specs.List.{filter, HoldsAt}
use Rattle.std.proofs.Math.Seq.{drop-nil}
use Rattle.std.proofs.lemmas.Bool.{cases_lt, cases_eq, eq-eqb, ne_eqb}
use Rattle.std.proofs.lemmas.List.{get_or_append_left, get_or-set_same, get_or-set_other, length-set, length-append, length-map, get_or-map}
use Rattle.cstn_net.specs.declared.constraints.Constraint.{Constraint}
use Rattle.cstn_net.specs.declared.links.Chain.{Chain}
use Rattle.cstn_net.specs.Links.{IsPlaceOf, IsNextPlace, IsLastPlace, StandsFromTo, AreLinked, ends, ends_at, left_to}

none_in : {X : Type 0} (n k : ℕ) → get_or {A = Option X} (replicate n None) k None ≡ None
none_in zero k = refl
none_in (suc n) zero = refl
none_in (suc n) (suc k) = none_in n k

-- without constraints, the links are right where each chain is empty
pub none_linked : (n : ℕ) → AreLinked [] (replicate n None) []
none_linked n = record {
  long = refl;
  chained = λ x inside. subst (StandsFromTo x []) (sym (none_in n x)) (λ k low inside here. omega arith);
  followed = λ k inside. absurd (omega arith);
}

new_there : {X : Type 0} (xs : List X) (y d : X) → get_or (xs ++ y ∷ []) (length xs) d ≡ y
new_there [] y d = refl
new_there (x ∷ xs) y d = new_there xs y d

module _ (xs : List ℕ) (y : ℕ) where
  longer : length (xs ++ y ∷ []) ≡ length xs + 1
  longer = length-append xs (y ∷ [])

  old_there : (k : ℕ) → k < length xs → get_or (xs ++ y ∷ []) k 0 ≡ get_or xs k 0
  old_there k inside = get_or_append_left xs (y ∷ []) 0 k inside

  place_stays : (x low p : ℕ) → IsPlaceOf x low xs p → IsPlaceOf x low (xs ++ y ∷ []) p
  place_stays x low p h =
      let inside = h.inside in
      let long = longer in
      record {
        later = h.later;
        inside = omega arith;
        here = old_there p inside ∙ h.here;
        skipped = λ k from before at. h.skipped k from before (sym (old_there k (omega arith)) ∙ at);
      }

  nowhere_stays : (x low : ℕ) → (y ≡ x → ⊥) → IsNextPlace x low xs None → IsNextPlace x low (xs ++ y ∷ []) None
  nowhere_stays x low other none k from inside at = elim (cases_lt k (length xs)) [
    | inl before ↦ none k from before (sym (old_there k before) ∙ at)
    | inr past ↦
        let long = longer in
        let last : k ≡ length xs = omega arith in
        other (sym (new_there xs y 0) ∙ subst (λ n. get_or (xs ++ y ∷ []) n 0 ≡ x) last at)
  ]

  next_stays : (x low : ℕ) (o : Option ℕ) → (o ≡ None → y ≡ x → ⊥) → IsNextPlace x low xs o → IsNextPlace x low (xs ++ y ∷ []) o
  next_stays x low None other next = nowhere_stays x low (other refl) next
  next_stays x low (Some p) other next = place_stays x low p next

  place_found : (low : ℕ) → low ≤ length xs → IsNextPlace y low xs None → IsPlaceOf y low (xs ++ y ∷ []) (length xs)
  place_found low upto none =
      let long = longer in
      record {
        later = upto;
        inside = omega arith;
        here = new_there xs y 0;
        skipped = λ k from before at. none k from before (sym (old_there k before) ∙ at);
      }

  new_is_last : IsLastPlace y (xs ++ y ∷ []) (length xs)
  new_is_last =
      let long = longer in
      record {
        inside = omega arith;
        here = new_there xs y 0;
        after = λ k past inside at. omega arith;
      }

  last_stays : (x p : ℕ) → (y ≡ x → ⊥) → IsLastPlace x xs p → IsLastPlace x (xs ++ y ∷ []) p
  last_stays x p other h =
      let inside = h.inside in
      let long = longer in
      record {
        inside = omega arith;
        here = old_there p inside ∙ h.here;
        after = λ k past within at.
            nowhere_stays x (p + 1) other (λ k from within at. h.after k (omega arith) within at) k (omega arith) within at;
      }

  chain_stays : (x : ℕ) (o : Option Chain) → (y ≡ x → ⊥) → StandsFromTo x xs o → StandsFromTo x (xs ++ y ∷ []) o
  chain_stays x None other none = nowhere_stays x 0 other none
  chain_stays x (Some c) other h = (place_stays x 0 c.first h.0, last_stays x c.last other h.1)

  nothing_after_new : (x : ℕ) → IsNextPlace x (length xs + 1) (xs ++ y ∷ []) None
  nothing_after_new x k from inside at = let long = longer in omega arith

module _ (xs : List ℕ) (chains : List (Option Chain)) (nexts : List (Option ℕ)) (y : ℕ) (inside : y < length chains) (linked : AreLinked xs chains nexts) where
  -- the chains stay right when y gets a chain that is right for it
  chains_with : (o : Option Chain) → StandsFromTo y (xs ++ y ∷ []) o → (x : ℕ) → x < length (set chains y o) →
      StandsFromTo x (xs ++ y ∷ []) (get_or (set chains y o) x None)
  chains_with o at_y x within = elim (cases_eq x y) [
    | inl same ↦ rw same (rw (get_or-set_same chains y o None inside) at_y)
    | inr other ↦
        let long = length-set chains y o in
        rw (get_or-set_other chains y x o None other)
        (chain_stays xs y x (get_or chains x None) (λ e. other (sym e)) (linked.chained x (omega arith)))
  ]

  -- a place that isn't the last of y keeps what comes next
  next_kept : (k : ℕ) → k < length xs → (get_or nexts k None ≡ None → y ≡ get_or xs k 0 → ⊥) →
      IsNextPlace (get_or (xs ++ y ∷ []) k 0) (k + 1) (xs ++ y ∷ []) (get_or (nexts ++ None ∷ []) k None)
  next_kept k within other =
      let long = linked.long in
      rw (old_there xs y k within, get_or_append_left nexts (None ∷ []) None k (omega arith))
      (next_stays xs y (get_or xs k 0) (k + 1) (get_or nexts k None) other (linked.followed k within))

  next_new : (k : ℕ) → k ≡ length xs → IsNextPlace (get_or (xs ++ y ∷ []) k 0) (k + 1) (xs ++ y ∷ []) (get_or (nexts ++ None ∷ []) k None)
  next_new k is =
      let long = linked.long in
      let at : k ≡ length nexts = omega arith in
      let none : get_or (nexts ++ None ∷ []) k None ≡ None = ap (λ n. get_or (nexts ++ None ∷ []) n None) at ∙ new_there nexts None None in
      subst (IsNextPlace (get_or (xs ++ y ∷ []) k 0) (k + 1) (xs ++ y ∷ [])) (sym none)
      (subst (λ n. IsNextPlace (get_or (xs ++ y ∷ []) k 0) (n + 1) (xs ++ y ∷ []) None) (sym is)
      (nothing_after_new xs y (get_or (xs ++ y ∷ []) k 0)))

  -- the first constraint that ends at y begins the chain of y
  pub chain_begun : (m : ℕ) → m ≡ length xs → get_or chains y None ≡ None →
      AreLinked (xs ++ y ∷ []) (set chains y (Some (record { first = m; last = m }))) (nexts ++ None ∷ [])
  chain_begun m at none =
      let long = linked.long in
      let nowhere = subst (StandsFromTo y xs) none (linked.chained y inside) in
      record {
        long = omega (arith, length-append nexts (None ∷ []), length-append xs (y ∷ []));
        chained = chains_with (Some (record { first = m; last = m }))
            (subst (λ n. IsPlaceOf y 0 (xs ++ y ∷ []) n) (sym at) (place_found xs y 0 (omega arith) nowhere), subst (IsLastPlace y (xs ++ y ∷ [])) (sym at) (new_is_last xs y));
        followed = λ k within. elim (cases_lt k (length xs)) [
          | inl before ↦ next_kept k before (λ e same. nowhere k (omega arith) before (sym same))
          | inr past ↦ next_new k (omega (arith, length-append xs (y ∷ [])))
        ];
      }

  -- a further constraint that ends at y extends the chain of y
  pub chain_grown : (m : ℕ) (c : Chain) → m ≡ length xs → get_or chains y None ≡ Some c →
      AreLinked (xs ++ y ∷ []) (set chains y (Some (record { first = c.first; last = m }))) (set (nexts ++ None ∷ []) c.last (Some m))
  chain_grown m c at some =
      let long = linked.long in
      let more = length-append nexts (None ∷ []) in
      let chain = subst (StandsFromTo y xs) some (linked.chained y inside) in
      let last = chain.1 in
      let last_inside = last.inside in
      let nothing_later : IsNextPlace y (c.last + 1) xs None = λ k from within at. last.after k (omega arith) within at in
      record {
        long = omega (arith, length-set (nexts ++ None ∷ []) c.last (Some m), more, length-append xs (y ∷ []));
        chained = chains_with (Some (record { first = c.first; last = m }))
            (place_stays xs y y 0 c.first chain.0, subst (IsLastPlace y (xs ++ y ∷ [])) (sym at) (new_is_last xs y));
        followed = λ k within. elim (cases_eq k c.last) [
          | inl same ↦
              rw same (rw (get_or-set_same (nexts ++ None ∷ []) c.last (Some m) None (omega arith), old_there xs y c.last last_inside, last.here, at)
              (place_found xs y (c.last + 1) (omega arith) nothing_later))
          | inr other ↦
              rw (get_or-set_other (nexts ++ None ∷ []) c.last k (Some m) None other)
              (elim (cases_lt k (length xs)) [
                | inl before ↦ next_kept k before (λ e same.
                    let next = subst (IsNextPlace (get_or xs k 0) (k + 1) xs) e (linked.followed k before) in
                    elim (cases_lt k c.last) [
                      | inl early ↦ next c.last (omega arith) last_inside (last.here ∙ same)
                      | inr late ↦ last.after k (omega arith) before (sym same)
                    ])
                | inr past ↦ next_new k (omega (arith, length-append xs (y ∷ [])))
              ])
        ];
      }

-- a walk at the next place of x from `low` on has ahead of it the constraints that end at x from `low` on
pub left_from : (x low : ℕ) (cs : List Constraint) (o : Option ℕ) → IsNextPlace x low (ends cs) o → left_to x o cs ≡ filter (ends_at x) (drop low cs)
left_from x low [] None none = sym (ap (filter (ends_at x)) (drop-nil low))
left_from x zero (c ∷ cs) None none =
    rw (ne_eqb c.to.0 x (none 0 (omega arith) (omega arith)))
    (left_from x zero cs None (λ k from inside at. none (suc k) (omega arith) (omega arith) at))
left_from x (suc low) (c ∷ cs) None none = left_from x low cs None (λ k from inside at. none (suc k) (omega arith) (omega arith) at)
left_from x low [] (Some p) h = let inside = h.inside in absurd (omega arith)
left_from x zero (c ∷ cs) (Some zero) h = refl
left_from x zero (c ∷ cs) (Some (suc p)) h =
    rw (ne_eqb c.to.0 x (h.skipped 0 (omega arith) (omega arith)))
    (left_from x zero cs (Some p) (record {
      later = omega arith;
      inside = let inside = h.inside in omega arith;
      here = h.here;
      skipped = λ k from before at. h.skipped (suc k) (omega arith) (omega arith) at;
    }))
left_from x (suc low) (c ∷ cs) (Some zero) h = let later = h.later in absurd (omega arith)
left_from x (suc low) (c ∷ cs) (Some (suc p)) h =
    left_from x low cs (Some p) (record {
      later = let later = h.later in omega arith;
      inside = let inside = h.inside in omega arith;
      here = h.here;
      skipped = λ k from before at. h.skipped (suc k) (omega arith) (omega arith) at;
    })

-- a walk at the place of a constraint that ends at x has ahead of it this constraint, and then those that come after it
pub left_here : (x p : ℕ) (cs : List Constraint) (d : Constraint) → p < length cs → (get_or cs p d).to.0 ≡ x →
    left_to x (Some p) cs ≡ get_or cs p d ∷ filter (ends_at x) (drop (suc p) cs)
left_here x p [] d inside at = absurd (omega arith)
left_here x zero (c ∷ cs) d inside at = rw (eq-eqb c.to.0 x at) refl
left_here x (suc p) (c ∷ cs) d inside at = left_here x p cs d (omega arith) at

-- the list of ends has at each place the end of the constraint there
pub end_at : (cs : List Constraint) (p : ℕ) (d : Constraint) → p < length cs → get_or (ends cs) p 0 ≡ (get_or cs p d).to.0
end_at cs p d inside = get_or-map (λ c. c.to.0) cs p d 0 inside

-- the next place of x is that of a constraint that ends at x
pub visited : (x low p : ℕ) (cs : List Constraint) → IsNextPlace x low (ends cs) (Some p) → (p < length cs) × HoldsAt (λ c. c.to.0 ≡ x) cs p
visited x low p cs h =
    let inside : p < length cs = let inside = h.inside in omega (arith, length-map cs (λ c. c.to.0)) in
    (inside, λ d. sym (end_at cs p d inside) ∙ h.here)

-- a walk at a constraint has ahead of it this constraint, and then what it has ahead at the next place
pub walk_on : (x p : ℕ) (cs : List Constraint) (c : Constraint) (o : Option ℕ) → p < length cs → c ≡ get_or cs p c → c.to.0 ≡ x →
    IsNextPlace (get_or (ends cs) p 0) (p + 1) (ends cs) o → left_to x (Some p) cs ≡ c ∷ left_to x o cs
walk_on x p cs c o inside is to next =
    let here : (get_or cs p c).to.0 ≡ x = ap (λ c. c.to.0) (sym is) ∙ to in
    let at : get_or (ends cs) p 0 ≡ x = end_at cs p c inside ∙ here in
    let after : p + 1 ≡ suc p = omega arith in
    left_here x p cs c inside here
    ∙ ap (λ c. c ∷ filter (ends_at x) (drop (suc p) cs)) (sym is)
    ∙ ap (λ rest. c ∷ rest) (sym (left_from x (suc p) cs o (subst (λ low. IsNextPlace x low (ends cs) o) after (subst (λ y. IsNextPlace y (p + 1) (ends cs) o) at next))))

pub walk_begins : (x : ℕ) (cs : List Constraint) (o : Option ℕ) → IsNextPlace x 0 (ends cs) o → left_to x o cs ≡ filter (ends_at x) cs
walk_begins x cs o first = left_from x 0 cs o first
