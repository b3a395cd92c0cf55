-- Walks along the constraints that have an end at a time-point.
use Rattle.std.proofs.Common.{ℕ, zero, suc, [], ◌∷◌, ◌≡◌, ◌⊎◌, inl, inr, ◌+◌, ◌-◌, ◌<◌, ◌||◌, Bool, true, false, not, Option, Some, None, List, length, get_or, set, map, take, replicate, ◌++◌, arith, refl, sym, subst, ap, ◌∙◌}
use Rattle.std.specs.List.{Contains, list_all}
use Rattle.std.specs.Prelude.{◌==◌}
use Rattle.std.proofs.lemmas.Bool.{cases_Bool, cases_lt, cases_eq, or_cases, or_left, or_right, eqb-true}
use Rattle.std.proofs.lemmas.List.{get_or-replicate, length-replicate, get_or-map, get_or-set_same, get_or-set_other, length-map, length-set, map_more}
use Rattle.std.proofs.lemmas.List.Folds.{list_all_at, list_all-map}
use Rattle.cstn_label.specs.declared.nodes.NodeId.{NodeId}
use Rattle.cstn_net.specs.declared.constraints.Constraint.{Constraint}
use Rattle.cstn_net.specs.Networks.{Constraint as TheConstraint}
use Rattle.cstn_net.specs.Links.{IsPlaceOf, IsNextPlace}
use Rattle.cstn_net.specs.Read.{the_constraint}
use Rattle.cstn_tree.specs.declared.starts.End.{End}
use Rattle.cstn_tree.specs.declared.starts.End.TheVariants.{From, To}
use Rattle.cstn_outline.specs.Trees.{is_named}
use Rattle.cstn_tree.specs.Good.{is_met_so_far, is_met}
use Rattle.cstn_outline.specs.Read.{node_numbers}
use Rattle.cstn_tree.specs.Starts.{end_of, standing, starts, AreLinkedFrom, TellsAt, AllPass, SomeFails}
use Rattle.cstn_tree.proofs.Following.{each_of}
use Rattle.cstn_outline.proofs.WalkLemmas.{has_named}

-- ---- links

-- tables without any place are the links from the end of the list on
pub none_linked : (cs : List Constraint) (wide long : ℕ) → AreLinkedFrom (length cs) (starts cs) (replicate wide None) (replicate long None)
none_linked cs wide long =
    let size = length-map cs (end_of From) in
    record {
      first = λ x inside. subst (IsNextPlace x (length cs) (starts cs))
          (sym (get_or-replicate wide x None None (let blank = length-replicate {A = Option ℕ} wide None in omega arith))) (λ k from within at. omega arith);
      next = λ k from inside. absurd (omega arith);
    }

module _ (xs : List ℕ) (low y : ℕ) (firsts nexts : List (Option ℕ)) (here : get_or xs low 0 ≡ y) (inside : low < length xs)
    (wide : y < length firsts) (long : length nexts ≡ length xs) (linked : AreLinkedFrom (low + 1) xs firsts nexts) where
  place_here : IsPlaceOf y low xs low
  place_here = record { later = omega arith; inside = inside; here = here; skipped = λ k from before at. omega arith }

  elsewhere : (x : ℕ) (o : Option ℕ) → (x ≡ y → ⊥) → IsNextPlace x (low + 1) xs o → IsNextPlace x low xs o
  elsewhere x None other next = λ k from within at. elim (cases_eq k low) [
    | inl same ↦ other (sym at ∙ subst (λ n. get_or xs n 0 ≡ y) (sym same) here)
    | inr later ↦ next k (omega arith) within at
  ]
  elsewhere x (Some p) other next = record {
    later = let later = next.later in omega arith;
    inside = next.inside;
    here = next.here;
    skipped = λ k from before at. elim (cases_eq k low) [
      | inl same ↦ other (sym at ∙ subst (λ n. get_or xs n 0 ≡ y) (sym same) here)
      | inr later ↦ next.skipped k (omega arith) before at
    ];
  }

  -- the links from the place `low` on, from those that begin one place later
  pub one_linked : AreLinkedFrom low xs (set firsts y (Some low)) (set nexts low (get_or firsts y None))
  one_linked = record {
    first = λ x within. elim (cases_eq x y) [
      | inl same ↦ rw (same, get_or-set_same firsts y (Some low) None wide) place_here
      | inr other ↦ rw (get_or-set_other firsts y x (Some low) None other) (elsewhere x (get_or firsts x None) other (linked.first x (smaller x within)))
    ];
    next = λ k from within. elim (cases_eq k low) [
      | inl same ↦ rw (same, here, get_or-set_same nexts low (get_or firsts y None) None (omega arith)) (linked.first y wide)
      | inr other ↦ rw (get_or-set_other nexts low k (get_or firsts y None) None other) (linked.next k (omega arith) within)
    ];
  }
    where
      smaller : (x : ℕ) → x < length (set firsts y (Some low)) → x < length firsts
      smaller x within = subst (λ n. x < n) (length-set firsts y (Some low)) within

-- ---- walks

abbrev pub IsBefore : ℕ → Option ℕ → Type 0
IsBefore k None = Unit {0}
IsBefore k (Some p) = k < p

abbrev pub StandsAt : List ℕ → ℕ → Option ℕ → Type 0
StandsAt xs x None = Unit {0}
StandsAt xs x (Some p) = (p < length xs) × (get_or xs p 0 ≡ x)

-- how many of n places are left from this one on
abbrev pub places_left : ℕ → Option ℕ → ℕ
places_left n None = 0
places_left n (Some p) = n - p

-- a walk along the constraints that have this end at x has come to the place `at`, or to their end, and the constraints before
-- it pass the test
pub record IsWalked (test : TheConstraint → Bool) (end : End) (cs : List Constraint) (x : ℕ) (at : Option ℕ) : Type 0 where
  pub stands : StandsAt (standing end cs) x at
  pub done : (k : ℕ) (c : Constraint) → IsBefore k at → k < length cs → get_or cs k c ≡ c → end_of end c ≡ x → test (the_constraint c) ≡ true

some_at : {X : Type 0} (xs : List X) (k : ℕ) → k < length xs → (x : X) × (get_or xs k x ≡ x)
some_at [] k inside = absurd (omega arith)
some_at (x ∷ xs) zero inside = (x, refl)
some_at (x ∷ xs) (suc k) inside = some_at xs k (omega arith)

module _ (test : TheConstraint → Bool) (end : End) (cs : List Constraint) (x : ℕ) where
  stood : (k : ℕ) (c : Constraint) → k < length cs → get_or cs k c ≡ c → get_or (standing end cs) k 0 ≡ end_of end c
  stood k c inside at = get_or-map (end_of end) cs k c 0 inside ∙ ap (end_of end) at

  size : length (standing end cs) ≡ length cs
  size = length-map cs (end_of end)

  -- a walk has come to the next place from `low` on, where the constraints before `low` pass the test
  on_from : (low : ℕ) (at : Option ℕ) → IsNextPlace x low (standing end cs) at →
      ((k : ℕ) (c : Constraint) → k < low → k < length cs → get_or cs k c ≡ c → end_of end c ≡ x → test (the_constraint c) ≡ true) → IsWalked test end cs x at
  on_from low None next done = record {
    stands = tt;
    done = λ k c before inside at there. elim (cases_lt k low) [
      | inl earlier ↦ done k c earlier inside at there
      | inr from ↦ absurd (next k from (let s = size in omega arith) (stood k c inside at ∙ there))
    ];
  }
  on_from low (Some p) next done = record {
    stands = (next.inside, next.here);
    done = λ k c before inside at there. elim (cases_lt k low) [
      | inl earlier ↦ done k c earlier inside at there
      | inr from ↦ absurd (next.skipped k from before (stood k c inside at ∙ there))
    ];
  }

  pub walk_begins : (at : Option ℕ) → IsNextPlace x 0 (standing end cs) at → IsWalked test end cs x at
  walk_begins at next = on_from 0 at next (λ k c before. absurd (omega arith))

  pub walk_on : (p : ℕ) (at : Option ℕ) → IsWalked test end cs x (Some p) → TellsAt test cs p true →
      IsNextPlace (get_or (standing end cs) p 0) (p + 1) (standing end cs) at → IsWalked test end cs x at
  walk_on p at walked passes next =
      on_from (p + 1) at (subst (λ y. IsNextPlace y (p + 1) (standing end cs) at) walked.stands.1 next) (λ k c before inside same there. elim (cases_lt k p) [
        | inl earlier ↦ walked.done k c earlier inside same there
        | inr from ↦
            let place : k ≡ p = omega arith in
            sym (passes c (subst (λ n. get_or cs n c ≡ c) place same))
      ])

  pub place_inside : (p : ℕ) → IsWalked test end cs x (Some p) → p < length cs
  place_inside p walked = let s = size in let within = walked.stands.0 in omega arith

  pub walk_fails : (p : ℕ) → IsWalked test end cs x (Some p) → TellsAt test cs p false → SomeFails test end cs x
  walk_fails p walked fails =
      let here = some_at cs p (place_inside p walked) in
      record {
        constraint = here.0;
        in_list = (p, place_inside p walked, here.1);
        there = sym (stood p here.0 (place_inside p walked) here.1) ∙ walked.stands.1;
        fails = sym (fails here.0 here.1);
      }

  pub walk_ends : IsWalked test end cs x None → AllPass test end cs x
  walk_ends walked = λ c has there. walked.done has.0 c tt has.1 has.2 there

-- ---- the constraints of a line

module _ (placed : ℕ → Option ℕ) (asked : ℕ → Option Bool) (named : List ℕ) (cs : List Constraint) where
  abbrev kept : TheConstraint → Bool
  kept = is_met_so_far placed asked

  -- the test of the line fails where a constraint with an end among the named time-points isn't kept
  pub not_met : (end : End) (x : ℕ) → is_named x named ≡ true → SomeFails kept end cs x → list_all (is_met placed asked named) (map the_constraint cs) ≡ false
  not_met end x there f =
      list_all-map (is_met placed asked named) the_constraint cs
      ∙ list_all_at (λ c. is_met placed asked named (the_constraint c)) cs f.in_list.0 f.constraint f.in_list.1
      (subst (λ c. is_met placed asked named (the_constraint c) ≡ false) (sym f.in_list.2) (fails end f.there))
    where
      touched : (a b k : Bool) → (a || b) ≡ true → k ≡ false → (not (a || b) || k) ≡ false
      touched a b k h e = rw h e

      fails : (end : End) → end_of end f.constraint ≡ x → is_met placed asked named (the_constraint f.constraint) ≡ false
      fails From at =
          touched (is_named f.constraint.from.0 named) (is_named f.constraint.to.0 named) (kept (the_constraint f.constraint))
          (or_left (is_named f.constraint.from.0 named) (is_named f.constraint.to.0 named) (subst (λ y. is_named y named ≡ true) (sym at) there)) f.fails
      fails To at =
          touched (is_named f.constraint.from.0 named) (is_named f.constraint.to.0 named) (kept (the_constraint f.constraint))
          (or_right (is_named f.constraint.from.0 named) (is_named f.constraint.to.0 named) (subst (λ y. is_named y named ≡ true) (sym at) there)) f.fails

  -- the test of the line passes where all constraints with an end among the named time-points are kept
  pub all_met : ((end : End) (x : ℕ) → is_named x named ≡ true → AllPass kept end cs x) → list_all (is_met placed asked named) (map the_constraint cs) ≡ true
  all_met pass =
      list_all-map (is_met placed asked named) the_constraint cs
      ∙ each_of (λ c. is_met placed asked named (the_constraint c)) cs (λ c has. go c has (cases_Bool (is_named c.from.0 named || is_named c.to.0 named)))
    where
      go : (c : Constraint) → Contains cs c → ((is_named c.from.0 named || is_named c.to.0 named) ≡ true) ⊎ ((is_named c.from.0 named || is_named c.to.0 named) ≡ false) → is_met placed asked named (the_constraint c) ≡ true
      go c has (inr apart) = or_left (not (is_named c.from.0 named || is_named c.to.0 named)) (kept (the_constraint c)) (ap not apart)
      go c has (inl touches) = elim (or_cases (is_named c.from.0 named) (is_named c.to.0 named) touches) [
        | inl from ↦ or_right (not (is_named c.from.0 named || is_named c.to.0 named)) (kept (the_constraint c)) (pass From c.from.0 from c has refl)
        | inr to ↦ or_right (not (is_named c.from.0 named || is_named c.to.0 named)) (kept (the_constraint c)) (pass To c.to.0 to c has refl)
      ]

-- ---- one more of the time-points of a line

named_push : (y : ℕ) (xs : List ℕ) (z : ℕ) → is_named y (xs ++ z ∷ []) ≡ (is_named y xs || (y == z))
named_push y [] z = or_false (y == z)
  where
    or_false : (b : Bool) → (b || false) ≡ b
    or_false true = refl
    or_false false = refl
named_push y (x ∷ xs) z = ap (λ b. (y == x) || b) (named_push y xs z) ∙ sym (or_assoc (y == x) (is_named y xs) (y == z))
  where
    or_assoc : (a b c : Bool) → ((a || b) || c) ≡ (a || (b || c))
    or_assoc true b c = refl
    or_assoc false b c = refl

-- what holds of the first k named time-points and of the next one holds of the first k + 1
pub named_more : (P : ℕ → Type 0) (named : List NodeId) (k : ℕ) (d : NodeId) → k < length named →
    ((y : ℕ) → is_named y (node_numbers (take k named)) ≡ true → P y) → P (get_or named k d).0 →
    (y : ℕ) → is_named y (node_numbers (take (k + 1) named)) ≡ true → P y
named_more P named k d inside before here y there =
    let more = ap (is_named y) (map_more (λ (x : NodeId). x.0) named k d inside) ∙ named_push y (node_numbers (take k named)) (get_or named k d).0 in
    elim (or_cases (is_named y (node_numbers (take k named))) (y == (get_or named k d).0) (sym more ∙ there)) [
      | inl earlier ↦ before y earlier
      | inr now ↦ subst P (sym (eqb-true y (get_or named k d).0 now)) here
    ]

pub named_here : (named : List NodeId) (k : ℕ) (d : NodeId) → k < length named → is_named (get_or named k d).0 (node_numbers named) ≡ true
named_here named k d inside =
    let x = (get_or named k d).0 in
    let size = length-map named (λ (y : NodeId). y.0) in
    has_named x (node_numbers named) (k, omega arith, get_or-map (λ (y : NodeId). y.0) named k d x inside)

pub both_ends : (P : End → Type 0) → P From → P To → (end : End) → P end
both_ends P from to From = from
both_ends P from to To = to
