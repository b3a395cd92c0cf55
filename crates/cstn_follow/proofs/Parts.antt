-- A labelled network with some of its constraints.
use Rattle.std.proofs.Common.{ℕ, ◌≡◌, inl, inr, ◌<◌, ◌≤◌, Bool, true, List, [], ◌∷◌, ◌++◌, Option, Some, None, cond, length, arith, refl, sym, subst, ap, ◌∙◌}
use Rattle.std.specs.List.{All, Contains, filter, filter_map, cons_option}
use Rattle.std.proofs.lemmas.Bool.{cases_Bool}
use Rattle.std.proofs.lemmas.List.{length-append}
use Rattle.std.proofs.lemmas.List.Elements.{All-contains, All-contains_itself, All-filter, filter_passes, filter_map-append}
use Rattle.cstn_facts.proofs.Filters.{filter_contains}
use Rattle.cstn_net.specs.Networks.{Constraint, IsWellFormed}
use Rattle.cstn_check.specs.Givers.{with_some}
use Rattle.cstn_check.proofs.Fewer.{some_well_formed}
use Rattle.cstn_lift.specs.Labelled.{Labelled}
use Rattle.cstn_lift.specs.Lowered.{with_full_label, lowered, numbered}
use Rattle.cstn_lift.specs.WellFormed.{IsLabelled}
use Rattle.cstn_history.specs.Histories.{History}
use Rattle.cstn_history.specs.Continuations.{Can}
use Rattle.cstn_history.specs.Rest.{constraint_left, added, constraints_left, rest}
use Rattle.cstn_history.specs.Handed.{HasFewConstraints, IsRestRefusal, rest_number}
use Rattle.cstn_history.specs.declared.errors.RestError.{RestError}
use Rattle.cstn_history.specs.declared.errors.RestError.TheVariants.{TooManyConstraints}
use Rattle.cstn_history.proofs.Edited.{can_new}
use Rattle.cstn_follow.specs.Blame.{network_alone}
use Rattle.cstn_follow.proofs.Constraints.{these_labelled, these_long, rest_same}

-- ---- lists

-- fewer items leave fewer
module _ {X Y : Type 0} (f : X → Option Y) (p : X → Bool) where
  one_long : (x : X) (xs ys : List X) → length (filter_map f xs) ≤ length (filter_map f ys) →
      length (filter_map f (x ∷ xs)) ≤ length (filter_map f (x ∷ ys))
  one_long x xs ys upto = by (f x)
    where
      by : (o : Option Y) → length (cons_option o (filter_map f xs)) ≤ length (cons_option o (filter_map f ys))
      by None = upto
      by (Some y) = omega arith

  one_less : (x : X) (xs ys : List X) → length (filter_map f xs) ≤ length (filter_map f ys) → length (filter_map f xs) ≤ length (filter_map f (x ∷ ys))
  one_less x xs ys upto = by (f x)
    where
      by : (o : Option Y) → length (filter_map f xs) ≤ length (cons_option o (filter_map f ys))
      by None = upto
      by (Some y) = omega arith

  pub fewer_left : (xs : List X) → length (filter_map f (filter p xs)) ≤ length (filter_map f xs)
  fewer_left [] = omega arith
  fewer_left (x ∷ xs) = elim (cases_Bool (p x)) [
    | inl passes ↦ subst (λ b. length (filter_map f (cond b (x ∷ filter p xs) (filter p xs))) ≤ length (filter_map f (x ∷ xs))) (sym passes) (one_long x (filter p xs) xs (fewer_left xs))
    | inr fails ↦ subst (λ b. length (filter_map f (cond b (x ∷ filter p xs) (filter p xs))) ≤ length (filter_map f (x ∷ xs))) (sym fails) (one_less x (filter p xs) xs (fewer_left xs))
  ]

-- two maps that leave items out are one
module _ {X Y Z : Type 0} (g : Y → Option Z) (f : X → Option Y) where
  abbrev on_left : Option Y → Option Z
  on_left None = None
  on_left (Some y) = g y

  one_left : (o : Option Y) (ys : List Y) (zs : List Z) → filter_map g ys ≡ zs → filter_map g (cons_option o ys) ≡ cons_option (on_left o) zs
  one_left None ys zs e = e
  one_left (Some y) ys zs e = ap (cons_option (g y)) e

  both_left : (xs : List X) → filter_map g (filter_map f xs) ≡ filter_map (λ x. on_left (f x)) xs
  both_left [] = refl
  both_left (x ∷ xs) = one_left (f x) (filter_map f xs) (filter_map (λ x. on_left (f x)) xs) (both_left xs)

  pub fewer_behind : (p : X → Bool) (xs : List X) (ys : List Y) →
      length (filter_map g (filter_map f (filter p xs) ++ ys)) ≤ length (filter_map g (filter_map f xs ++ ys))
  fewer_behind p xs ys =
      let fewer = ap length (filter_map-append g (filter_map f (filter p xs)) ys ∙ ap (λ l. l ++ filter_map g ys) (both_left (filter p xs))) in
      let more = ap length (filter_map-append g (filter_map f xs) ys ∙ ap (λ l. l ++ filter_map g ys) (both_left xs)) in
      let fewer_long = length-append (filter_map (λ x. on_left (f x)) (filter p xs)) (filter_map g ys) in
      let more_long = length-append (filter_map (λ x. on_left (f x)) xs) (filter_map g ys) in
      let upto = fewer_left (λ x. on_left (f x)) p xs in
      omega arith

-- ---- a labelled network with some of its constraints

module _ (m : Labelled) (test : ℕ → Bool) (good : IsLabelled m) where
  abbrev cs : List Constraint
  cs = m.base.constraints

  abbrev some : Constraint → Bool
  some c = test c.id

  part_well_formed : IsWellFormed (with_some m.base test)
  part_well_formed = some_well_formed m.base some good.base

  pub part_labelled : IsLabelled (network_alone m test)
  part_labelled = these_labelled m (filter some cs) good part_well_formed

  pub part_short : length (lowered (network_alone m test)).constraints ≤ length (lowered m).constraints
  part_short =
      let fewer = fewer_left (with_full_label m) some cs in
      let new = these_long m (filter some cs) in
      let old = these_long m cs in
      omega arith

  pub part_room : (h : History) (fresh : ℕ) → HasFewConstraints (rest m h fresh) → HasFewConstraints (rest (network_alone m test) h fresh)
  part_room h fresh room =
      let R = rest m h fresh in
      let behind = numbered fresh (added m h) in
      let left = filter_map (constraint_left m h) (filter some cs) ++ behind in
      let same = rest_same m (filter some cs) h fresh in
      let fewer = fewer_left (constraint_left m h) some cs in
      let new_long = length-append (filter_map (constraint_left m h) (filter some cs)) behind in
      let old_long = length-append (constraints_left m h) behind in
      let lowered_fewer = fewer_behind (with_full_label R) (constraint_left m h) some cs behind in
      let new_lowered = these_long R left in
      let old_lowered = these_long R R.base.constraints in
      let base = room.base in
      let low = room.lowered in
      subst HasFewConstraints (sym same) (record { base = omega arith; lowered = omega arith })

pub part_above : (m : Labelled) (test : ℕ → Bool) (fresh : ℕ) → All (λ c. c.id < fresh) m.base.constraints → All (λ c. c.id < fresh) (network_alone m test).base.constraints
part_above m test fresh above = All-filter (λ c. test c.id) (λ c. c.id < fresh) m.base.constraints above

-- where there is room, what is left isn't refused for want of it
pub not_too_many : (m : Labelled) (e : RestError) → HasFewConstraints m → IsRestRefusal m e → e ≡ TooManyConstraints → ⊥
not_too_many m e room refusal is = elim refusal [
  | inl none ↦ let number = ap rest_number is in omega arith
  | inr long ↦ elim long.1 [
    | inl base ↦ let few = room.base in omega arith
    | inr low ↦ let few = room.lowered in omega arith
  ]
]

-- ---- going on with fewer constraints

pub in_part : (test : ℕ → Bool) (cs : List Constraint) (c : Constraint) → Contains (filter (λ d. test d.id) cs) c → Contains cs c × (test c.id ≡ true)
in_part test cs c inside = (
  All-contains (Contains cs) (filter (λ d. test d.id) cs) c (All-filter (λ d. test d.id) (Contains cs) cs (All-contains_itself cs)) inside,
  All-contains (λ d. test d.id ≡ true) (filter (λ d. test d.id) cs) c (filter_passes (λ d. test d.id) cs) inside,
)

-- where the history can go on by some constraints, it can by fewer of them
pub goes_with_fewer : (m : Labelled) (h : History) (a b : ℕ → Bool) →
    ((c : Constraint) → Contains m.base.constraints c → a c.id ≡ true → b c.id ≡ true) → Can (network_alone m b) h → Can (network_alone m a) h
goes_with_fewer m h a b fewer can =
    can_new (network_alone m b) m.base.deadline (filter (λ c. a c.id) m.base.constraints) h (omega arith)
    (λ c inside.
    let from = in_part a m.base.constraints c inside in
    filter_contains (λ d. b d.id) m.base.constraints c from.0 (fewer c from.0 from.1)) can
