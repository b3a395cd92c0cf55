-- The table of observers, a time-point at a time.
use Rattle.std.proofs.Common.{ℕ, zero, suc, ◌≡◌, ◌≢◌, ◌⊎◌, inl, inr, ◌+◌, ◌<◌, ◌≤◌, Option, Some, None, List, [], ◌∷◌, ◌++◌, length, get_or, set, take, map, replicate, arith, refl, sym, subst, ◌∙◌, ap, cond, false}
use Rattle.std.specs.Prelude.{is_some, MatchOption}
use Rattle.cstn_label.specs.declared.marks.Mark.TheVariants.{Absent}
use Rattle.cstn_label.specs.Labels.{Label}
use Rattle.cstn_net.specs.Networks.{Network, Observes, IsOnObserved, IsLeastUnobserved, is_prop}
use Rattle.std.specs.Option.{option_map}
use Rattle.std.proofs.lemmas.Bool.{cases_lt, cases_eq, eq-eqb, ne_eqb}
use Rattle.std.proofs.lemmas.List.{map_more, get_or-map, length-map, length-take-le, get_or-set_same, get_or-set_other, length-set}
use Rattle.cstn_facts.proofs.Places.{some_within}
use Rattle.cstn_label.specs.declared.nodes.NodeId.{NodeId}
use Rattle.cstn_label.specs.declared.props.Prop.{Prop}
use Rattle.cstn_net.specs.declared.points.TimePoint.{TimePoint}
use Rattle.cstn_net.specs.Read.{observed, reaction_of}
use Rattle.cstn_net.specs.Drafts.{HasTwins, AreFirstTwins}
use Rattle.cstn_net.specs.Observers.{KnowsObservers, IsTwin, IsUnseen, noted}
use Rattle.cstn_net.proofs.Same.{same_node}

-- a proposition is below 52
pub prop_below : (o : Option Prop) (q : ℕ) → option_map (λ p. p.index) o ≡ Some q → q < 52
prop_below None q e = cc
prop_below (Some p) q e =
    let below = p.in_range in
    let same : q ≡ p.index = cc in
    omega arith

none_there : (n p : ℕ) → get_or {A = Option NodeId} (replicate n None) p None ≡ None
none_there zero p = refl
none_there (suc n) zero = refl
none_there (suc n) (suc p) = none_there n p

pub no_observers : KnowsObservers [] (replicate 52 None)
no_observers = record {
  right = λ p x e. let none = none_there 52 p in cc;
  first = λ p x e. cc;
}

-- what stands in a list stays at its place when one more element is appended
old_there : (xs : List (Option ℕ)) (o : Option ℕ) (y p : ℕ) → get_or xs y None ≡ Some p → get_or (xs ++ o ∷ []) y None ≡ Some p
old_there [] o y p e = cc
old_there (x ∷ xs) o zero p e = e
old_there (x ∷ xs) o (suc y) p e = old_there xs o y p e

new_there : (xs : List (Option ℕ)) (o : Option ℕ) → get_or (xs ++ o ∷ []) (length xs) None ≡ o
new_there [] o = refl
new_there (x ∷ xs) o = new_there xs o

old_or_new : (xs : List (Option ℕ)) (o : Option ℕ) (y p : ℕ) → get_or (xs ++ o ∷ []) y None ≡ Some p →
    (get_or xs y None ≡ Some p) ⊎ ((y ≡ length xs) × (o ≡ Some p))
old_or_new [] o zero p e = inr (refl, e)
old_or_new [] o (suc y) p e = cc
old_or_new (x ∷ xs) o zero p e = inl e
old_or_new (x ∷ xs) o (suc y) p e = elim (old_or_new xs o y p e) [
  | inl old ↦ inl old
  | inr new ↦ inr (ap suc new.0, new.1)
]

module _ (observes : List (Option ℕ)) (table : List (Option NodeId)) (x : NodeId) (at_end : length observes ≡ x.0) (h : KnowsObservers observes table) where
  noted_none : KnowsObservers (observes ++ None ∷ []) table
  noted_none = record {
    right = λ p y e. old_there observes None y.0 p (h.right p y e);
    first = λ p y e. elim (old_or_new observes None y p e) [
      | inl old ↦ h.first p y old
      | inr new ↦ let none = new.1 in cc
    ];
  }

  noted_known : (p : ℕ) (z : NodeId) → get_or table p None ≡ Some z → KnowsObservers (observes ++ Some p ∷ []) table
  noted_known p z there = record {
    right = λ q y e. old_there observes (Some p) y.0 q (h.right q y e);
    first = λ q y e. elim (old_or_new observes (Some p) y q e) [
      | inl old ↦ h.first q y old
      | inr new ↦
          let other = new.1 in
          let same : p ≡ q = cc in
          let before = some_within observes z.0 p (h.right p z there) in
          let last = new.0 in
          (z, subst (λ q. get_or table q None ≡ Some z) same there, omega arith)
    ];
  }

  noted_new : (p : ℕ) → p < length table → get_or table p None ≡ None →
      KnowsObservers (observes ++ Some p ∷ []) (set table p (Some x))
  noted_new p within free = record {
    right = λ q y e. elim (cases_eq q p) [
      | inl here ↦
          let put = get_or-set_same table p (Some x) None within in
          let there = subst (λ q. get_or (set table p (Some x)) q None ≡ Some y) here e in
          let same : y ≡ x = cc in
          subst (λ n. get_or (observes ++ Some p ∷ []) n None ≡ Some q)
          (let places : length observes ≡ y.0 = at_end ∙ ap (λ n. n.0) (sym same) in places)
          (new_there observes (Some p) ∙ ap Some (sym here))
      | inr other ↦
          old_there observes (Some p) y.0 q (h.right q y (sym (get_or-set_other table p q (Some x) None other) ∙ e))
    ];
    first = λ q y e. elim (old_or_new observes (Some p) y q e) [
      | inl old ↦
          let found = h.first q y old in
          let there = found.1 in
          let other : q ≡ p → ⊥ = λ same. let at_p = subst (λ q. get_or table q None ≡ Some found.0) same there in cc in
          (found.0, get_or-set_other table p q (Some x) None other ∙ there, found.2)
      | inr new ↦
          let other = new.1 in
          let same : p ≡ q = cc in
          let last = new.0 in (
            x,
            subst (λ q. get_or (set table p (Some x)) q None ≡ Some x) same (get_or-set_same table p (Some x) None within),
            omega arith,
          )
    ];
  }

  noted_some : (p : ℕ) → p < length table → (o : Option NodeId) → get_or table p None ≡ o →
      KnowsObservers (observes ++ Some p ∷ []) (noted table x (Some p))
  noted_some p within (Some z) there = rw there (noted_known p z there)
  noted_some p within None there = rw there (noted_new p within there)

  pub noted_more : (o : Option ℕ) → ((p : ℕ) → o ≡ Some p → p < length table) →
      KnowsObservers (observes ++ o ∷ []) (noted table x o)
  noted_more None below = noted_none
  noted_more (Some p) below = noted_some p (below p refl) (get_or table p None) refl

pub noted_length : (table : List (Option NodeId)) (x : NodeId) (o : Option ℕ) → length (noted table x o) ≡ length table
noted_length table x None = refl
noted_length table x (Some p) = elim (get_or table p None) as (λ o. length (cond (is_some o) table (set table p (Some x))) ≡ length table) [
  | Some z ↦ refl
  | None ↦ length-set table p (Some x)
]

-- a turn of the loop: the next time-point is noted
pub observers_turn : (points : List TimePoint) (table new : List (Option NodeId)) (i : ℕ) (x : NodeId) (t : TimePoint) →
    i < length points → x.0 ≡ i → t ≡ get_or points i t → length new ≡ 52 →
    KnowsObservers (map observed (take i points)) table → new ≡ noted table x (observed t) →
    KnowsObservers (map observed (take (i + 1) points)) new
observers_turn points table new i x t inside at_i is long h made =
    let at_end : length (map observed (take i points)) ≡ x.0 =
    length-map (take i points) observed ∙ length-take-le i points (omega arith) ∙ sym at_i in
    let same = noted_length table x (observed t) in
    let long_there : length (noted table x (observed t)) ≡ 52 = sym (ap length made) ∙ long in
    let more = noted_more (map observed (take i points)) table x at_end h (observed t)
    (λ p e. let below = prop_below t.observes p e in omega arith) in
    rw (made, map_more observed points i t inside, sym is) more

is_prop_other : (p : ℕ) (o : Option ℕ) → (o ≡ Some p → ⊥) → is_prop p o ≡ false
is_prop_other p None other = refl
is_prop_other p (Some q) other = ne_eqb q p (λ e. other (ap Some e))

-- the reaction of a proposition is that of its first observer
pub reaction_at : (points : List TimePoint) (p x : ℕ) (d : TimePoint) → get_or (map observed points) x None ≡ Some p →
    ((y : ℕ) → get_or (map observed points) y None ≡ Some p → x ≤ y) →
    reaction_of points p ≡ (get_or points x d).reaction
reaction_at [] p x d e first = cc
reaction_at (t ∷ ts) p zero d e first = rw (e, eq-eqb p p refl) refl
reaction_at (t ∷ ts) p (suc x) d e first =
    rw (is_prop_other p (observed t) (λ here. let upto = first 0 here in absurd (omega arith)))
    (reaction_at ts p x d e (λ y there. let upto = first (suc y) there in omega arith))

pub reaction_none : (points : List TimePoint) (p : ℕ) → ((x : ℕ) → get_or (map observed points) x None ≡ Some p → ⊥) →
    reaction_of points p ≡ 1
reaction_none [] p none = refl
reaction_none (t ∷ ts) p none =
    rw (is_prop_other p (observed t) (none 0)) (reaction_none ts p (λ x there. none (suc x) there))

-- the reaction of a proposition is that of its observer in the table
pub reaction_by : (points : List TimePoint) (table : List (Option NodeId)) (p : ℕ) (x : NodeId) (d : TimePoint) →
    KnowsObservers (map observed points) table → get_or table p None ≡ Some x →
    reaction_of points p ≡ (get_or points x.0 d).reaction
reaction_by points table p x d h there = reaction_at points p x.0 d (h.right p x there) (λ y at_y.
    let found = h.first p y at_y in
    let other = found.1 in
    let same : found.0 ≡ x = cc in
    subst (λ z. z.0 ≤ y) same found.2)

pub no_reaction_by : (points : List TimePoint) (table : List (Option NodeId)) (p : ℕ) →
    KnowsObservers (map observed points) table → get_or table p None ≡ None → reaction_of points p ≡ 1
no_reaction_by points table p h free = reaction_none points p (λ x there. let found = h.first p x there in let at_p = found.1 in cc)

-- an observer in the table is a time-point
pub observer_inside : (points : List TimePoint) (table : List (Option NodeId)) (p : ℕ) (x : NodeId) →
    KnowsObservers (map observed points) table → get_or table p None ≡ Some x → x.0 < length points
observer_inside points table p x h there =
    subst (λ n. x.0 < n) (length-map points observed) (some_within (map observed points) x.0 p (h.right p x there))

module _ (observes : List (Option ℕ)) (table : List (Option NodeId)) (h : KnowsObservers observes table) (x : NodeId) (o : Option ℕ) (at_x : get_or observes x.0 None ≡ o) where
  -- where no two earlier time-points observe one proposition, a time-point that isn't the first observer of its proposition
  -- is the second of the first twins
  pub twins_here : (p : ℕ) (y : NodeId) → (HasTwins observes x.0 → ⊥) → IsTwin table o x p y →
      AreFirstTwins observes p y.0 x.0
  twins_here p y none twin =
      let here = at_x ∙ twin.observed in
      let found = h.first p x.0 here in
      let at_p = found.1 in
      let first = twin.first in
      let same : found.0 ≡ y = cc in
      let upto = subst (λ z. z.0 ≤ x.0) same found.2 in
      let other : y.0 ≡ x.0 → ⊥ = λ e. twin.other (same_node y x e) in
      record { ordered = omega arith; one = h.right p y first; other = here; none_before = none }

  pub no_twins_here : ((p : ℕ) (y : NodeId) → IsTwin table o x p y → ⊥) → (HasTwins observes x.0 → ⊥) →
      HasTwins observes (x.0 + 1) → ⊥
  no_twins_here no_twin none twins = elim (cases_lt twins.y x.0) [
    | inl before ↦ none (record {
      x = twins.x;
      y = twins.y;
      p = twins.p;
      ordered = twins.ordered;
      before = before;
      one = twins.one;
      other = twins.other;
    })
    | inr after ↦
        let upto = twins.before in
        let here : twins.y ≡ x.0 = omega arith in
        let found = h.first twins.p twins.x twins.one in
        let early = found.2 in
        let ordered = twins.ordered in
        let seen : o ≡ Some twins.p = sym at_x ∙ subst (λ n. get_or observes n None ≡ Some twins.p) here twins.other in
        no_twin twins.p found.0 (record {
          observed = seen;
          first = found.1;
          other = λ e. let same = ap (λ n. n.0) e in omega arith;
        })
  ]

-- the list of what is observed has at each place what the time-point there observes
pub observed_at : (points : List TimePoint) (i : ℕ) (t : TimePoint) → i < length points → t ≡ get_or points i t →
    get_or (map observed points) i None ≡ observed t
observed_at points i t inside is = get_or-map observed points i t None inside ∙ ap observed (sym is)

module _ (net : Network) (table : List (Option NodeId)) (a : Label) (h : KnowsObservers net.observes table) where
  has_observer : (p : ℕ) → (o : Option NodeId) → get_or table p None ≡ o → a p ≢ Absent → (IsUnseen table a p → ⊥) → (x : ℕ) × Observes net x p
  has_observer p None free named seen = absurd (seen (record { named = named; unseen = free }))
  has_observer p (Some y) there named seen = (y.0, record { what = h.right p y there })

  has_none : (p : ℕ) → IsUnseen table a p → (x : ℕ) → Observes net x p → ⊥
  has_none p u x o = let first = h.first p x o.what in let there = first.1 in let free = u.unseen in cc

  free_there : (q : ℕ) (o : Option NodeId) → get_or table q None ≡ o → ((x : ℕ) → Observes net x q → ⊥) → get_or table q None ≡ None
  free_there q None e none = e
  free_there q (Some y) e none = absurd (none y.0 (record { what = h.right q y e }))

  -- what the table has no observer of is observed by nothing, and the other way round
  pub unseen_is_unobserved : (o : Option Prop) →
      MatchOption o ((q : ℕ) → IsUnseen table a q → ⊥) (λ p. IsUnseen table a p.index × ((q : ℕ) → q < p.index → IsUnseen table a q → ⊥)) →
      MatchOption o (IsOnObserved net a) (λ p. IsLeastUnobserved net a p.index)
  unseen_is_unobserved None none = λ p named. has_observer p (get_or table p None) refl named (none p)
  unseen_is_unobserved (Some p) found = (
    (found.0.named, has_none p.index found.0),
    λ q below u. found.1 q below (record { named = u.0; unseen = free_there q (get_or table q None) refl u.1 }),
  )
