-- The time-points, the labels and the constraints that are left, as the program makes them one after the other.
use Rattle.std.proofs.Common.{ℕ, suc, ◌≡◌, inl, inr, ◌+◌, ◌<◌, ◌≤◌, Bool, true, false, List, [], ◌∷◌, ◌++◌, Option, Some, None, length, take, arith, refl, sym, subst, ap, ◌∙◌}
use Rattle.std.specs.Prelude.{map, slice_index_or, if◌then◌else◌, option_map, not, ◌||◌}
use Rattle.std.specs.Option.{is_some}
use Rattle.std.proofs.Math.Path.{fun_ext}
use Rattle.std.proofs.lemmas.Bool.{cases_Bool}
use Rattle.std.specs.List.{filter_map, range_with_len, cons_option}
use Rattle.std.proofs.lemmas.List.{map-append, take_more, length-map, take_all, get_or-map}
use Rattle.std.proofs.lemmas.List.Elements.{filter_map-append}
use Rattle.std.proofs.lemmas.List.FromFn.{map-range_with_len_more}
use Rattle.cstn_label.specs.declared.nodes.NodeId.{NodeId}
use Rattle.cstn_label.specs.declared.props.Prop.{Prop}
use Rattle.cstn_label.specs.declared.labels.Label.{Label as Words}
use Rattle.cstn_label.specs.Labels.{Label}
use Rattle.cstn_label.specs.Read.{marks}
use Rattle.cstn_net.specs.Limits.{most_time_points}
use Rattle.cstn_net.specs.declared.points.TimePoint.{TimePoint}
use Rattle.cstn_net.specs.declared.constraints.Constraint.{Constraint}
use Rattle.cstn_net.specs.Networks.{Constraint as TheConstraint, IsWellFormed, Observes, count}
use Rattle.cstn_net.specs.Read.{NetworkParts, the_network, the_constraint, prop_number, observed, reaction_of}
use Rattle.cstn_net.specs.Drafts.{BuilderParts, constraints_from, with_reaction}
use Rattle.cstn_net.specs.Handed.{IsHanded}
use Rattle.cstn_lift.specs.Labelled.{Labelled}
use Rattle.cstn_lift.specs.Lowered.{observer_of}
use Rattle.cstn_lift.specs.Read.{LabelledParts, the_labelled}
use Rattle.cstn_lift.specs.WellFormed.{IsLabelled}
use Rattle.cstn_lift.specs.Handed.{HasPoints}
use Rattle.cstn_lift.proofs.Built.{point_added, points_long, reaction_set, reaction_told, reaction_untold}
use Rattle.cstn_lift.proofs.LoweredLemmas.{observer_found, observer_back}
use Rattle.cstn_history.specs.Histories.{History, IsHistory, IsInTime}
use Rattle.cstn_history.specs.Rest.{sight_left, is_left, left, left_upto, number_left, constraint_left, reaction_after, reaction_by}
use Rattle.cstn_history.specs.Handed.{bared}
use Rattle.cstn_history.proofs.Lists.{passing_next}
use Rattle.cstn_history.proofs.Places.{old, old_stands, sight_at, sees_back, count_left, observes_left}
use Rattle.cstn_history.proofs.Settled.{some_or_none}
use Rattle.cstn_history.proofs.Reactions.{reaction_left}
use Rattle.cstn_history.proofs.WellFormed.{bared_well_formed}

abbrev pub number : NodeId → ℕ
number x = x.0

-- the next time-point, where it is left
pub left_turn : (m : Labelled) (h : History) (points new : List NodeId) (x : NodeId) (b : Bool) → map number points ≡ left_upto m h x.0 →
    b ≡ is_left m h x.0 → new ≡ points ++ (if b then x ∷ [] else []) → map number new ≡ left_upto m h (x.0 + 1)
left_turn m h points new x b so_far test is =
    let next : x.0 + 1 ≡ suc x.0 = omega arith in
    ap (map number) is ∙ map-append number points (if b then x ∷ [] else []) ∙ ap (λ l. l ++ map number (if b then x ∷ [] else [])) so_far
    ∙ ap (λ l. left_upto m h x.0 ++ l) (one b) ∙ ap (λ t. left_upto m h x.0 ++ (if t then x.0 ∷ [] else [])) test
    ∙ sym (passing_next (is_left m h) x.0) ∙ ap (left_upto m h) (sym next)
  where
    one : (t : Bool) → map number (if t then x ∷ [] else []) ≡ (if t then x.0 ∷ [] else [])
    one true = refl
    one false = refl

pub numbers_turn : (m : Labelled) (h : History) (numbers new : List ℕ) (points : List NodeId) (x n : ℕ) → new ≡ numbers ++ n ∷ [] →
    numbers ≡ map (number_left m h) (range_with_len 0 x) → map number points ≡ left_upto m h x → n ≡ length points → new ≡ map (number_left m h) (range_with_len 0 (x + 1))
numbers_turn m h numbers new points x n more so_far are is =
    let at : n ≡ number_left m h x = is ∙ sym (length-map points number) ∙ ap length are in
    more ∙ ap (λ l. l ++ n ∷ []) so_far ∙ ap (λ k. map (number_left m h) (range_with_len 0 x) ++ k ∷ []) at
    ∙ sym (map-range_with_len_more (number_left m h) 0 x x (omega arith))

-- the next constraint, where it is left
pub kept_turn : (m : Labelled) (h : History) (cs kept new : List Constraint) (i : ℕ) (c : Constraint) (d : Option Constraint) → i < length cs →
    c ≡ slice_index_or cs i c → map the_constraint kept ≡ filter_map (constraint_left m h) (map the_constraint (take i cs)) →
    option_map the_constraint d ≡ constraint_left m h (the_constraint c) → new ≡ kept ++ cons_option d [] →
    map the_constraint new ≡ filter_map (constraint_left m h) (map the_constraint (take (i + 1) cs))
kept_turn m h cs kept new i c d inside is so_far given news =
    let f = constraint_left m h in
    ap (map the_constraint) news ∙ map-append the_constraint kept (cons_option d []) ∙ ap (λ l. l ++ map the_constraint (cons_option d [])) so_far
    ∙ ap (λ l. filter_map f (map the_constraint (take i cs)) ++ l) (one d)
    ∙ ap (λ (o : Option TheConstraint). filter_map f (map the_constraint (take i cs)) ++ cons_option o []) given
    ∙ sym (filter_map-append f (map the_constraint (take i cs)) (the_constraint c ∷ []))
    ∙ ap (filter_map f) (sym (map-append the_constraint (take i cs) (c ∷ [])) ∙ ap (λ e. map the_constraint (take i cs ++ e ∷ [])) is
    ∙ ap (map the_constraint) (sym (take_more cs i c inside)))
  where
    one : (o : Option Constraint) → map the_constraint (cons_option o []) ≡ cons_option (option_map the_constraint o) []
    one None = refl
    one (Some e) = refl

-- the next label
pub labels_turn : (f : ℕ → Label) (points : List NodeId) (labels : List Words) (i : ℕ) (x : NodeId) (l : Words) → i < length points →
    x ≡ slice_index_or points i x → map marks labels ≡ map f (map number (take i points)) → marks l ≡ f x.0 →
    map marks (labels ++ l ∷ []) ≡ map f (map number (take (i + 1) points))
labels_turn f points labels i x l inside is so_far at =
    map-append marks labels (l ∷ []) ∙ ap (λ k. k ++ marks l ∷ []) so_far ∙ ap (λ k. map f (map number (take i points)) ++ k ∷ []) at
    ∙ sym (map-append f (map number (take i points)) (x.0 ∷ []))
    ∙ ap (map f) (sym (map-append number (take i points) (x ∷ [])) ∙ ap (λ y. map number (take i points ++ y ∷ [])) is
    ∙ ap (map number) (sym (take_more points i x inside)))

-- the time-point that stands at a place among those that are left
pub stands_there : (m : Labelled) (h : History) (points : List NodeId) (i : ℕ) (x : NodeId) → map number points ≡ left m h → i < length points →
    x ≡ slice_index_or points i x → x.0 ≡ old m h i
stands_there m h points i x are inside is =
    ap number is ∙ sym (get_or-map number points i x 0 inside) ∙ ap (λ l. slice_index_or l i 0) are

module _ (m : Labelled) (h : History) (good : IsLabelled m) (known : IsHistory m h) (timely : IsInTime m h) where
  pub places : (points : List NodeId) → map number points ≡ left m h → length points ≡ count (bared m h)
  places points are = sym (length-map points number) ∙ ap length are ∙ sym (count_left m h 0 good known)

  pub old_inside : (k : ℕ) → k < count (bared m h) → old m h k < count m.base
  old_inside k inside = (old_stands m h 0 good known k inside).0

  pub few_left : (k : ℕ) → k < count (bared m h) → k < most_time_points
  few_left k inside = let few = (bared_well_formed m h 0 good known timely).few_points in omega arith

  -- the next time-point of the rest, with what it observes and its reaction
  pub point_next : (k x : ℕ) (points : List TimePoint) (o : Option Prop) (ticks : ℕ) → k < count (bared m h) → x ≡ old m h k →
      HasPoints (bared m h) k points → prop_number o ≡ sight_left m h x →
      ((p : Prop) → o ≡ Some p → ticks ≡ reaction_after m h p.index x (h.done x)) →
      HasPoints (bared m h) (k + 1) (points ++ record { observes = o; reaction = ticks } ∷ [])
  point_next k x points o ticks inside at has sees reacts =
      let stands = old_stands m h 0 good known k inside in
      point_added (bared m h) k points (record { observes = o; reaction = ticks }) inside has
      (sees ∙ ap (sight_left m h) at ∙ sym (sight_at m h 0 good known k inside))
      (λ p is.
      let here = observed_prop o p is in
      let both = sees_back m h x p (sym sees ∙ is) in
      let left = subst (λ y. is_left m h y ≡ true) (sym at) stands.1 in
      reacts here.0 here.1 ∙ ap (λ q. reaction_after m h q x (h.done x)) here.2
      ∙ sym (reaction_left m h 0 good x p both.0 both.1 left))
    where
      observed_prop : (i : Option Prop) (p : ℕ) → prop_number i ≡ Some p → (q : Prop) × (i ≡ Some q) × (q.index ≡ p)
      observed_prop None p e = absurd (cc)
      observed_prop (Some q) p e = (q, refl, (let same : q.index ≡ p = cc in same))

  pub points_counted : (k : ℕ) (points : List TimePoint) → k ≤ count (bared m h) → HasPoints (bared m h) k points → length points ≡ k
  points_counted k points upto has = points_long (bared m h) k points upto has

-- a network with the time-points of the rest and no constraints
module _ (parts : LabelledParts) (h : History) (good : IsLabelled (the_labelled parts)) (known : IsHistory (the_labelled parts) h) (timely : IsInTime (the_labelled parts) h) where
  abbrev m : Labelled
  m = the_labelled parts

  unobserved_one : (p : ℕ) → observer_of m.base p ≡ None → m.base.reaction p ≡ 1
  unobserved_one p none = reaction_untold parts.base.points p (λ x e.
      let found = observer_found m.base good.base.network x p (record { what = e }) in
      absurd (cc))

  reaction_alone : (p : ℕ) (o : Option ℕ) → observer_of m.base p ≡ o → ((k : ℕ) → Observes (bared m h) k p → ⊥) → reaction_by m h p o ≡ 1
  reaction_alone p None at none = unobserved_one p at
  reaction_alone p (Some x) at none = elim (some_or_none (h.told p)) [
    | inl told ↦ ap (λ q. if is_some q || not (is_left m h x) then 1 else reaction_after m h p x (h.done x)) told.1
    | inr untold ↦ elim (cases_Bool (is_left m h x)) [
      | inr gone ↦
          ap (λ q. if is_some q || not (is_left m h x) then 1 else reaction_after m h p x (h.done x)) untold
          ∙ ap (λ b. if false || not b then 1 else reaction_after m h p x (h.done x)) gone
      | inl stays ↦
          let there = observes_left m h 0 good known x p (observer_back m.base x p at) untold stays in
          absurd (none (number_left m h x) (record { what = there.what }))
    ]
  ]

  module _ (points : List TimePoint) (has : HasPoints (bared m h) (count (bared m h)) points) where
    pub observes_whole : map observed points ≡ (bared m h).observes
    observes_whole = has.observes ∙ take_all (count (bared m h)) (bared m h).observes (omega arith)

    pub reaction_whole : (p : ℕ) → reaction_of points p ≡ (bared m h).reaction p
    reaction_whole p = reaction_told (bared m h).reaction points p has.reactions (λ none.
        reaction_alone p (observer_of m.base p) refl (λ k o. none k (ap (λ os. slice_index_or os k None) observes_whole ∙ o.what)))

    pub points_closed : (n : NetworkParts) → n.deadline ≡ m.base.deadline → n.points ≡ points → n.constraints ≡ [] → the_network n ≡ bared m h
    points_closed n deadline same none =
        let o : map observed n.points ≡ (bared m h).observes = ap (map observed) same ∙ observes_whole in
        let r : reaction_of n.points ≡ (bared m h).reaction = ap reaction_of same ∙ fun_ext reaction_whole in
        let c : map the_constraint n.constraints ≡ (bared m h).constraints = ap (map the_constraint) none in
        ap (λ v. record { deadline = v; observes = map observed n.points; reaction = reaction_of n.points; constraints = map the_constraint n.constraints }) deadline
        ∙ ap (λ v. record { deadline = m.base.deadline; observes = v; reaction = reaction_of n.points; constraints = map the_constraint n.constraints }) o
        ∙ ap (λ v. record { deadline = m.base.deadline; observes = (bared m h).observes; reaction = v; constraints = map the_constraint n.constraints }) r
        ∙ ap (λ v. record { deadline = m.base.deadline; observes = (bared m h).observes; reaction = (bared m h).reaction; constraints = v }) c

    pub points_handed : (b : BuilderParts) → b.deadline ≡ m.base.deadline → b.points ≡ points → b.drafts ≡ [] → IsHanded b (bared m h)
    points_handed b deadline same none = record {
      deadline = deadline;
      observes = ap (map observed) same ∙ observes_whole;
      reaction = λ p. ap (λ ts. reaction_of ts p) same ∙ reaction_whole p;
      constraints = ap (λ ds. map the_constraint (constraints_from 0 ds)) none;
    }

  pub bared_is : IsWellFormed (bared m h)
  bared_is = bared_well_formed m h 0 good known timely

-- the reaction of the time-point that was put behind the others
pub reaction_put : (points : List TimePoint) (t : TimePoint) (n ticks : ℕ) → n ≡ length points →
    with_reaction n ticks (points ++ t ∷ []) ≡ points ++ record t { reaction = ticks } ∷ []
reaction_put points t n ticks at = reaction_set points t n ticks at
