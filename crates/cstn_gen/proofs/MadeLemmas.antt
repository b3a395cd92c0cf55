-- Turns of the loops that make a network and its names.
use Rattle.std.proofs.Common.{ℕ, zero, suc, ◌≡◌, ◌+◌, ◌<◌, ◌≤◌, ◌^◌, Option, None, List, [], ◌∷◌, ◌++◌, length, ◌*◌, refl, ap, sym, arith, ◌∙◌}
use Rattle.std.proofs.Math.Path.{fun_ext}
use Rattle.std.specs.Prelude.{map, codes, decimal, Contains, option_map, drop, slice_index_or}
use Rattle.std.specs.List.{range_with_len}
use Rattle.std.proofs.lemmas.List.{map-append, length-map}
use Rattle.std.proofs.lemmas.List.Elements.{All-append, All-cons, All-nil}
use Rattle.std.proofs.lemmas.List.FromFn.{map-range_with_len_more, get_or-map-range_with_len, length-map-range_with_len}
use Rattle.std.proofs.lemmas.Fmt.{decimal_injective, length-decimal-le}
use Rattle.cstn_label.specs.declared.props.Prop.{Prop}
use Rattle.cstn_net.specs.declared.points.TimePoint.{TimePoint}
use Rattle.cstn_net.specs.declared.drafts.Draft.{Draft}
use Rattle.cstn_label.specs.declared.labels.Label.{Label as TheLabel}
use Rattle.cstn_label.specs.Read.{marks}
use Rattle.cstn_net.specs.Read.{observed, the_constraint, the_network, reaction_of, NetworkParts}
use Rattle.cstn_net.specs.Drafts.{constraint_of, constraints_from}
use Rattle.cstn_gen.specs.Generated.{observed_by, props_of, point_name, constraint_at, constraint_from, state_at, span_at, literals_at, generated}
use Rattle.cstn_gen.specs.declared.constraints.Span.{Span}
use Rattle.cstn_gen.specs.Made.{HasDrawnPoints, HasDrawnConstraints}

-- the time-points with the next one at their end
pub one_more_point : (size n : ℕ) (points : List TimePoint) (observes : Option Prop) → HasDrawnPoints size n points →
    option_map (λ p. p.index) observes ≡ observed_by (props_of size) n →
    HasDrawnPoints size (n + 1) (points ++ record { observes = observes; reaction = 1 } ∷ [])
one_more_point size n points observes before is =
    let t : TimePoint = record { observes = observes; reaction = 1 } in
    record {
      observes = map-append observed points (t ∷ []) ∙ ap (λ os. os ++ observed t ∷ []) before.observes
          ∙ ap (λ o. None ∷ (map (observed_by (props_of size)) (range_with_len 0 n) ++ o ∷ [])) is
          ∙ ap (λ os. None ∷ os) (sym (map-range_with_len_more (observed_by (props_of size)) 0 n n (omega arith)));
      prompt = All-append (λ t. t.reaction ≡ 1) points (t ∷ []) before.prompt (All-cons (λ t. t.reaction ≡ 1) t [] refl (All-nil (λ t. t.reaction ≡ 1)));
    }

pub points_count : (size n : ℕ) (points : List TimePoint) → HasDrawnPoints size n points → length points ≡ n + 1
points_count size n points has =
    let observes = ap length has.observes in
    omega (arith, observes, length-map points observed, length-map-range_with_len (observed_by (props_of size)) 0 n)

-- the constraints with the next one at their end, where a draft put behind the others gives that
pub one_more_constraint : (number size n : ℕ) (drafts : List Draft) (d : Draft) →
    constraints_from 0 (drafts ++ d ∷ []) ≡ constraints_from 0 drafts ++ constraint_of n d ∷ [] →
    HasDrawnConstraints number size n drafts → the_constraint (constraint_of n d) ≡ constraint_at number size n →
    HasDrawnConstraints number size (n + 1) (drafts ++ d ∷ [])
one_more_constraint number size n drafts d more before is =
    ap (map the_constraint) more
    ∙ map-append the_constraint (constraints_from 0 drafts) (constraint_of n d ∷ [])
    ∙ ap (λ cs. cs ++ the_constraint (constraint_of n d) ∷ []) before
    ∙ ap (λ c. map (constraint_at number size) (range_with_len 0 n) ++ c ∷ []) is
    ∙ sym (map-range_with_len_more (constraint_at number size) 0 n n (omega arith))

-- a name has at most 64 bytes
pub name_short : (n : ℕ) → n < 2 ^ 32 → length (point_name n) ≤ 64
name_short n small =
    let digits = length-decimal-le 10 (n + 1) (omega arith) (omega arith) (omega arith) in
    omega (arith, digits)

-- different time-points have different names
names_differ : (i j : ℕ) → i < 2 ^ 32 → j < 2 ^ 32 → point_name i ≡ point_name j → i ≡ j
names_differ i j small also same =
    let e : decimal (i + 1) ≡ decimal (j + 1) = ap (drop 1) same in
    let n : i + 1 ≡ j + 1 = decimal_injective (i + 1) (j + 1) (omega arith) (omega arith) e in
    omega (arith, n)

-- the next name isn't there yet
pub fresh_name : (n : ℕ) → n < 2 ^ 32 → Contains (codes "Z" ∷ map point_name (range_with_len 0 n)) (point_name n) → ⊥
fresh_name n small (zero, inside, is) = let e : 90 ≡ 84 = ap (λ text. slice_index_or text 0 0) is in absurd (omega (arith, e))
fresh_name n small (suc k, inside, is) =
    let len = length-map-range_with_len point_name 0 n in
    let before : k < n = omega (arith, len, inside) in
    let name = get_or-map-range_with_len point_name 0 n k k (point_name n) before (omega arith) in
    let same : k ≡ n = names_differ k n (omega arith) small (sym name ∙ is) in
    absurd (omega arith)

pub names_count : (n : ℕ) → length (codes "Z" ∷ map point_name (range_with_len 0 n)) ≡ n + 1
names_count n = let len = length-map-range_with_len point_name 0 n in omega (arith, len)

-- the names with the next one at their end
pub one_more_name : (n : ℕ) (names new : List (List ℕ)) (name : List ℕ) → names ≡ codes "Z" ∷ map point_name (range_with_len 0 n) →
    name ≡ point_name n → new ≡ names ++ name ∷ [] → new ≡ codes "Z" ∷ map point_name (range_with_len 0 (n + 1))
one_more_name n names new name before is pushed =
    pushed ∙ ap (λ ns. ns ++ name ∷ []) before ∙ ap (λ t. codes "Z" ∷ (map point_name (range_with_len 0 n) ++ t ∷ [])) is
    ∙ ap (λ ns. codes "Z" ∷ ns) (sym (map-range_with_len_more point_name 0 n n (omega arith)))

-- a constraint with the ends, the value and the label that are drawn from the state of its id is the one of that id
pub drawn_is_at : (number size n x : ℕ) (s : Span) (l : TheLabel) → x ≡ state_at number size n → s ≡ span_at size x →
    marks l ≡ (literals_at size x).label →
    the_constraint (constraint_of n (record { from = s.from; to = s.to; most = s.most; label = l })) ≡ constraint_at number size n
drawn_is_at number size n x s l at ends label =
    ap (λ a. record { id = n; from = s.from; to = s.to; most = s.most; label = a }) label
    ∙ ap (λ e. record { id = n; from = e.from; to = e.to; most = e.most; label = (literals_at size x).label }) ends
    ∙ ap (constraint_from size n) at

-- a network of what was handed in, with reactions of one tick, is the generated network
pub made_is : (number size : ℕ) (n : NetworkParts) (points : List TimePoint) (drafts : List Draft) → n.deadline ≡ 10 + 2 * size →
    n.points ≡ points → n.constraints ≡ constraints_from 0 drafts → HasDrawnPoints size size points → ((p : ℕ) → reaction_of points p ≡ 1) →
    HasDrawnConstraints number size (2 * size) drafts → the_network n ≡ generated number size
made_is number size n points drafts deadline points_are constraints has_points prompt has_constraints =
    let observes : map observed n.points ≡ (generated number size).observes = ap (map observed) points_are ∙ has_points.observes in
    let reaction : reaction_of n.points ≡ (λ p. 1) = ap reaction_of points_are ∙ fun_ext prompt in
    let cs : map the_constraint n.constraints ≡ (generated number size).constraints = ap (map the_constraint) constraints ∙ has_constraints in
    ap (λ d. record { deadline = d; observes = map observed n.points; reaction = reaction_of n.points; constraints = map the_constraint n.constraints }) deadline
    ∙ ap (λ o. record { deadline = 10 + 2 * size; observes = o; reaction = reaction_of n.points; constraints = map the_constraint n.constraints }) observes
    ∙ ap (λ r. record { deadline = 10 + 2 * size; observes = (generated number size).observes; reaction = r; constraints = map the_constraint n.constraints }) reaction
    ∙ ap (λ k. record { deadline = 10 + 2 * size; observes = (generated number size).observes; reaction = λ p. 1; constraints = k }) cs

pub state_more : (number size n : ℕ) → state_at number size (n + 1) ≡ (literals_at size (state_at number size n)).state
state_more number size n = let e : n + 1 ≡ suc n = omega arith in ap (state_at number size) e
