-- What a builder holds of a graph, and the network that it makes.
use Rattle.std.proofs.Common.{◌≡◌, ℕ, suc, ◌+◌, ◌<◌, List, [], ◌∷◌, ◌++◌, length, map, refl, ap, sym, ◌∙◌, Option, Some, None, subst, arith}
use Rattle.std.specs.Prelude.{option_map, if◌then◌else◌}
use Rattle.std.specs.List.{All}
use Rattle.cstn_net.specs.Networks.{Network, Constraint, is_prop}
use Rattle.std.proofs.lemmas.List.{append_assoc, append-nil, length-append, length-map}
use Rattle.std.proofs.lemmas.List.Elements.{All-tail, All-head, All-cons}
use Rattle.std.proofs.Math.Path.{fun_ext}
use Rattle.cstn_net.specs.declared.points.TimePoint.{TimePoint}
use Rattle.cstn_net.specs.Drafts.{BuilderParts, constraint_of, constraints_from, with_reaction}
use Rattle.cstn_net.specs.declared.drafts.Draft.{Draft as LentDraft}
use Rattle.cstn_net.specs.Read.{NetworkParts, the_network, the_constraint, observed, reaction_of, first_reaction}
use Rattle.cstn_graphml.specs.declared.drawn_graph.Observation.{Observation as LentObservation}
use Rattle.cstn_graphml.specs.declared.drawn_graph.DrawnConstraint.{DrawnConstraint as Lent}
use Rattle.cstn_graphml.specs.declared.drawn_graph.DrawnGraph.{DrawnGraph as LentGraph}
use Rattle.cstn_graphml.specs.DrawnGraphSeen.{observed_seen, drawn_seen}
use Rattle.cstn_graphml.specs.DrawnGraphLaws.{IsDrawnAmong}
use Rattle.cstn_graphml.specs.DrawnGraph.{observation, DrawnConstraint}
use Rattle.cstn_graphml.specs.Document.{Parts, or_nothing}
use Rattle.cstn_graphml.specs.Labels.{labels_seen}
use Rattle.cstn_graphml.specs.Networks.{begun_builder, with_points, with_drafts, point_of, draft_of, drawn_of, numbered_drawn, observed_prop, observed_reaction, observation_of, builder_of, at_origin, HasParts, network_of, IsBuilt}

-- the last element of one list may as well be the first of the next
seam : {A : Type 0} (xs : List A) (x : A) (ys : List A) → (xs ++ (x ∷ [])) ++ ys ≡ xs ++ (x ∷ ys)
seam xs x ys = append_assoc xs (x ∷ []) ys

pub points_are : (props : List (Option LentObservation)) (b : BuilderParts) → (with_points props b).points ≡ b.points ++ map point_of props
points_are [] b = sym (append-nil b.points)
points_are (p ∷ props) b = points_are props (record b { points = b.points ++ (point_of p ∷ []) }) ∙ seam b.points (point_of p) (map point_of props)

pub points_leave_drafts : (props : List (Option LentObservation)) (b : BuilderParts) → (with_points props b).drafts ≡ b.drafts
points_leave_drafts [] b = refl
points_leave_drafts (p ∷ props) b = points_leave_drafts props (record b { points = b.points ++ (point_of p ∷ []) })

points_leave_deadline : (props : List (Option LentObservation)) (b : BuilderParts) → (with_points props b).deadline ≡ b.deadline
points_leave_deadline [] b = refl
points_leave_deadline (p ∷ props) b = points_leave_deadline props (record b { points = b.points ++ (point_of p ∷ []) })

drafts_are : (cs : List Lent) (b : BuilderParts) → (with_drafts cs b).drafts ≡ b.drafts ++ map draft_of cs
drafts_are [] b = sym (append-nil b.drafts)
drafts_are (c ∷ cs) b = drafts_are cs (record b { drafts = b.drafts ++ (draft_of c ∷ []) }) ∙ seam b.drafts (draft_of c) (map draft_of cs)

drafts_leave_points : (cs : List Lent) (b : BuilderParts) → (with_drafts cs b).points ≡ b.points
drafts_leave_points [] b = refl
drafts_leave_points (c ∷ cs) b = drafts_leave_points cs (record b { drafts = b.drafts ++ (draft_of c ∷ []) })

drafts_leave_deadline : (cs : List Lent) (b : BuilderParts) → (with_drafts cs b).deadline ≡ b.deadline
drafts_leave_deadline [] b = refl
drafts_leave_deadline (c ∷ cs) b = drafts_leave_deadline cs (record b { drafts = b.drafts ++ (draft_of c ∷ []) })

seen_point : (observed : Option LentObservation) → observation_of (point_of observed) ≡ observed_seen observed
seen_point (Some o) = refl
seen_point None = refl

seen_points : (observes : List (Option LentObservation)) → map observation_of (map point_of observes) ≡ map observed_seen observes
seen_points [] = refl
seen_points (o ∷ observes) = rw (seen_point o, seen_points observes) refl

-- the propositions and the reactions of a builder's time-points are those of their observations
prop_kept : (prop : Option ℕ) (ticks : ℕ) → prop ≡ observed_prop (observation prop ticks)
prop_kept (Some p) ticks = refl
prop_kept None ticks = refl

pub props_kept : (points : List TimePoint) → map observed points ≡ map observed_prop (map observation_of points)
props_kept [] = refl
props_kept (t ∷ points) = rw (sym (prop_kept (observed t) t.reaction), props_kept points) refl

reaction_kept : (prop : Option ℕ) (ticks p later : ℕ) →
    (if is_prop p prop then ticks else later) ≡ (if is_prop p (observed_prop (observation prop ticks)) then observed_reaction (observation prop ticks) else later)
reaction_kept (Some q) ticks p later = refl
reaction_kept None ticks p later = refl

pub reactions_kept : (points : List TimePoint) (p : ℕ) → reaction_of points p ≡ first_reaction observed_prop observed_reaction (map observation_of points) p
reactions_kept [] p = refl
reactions_kept (t ∷ points) p = ap (λ later. if is_prop p (observed t) then t.reaction else later) (reactions_kept points p) ∙ reaction_kept (observed t) t.reaction p (first_reaction observed_prop observed_reaction (map observation_of points) p)

seen_drafts : (cs : List Lent) → map drawn_of (map draft_of cs) ≡ map drawn_seen cs
seen_drafts [] = refl
seen_drafts (c ∷ cs) = ap (λ xs. drawn_seen c ∷ xs) (seen_drafts cs)

seen_origin : (o : Option (Option LentObservation)) → observed_seen (at_origin o) ≡ or_nothing (option_map observed_seen o)
seen_origin (Some observed) = refl
seen_origin None = refl

-- the parts of a graph with a deadline
abbrev pub parts_with : ℕ → LentGraph → Parts
parts_with deadline d = record {
  deadline = deadline;
  names = d.names;
  observes = or_nothing (option_map observed_seen d.origin) ∷ map observed_seen d.observes.items;
  labels = labels_seen d;
  constraints = map drawn_seen d.constraints.list.items;
}

abbrev pub all_points : LentGraph → List (Option LentObservation)
all_points d = at_origin d.origin ∷ d.observes.items

pub built_points : (deadline : ℕ) (d : LentGraph) → (builder_of deadline d).points ≡ map point_of (all_points d)
built_points deadline d = drafts_leave_points d.constraints.list.items (with_points (all_points d) (begun_builder deadline)) ∙ points_are (all_points d) (begun_builder deadline)

pub built_drafts : (deadline : ℕ) (d : LentGraph) → (builder_of deadline d).drafts ≡ map draft_of d.constraints.list.items
built_drafts deadline d = drafts_are d.constraints.list.items (with_points (all_points d) (begun_builder deadline)) ∙ ap (λ (xs : List LentDraft). xs ++ map draft_of d.constraints.list.items) (points_leave_drafts (all_points d) (begun_builder deadline))

pub has_parts : (deadline : ℕ) (d : LentGraph) → HasParts (builder_of deadline d) (parts_with deadline d)
has_parts deadline d = record {
  deadline = drafts_leave_deadline d.constraints.list.items (with_points (all_points d) (begun_builder deadline)) ∙ points_leave_deadline (all_points d) (begun_builder deadline);
  observes = ap (map observation_of) (built_points deadline d) ∙ seen_points (all_points d) ∙ ap (λ o. o ∷ map observed_seen d.observes.items) (seen_origin d.origin);
  constraints = ap (map drawn_of) (built_drafts deadline d) ∙ seen_drafts d.constraints.list.items;
}

pub made_constraints : (k : ℕ) (ds : List LentDraft) → map the_constraint (constraints_from k ds) ≡ numbered_drawn k (map drawn_of ds)
made_constraints k [] = refl
made_constraints k (d ∷ ds) = ap (λ cs. the_constraint (constraint_of k d) ∷ cs) (made_constraints (k + 1) ds)

pub numbered_length : (k : ℕ) (cs : List DrawnConstraint) → length (numbered_drawn k cs) ≡ length cs
numbered_length k [] = refl
numbered_length k (c ∷ cs) = ap suc (numbered_length (k + 1) cs)

pub same_network : {h k : ℕ} {os ps : List (Option ℕ)} {r s : ℕ → ℕ} {cs ds : List Constraint} → h ≡ k → os ≡ ps → r ≡ s → cs ≡ ds
    → ◌≡◌ {A = Network} (record { deadline = h; observes = os; reaction = r; constraints = cs }) (record { deadline = k; observes = ps; reaction = s; constraints = ds })
same_network a b c d = rw (a, b, c, d) refl

-- the network that the builder of a graph makes is that of the graph's parts
pub made_network : (deadline : ℕ) (d : LentGraph) (n : NetworkParts) → IsBuilt (builder_of deadline d) n → the_network n ≡ network_of (parts_with deadline d)
made_network deadline d n h =
    let parts = has_parts deadline d in
    let observed_is : map observation_of n.points ≡ (parts_with deadline d).observes = ap (map observation_of) h.points ∙ parts.observes in
    same_network (h.deadline ∙ parts.deadline) (props_kept n.points ∙ ap (map observed_prop) observed_is)
    (fun_ext (λ p. reactions_kept n.points p ∙ ap (λ os. first_reaction observed_prop observed_reaction os p) observed_is))
    (ap (map the_constraint) h.constraints ∙ made_constraints 0 (builder_of deadline d).drafts ∙ ap (numbered_drawn 0) parts.constraints)

-- the network that was made has a time-point for each name of the graph
pub made_count : (deadline : ℕ) (d : LentGraph) (n : NetworkParts) → IsBuilt (builder_of deadline d) n → length d.names ≡ length d.observes.items + 1 → length d.names ≡ length (the_network n).observes
made_count deadline d n h e = omega (arith, e, length-map d.observes.items observed_seen, length-map (parts_with deadline d).observes observed_prop, ap (λ (x : Network). length x.observes) (made_network deadline d n h))

-- setting the reaction of the last time-point leaves those before it
pub last_reacts : (points : List TimePoint) (t : TimePoint) (ticks : ℕ) → with_reaction (length points) ticks (points ++ (t ∷ [])) ≡ points ++ (record t { reaction = ticks } ∷ [])
last_reacts [] t ticks = refl
last_reacts (first ∷ points) t ticks = ap (λ later. first ∷ later) (last_reacts points t ticks)

-- how many time-points a builder has after it was handed some
pub points_count : (props : List (Option LentObservation)) (b c : BuilderParts) → c ≡ with_points props b → length c.points ≡ length b.points + length props
points_count props b c e = rw (e, points_are props b, length-append b.points (map point_of props), length-map props point_of) refl

pub among_rest : (n m : ℕ) (c : Lent) (rest next : List Lent) → rest ≡ c ∷ next → m ≡ n → All (λ (c : Lent). (c.from < n) × (c.to < n)) rest → All (λ (c : Lent). (c.from < m) × (c.to < m)) next
among_rest n m c rest next e f h = subst (λ k. All (λ (c : Lent). (c.from < k) × (c.to < k)) next) (sym f) (All-tail (λ (c : Lent). (c.from < n) × (c.to < n)) c next (subst (All (λ (c : Lent). (c.from < n) × (c.to < n))) e h))

-- the constraints of the program are between the time-points that those of the definitions are between
pub among_seen : (n m : ℕ) (cs ds : List Lent) → ds ≡ cs → m ≡ n → All (IsDrawnAmong n) (map drawn_seen cs) → All (λ (c : Lent). (c.from < m) × (c.to < m)) ds
among_seen n m [] ds e f h = rw e (λ k d inside. absurd (omega (arith, inside)))
among_seen n m (c ∷ cs) ds e f h = rw (e, f) (All-cons (λ (c : Lent). (c.from < n) × (c.to < n)) c cs (All-head (IsDrawnAmong n) (drawn_seen c) (map drawn_seen cs) h) (among_seen n n cs cs refl refl (All-tail (IsDrawnAmong n) (drawn_seen c) (map drawn_seen cs) h)))
