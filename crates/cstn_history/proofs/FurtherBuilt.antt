-- A network with a further time-point, as the program makes it.
use Rattle.std.proofs.Common.{ℕ, ◌≡◌, ◌+◌, ◌<◌, ◌≤◌, List, [], ◌∷◌, ◌++◌, Option, None, Some, length, arith, refl, sym, subst, ap, ◌∙◌}
use Rattle.std.specs.Prelude.{map, slice_index_or}
use Rattle.std.specs.List.{All}
use Rattle.std.proofs.Math.Path.{fun_ext}
use Rattle.std.proofs.lemmas.List.{map-append}
use Rattle.std.proofs.lemmas.List.Elements.{All-nil, All-cons, All-append, All-weaker}
use Rattle.cstn_net.specs.Limits.{most_time_points}
use Rattle.cstn_net.specs.declared.points.TimePoint.{TimePoint}
use Rattle.cstn_net.specs.Networks.{Network, Constraint, IsConstraint, IsValue, IsWellFormed, AreConstraintsFor, count}
use Rattle.cstn_net.specs.Read.{NetworkParts, the_network, the_constraint, observed, reaction_of}
use Rattle.cstn_net.specs.Drafts.{BuilderParts, constraints_from}
use Rattle.cstn_net.specs.Handed.{IsHanded}
use Rattle.cstn_lift.specs.Labelled.{Labelled}
use Rattle.cstn_lift.specs.Read.{LabelledParts, the_labelled}
use Rattle.cstn_lift.specs.WellFormed.{IsLabelled}
use Rattle.cstn_lift.specs.Handed.{HasPoints}
use Rattle.cstn_lift.proofs.Built.{points_long, reaction_told, reaction_untold}
use Rattle.cstn_lift.proofs.Taken.{same_observes}
use Rattle.cstn_history.specs.Histories.{History, nothing_yet}
use Rattle.cstn_history.specs.Handed.{HasAllLeft, bared}
use Rattle.cstn_history.specs.Rest.{rest}
use Rattle.cstn_history.specs.Steps.{with_point, stepped}
use Rattle.cstn_history.proofs.Nothing.{rest_whole}
use Rattle.cstn_history.proofs.FurtherPoint.{at_end, stepped_formed, constraint_new}

-- a network without its constraints
abbrev pub emptied : Network → Network
emptied net = record net { constraints = [] }

-- where nothing has happened all is left
pub bared_whole : (m : Labelled) (h : History) → IsLabelled m → h ≡ nothing_yet → bared m h ≡ emptied m.base
bared_whole m h good is = ap (bared m) is ∙ ap (λ (k : Labelled). emptied k.base) (rest_whole m 0 good)

pub labels_whole : (m : Labelled) (h : History) → IsLabelled m → h ≡ nothing_yet → (rest m h 0).labels ≡ m.labels
labels_whole m h good is = ap (λ (g : History). (rest m g 0).labels) is ∙ ap (λ (k : Labelled). k.labels) (rest_whole m 0 good)

abbrev pub further : TimePoint
further = record { observes = None; reaction = 1 }

module _ (parts : LabelledParts) (good : IsLabelled (the_labelled parts)) (few : count (the_network parts.base) < most_time_points) where
  abbrev base : Network
  base = the_network parts.base

  formed : IsWellFormed (with_point base)
  formed = stepped_formed (the_labelled parts) good few

  pub emptied_formed : IsWellFormed (emptied (with_point base))
  emptied_formed = record {
    network = record {
      origin = formed.network.origin;
      one_observer = λ x y p o q. formed.network.one_observer x y p (record { what = o.what }) (record { what = q.what });
      reacts = λ x p o. formed.network.reacts x p (record { what = o.what });
      constraints = All-nil (IsConstraint (emptied (with_point base)));
    };
    few_points = formed.few_points;
    letters = λ x p o. formed.letters x p (record { what = o.what });
    soon = λ x p o. formed.soon x p (record { what = o.what });
    few_constraints = omega arith;
    ascending = λ i j d before inside. absurd (omega arith);
    values = All-nil (λ c. IsValue c.most);
    in_time = formed.in_time;
  }

  -- the constraints fit the network with the further time-point
  pub constraints_fit : (n : NetworkParts) → the_network n ≡ emptied (with_point base) → n.constraints ≡ []
      → AreConstraintsFor (the_network n) (map the_constraint (n.constraints ++ parts.base.constraints))
  constraints_fit n is none =
      subst (λ (k : Network). AreConstraintsFor k (map the_constraint (n.constraints ++ parts.base.constraints))) (sym is)
      (subst (λ cs. AreConstraintsFor (emptied (with_point base)) (map the_constraint (cs ++ parts.base.constraints))) (sym none) (record {
        few = formed.few_constraints;
        each = All-weaker (IsConstraint (with_point base)) (IsConstraint (emptied (with_point base)))
            (λ c is. record {
              from = is.from;
              to = is.to;
              plain = is.plain;
              observed = λ p marked. let o = is.observed p marked in (o.0, record { what = o.1.what });
            }) base.constraints formed.network.constraints;
        ascending = formed.ascending;
        values = formed.values;
      }))

module _ (parts : LabelledParts) (h : History) (good : IsLabelled (the_labelled parts)) (nothing : h ≡ nothing_yet) (points : List TimePoint)
    (all : HasAllLeft (the_labelled parts) h points) where
  abbrev net : Network
  net = the_network parts.base

  has_points : HasPoints net (count net) points
  has_points =
      let has = subst (λ (n : Network). HasPoints n (count n) points) (bared_whole (the_labelled parts) h good nothing) all in
      record { observes = has.observes; reactions = has.reactions }

  pub points_few : count net < most_time_points → length points < most_time_points
  points_few few = let long = points_long net (count net) points (omega arith) has_points in omega arith

  seen : map observed (points ++ further ∷ []) ≡ net.observes ++ None ∷ []
  seen = map-append observed points (further ∷ []) ∙ ap (λ os. os ++ None ∷ []) (same_observes parts.base points has_points)

  reacts : (p : ℕ) → reaction_of (points ++ further ∷ []) p ≡ net.reaction p
  reacts p =
      let P : TimePoint → Type 0 = λ t. (q : ℕ) → observed t ≡ Some q → t.reaction ≡ net.reaction q in
      reaction_told net.reaction (points ++ further ∷ []) p
      (All-append P points (further ∷ []) has_points.reactions (All-cons P further [] (λ q e. absurd (cc)) (All-nil P)))
      (λ none. reaction_untold parts.base.points p (λ x e.
      none x (ap (λ os. slice_index_or os x None) seen ∙ at_end net.observes x None ∙ e)))

  -- a builder that has these time-points was handed the network without its constraints
  module _ (b : BuilderParts) (at : b.points ≡ points ++ further ∷ []) (deadline : b.deadline ≡ parts.base.deadline) (drafts : b.drafts ≡ []) where
    pub further_handed : IsHanded b (emptied (with_point net))
    further_handed = record {
      deadline = deadline;
      observes = ap (map observed) at ∙ seen;
      reaction = λ p. ap (λ ps. reaction_of ps p) at ∙ reacts p;
      constraints = ap (λ ds. map the_constraint (constraints_from 0 ds)) drafts;
    }

    pub further_closed : (n : NetworkParts) → n.deadline ≡ b.deadline → n.points ≡ b.points → n.constraints ≡ constraints_from 0 b.drafts
        → the_network n ≡ emptied (with_point net)
    further_closed n same_deadline same_points same_constraints =
        let o : map observed n.points ≡ net.observes ++ None ∷ [] = ap (map observed) same_points ∙ further_handed.observes in
        let r : reaction_of n.points ≡ net.reaction = ap reaction_of same_points ∙ fun_ext further_handed.reaction in
        let c : map the_constraint n.constraints ≡ [] = ap (map the_constraint) same_constraints ∙ further_handed.constraints in
        ap (λ v. record { deadline = v; observes = map observed n.points; reaction = reaction_of n.points; constraints = map the_constraint n.constraints })
        (same_deadline ∙ deadline)
        ∙ ap (λ v. record { deadline = net.deadline; observes = v; reaction = reaction_of n.points; constraints = map the_constraint n.constraints }) o
        ∙ ap (λ v. record { deadline = net.deadline; observes = net.observes ++ None ∷ []; reaction = v; constraints = map the_constraint n.constraints }) r
        ∙ ap (λ v. record { deadline = net.deadline; observes = net.observes ++ None ∷ []; reaction = net.reaction; constraints = v }) c
