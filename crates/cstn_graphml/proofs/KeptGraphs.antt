-- A graph of which the first constraints are kept has the network, or the fault, of the whole one.
use Rattle.std.proofs.Common.{◌≡◌, ◌≢◌, ℕ, ◌<◌, ◌≤◌, List, ◌∷◌, take, length, map, refl, ap, sym, ◌∙◌, subst, arith, inl, inr}
use Rattle.std.proofs.lemmas.Bool.{cases_lt}
use Rattle.std.proofs.lemmas.List.{take_all, length-take, length-map}
use Rattle.std.proofs.lemmas.List.Elements.{All-take}
use Rattle.std.specs.declared.alloc.AllocError.{AllocError}
use Rattle.cstn_net.specs.Limits.{most_constraints}
use Rattle.cstn_net.specs.declared.errors.NetError.{NetError}
use Rattle.cstn_net.specs.declared.errors.NetError.TheVariants.{TooManyNodes, NoOrigin, TooManyConstraints, DeadlineRange, ValueRange, NotObserved, TwoObservers, NotPlain, ReactionRange, Memory as NoMemory}
use Rattle.cstn_net.specs.Drafts.{BuilderParts, HasNetFault, IsNetRefusal, IsLowestNetFault, net_number}
use Rattle.cstn_net.specs.Networks.{Network, IsWellFormed}
use Rattle.cstn_net.specs.Read.{NetworkParts, the_network}
use Rattle.cstn_lift.specs.declared.errors.LiftError.{LiftError}
use Rattle.cstn_lift.specs.Labelled.{Labelled}
use Rattle.cstn_lift.specs.Faults.{HasLiftFault, IsLowestLiftFault}
use Rattle.cstn_lift.specs.WellFormed.{IsLabelled}
use Rattle.cstn_lift.specs.Read.{LabelledParts, the_labelled}
use Rattle.cstn_element.specs.LabelTexts.{IsOfLiterals}
use Rattle.cstn_graphml.specs.DrawnGraph.{DrawnGraph, DrawnConstraint}
use Rattle.cstn_graphml.specs.DrawnGraphSeen.{graph_seen, drawn_seen}
use Rattle.cstn_graphml.specs.DrawnGraphLaws.{IsDrawnGraph, IsDrawnAmong}
use Rattle.cstn_graphml.specs.Document.{parts_of, or_nothing}
use Rattle.cstn_graphml.specs.Kept.{kept}
use Rattle.cstn_graphml.specs.Networks.{IsBuilt, IsUnfit, IsMislabelled, IsFit, builder_of, draft_of, labelled_of}
use Rattle.cstn_graphml.specs.Labels.{labels_seen, with_labels_of}
use Rattle.cstn_graphml.specs.declared.drawn_graph.DrawnGraph.{DrawnGraph as LentGraph}
use Rattle.cstn_graphml.proofs.Built.{parts_with, has_parts, built_drafts, made_network, numbered_length}
use Rattle.cstn_graphml.proofs.Held.{draft_held, drafts_held}

-- what is kept of a graph between time-points with names, and so on, is such a graph
kept_is_drawn : (g : DrawnGraph) → IsDrawnGraph g → IsDrawnGraph (kept g)
kept_is_drawn g h = record {
  later = h.later;
  first = h.first;
  each = h.each;
  labelled = h.labelled;
  among = All-take (IsDrawnAmong (length g.names)) 16385 g.constraints h.among;
  origin_timely = h.origin_timely;
  timely = h.timely;
  origin_lettered = h.origin_lettered;
  lettered = h.lettered;
  literals = All-take (λ (c : DrawnConstraint). IsOfLiterals c.label) 16385 g.constraints h.literals;
  origin_literals = h.origin_literals;
  label_literals = h.label_literals;
}

-- the program keeps this graph of a whole one
pub record IsKeptOf (whole : DrawnGraph) (d : LentGraph) : Type 0 where
  pub kept_is : kept whole ≡ graph_seen d
  pub drawn : IsDrawnGraph whole

module _ (whole : DrawnGraph) (d : LentGraph) (is : IsKeptOf whole d) where
  pub kept_drawn : IsDrawnGraph (graph_seen d)
  kept_drawn = subst IsDrawnGraph is.kept_is (kept_is_drawn whole is.drawn)

  pub same_names : whole.names ≡ d.names
  same_names = ap (λ (g : DrawnGraph). g.names) is.kept_is

  as_many : length (take 16385 whole.constraints) ≡ length d.constraints.list.items
  as_many = ap (λ (g : DrawnGraph). length g.constraints) is.kept_is ∙ length-map d.constraints.list.items drawn_seen

  -- a graph with no more constraints than a network holds is kept whole
  pub whole_kept : length d.constraints.list.items ≤ most_constraints → whole ≡ graph_seen d
  whole_kept few =
      sym (ap (λ (cs : List DrawnConstraint). record whole { constraints = cs }) (take_all 16385 whole.constraints (omega (arith, few, as_many, length-take 16385 whole.constraints)))) ∙ is.kept_is

  -- where some constraints aren't kept, both are more than a network holds
  more_than_kept : most_constraints < length d.constraints.list.items → most_constraints < length whole.constraints
  more_than_kept many = omega (arith, many, as_many, length-take 16385 whole.constraints)

  -- a network was made of it only if it is kept whole
  pub built_whole : (n : ℕ) (network : NetworkParts) → IsBuilt (builder_of n d) network → IsWellFormed (the_network network) → whole ≡ graph_seen d
  built_whole n network built good =
      let few : length (the_network network).constraints ≤ most_constraints = good.few_constraints in
      let same = ap (λ (net : Network). length net.constraints) (made_network n d network built) in
      let count = numbered_length 0 (map drawn_seen d.constraints.list.items) in
      whole_kept (omega (arith, few, same, count, length-map d.constraints.list.items drawn_seen))

zero_is_memory : (error : NetError) → net_number error ≡ 0 → (x : AllocError) × (error ≡ NoMemory x)
zero_is_memory (NoMemory x) z = (x, refl)
zero_is_memory error z = absurd (omega (arith, z))

pub lowest_of : (b : BuilderParts) (e : NetError) → IsNetRefusal b e → ((x : AllocError) → e ≢ NoMemory x) → IsLowestNetFault b e
lowest_of b e (inl z) h = let memory = zero_is_memory e z in absurd (h memory.0 memory.1)
lowest_of b e (inr l) h = l

-- builders with as many time-points, and with more constraints than a network holds, have the same faults of a number up to 3
past_alike : (b c : BuilderParts) → length b.points ≡ length c.points → most_constraints < length c.drafts → (e : NetError) → net_number e ≤ 3 → HasNetFault b e → HasNetFault c e
past_alike b c same many TooManyNodes low has = omega (arith, same, has)
past_alike b c same many NoOrigin low has = sym same ∙ has
past_alike b c same many TooManyConstraints low has = many
past_alike b c same many (DeadlineRange deadline) low has = absurd (omega (arith, low))
past_alike b c same many (ValueRange constraint) low has = absurd (omega (arith, low))
past_alike b c same many (NotObserved prop) low has = absurd (omega (arith, low))
past_alike b c same many (TwoObservers prop first second) low has = absurd (omega (arith, low))
past_alike b c same many (NotPlain constraint) low has = absurd (omega (arith, low))
past_alike b c same many (ReactionRange node) low has = absurd (omega (arith, low))
past_alike b c same many (NoMemory e) low has = has

past_lowest : (b c : BuilderParts) → length b.points ≡ length c.points → most_constraints < length b.drafts → most_constraints < length c.drafts → (e : NetError) → IsLowestNetFault b e → IsLowestNetFault c e
past_lowest b c same many more e fault =
    let low : net_number e ≤ 3 = fault.lowest TooManyConstraints many in
    record {
      has = past_alike b c same more e low fault.has;
      lowest = λ f has. elim (cases_lt (net_number f) 4) [
        | inl below ↦ fault.lowest f (past_alike c b (sym same) many f (omega (arith, below)) has)
        | inr above ↦ omega (arith, low, above)
      ];
    }

-- parts whose kept network has a lowest fault have that fault
pub kept_unfit : (n : ℕ) (whole : DrawnGraph) (d : LentGraph) (is : IsKeptOf whole d) (error : NetError) → IsLowestNetFault (builder_of n d) error → IsUnfit (parts_of n whole) error
kept_unfit n whole d is error fault = elim (cases_lt most_constraints (length d.constraints.list.items)) [
  | inl many ↦
      let b : BuilderParts = builder_of n d in
      let c : BuilderParts = record { deadline = n; points = b.points; drafts = map draft_held whole.constraints } in
      let drafts : length b.drafts ≡ length d.constraints.list.items = ap length (built_drafts n d) ∙ length-map d.constraints.list.items draft_of in
      let more = more_than_kept whole d is many in
      record {
        builder = c;
        parts_are = record {
          deadline = refl;
          observes = (has_parts n d).observes ∙ sym (ap (λ (g : DrawnGraph). or_nothing g.origin ∷ g.observes) is.kept_is);
          constraints = drafts_held whole.constraints is.drawn.literals;
        };
        fault = past_lowest b c refl (omega (arith, many, drafts)) (omega (arith, more, length-map whole.constraints draft_held)) error fault;
      }
  | inr few ↦
      subst (λ (g : DrawnGraph). IsUnfit (parts_of n g) error) (sym (whole_kept whole d is few))
      (record { builder = builder_of n d; parts_are = has_parts n d; fault = fault })
]

-- Of a graph whose network was made.
module _ (n : ℕ) (d : LentGraph) (network : NetworkParts) (built : IsBuilt (builder_of n d) network) where
  pub labels_made : with_labels_of network d ≡ labelled_of (parts_with n d)
  labels_made = ap (λ (net : Network). record { base = net; labels = labels_seen d }) (made_network n d network built)

  -- where its labels have no fault, its parts make a labelled network
  pub made_fit : (labelled : LabelledParts) → the_labelled labelled ≡ with_labels_of network d → IsLabelled (the_labelled labelled) → ((error : LiftError) → HasLiftFault (with_labels_of network d) error → ⊥) → IsFit (parts_with n d)
  made_fit labelled same in_order none = record {
    labelled = subst IsLabelled (same ∙ labels_made) in_order;
    faultless = λ error fault. none error (subst (λ (m : Labelled). HasLiftFault m error) (sym labels_made) fault);
  }

  -- where its labels have a lowest fault, its parts make no labelled network
  pub made_mislabelled : (error : LiftError) → IsWellFormed (the_network network) → IsLowestLiftFault (with_labels_of network d) error → IsMislabelled (parts_with n d) error
  made_mislabelled error good fault = record {
    well_formed = subst IsWellFormed (made_network n d network built) good;
    fault = subst (λ (m : Labelled). IsLowestLiftFault m error) labels_made fault;
  }
