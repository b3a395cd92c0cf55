-- What reading a plan answers, by the network of its graph.
use Rattle.std.proofs.Common.{◌≡◌, ℕ, List, refl, ap, sym, ◌∙◌, subst, Ok, inl, inr}
use Rattle.cstn_net.specs.declared.errors.NetError.{NetError}
use Rattle.cstn_net.specs.Drafts.{IsNetRefusal}
use Rattle.cstn_net.specs.Networks.{IsWellFormed}
use Rattle.cstn_net.specs.Read.{NetworkParts, the_network}
use Rattle.cstn_lift.specs.declared.errors.LiftError.{LiftError}
use Rattle.cstn_lift.specs.Faults.{HasLiftFault}
use Rattle.cstn_lift.specs.WellFormed.{IsLabelled}
use Rattle.cstn_lift.specs.Read.{LabelledParts, the_labelled}
use Rattle.cstn_element.specs.declared.errors.DocError.{DocError}
use Rattle.cstn_element.specs.declared.errors.DocError.TheVariants.{NotUtf8, Shape, NameTwice, UnknownNode, Value, LabelText, Contingent, EdgeType, NoDeadline as DocNoDeadline, Net as DocNet, Lift as DocLift, Memory as DocMemory}
use Rattle.cstn_graphml.specs.declared.drawn_graph.DrawnGraph.{DrawnGraph as LentGraph}
use Rattle.cstn_graphml.specs.DrawnGraphLaws.{IsDrawnGraph}
use Rattle.cstn_graphml.specs.DrawnGraphSeen.{graph_seen}
use Rattle.cstn_graphml.specs.Document.{Parts, parts_of as graph_parts}
use Rattle.cstn_graphml.specs.Kept.{kept}
use Rattle.cstn_graphml.specs.Labels.{with_labels_of}
use Rattle.cstn_graphml.specs.Networks.{IsBuilt, IsFit, IsMislabelled, builder_of, labelled_of}
use Rattle.cstn_graphml.specs.Answers.{IsLabelRefusal}
use Rattle.cstn_graphml.proofs.KeptGraphs.{IsKeptOf, same_names, built_whole, kept_unfit, lowest_of, labels_made, made_fit, made_mislabelled}
use Rattle.cstn_sentences.specs.declared.errors.PlanError.{PlanError}
use Rattle.cstn_sentences.specs.Declarations.{Declared}
use Rattle.cstn_sentences.specs.Meaning.{Meaning}
use Rattle.cstn_sentences.specs.Drawn.{graph_of}
use Rattle.cstn_sentences.specs.Plans.{plan_parts}
use Rattle.cstn_sentences.specs.Planned.{IsFitPlan, RefusesPlan, IsPlanNetTold, IsLabelTold}

-- the program keeps this graph of a plan with these parts
module _ (n : ℕ) (d : Declared) (m : Meaning) (g : LentGraph) (drawn : IsDrawnGraph (graph_of d m)) (seen : graph_seen g ≡ kept (graph_of d m)) where
  pub as_kept : IsKeptOf (graph_of d m) g
  as_kept = record { kept_is = sym seen; drawn = drawn }

  pub plan_unfit : (error : NetError) (names : List (List ℕ)) (e : PlanError) → names ≡ g.names → IsNetRefusal (builder_of n g) error → IsPlanNetTold error names e → RefusesPlan (Ok (plan_parts n d m)) e
  plan_unfit error names e named h (inl memory) = subst (RefusesPlan (Ok (plan_parts n d m))) (sym memory.2) tt
  plan_unfit error names e named h (inr fault) =
      subst (RefusesPlan (Ok (plan_parts n d m))) (sym fault.1)
      (record {
        parts = plan_parts n d m;
        told_are = refl;
        unfit = kept_unfit n (graph_of d m) g as_kept error (lowest_of (builder_of n g) error h fault.0);
        names_are = named ∙ sym (same_names (graph_of d m) g as_kept);
      })

  module _ (network : NetworkParts) (built : IsBuilt (builder_of n g) network) (good : IsWellFormed (the_network network)) where
    whole : graph_parts n (graph_seen g) ≡ plan_parts n d m
    whole = ap (graph_parts n) (sym (built_whole (graph_of d m) g as_kept n network built good))

    pub plan_fit : (labelled : LabelledParts) (names : List (List ℕ)) → the_labelled labelled ≡ with_labels_of network g → names ≡ g.names → IsLabelled (the_labelled labelled)
        → ((error : LiftError) → HasLiftFault (with_labels_of network g) error → ⊥) → IsFitPlan (Ok (plan_parts n d m)) (the_labelled labelled) names
    plan_fit labelled names same named in_order none = record {
      parts = plan_parts n d m;
      told_are = refl;
      fit = subst IsFit whole (made_fit n g network built labelled same in_order none);
      labelled_is = same ∙ labels_made n g network built ∙ ap labelled_of whole;
      names_are = named ∙ sym (same_names (graph_of d m) g as_kept);
    }

    pub plan_mislabelled : (fault : DocError) (e : PlanError) → IsLabelRefusal (with_labels_of network g) g.names fault → IsLabelTold fault e → RefusesPlan (Ok (plan_parts n d m)) e
    plan_mislabelled (DocLift error names) e h told =
        subst (RefusesPlan (Ok (plan_parts n d m))) (sym told)
        (record {
          parts = plan_parts n d m;
          told_are = refl;
          mislabelled = subst (λ (p : Parts). IsMislabelled p error) whole (made_mislabelled n g network built error good h.0);
          names_are = h.1 ∙ sym (same_names (graph_of d m) g as_kept);
        })
    plan_mislabelled (DocMemory x) e h told = subst (RefusesPlan (Ok (plan_parts n d m))) (sym told) tt
    plan_mislabelled (NotUtf8 at) e h told = absurd h
    plan_mislabelled (Shape at) e h told = absurd h
    plan_mislabelled (NameTwice at) e h told = absurd h
    plan_mislabelled (UnknownNode at) e h told = absurd h
    plan_mislabelled (Value at) e h told = absurd h
    plan_mislabelled (LabelText at) e h told = absurd h
    plan_mislabelled (Contingent at) e h told = absurd h
    plan_mislabelled (EdgeType at) e h told = absurd h
    plan_mislabelled DocNoDeadline e h told = absurd h
    plan_mislabelled (DocNet error names) e h told = absurd h
