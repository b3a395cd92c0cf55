-- The labels of a graph, as they are handed in.
use Rattle.std.proofs.Common.{◌≡◌, ◌≢◌, ℕ, refl, List, ◌∷◌, ap, sym, ◌∙◌, subst, arith, inl, inr}
use Rattle.std.specs.declared.alloc.AllocError.{AllocError}
use Rattle.cstn_label.specs.declared.labels.Label.{Label as Lent}
use Rattle.cstn_net.specs.Read.{NetworkParts}
use Rattle.cstn_lift.specs.declared.errors.LiftError.{LiftError}
use Rattle.cstn_lift.specs.declared.errors.LiftError.TheVariants.{Memory as NoMemory}
use Rattle.cstn_lift.specs.Labelled.{Labelled}
use Rattle.cstn_lift.specs.Faults.{IsLiftRefusal, IsLowestLiftFault, lift_number}
use Rattle.cstn_lift.specs.Read.{LabelledParts, the_labelled, with_labels}
use Rattle.cstn_graphml.specs.declared.drawn_graph.DrawnGraph.{DrawnGraph as LentGraph}
use Rattle.cstn_element.specs.declared.errors.DocError.{DocError}
use Rattle.cstn_graphml.specs.Labels.{with_labels_of}
use Rattle.cstn_graphml.specs.Answers.{IsLabelRefusal, IsLiftTold}

-- the labels that were handed in are those of the graph
pub handed : (network : NetworkParts) (d : LentGraph) (labels : List Lent) → labels ≡ d.origin_label ∷ d.labels.items → with_labels network labels ≡ with_labels_of network d
handed network d labels is = ap (λ (ls : List Lent). with_labels network ls) is

-- a labelled network of the labels that were handed in is that of the graph
pub lifted : (network : NetworkParts) (d : LentGraph) (labels : List Lent) (l : LabelledParts) → labels ≡ d.origin_label ∷ d.labels.items → l.base ≡ network → l.labels ≡ labels → the_labelled l ≡ with_labels_of network d
lifted network d labels l is base same =
    ap (λ (net : NetworkParts). with_labels net l.labels) base ∙ ap (λ (ls : List Lent). with_labels network ls) same ∙ handed network d labels is

zero_is_memory : (error : LiftError) → lift_number error ≡ 0 → (x : AllocError) × (error ≡ NoMemory x)
zero_is_memory (NoMemory x) z = (x, refl)
zero_is_memory error z = absurd (omega (arith, z))

-- a refusal of the labels is told with their lowest fault, or is for want of memory
module _ (m : Labelled) (names : List (List ℕ)) where
  lowest_of : (error : LiftError) → IsLiftRefusal m error → ((x : AllocError) → error ≢ NoMemory x) → IsLowestLiftFault m error
  lowest_of error (inl z) h = let memory = zero_is_memory error z in absurd (h memory.0 memory.1)
  lowest_of error (inr l) h = l

  pub lift_refused : (error : LiftError) (others : List (List ℕ)) (e : DocError) → others ≡ names → IsLiftRefusal m error → IsLiftTold error others e → IsLabelRefusal m names e
  lift_refused error others e named h (inl memory) = subst (IsLabelRefusal m names) (sym memory.2) tt
  lift_refused error others e named h (inr fault) = subst (IsLabelRefusal m names) (sym fault.1) (lowest_of error h fault.0, named)
