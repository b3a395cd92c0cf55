-- A document has an answer: its parts make a labelled network where neither their network nor their labels have a fault.
use Rattle.std.proofs.Common.{◌≡◌, ◌≢◌, ℕ, zero, suc, ◌<◌, List, [], ◌∷◌, length, map, refl, ap, sym, ◌∙◌, subst, arith}
use Rattle.std.specs.List.{All}
use Rattle.std.proofs.Math.Path.{fun_ext}
use Rattle.std.proofs.lemmas.List.{length-map}
use Rattle.cstn_label.specs.declared.labels.Label.{Label as Lent}
use Rattle.cstn_label.specs.declared.marks.Mark.TheVariants.{Absent}
use Rattle.cstn_label.specs.Labels.{Label}
use Rattle.cstn_label.specs.Read.{marks}
use Rattle.cstn_net.specs.declared.drafts.Draft.{Draft}
use Rattle.cstn_net.specs.declared.errors.NetError.{NetError}
use Rattle.cstn_net.specs.Networks.{Network, IsWellFormed, count}
use Rattle.cstn_net.specs.Drafts.{BuilderParts, IsDraftAmong, IsLowestNetFault, constraints_from}
use Rattle.cstn_net.specs.Read.{the_network, first_reaction}
use Rattle.cstn_net.proofs.NoFault.{letter_of_label}
use Rattle.cstn_lift.specs.declared.errors.LiftError.{LiftError}
use Rattle.cstn_lift.specs.Labelled.{Labelled, label_of, label_in}
use Rattle.cstn_lift.specs.Faults.{HasLiftFault, IsLowestLiftFault}
use Rattle.cstn_lift.specs.WellFormed.{IsLabelled}
use Rattle.cstn_graphml.specs.DrawnGraphLaws.{IsDrawnAmong}
use Rattle.cstn_graphml.specs.Document.{Parts}
use Rattle.cstn_graphml.specs.Networks.{HasParts, IsHeld, IsFit, IsUnfit, IsMislabelled, network_of, labelled_of, numbered_drawn, observed_prop, observation_of, drawn_of, observed_reaction}
use Rattle.cstn_graphml.proofs.Built.{props_kept, reactions_kept, made_constraints, same_network}
use Rattle.cstn_graphml.proofs.OfDocuments.{AreDrawn, as_many_names, of_images}

-- the network of a builder
abbrev pub made_by : BuilderParts → Network
made_by b = the_network (record { deadline = b.deadline; points = b.points; constraints = constraints_from 0 b.drafts; spare = 0 })

drawn_among : (n : ℕ) (ds : List Draft) → All (IsDrawnAmong n) (map drawn_of ds) → All (IsDraftAmong n) ds
drawn_among n ds all = of_images drawn_of (IsDrawnAmong n) ds all

-- the network of a builder that was handed these parts is the network of the parts
made_of : (b : BuilderParts) (parts : Parts) → HasParts b parts → made_by b ≡ network_of parts
made_of b parts h =
    same_network h.deadline (props_kept b.points ∙ ap (map observed_prop) h.observes)
    (fun_ext (λ p. reactions_kept b.points p ∙ ap (λ os. first_reaction observed_prop observed_reaction os p) h.observes))
    (made_constraints 0 b.drafts ∙ ap (numbered_drawn 0) h.constraints)

letters_at : (ls : List Lent) (x p : ℕ) → label_in (map marks ls) x p ≢ Absent → p < 52
letters_at [] x p named = absurd (named refl)
letters_at (l ∷ ls) zero p named = letter_of_label l p named
letters_at (l ∷ ls) (suc x) p named = letters_at ls x p named

-- The parts of a document that the program's values can hold.
module _ (good_net : (b : BuilderParts) → All (IsDraftAmong (length b.points)) b.drafts → ((e : NetError) → IsLowestNetFault b e → ⊥) → IsWellFormed (made_by b))
    (good_labels : (m : Labelled) → IsWellFormed m.base → length m.labels ≡ count m.base → ((x p : ℕ) → label_of m x p ≢ Absent → p < 52) → ((e : LiftError) → IsLowestLiftFault m e → ⊥) → IsLabelled m)
    (no_fault : (m : Labelled) (e : LiftError) → ((f : LiftError) → IsLowestLiftFault m f → ⊥) → HasLiftFault m e → ⊥)
    (parts : Parts) (is : AreDrawn parts) (held : IsHeld parts) where
  network_good : ((e : NetError) → IsUnfit parts e → ⊥) → IsWellFormed (network_of parts)
  network_good none =
      let b : BuilderParts = held.builder in
      let wide : length parts.names ≡ length b.points = omega (arith, as_many_names parts is, ap length held.parts_are.observes, length-map b.points observation_of) in
      let among : All (IsDrawnAmong (length b.points)) (map drawn_of b.drafts) =
      subst (λ (n : ℕ). All (IsDrawnAmong n) (map drawn_of b.drafts)) (ap length is.names_are ∙ wide)
      (subst (All (IsDrawnAmong (length is.graph.names))) (is.constraints_are ∙ sym held.parts_are.constraints) is.drawn.among) in
      let lowest : (e : NetError) → IsLowestNetFault b e → ⊥ = λ e fault. none e (record { builder = b; parts_are = held.parts_are; fault = fault }) in
      subst IsWellFormed (made_of b parts held.parts_are) (good_net b (drawn_among (length b.points) b.drafts among) lowest)

  -- they make a labelled network, where neither their network nor their labels have a fault
  pub fit_made : ((e : NetError) → IsUnfit parts e → ⊥) → ((e : LiftError) → IsMislabelled parts e → ⊥) → IsFit parts
  fit_made no_net no_label =
      let good = network_good no_net in
      let m : Labelled = labelled_of parts in
      let each : length m.labels ≡ count m.base =
      omega (arith, is.drawn.each, is.drawn.labelled, ap length is.labels_are, ap length is.observes_are, length-map parts.observes observed_prop) in
      let letters : (x p : ℕ) → label_of m x p ≢ Absent → p < 52 =
      λ x p named. letters_at held.labels x p (λ e. named (ap (λ (ls : List Label). label_in ls x p) (sym held.labels_are) ∙ e)) in
      let lowest : (e : LiftError) → IsLowestLiftFault m e → ⊥ = λ e fault. no_label e (record { well_formed = good; fault = fault }) in
      record { labelled = good_labels m good each letters lowest; faultless = λ e. no_fault m e lowest }
