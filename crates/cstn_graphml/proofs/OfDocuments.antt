-- What holds of each document that is read: a name for each time-point, the origin's first, plain labels, and reactions in range.
use Rattle.std.proofs.Common.{◌≡◌, ◌≢◌, ℕ, List, [], ◌∷◌, length, map, ap, sym, ◌∙◌, subst, arith, Option, Result, Ok, Err}
use Rattle.std.specs.Prelude.{IfOk, IfErr}
use Rattle.std.specs.List.{All}
use Rattle.std.proofs.lemmas.List.{length-map, get_or-map}
use Rattle.std.proofs.lemmas.List.Elements.{All-cons, All-weaker}
use Rattle.cstn_label.specs.declared.nodes.NodeId.{NodeId}
use Rattle.cstn_label.specs.Labels.{IsPlain, empty}
use Rattle.cstn_label.specs.Read.{marks}
use Rattle.cstn_net.specs.declared.drafts.Draft.{Draft}
use Rattle.cstn_net.specs.declared.points.TimePoint.{TimePoint}
use Rattle.cstn_net.specs.declared.errors.NetError.TheVariants.{NoOrigin, NotPlain, ReactionRange}
use Rattle.cstn_net.specs.Faults.{IsFirst}
use Rattle.cstn_net.specs.Drafts.{HasReaction}
use Rattle.cstn_net.specs.Networks.{IsWellFormed, count}
use Rattle.cstn_lift.specs.declared.errors.LiftError.TheVariants.{NotPlain as NotPlainLabel}
use Rattle.cstn_lift.specs.Labelled.{Labelled}
use Rattle.cstn_element.specs.LabelTexts.{IsOfLiterals}
use Rattle.cstn_markup.specs.Tokens.{tokens}
use Rattle.cstn_element.specs.declared.errors.DocError.{DocError}
use Rattle.cstn_element.specs.declared.errors.DocError.TheVariants.{Net, Lift}
use Rattle.cstn_element.specs.Results.{or_refused}
use Rattle.cstn_element.specs.Results.Refusal.{no_deadline}
use Rattle.cstn_element.specs.Contents.{content_of}
use Rattle.cstn_graphml.specs.DrawnGraph.{DrawnGraph, DrawnConstraint, origin_name}
use Rattle.cstn_graphml.specs.DrawnGraphLaws.{IsDrawnGraph, IsWithReaction, IsLettered}
use Rattle.cstn_graphml.specs.Document.{Parts, document, in_document, drawn_parts, first_of_two, is_text, or_nothing}
use Rattle.cstn_graphml.specs.Networks.{observed_prop, observation_of, drawn_of, IsUnfit, IsMislabelled}
use Rattle.cstn_graphml.specs.Answers.{IsDocument, RefusesDocument}
use Rattle.cstn_graphml.proofs.DrawnGraphLaws.{bind_ok, ok_is, document_is_drawn}
use Rattle.cstn_graphml.proofs.Fits.{timely_back}

-- the parts are those of a drawn graph
pub record AreDrawn (parts : Parts) : Type 0 where
  pub graph : DrawnGraph
  pub drawn : IsDrawnGraph graph
  pub names_are : graph.names ≡ parts.names
  pub observes_are : or_nothing graph.origin ∷ graph.observes ≡ parts.observes
  pub labels_are : graph.origin_label ∷ graph.labels ≡ parts.labels
  pub constraints_are : graph.constraints ≡ parts.constraints

pub are_drawn : (bytes : List ℕ) (deadline : Option ℕ) (parts : Parts) → document bytes deadline ≡ Ok parts → AreDrawn parts
are_drawn bytes deadline parts is =
    let text = bind_ok (is_text bytes) _ parts is in
    let graph = bind_ok (in_document (content_of (tokens bytes))) (drawn_parts deadline) parts text.2 in
    let d : DrawnGraph = graph.0 in
    let whole : ℕ → Parts = λ n. record { deadline = n; names = d.names; observes = or_nothing d.origin ∷ d.observes; labels = d.origin_label ∷ d.labels; constraints = d.constraints } in
    let timed = bind_ok (or_refused (first_of_two deadline d.deadline) no_deadline) (λ n. Ok (whole n)) parts graph.2 in
    let same : whole timed.0 ≡ parts = ok_is (whole timed.0) parts timed.2 in
    record {
      graph = d;
      drawn = document_is_drawn (content_of (tokens bytes)) d graph.1;
      names_are = ap (λ (p : Parts). p.names) same;
      observes_are = ap (λ (p : Parts). p.observes) same;
      labels_are = ap (λ (p : Parts). p.labels) same;
      constraints_are = ap (λ (p : Parts). p.constraints) same;
    }

-- what holds of all images holds of the image of each element
pub of_images : {X Z : Type 0} (f : X → Z) (P : Z → Type 0) (xs : List X) → All P (map f xs) → All (λ x. P (f x)) xs
of_images f P xs all = λ k d inside. subst P (get_or-map f xs k d (f d) inside) (all k (f d) (omega (arith, inside, length-map xs f)))

never_first : {X : Type 0} (P : X → Type 0) (xs : List X) (k : ℕ) → All P xs → IsFirst (λ x. P x → ⊥) xs k → ⊥
never_first P [] k all first = let inside = first.inside in omega arith
never_first P (x ∷ xs) k all first = first.here x (all k x first.inside)

module _ (parts : Parts) (is : AreDrawn parts) where
  pub constraint_literals : All (λ (c : DrawnConstraint). IsOfLiterals c.label) parts.constraints
  constraint_literals = subst (All (λ (c : DrawnConstraint). IsOfLiterals c.label)) is.constraints_are is.drawn.literals

  pub label_literals : All IsOfLiterals parts.labels
  label_literals = subst (All IsOfLiterals) is.labels_are (All-cons IsOfLiterals is.graph.origin_label is.graph.labels is.drawn.origin_literals is.drawn.label_literals)

  pub letters_observed : All IsLettered parts.observes
  letters_observed = subst (All IsLettered) is.observes_are (All-cons IsLettered (or_nothing is.graph.origin) is.graph.observes is.drawn.origin_lettered is.drawn.lettered)

  pub as_many_names : length parts.names ≡ length parts.observes
  as_many_names = omega (arith, is.drawn.each, ap length is.names_are, ap length is.observes_are)

  origin_there : IsUnfit parts NoOrigin → ⊥
  origin_there unfit = omega (arith, unfit.fault.has, ap length is.observes_are, ap length unfit.parts_are.observes, length-map unfit.builder.points observation_of)

  plain_there : (k : ℕ) → IsUnfit parts (NotPlain k) → ⊥
  plain_there k unfit =
      let all = subst (All (λ (c : DrawnConstraint). IsOfLiterals c.label)) (sym unfit.parts_are.constraints) constraint_literals in
      let drafts = of_images drawn_of (λ (c : DrawnConstraint). IsOfLiterals c.label) unfit.builder.drafts all in
      never_first (λ (d : Draft). IsPlain (marks d.label)) unfit.builder.drafts k
      (All-weaker (λ (d : Draft). IsOfLiterals (marks d.label)) (λ (d : Draft). IsPlain (marks d.label)) (λ d h. h.plain) unfit.builder.drafts drafts) unfit.fault.has

  timely_there : (node : NodeId) → IsUnfit parts (ReactionRange node) → ⊥
  timely_there node unfit =
      let here = All-cons IsWithReaction (or_nothing is.graph.origin) is.graph.observes is.drawn.origin_timely is.drawn.timely in
      let all = of_images observation_of IsWithReaction unfit.builder.points (subst (All IsWithReaction) (is.observes_are ∙ sym unfit.parts_are.observes) here) in
      never_first HasReaction unfit.builder.points node.0
      (All-weaker (λ (t : TimePoint). IsWithReaction (observation_of t)) HasReaction (λ t timely. timely_back t.observes t.reaction timely) unfit.builder.points all) unfit.fault.has

  plain_node : (node : NodeId) → IsMislabelled parts (NotPlainLabel node) → ⊥
  plain_node node wrong =
      let first = wrong.fault.has in
      let all = All-weaker IsOfLiterals IsPlain (λ a h. h.plain) parts.labels label_literals in
      first.here (all node.0 empty (omega (arith, first.inside, is.drawn.each, is.drawn.labelled, ap length is.labels_are, ap length is.observes_are, length-map parts.observes observed_prop)))

-- what follows for each value that was returned
pub each_read : {A E : Type 0} (P Q : A → Type 0) (r : Result A E) → ((x : A) → P x → Q x) → IfOk r P → IfOk r Q
each_read P Q (Ok x) h p = h x p
each_read P Q (Err e) h p = tt

pub each_error : {A E : Type 0} (P Q : E → Type 0) (r : Result A E) → ((e : E) → P e → Q e) → IfErr r P → IfErr r Q
each_error P Q (Ok x) h p = tt
each_error P Q (Err e) h p = h e p

module _ (bytes : List ℕ) (deadline : Option ℕ) where
  pub well_formed_read : (m : Labelled) (names : List (List ℕ)) → IsDocument (document bytes deadline) m names → IsWellFormed m.base
  well_formed_read m names h = subst (λ (n : Labelled). IsWellFormed n.base) (sym h.labelled_is) h.fit.labelled.base

  pub named_read : (m : Labelled) (names : List (List ℕ)) → IsDocument (document bytes deadline) m names → length names ≡ count m.base
  named_read m names h =
      ap length h.names_are ∙ as_many_names h.parts (are_drawn bytes deadline h.parts h.told_are) ∙ sym (length-map h.parts.observes observed_prop)
      ∙ sym (ap (λ (n : Labelled). count n.base) h.labelled_is)

  pub origin_read : (m : Labelled) (names : List (List ℕ)) → IsDocument (document bytes deadline) m names → (later : List (List ℕ)) × (names ≡ origin_name ∷ later)
  origin_read m names h = let is = are_drawn bytes deadline h.parts h.told_are in (is.drawn.later, h.names_are ∙ sym is.names_are ∙ is.drawn.first)

  pub has_origin : (e : DocError) → RefusesDocument (document bytes deadline) e → (names : List (List ℕ)) → e ≢ Net NoOrigin names
  has_origin e h names is =
      let refused = subst (RefusesDocument (document bytes deadline)) is h in
      origin_there refused.parts (are_drawn bytes deadline refused.parts refused.told_are) refused.unfit

  pub has_plain_labels : (e : DocError) → RefusesDocument (document bytes deadline) e → (names : List (List ℕ)) (k : ℕ) → e ≢ Net (NotPlain k) names
  has_plain_labels e h names k is =
      let refused = subst (RefusesDocument (document bytes deadline)) is h in
      plain_there refused.parts (are_drawn bytes deadline refused.parts refused.told_are) k refused.unfit

  pub has_timely_reactions : (e : DocError) → RefusesDocument (document bytes deadline) e → (names : List (List ℕ)) (node : NodeId) → e ≢ Net (ReactionRange node) names
  has_timely_reactions e h names node is =
      let refused = subst (RefusesDocument (document bytes deadline)) is h in
      timely_there refused.parts (are_drawn bytes deadline refused.parts refused.told_are) node refused.unfit

  pub has_plain_node_labels : (e : DocError) → RefusesDocument (document bytes deadline) e → (names : List (List ℕ)) (node : NodeId) → e ≢ Lift (NotPlainLabel node) names
  has_plain_node_labels e h names node is =
      let refused = subst (RefusesDocument (document bytes deadline)) is h in
      plain_node refused.parts (are_drawn bytes deadline refused.parts refused.told_are) node refused.mislabelled
