-- The parts of a plan are those of a drawn graph.
use Rattle.std.proofs.Common.{◌≡◌, ℕ, List, ◌∷◌, length, refl, ap, sym, ◌∙◌, subst, Option, Ok}
use Rattle.std.specs.Prelude.{nat_le}
use Rattle.std.proofs.lemmas.List.{length-map}
use Rattle.cstn_lift.specs.Labelled.{Labelled}
use Rattle.cstn_net.specs.Networks.{count}
use Rattle.cstn_graphml.specs.Document.{Parts, first_of_two}
use Rattle.cstn_graphml.specs.DrawnGraph.{origin_name}
use Rattle.cstn_graphml.specs.Networks.{observed_prop}
use Rattle.cstn_graphml.proofs.OfDocuments.{AreDrawn, as_many_names}
use Rattle.cstn_sentences.specs.Limits.{most_plan}
use Rattle.cstn_sentences.specs.Results.{some_or, holds_or}
use Rattle.cstn_sentences.specs.Refusals.{too_long, no_deadline}
use Rattle.cstn_sentences.specs.Words.{plan_lines}
use Rattle.cstn_sentences.specs.Declarations.{Declared, nothing_declared, declared_after}
use Rattle.cstn_sentences.specs.Meaning.{Meaning, nothing_meant, meant_after}
use Rattle.cstn_sentences.specs.Drawn.{graph_of}
use Rattle.cstn_sentences.specs.Planned.{IsFitPlan}
use Rattle.cstn_sentences.specs.Plans.{plan, deadline_in, plan_parts}
use Rattle.cstn_sentences.proofs.Accepted.{bind_ok, ok_is}
use Rattle.cstn_sentences.proofs.PlanInOrder.{graph_is_drawn}

pub plan_drawn : (text : List ℕ) (deadline : Option ℕ) (parts : Parts) → plan text deadline ≡ Ok parts → AreDrawn parts
plan_drawn text deadline parts is =
    let short = bind_ok (holds_or (nat_le (length text) most_plan) too_long) _ parts is in
    let declared = bind_ok (declared_after 1 nothing_declared (plan_lines text)) _ parts short.2 in
    let d : Declared = declared.0 in
    let meant = bind_ok (meant_after 1 d nothing_meant (plan_lines text)) _ parts declared.2 in
    let m : Meaning = meant.0 in
    let timed = bind_ok (some_or (first_of_two deadline (deadline_in d)) no_deadline) (λ n. Ok (plan_parts n d m)) parts meant.2 in
    let whole : AreDrawn (plan_parts timed.0 d m) = record {
      graph = graph_of d m;
      drawn = graph_is_drawn (plan_lines text) d m declared.1 meant.1;
      names_are = refl;
      observes_are = refl;
      labels_are = refl;
      constraints_are = refl;
    } in
    subst AreDrawn (ok_is (plan_parts timed.0 d m) parts timed.2) whole

module _ (text : List ℕ) (deadline : Option ℕ) (m : Labelled) (names : List (List ℕ)) (is : IsFitPlan (plan text deadline) m names) where
  -- each time-point of a plan has a name
  pub named_plan : length names ≡ count m.base
  named_plan =
      ap length is.names_are ∙ as_many_names is.parts (plan_drawn text deadline is.parts is.told_are) ∙ sym (length-map is.parts.observes observed_prop)
      ∙ sym (ap (λ (n : Labelled). count n.base) is.labelled_is)

  -- and the first is that of the origin
  pub origin_plan : (later : List (List ℕ)) × (names ≡ origin_name ∷ later)
  origin_plan = let drawn = plan_drawn text deadline is.parts is.told_are in (drawn.drawn.later, is.names_are ∙ sym drawn.names_are ∙ drawn.drawn.first)
