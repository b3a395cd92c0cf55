-- The document of a plan in sentences is read back as the network of the plan.
use Rattle.std.proofs.Common.{◌≡◌, ℕ, zero, suc, ◌+◌, ◌≤◌, ◌<◌, Bool, true, false, List, [], ◌∷◌, length, map, refl, ap, sym, ◌∙◌, subst, arith, inl, inr}
use Rattle.std.specs.Prelude.{◌==◌, if◌then◌else◌, slice_get, slice_index_or, Option, None, Some, Result, Ok, Err, IsSomeAnd}
use Rattle.std.proofs.lemmas.Bool.{eqb-true}
use Rattle.std.proofs.lemmas.List.{length-map}
use Rattle.cstn_net.specs.Limits.{most_constraints}
use Rattle.cstn_net.specs.Networks.{Constraint, IsWellFormed, Observes, count}
use Rattle.cstn_net.specs.Read.{first_reaction}
use Rattle.cstn_lift.specs.declared.errors.LiftError.TheVariants.{TooManyConstraints}
use Rattle.cstn_lift.specs.Labelled.{Labelled}
use Rattle.cstn_lift.specs.Lowered.{lowered}
use Rattle.cstn_lift.specs.WellFormed.{IsLabelled}
use Rattle.cstn_lift.proofs.WellFormed.{lowered_well_formed}
use Rattle.cstn_element.specs.Results.{Refusal as DocumentRefusal}
use Rattle.cstn_graphml.specs.Document.{Parts}
use Rattle.cstn_graphml.specs.DrawnGraph.{Observation, DrawnConstraint}
use Rattle.cstn_graphml.specs.Networks.{numbered_drawn, observed_prop, observed_reaction, labelled_of, IsFit}
use Rattle.cstn_graphml.proofs.OfDocuments.{as_many_names}
use Rattle.cstn_save.specs.Canonical.{canonical}
use Rattle.cstn_save.specs.Names.{AreNamesOf}
use Rattle.cstn_save.specs.ReadBack.{parts, AreNumbered}
use Rattle.cstn_sentences.specs.Plans.{plan}
use Rattle.cstn_sentences.specs.Refusals.{PlanRefusal}
use Rattle.cstn_sentences.proofs.DrawnPlans.{plan_drawn}
use Rattle.cstn_sentences.proofs.PlanNames.{plan_names}
use Rattle.cstn_reply.specs.Texts.{Said}
use Rattle.cstn_reply.specs.declared.output.Outcome.{Outcome}
use Rattle.cstn_reply.specs.declared.output.Outcome.TheVariants.{Good, Document}
use Rattle.cstn_request.specs.Documents.{parts_read, HasLabelled}
use Rattle.cstn_top.specs.commands.Plan.{planned_of}
use Rattle.cstn_headline.specs.commands.Plan.{HasNetworkOf, IsDocumentReadAs}
use Rattle.cstn_headline.proofs.LeftReplayed.{DocumentsBack}

-- ---- ids and reactions of what is drawn

numbered_at : (k : ℕ) (cs : List DrawnConstraint) (i : ℕ) (d : Constraint) → i < length (numbered_drawn k cs) → (slice_index_or (numbered_drawn k cs) i d).id ≡ k + i
numbered_at k [] i d inside = absurd (omega (arith, inside))
numbered_at k (c ∷ cs) zero d inside = omega arith
numbered_at k (c ∷ cs) (suc i) d inside = let later = numbered_at (k + 1) cs i d (omega (arith, inside)) in omega (arith, later)

unobserved_by : (q p n : ℕ) (b : Bool) → (q == p) ≡ b → (q ≡ p → ⊥) → (r : ℕ) → n ≡ 1 → (if b then r else n) ≡ 1
unobserved_by q p n true is never r later = absurd (never (eqb-true q p is))
unobserved_by q p n false is never r later = later

-- what nothing observes has a reaction of 1 tick
unobserved : (os : List (Option Observation)) (p : ℕ) → ((x : ℕ) → slice_index_or (map observed_prop os) x None ≡ Some p → ⊥) → first_reaction observed_prop observed_reaction os p ≡ 1
unobserved [] p never = refl
unobserved (None ∷ os) p never = unobserved os p (λ x is. never (suc x) is)
unobserved (Some o ∷ os) p never =
    unobserved_by o.prop p (first_reaction observed_prop observed_reaction os p) (o.prop == p) refl (λ same. never zero (ap Some same)) o.reaction (unobserved os p (λ x is. never (suc x) is))

-- ---- the document

-- the law that a numbered network is read back as it is
abbrev pub SameBack : Type 0
SameBack = (m : Labelled) (names : List (List ℕ)) → ((p : ℕ) → ((x : ℕ) → Observes m.base x p → ⊥) → m.base.reaction p ≡ 1) → AreNumbered m.base.constraints → labelled_of (parts m names) ≡ m

module _ (back : DocumentsBack) (same : SameBack) (bytes : List ℕ) (deadline : Option ℕ) (p : Parts) (is : plan bytes deadline ≡ Ok p) (fit : IsFit p) where
  named : AreNamesOf (labelled_of p).base p.names
  named =
      let drawn = plan_drawn bytes deadline p is in
      let each : length p.names ≡ count (labelled_of p).base = as_many_names p drawn ∙ sym (length-map p.observes observed_prop) in
      let good : IsWellFormed (labelled_of p).base = fit.labelled.base in
      record {
        named = plan_names bytes deadline p is (omega (arith, good.few_points, each));
        each = each;
        origin = ap (λ (ns : List (List ℕ)). slice_get ns 0) (sym drawn.names_are ∙ drawn.drawn.first);
      }

  read_back : HasLabelled (canonical (labelled_of p) p.names) None (λ names m. (names ≡ p.names) × (m ≡ labelled_of p))
  read_back =
      let m : Labelled = labelled_of p in
      let good : IsLabelled m = fit.labelled in
      let few : length (lowered m).constraints ≤ most_constraints = within (length (lowered m).constraints) (fit.faultless TooManyConstraints) in
      subst (λ (r : Result Parts DocumentRefusal). IsSomeAnd (parts_read r) (λ read. IsFit read × ((read.names ≡ p.names) × (labelled_of read ≡ m)))) (sym (back.back m p.names good named)) (
        back.fit m p.names good (lowered_well_formed m good few),
        (refl, same m p.names (λ q never. unobserved p.observes q (λ x at. never x (seen x q at))) (λ i d inside. let at = numbered_at 0 p.constraints i d inside in omega (arith, at))),
      )
    where
      within : (n : ℕ) → (most_constraints < n → ⊥) → n ≤ most_constraints
      within n never = omega (arith, never)

      seen : (x q : ℕ) → slice_index_or (map observed_prop p.observes) x None ≡ Some q → Observes (labelled_of p).base x q
      seen x q at = record { what = at }

-- what `plan` says well is a document that is read as the network of the plan
pub documents_are_plans : DocumentsBack → SameBack → (bytes : List ℕ) (deadline : Option ℕ) (live : List ℕ) (said : Said) → (planned_of (plan bytes deadline)).output live said → said.outcome ≡ Good →
    HasNetworkOf (plan bytes deadline) (IsDocumentReadAs said.text)
documents_are_plans back same bytes deadline live said output good = by_told (plan bytes deadline) refl output
  where
    not_refused : (o : Outcome) → o ≡ Document → o ≡ Good → ⊥
    not_refused o one other = grind arith

    by_told : (parsed : Result Parts PlanRefusal) → plan bytes deadline ≡ parsed → (planned_of parsed).output live said → HasNetworkOf parsed (IsDocumentReadAs said.text)
    by_told (Err refusal) is parsed = absurd (not_refused said.outcome (ap (λ (s : Said). s.outcome) parsed) good)
    by_told (Ok p) is (inl fit) = (fit.0, subst (λ (text : List ℕ). IsDocumentReadAs text p.names (labelled_of p)) (sym (ap (λ (s : Said). s.text) fit.1)) (read_back back same bytes deadline p is fit.0))
    by_told (Ok p) is (inr (inl unfit)) = absurd (not_refused said.outcome (ap (λ (s : Said). s.outcome) unfit.2) good)
    by_told (Ok p) is (inr (inr wrong_labels)) = absurd (not_refused said.outcome (ap (λ (s : Said). s.outcome) wrong_labels.2) good)
