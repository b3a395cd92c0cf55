-- The labelled network of a document.
use Rattle.std.proofs.Common.{◌≡◌, ℕ, ◌+◌, ◌≤◌, ◌<◌, ◌^◌, List, [], ◌∷◌, ◌++◌, length, refl, sym, ◌∙◌, inl, inr, arith}
use Rattle.std.specs.Prelude.{◌⊎◌, Option, None, Some, Result, Ok, Err, IsSomeAnd}
use Rattle.std.specs.List.{All}
use Rattle.std.proofs.lemmas.List.{length-map}
use Rattle.std.proofs.lemmas.List.Elements.{All-nil, All-cons}
use Rattle.cstn_net.specs.Limits.{most_constraints}
use Rattle.cstn_net.specs.Networks.{Constraint, IsWellFormed, count}
use Rattle.cstn_element.specs.Results.{Refusal as DocumentRefusal}
use Rattle.cstn_graphml.specs.Document.{Parts, document}
use Rattle.cstn_graphml.specs.Networks.{observed_prop, labelled_of, IsFit}
use Rattle.cstn_lift.specs.declared.errors.LiftError.TheVariants.{TooManyConstraints}
use Rattle.cstn_lift.specs.Labelled.{Labelled}
use Rattle.cstn_lift.specs.WellFormed.{IsLabelled}
use Rattle.cstn_lift.specs.Lowered.{lowered, numbered, full_constraints, guards}
use Rattle.cstn_lift.specs.Strategies.{IsEquivalent}
use Rattle.cstn_lift.proofs.Equivalent.{equivalent}
use Rattle.cstn_lift.proofs.WellFormed.{lowered_well_formed}
use Rattle.cstn_reply.specs.Texts.{Said}
use Rattle.cstn_top.specs.Answers.{LabelledAnswer, on_labelled}
use Rattle.cstn_reply.specs.declared.output.Outcome.TheVariants.{Document}
use Rattle.cstn_request.specs.Documents.{parts_read, HasLabelled, IsNoDocument}
use Rattle.cstn_top.proofs.DocumentNames.{document_names, document_named}
use Rattle.cstn_top.proofs.Documents.{IsOfDocument, labelled_says, labelled_talks}

-- the ids of the constraints of a lowered network are numbers of 32 bits
small_ids : (k : ℕ) (cs : List Constraint) → k + length (numbered k cs) ≤ most_constraints → All (λ (c : Constraint). c.id < 2 ^ 32) (numbered k cs)
small_ids k [] few = All-nil (λ (c : Constraint). c.id < 2 ^ 32)
small_ids k (c ∷ cs) few = All-cons (λ (c : Constraint). c.id < 2 ^ 32) (record c { id = k }) (numbered (k + 1) cs) (omega (arith, few)) (small_ids (k + 1) cs (omega (arith, few)))

-- the labelled network of a document, under the names of its time-points: the network that it is lowered to is equivalent to it
pub record IsOfLabelled (names : List (List ℕ)) (m : Labelled) : Type 0 where
  pub labelled : IsLabelled m
  pub same : IsEquivalent m (lowered m)
  pub plain : IsOfDocument names (lowered m)

-- the labelled network of the parts of a document
pub of_parts : (bytes : List ℕ) (deadline : Option ℕ) (parts : Parts) → document bytes deadline ≡ Ok parts → IsFit parts → IsOfLabelled parts.names (labelled_of parts)
of_parts bytes deadline parts is fit =
    let good : IsLabelled (labelled_of parts) = fit.labelled in
    let few : length (lowered (labelled_of parts)).constraints ≤ most_constraints = within (length (lowered (labelled_of parts)).constraints) (fit.faultless TooManyConstraints) in
    let well : IsWellFormed (lowered (labelled_of parts)) = lowered_well_formed (labelled_of parts) good few in
    let named : length parts.names ≡ count (lowered (labelled_of parts)) = document_named bytes deadline parts is ∙ sym (length-map parts.observes observed_prop) in
    record {
      labelled = good;
      same = equivalent (labelled_of parts) good;
      plain = record {
        good = well;
        named = named;
        are = document_names bytes deadline parts is (omega (arith, well.few_points, named));
        ids = small_ids 0 (full_constraints (labelled_of parts) ++ guards (labelled_of parts)) (omega (arith, few));
      };
    }
  where
    within : (n : ℕ) → (most_constraints < n → ⊥) → n ≤ most_constraints
    within n never = omega (arith, never)

-- what follows of the labelled network of a document
pub labelled_then : (bytes : List ℕ) (deadline : Option ℕ) (one other : List (List ℕ) → Labelled → Type 0) → HasLabelled bytes deadline one → ((names : List (List ℕ)) (m : Labelled) → IsOfLabelled names m → one names m → other names m) → HasLabelled bytes deadline other
labelled_then bytes deadline one other has follows = by_result (document bytes deadline) refl has
  where
    by_result : (parsed : Result Parts DocumentRefusal) → document bytes deadline ≡ parsed → IsSomeAnd (parts_read parsed) (λ parts. IsFit parts × one parts.names (labelled_of parts)) → IsSomeAnd (parts_read parsed) (λ parts. IsFit parts × other parts.names (labelled_of parts))
    by_result (Err refusal) is h = h
    by_result (Ok parts) is h = (h.0, follows parts.names (labelled_of parts) (of_parts bytes deadline parts is h.0) h.1)

-- no document has a labelled network of which a falsehood holds
pub none_labelled : (bytes : List ℕ) (deadline : Option ℕ) → HasLabelled bytes deadline (λ names m. ⊥) → ⊥
none_labelled bytes deadline has = by_found (parts_read (document bytes deadline)) has
  where
    by_found : (found : Option Parts) → IsSomeAnd found (λ parts. IsFit parts × ⊥) → ⊥
    by_found None h = h
    by_found (Some parts) h = h.1

-- what is said of a document tells what is told of its labelled network
pub on_labels : (answer : LabelledAnswer) (bytes : List ℕ) (deadline : Option ℕ) (live : List ℕ) (said : Said) (told : List (List ℕ) → Labelled → Type 0) (Right : Type 0) → (said.outcome ≡ Document → IsNoDocument bytes deadline → Right) →
    ((names : List (List ℕ)) (m : Labelled) → IsOfLabelled names m → (answer names m).output live said → told names m) → (HasLabelled bytes deadline told → Right) → (on_labelled answer bytes deadline).output live said → Right
on_labels answer bytes deadline live said told Right refused each so output = by_said (labelled_says answer bytes deadline live said output)
  where
    by_said : ((said.outcome ≡ Document) × IsNoDocument bytes deadline) ⊎ HasLabelled bytes deadline (λ names m. (answer names m).output live said) → Right
    by_said (inl is) = refused is.0 is.1
    by_said (inr has) = so (labelled_then bytes deadline (λ names m. (answer names m).output live said) told has each)

-- where a session is held over a document, this holds of its labelled network
pub talks_labelled : (answer : LabelledAnswer) (bytes : List ℕ) (deadline : Option ℕ) (told : List (List ℕ) → Labelled → Type 0) → ((names : List (List ℕ)) (m : Labelled) → IsOfLabelled names m → (answer names m).talks → told names m) → (on_labelled answer bytes deadline).talks → HasLabelled bytes deadline told
talks_labelled answer bytes deadline told each may = labelled_then bytes deadline (λ names m. (answer names m).talks) told (labelled_talks answer bytes deadline may) each

-- where no session is held over any labelled network, none is held over a document
pub labels_silent : (answer : LabelledAnswer) (bytes : List ℕ) (deadline : Option ℕ) → ((names : List (List ℕ)) (m : Labelled) → (answer names m).talks → ⊥) → (on_labelled answer bytes deadline).talks → ⊥
labels_silent answer bytes deadline never may = none_labelled bytes deadline (talks_labelled answer bytes deadline (λ names m. ⊥) (λ names m is talks. never names m talks) may)
