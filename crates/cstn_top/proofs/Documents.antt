-- What is said of the document of a file.
use Rattle.std.proofs.Common.{◌≡◌, ℕ, Bool, true, false, List, length, refl, sym, ap, ◌∙◌, inl, inr, arith, ◌+◌, ◌-◌, ◌≤◌, ◌<◌, ◌^◌, [], ◌∷◌}
use Rattle.std.specs.Prelude.{◌⊎◌, nat_lt, Option, None, Some, Result, Ok, Err, IsSomeAnd, codes}
use Rattle.std.proofs.lemmas.List.{length-map}
use Rattle.std.specs.List.{All}
use Rattle.std.proofs.lemmas.List.Elements.{All-nil, All-cons}
use Rattle.cstn_net.specs.Limits.{most_constraints}
use Rattle.cstn_net.specs.Networks.{Network, Constraint, IsWellFormed, count}
use Rattle.cstn_graphml.specs.DrawnGraph.{DrawnConstraint}
use Rattle.cstn_graphml.specs.Networks.{numbered_drawn, observed_prop, network_of, labelled_of, IsFit}
use Rattle.cstn_element.specs.Results.{Refusal as DocumentRefusal}
use Rattle.cstn_graphml.specs.Document.{Parts, document}
use Rattle.cstn_reply.specs.Texts.{Said, say}
use Rattle.cstn_request.specs.Limits.{most_document}
use Rattle.cstn_top.specs.Plans.{says, either_plan}
use Rattle.cstn_top.specs.Answers.{NetworkAnswer, LabelledAnswer, unlabelled, of_plain, judged, on_labelled, on_document}
use Rattle.cstn_request.specs.Documents.{AreUnlabelled, parts_read, HasLabelled, HasNetwork, IsNoDocument, IsRefused}
use Rattle.cstn_reply.specs.declared.output.Outcome.TheVariants.{Document}
use Rattle.cstn_graphml.proofs.Fits.{fits}
use Rattle.cstn_top.proofs.DocumentNames.{document_names, document_named}
use Rattle.cstn_text.specs.Names.{AreNames}

-- the ids of the constraints of a document are numbers of 32 bits
numbered_ids : (k : ℕ) (cs : List DrawnConstraint) → k + length (numbered_drawn k cs) ≤ most_constraints → All (λ (c : Constraint). c.id < 2 ^ 32) (numbered_drawn k cs)
numbered_ids k [] few = All-nil (λ (c : Constraint). c.id < 2 ^ 32)
numbered_ids k (c ∷ cs) few =
    All-cons (λ (c : Constraint). c.id < 2 ^ 32) (record { id = k; from = c.from; to = c.to; most = c.most; label = c.label }) (numbered_drawn (k + 1) cs)
    (omega arith) (numbered_ids (k + 1) cs (omega arith))

-- a network as a document has it: it is well-formed, its time-points have names, and its ids are numbers of 32 bits
pub record IsOfDocument (names : List (List ℕ)) (net : Network) : Type 0 where
  pub good : IsWellFormed net
  pub named : length names ≡ count net
  pub are : AreNames names
  pub ids : All (λ (c : Constraint). c.id < 2 ^ 32) net.constraints

-- what is said of a document: it is refused, or this is said of its labelled network
pub labelled_says : (answer : LabelledAnswer) (bytes : List ℕ) (deadline : Option ℕ) (live : List ℕ) (said : Said) → (on_labelled answer bytes deadline).output live said → ((said.outcome ≡ Document) × IsNoDocument bytes deadline) ⊎ HasLabelled bytes deadline (λ names m. (answer names m).output live said)
labelled_says answer bytes deadline live said output = by_length (nat_lt most_document (length bytes)) refl output
  where
    by_parts : (parsed : Result Parts DocumentRefusal) → (judged answer parsed).output live said → ((said.outcome ≡ Document) × (IsSomeAnd (parts_read parsed) (λ parts. IsFit parts × Unit {0}) → ⊥)) ⊎ IsSomeAnd (parts_read parsed) (λ parts. IsFit parts × (answer parts.names (labelled_of parts)).output live said)
    by_parts (Err refusal) is = inl (ap (λ (s : Said). s.outcome) is, λ has. has)
    by_parts (Ok parts) (inl fit) = inr fit
    by_parts (Ok parts) (inr (inl unfit)) = inl (ap (λ (s : Said). s.outcome) unfit.2, λ has. fits parts unfit.0 has.0.labelled.base unfit.1)
    by_parts (Ok parts) (inr (inr wrong_labels)) = inl (ap (λ (s : Said). s.outcome) wrong_labels.2, λ has. has.0.faultless wrong_labels.0 wrong_labels.1.fault.has)

    by_told : ((said.outcome ≡ Document) × (HasLabelled bytes deadline (λ names m. Unit {0}) → ⊥)) ⊎ HasLabelled bytes deadline (λ names m. (answer names m).output live said) → ((said.outcome ≡ Document) × IsNoDocument bytes deadline) ⊎ HasLabelled bytes deadline (λ names m. (answer names m).output live said)
    by_told (inl refused) = inl (refused.0, inr refused.1)
    by_told (inr has) = inr has

    by_length : (long : Bool) → nat_lt most_document (length bytes) ≡ long → (either_plan long (says (say Document (codes "document long"))) (judged answer (document bytes deadline))).output live said → ((said.outcome ≡ Document) × IsNoDocument bytes deadline) ⊎ HasLabelled bytes deadline (λ names m. (answer names m).output live said)
    by_length true above is = inl (ap (λ (s : Said). s.outcome) is, inl (grind arith))
    by_length false above is = by_told (by_parts (document bytes deadline) is)

-- what is said of a document where no labels are taken: it is refused, or this is said of its network
pub document_says : (answer : NetworkAnswer) (bytes : List ℕ) (deadline : Option ℕ) (live : List ℕ) (said : Said) → (on_document answer bytes deadline).output live said → ((said.outcome ≡ Document) × IsRefused bytes deadline) ⊎ HasNetwork bytes deadline (λ names net. (answer names net).output live said)
document_says answer bytes deadline live said output = by_said (labelled_says (of_plain answer) bytes deadline live said output)
  where
    with_labels : (found : Option Parts) → IsSomeAnd found (λ parts. AreUnlabelled parts × Unit {0}) → IsSomeAnd found (λ parts. IsFit parts × Unit {0})
    with_labels None has = has
    with_labels (Some parts) has = (has.0.0, tt)

    by_labels : (parts : Parts) → IsFit parts → (unlabelled parts.labels (answer parts.names (network_of parts))).output live said → ((said.outcome ≡ Document) × (IsSomeAnd (Some parts) (λ parts. AreUnlabelled parts × Unit {0}) → ⊥)) ⊎ IsSomeAnd (Some parts) (λ parts. AreUnlabelled parts × (answer parts.names (network_of parts)).output live said)
    by_labels parts fit (inl plain) = inr ((fit, plain.0), plain.1)
    by_labels parts fit (inr told) = inl (ap (λ (s : Said). s.outcome) told.1, λ has. told.0 has.0.1)

    by_found : (found : Option Parts) → IsSomeAnd found (λ parts. IsFit parts × (unlabelled parts.labels (answer parts.names (network_of parts))).output live said) → ((said.outcome ≡ Document) × (IsSomeAnd found (λ parts. AreUnlabelled parts × Unit {0}) → ⊥)) ⊎ IsSomeAnd found (λ parts. AreUnlabelled parts × (answer parts.names (network_of parts)).output live said)
    by_found None has = absurd has
    by_found (Some parts) has = by_labels parts has.0 has.1

    by_told : ((said.outcome ≡ Document) × (HasNetwork bytes deadline (λ names net. Unit {0}) → ⊥)) ⊎ HasNetwork bytes deadline (λ names net. (answer names net).output live said) → ((said.outcome ≡ Document) × IsRefused bytes deadline) ⊎ HasNetwork bytes deadline (λ names net. (answer names net).output live said)
    by_told (inl refused) = inl (refused.0, inr refused.1)
    by_told (inr has) = inr has

    by_said : ((said.outcome ≡ Document) × IsNoDocument bytes deadline) ⊎ HasLabelled bytes deadline (λ names m. (unlabelled m.labels (answer names m.base)).output live said) → ((said.outcome ≡ Document) × IsRefused bytes deadline) ⊎ HasNetwork bytes deadline (λ names net. (answer names net).output live said)
    by_said (inl (is, inl long)) = inl (is, inl long)
    by_said (inl (is, inr none)) = inl (is, inr (λ has. none (with_labels (parts_read (document bytes deadline)) has)))
    by_said (inr has) = by_told (by_found (parts_read (document bytes deadline)) has)

-- a session is held over a document only for its labelled network
pub labelled_talks : (answer : LabelledAnswer) (bytes : List ℕ) (deadline : Option ℕ) → (on_labelled answer bytes deadline).talks → HasLabelled bytes deadline (λ names m. (answer names m).talks)
labelled_talks answer bytes deadline may = by_length (nat_lt most_document (length bytes)) may
  where
    by_parts : (parsed : Result Parts DocumentRefusal) → (judged answer parsed).talks → IsSomeAnd (parts_read parsed) (λ parts. IsFit parts × (answer parts.names (labelled_of parts)).talks)
    by_parts (Err refusal) is = is
    by_parts (Ok parts) is = is

    by_length : (long : Bool) → (either_plan long (says (say Document (codes "document long"))) (judged answer (document bytes deadline))).talks → HasLabelled bytes deadline (λ names m. (answer names m).talks)
    by_length true is = absurd is
    by_length false is = by_parts (document bytes deadline) is

-- where no labels are taken, a session is held over a document only for its network
pub document_talks : (answer : NetworkAnswer) (bytes : List ℕ) (deadline : Option ℕ) → (on_document answer bytes deadline).talks → HasNetwork bytes deadline (λ names net. (answer names net).talks)
document_talks answer bytes deadline may = by_found (parts_read (document bytes deadline)) (labelled_talks (of_plain answer) bytes deadline may)
  where
    by_found : (found : Option Parts) → IsSomeAnd found (λ parts. IsFit parts × (unlabelled parts.labels (answer parts.names (network_of parts))).talks) → IsSomeAnd found (λ parts. AreUnlabelled parts × (answer parts.names (network_of parts)).talks)
    by_found None has = has
    by_found (Some parts) has = ((has.0, has.1.0), has.1.1)

-- the network of a document, under the names of its time-points
pub of_network : (bytes : List ℕ) (deadline : Option ℕ) (parts : Parts) → document bytes deadline ≡ Ok parts → IsFit parts → IsOfDocument parts.names (network_of parts)
of_network bytes deadline parts is fit =
    let good : IsWellFormed (network_of parts) = fit.labelled.base in
    let named : length parts.names ≡ count (network_of parts) = document_named bytes deadline parts is ∙ sym (length-map parts.observes observed_prop) in
    record {
      good = good;
      named = named;
      are = document_names bytes deadline parts is (omega (arith, good.few_points, named));
      ids = numbered_ids 0 parts.constraints (omega (arith, good.few_constraints));
    }

-- what follows of the network of a document, whose time-points have names
pub document_then : (bytes : List ℕ) (deadline : Option ℕ) (one other : List (List ℕ) → Network → Type 0) → HasNetwork bytes deadline one → ((names : List (List ℕ)) (net : Network) → IsOfDocument names net → one names net → other names net) → HasNetwork bytes deadline other
document_then bytes deadline one other has follows = by_result (document bytes deadline) refl has
  where
    by_result : (parsed : Result Parts DocumentRefusal) → document bytes deadline ≡ parsed → IsSomeAnd (parts_read parsed) (λ parts. AreUnlabelled parts × one parts.names (network_of parts)) → IsSomeAnd (parts_read parsed) (λ parts. AreUnlabelled parts × other parts.names (network_of parts))
    by_result (Err refusal) is h = h
    by_result (Ok parts) is h = (h.0, follows parts.names (network_of parts) (of_network bytes deadline parts is h.0.0) h.1)
