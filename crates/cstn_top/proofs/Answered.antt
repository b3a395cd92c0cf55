-- No output of a request says that the words are none.
use Rattle.std.proofs.Common.{◌≡◌, ℕ, Bool, true, false, List, [], ◌∷◌, ◌++◌, map, sym, subst, inl, inr}
use Rattle.std.specs.Prelude.{◌⊎◌, Option, None, Some, Result, Ok, Err, IsSomeAnd}
use Rattle.cstn_net.specs.Networks.{Network}
use Rattle.cstn_net.specs.Read.{the_network}
use Rattle.cstn_lift.specs.Labelled.{Labelled}
use Rattle.cstn_lift.specs.Lowered.{lowered}
use Rattle.cstn_lift.specs.Read.{the_labelled}
use Rattle.cstn_graphml.specs.Document.{Parts, document}
use Rattle.cstn_graphml.specs.Networks.{labelled_of, IsFit}
use Rattle.cstn_lines.specs.HostLines.{host_read}
use Rattle.cstn_check.specs.Decisions.{verdict}
use Rattle.cstn_run.specs.hosted.Files.{Named, the_file, yes_lines}
use Rattle.cstn_run.specs.hosted.Sessions.{host_turn, host_wants, host_ending, unfinished as unfinished_host, host_ended, host_begun as begun_host}
use Rattle.cstn_sentences.specs.Plans.{plan}
use Rattle.cstn_sentences.specs.Refusals.{PlanRefusal}
use Rattle.cstn_request.specs.Requests.{Request, of_network, of_labelled, of_text, of_document, of_plan, drill, host, version, network_labels, text_labels}
use Rattle.cstn_request.specs.Documents.{parts_read, HasLabelled, IsNoDocument}
use Rattle.cstn_request.specs.declared.words.TextVerb.{TextVerb}
use Rattle.cstn_request.specs.declared.words.DocumentVerb.{DocumentVerb}
use Rattle.cstn_reply.specs.declared.output.Outcome.TheVariants.{Document}
use Rattle.cstn_top.specs.Plans.{Plan, wanting_session}
use Rattle.cstn_top.specs.Answers.{NetworkAnswer, LabelledAnswer, by_labels, on_labelled}
use Rattle.cstn_top.specs.Dispatch.{network_answer, labelled_answer, IsVerbText, text_answer, document_said, document_answer, file_in, proof_in, plan_at}
use Rattle.cstn_top.specs.commands.Drill.{drilled}
use Rattle.cstn_top.specs.commands.Version.{versioned}
use Rattle.cstn_top.specs.commands.Plan.{planned_of}
use Rattle.cstn_top.specs.commands.Host.{on_documents, on_verdicts, attended}
use Rattle.cstn_top.specs.Begun.{the_named}
use Rattle.cstn_top.specs.Questions.{MayRefuse, the_question}
use Rattle.cstn_top.specs.declared.commands.questions.Question.{Question}
use Rattle.cstn_top.specs.declared.commands.questions.Question.TheVariants.{OfNetwork, OfLabelled, OfText, OfDocument, OfPlan, Drill, Host, Version}
use Rattle.cstn_top.proofs.Documents.{labelled_says}
use Rattle.cstn_top.proofs.Outcomes.{IsAnswerIf, IsAnswer, IsAnswered, as_said, says_answered, verdict_answered, by_text_answered, session_answered, none_last}
use Rattle.cstn_top.proofs.Verbs.{network_answered, labelled_answered, text_answers, document_answers}
use Rattle.cstn_top.proofs.Turns.{host_answers}

module _ (refused : Type 0) where
  -- ---- hosts

  hosting_ends : (o : Option (ℕ × ℕ)) → IsAnswerIf refused (host_ended o).outcome
  hosting_ends None = tt
  hosting_ends (Some found) = tt

  verdicts_answered : (cap : ℕ) (after_yes : Plan) (all : List Named) → IsAnswered refused after_yes → IsAnswered refused (on_verdicts cap after_yes all)
  verdicts_answered cap after_yes [] later = later
  verdicts_answered cap after_yes (named ∷ rest) later = verdict_answered refused cap named.names named.net (on_verdicts cap after_yes rest) (verdict cap named.net) (verdicts_answered cap after_yes rest later)

  attended_answered : (cap : ℕ) (all : List Named) → IsAnswered refused (attended cap all)
  attended_answered cap all =
      verdicts_answered cap (wanting_session host_wants host_turn host_ending (yes_lines all) (begun_host (map the_file all))) all
      (session_answered refused false host_wants host_turn host_ending (yes_lines all) (begun_host (map the_file all)) (λ text. host_read text ≡ None) (λ outcome. ⊥) host_answers (none_last refused) (λ session'. hosting_ends (unfinished_host session')))

  text_answered : (verb : TextVerb) (text : List ℕ) (names : List (List ℕ)) (net : Network) → IsAnswered refused (text_answer verb text names net)
  text_answered verb text names net = by_text_answered refused (IsVerbText verb names text net) text (text_answers refused verb text names net)

  saved_answered : (verb : DocumentVerb) (names : List (List ℕ)) (m : Labelled) → IsAnswered refused (document_answer verb names m)
  saved_answered verb names m = says_answered refused (document_said verb names m) (document_answers refused verb names m)

-- ---- documents

by_labels_answered : (takes : Bool) (answer : NetworkAnswer) → ((names : List (List ℕ)) (net : Network) → IsAnswered (Unit {0}) (answer names net)) → (names : List (List ℕ)) (m : Labelled) → IsAnswered (Unit {0}) (by_labels takes answer names m)
by_labels_answered true answer each names m live said output = each names (lowered m) live said output
by_labels_answered false answer each names m live said (inl plain) = each names m.base live said plain.1
by_labels_answered false answer each names m live said (inr told) = as_said (Unit {0}) said _ told.1 tt

document_answered : (answer : LabelledAnswer) (bytes : List ℕ) (deadline : Option ℕ) → ((names : List (List ℕ)) (m : Labelled) → IsAnswered (Unit {0}) (answer names m)) → IsAnswered (Unit {0}) (on_labelled answer bytes deadline)
document_answered answer bytes deadline each live said output = by_said (labelled_says answer bytes deadline live said output)
  where
    by_found : (found : Option Parts) → IsSomeAnd found (λ parts. IsFit parts × (answer parts.names (labelled_of parts)).output live said) → IsAnswer said.outcome
    by_found None has = absurd has
    by_found (Some parts) has = each parts.names (labelled_of parts) live said has.1

    by_said : ((said.outcome ≡ Document) × IsNoDocument bytes deadline) ⊎ HasLabelled bytes deadline (λ names m. (answer names m).output live said) → IsAnswer said.outcome
    by_said (inl is) = subst IsAnswer (sym is.0) tt
    by_said (inr has) = by_found (parts_read (document bytes deadline)) has

plan_answered : (parsed : Result Parts PlanRefusal) → IsAnswered (Unit {0}) (planned_of parsed)
plan_answered (Err refusal) live said is = as_said (Unit {0}) said _ is tt
plan_answered (Ok parts) live said (inl fit) = as_said (Unit {0}) said _ fit.1 tt
plan_answered (Ok parts) live said (inr (inl unfit)) = as_said (Unit {0}) said _ unfit.2 tt
plan_answered (Ok parts) live said (inr (inr wrong_labels)) = as_said (Unit {0}) said _ wrong_labels.2 tt

documents_answered : (cap : ℕ) (deadline : Option ℕ) (before : List Named) (contents : List (List ℕ)) → IsAnswered (Unit {0}) (on_documents (attended cap) deadline before contents)
documents_answered cap deadline before [] = attended_answered (Unit {0}) cap before
documents_answered cap deadline before (bytes ∷ rest) =
    document_answered (by_labels false (λ names net. on_documents (attended cap) deadline (before ++ record { names = names; net = net } ∷ []) rest)) bytes deadline
    (by_labels_answered false (λ names net. on_documents (attended cap) deadline (before ++ record { names = names; net = net } ∷ []) rest)
    (λ names net. documents_answered cap deadline (before ++ record { names = names; net = net } ∷ []) rest))

-- ---- requests

-- no output of a request says that the words are none
pub answered : (request : Request) (contents : List (List ℕ)) → IsAnswered (Unit {0}) (plan_at request contents)
answered (of_network verb asked cap) contents =
    document_answered (by_labels (network_labels verb) (network_answer verb cap)) (file_in contents) asked.deadline (by_labels_answered (network_labels verb) (network_answer verb cap) (network_answered (Unit {0}) verb cap))
answered (of_labelled verb asked cap) contents = document_answered (labelled_answer verb cap) (file_in contents) asked.deadline (labelled_answered (Unit {0}) verb cap)
answered (of_text verb asked proof) contents =
    document_answered (by_labels (text_labels verb) (text_answer verb (proof_in contents))) (file_in contents) asked.deadline
    (by_labels_answered (text_labels verb) (text_answer verb (proof_in contents)) (text_answered (Unit {0}) verb (proof_in contents)))
answered (of_document verb asked) contents = document_answered (document_answer verb) (file_in contents) asked.deadline (saved_answered (Unit {0}) verb)
answered (of_plan asked) contents = plan_answered (plan (file_in contents) asked.deadline)
answered (drill number) contents = says_answered (Unit {0}) (drilled number) tt
answered (host files deadline cap) contents = documents_answered cap deadline [] contents
answered (version release) contents = says_answered (Unit {0}) (versioned release) tt

-- no output of an answer to a question says that the words are none, and only that of a plan may say that it is refused
pub question_answered : (question : Question) → IsAnswered (MayRefuse question) (the_question question)
question_answered (OfNetwork verb d cap) = network_answered ⊥ verb cap.entries d.names (the_network d.network)
question_answered (OfLabelled verb d cap) = labelled_answered ⊥ verb cap.entries d.names (the_labelled d.labelled)
question_answered (OfText verb d text) = text_answered ⊥ verb text.items d.names (the_network d.network)
question_answered (OfDocument verb d) = saved_answered ⊥ verb d.names (the_labelled d.labelled)
question_answered (OfPlan text deadline) = plan_answered (plan text.items deadline)
question_answered (Drill number) = says_answered ⊥ (drilled number) tt
question_answered (Host documents cap) = attended_answered ⊥ cap.entries (map the_named documents.items)
question_answered (Version release) = says_answered ⊥ (versioned release) tt
