-- Which requests hold a session.
use Rattle.std.proofs.Common.{ℕ, List}
use Rattle.std.specs.Prelude.{Result, Ok, Err}
use Rattle.cstn_graphml.specs.Document.{Parts}
use Rattle.cstn_sentences.specs.Plans.{plan}
use Rattle.cstn_sentences.specs.Refusals.{PlanRefusal}
use Rattle.cstn_request.specs.Requests.{Request, of_network, of_labelled, of_text, of_document, of_plan, drill, host, version, text_labels}
use Rattle.cstn_top.specs.Dispatch.{text_answer, document_answer, file_in, proof_in, plan_at}
use Rattle.cstn_top.specs.Meanings.{ReadsLive}
use Rattle.cstn_top.specs.commands.Plan.{planned_of}
use Rattle.cstn_top.proofs.Labels.{labels_silent}
use Rattle.cstn_top.proofs.Networks.{network_silent}
use Rattle.cstn_top.proofs.Hosts.{host_talks}
use Rattle.cstn_top.proofs.Verbs.{network_reads, labelled_reads}

-- no session is held over a plan in sentences
plan_silent : (parsed : Result Parts PlanRefusal) → (planned_of parsed).talks → ⊥
plan_silent (Err refusal) may = may
plan_silent (Ok parts) may = may.1

-- a session is held only by a request that reads the live source
pub reads : (request : Request) (contents : List (List ℕ)) → (plan_at request contents).talks → ReadsLive request contents
reads (of_network verb asked cap) contents may = network_reads verb asked cap contents may
reads (of_labelled verb asked cap) contents may = labelled_reads verb asked cap contents may
reads (of_text verb asked proof) contents may = network_silent (text_labels verb) (text_answer verb (proof_in contents)) (file_in contents) asked.deadline (λ names net is. is) may
reads (of_document verb asked) contents may = labels_silent (document_answer verb) (file_in contents) asked.deadline (λ names m is. is) may
reads (of_plan asked) contents may = absurd (plan_silent (plan (file_in contents) asked.deadline) may)
reads (drill number) contents may = may
reads (host files deadline cap) contents may = host_talks cap deadline contents may
reads (version release) contents may = may
