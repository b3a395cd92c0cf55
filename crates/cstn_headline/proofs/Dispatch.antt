-- Each request has an output, and this is one.
use Rattle.std.proofs.Common.{ℕ, List, []}
use Rattle.cstn_top.specs.Dispatch.{plan_at, text_answer, document_said, document_answer, network_answer, labelled_answer, file_in, proof_in}
use Rattle.cstn_sentences.specs.Plans.{plan}
use Rattle.cstn_request.specs.Requests.{Request, of_network, of_labelled, of_text, of_document, of_plan, drill, host, version, network_labels, text_labels}
use Rattle.cstn_top.specs.Meanings.{IsCapRanged}
use Rattle.cstn_top.specs.commands.Drill.{drilled}
use Rattle.cstn_top.specs.commands.Host.{attended}
use Rattle.cstn_top.specs.commands.Version.{versioned}
use Rattle.cstn_headline.specs.Tells.{AreDocumentsHeld}
use Rattle.cstn_headline.proofs.SomeOutput.{HasSome, said_some, document_some, plan_some, attended_some, documents_some}
use Rattle.cstn_headline.proofs.OneOutput.{IsOne, OneFault, OneJudgement, OneTree, one_said, one_labelled, one_network, one_planned, one_hosted}
use Rattle.cstn_headline.proofs.Verbs.{Laws, network_some, labelled_some, proof_some, network_one, labelled_one, text_one}

-- it can't be that there is none
pub has_some : Laws → (request : Request) (contents : List (List ℕ)) (live : List ℕ) → IsCapRanged request → AreDocumentsHeld request contents → HasSome (plan_at request contents) live
has_some laws (of_network verb asked cap) contents live ranged held = network_some laws contents live verb asked cap ranged held
has_some laws (of_labelled verb asked cap) contents live ranged held = labelled_some laws contents live verb asked cap held
has_some laws (of_text verb asked proof) contents live ranged held = proof_some laws contents live verb asked proof held
has_some laws (of_document verb asked) contents live ranged held = document_some laws.made (document_answer verb) (file_in contents) asked.deadline live held (λ parts is fit. said_some _ live)
has_some laws (of_plan asked) contents live ranged held = plan_some laws.plans (file_in contents) asked.deadline live held
has_some laws (drill number) contents live ranged held = said_some _ live
has_some laws (host files deadline cap) contents live ranged held = documents_some laws.made (attended cap) deadline live (attended_some cap live) [] contents held
has_some laws (version release) contents live ranged held = said_some _ live

-- and there are no two
pub one_output : OneJudgement → OneFault → OneTree → (request : Request) (contents : List (List ℕ)) → IsOne (plan_at request contents)
one_output judgement fault tree (of_network verb asked cap) contents =
    one_network judgement (network_labels verb) (network_answer verb cap) (network_one fault tree verb cap) (file_in contents) asked.deadline
one_output judgement fault tree (of_labelled verb asked cap) contents = one_labelled judgement (labelled_answer verb cap) (labelled_one fault tree verb cap) (file_in contents) asked.deadline
one_output judgement fault tree (of_text verb asked proof) contents =
    one_network judgement (text_labels verb) (text_answer verb (proof_in contents)) (text_one fault tree verb (proof_in contents)) (file_in contents) asked.deadline
one_output judgement fault tree (of_document verb asked) contents = one_labelled judgement (document_answer verb) (λ names m. one_said (document_said verb names m)) (file_in contents) asked.deadline
one_output judgement fault tree (of_plan asked) contents = one_planned judgement (plan (file_in contents) asked.deadline)
one_output judgement fault tree (drill number) contents = one_said (drilled number)
one_output judgement fault tree (host files deadline cap) contents = one_hosted judgement cap deadline [] contents
one_output judgement fault tree (version release) contents = one_said (versioned release)
