-- What is proved of each request beside what `run` needs.
use Rattle.std.proofs.Common.{ℕ, List, ap}
use Rattle.std.specs.Prelude.{Option}
use Rattle.cstn_io.specs.Contents.{IsAllOf}
use Rattle.cstn_reply.specs.Texts.{Said}
use Rattle.cstn_top.specs.Dispatch.{plan_at, file_in}
use Rattle.cstn_request.specs.Requests.{Request, of_network, of_labelled, of_text, of_document, of_plan, drill, host, version}
use Rattle.cstn_top.specs.Meanings.{IsCapRanged}
use Rattle.cstn_sentences.specs.Plans.{plan}
use Rattle.cstn_headline.specs.Tells.{RequestTells}
use Rattle.cstn_headline.proofs.Drills.{counts_right}
use Rattle.cstn_headline.proofs.Standing.{YesAccepted, NoAccepted}
use Rattle.cstn_headline.proofs.Telling.{only_told}
use Rattle.cstn_headline.proofs.Verbs.{network_tells, labelled_tells, text_tells, document_tells}
use Rattle.cstn_headline.proofs.records.Host.{host_told}
use Rattle.cstn_headline.proofs.records.Plan.{plan_tells}

-- each output of a request tells what its outcome does
pub tells : YesAccepted → NoAccepted → (request : Request) → IsCapRanged request → (source : Option (List ℕ)) (contents : List (List ℕ)) (live : List ℕ) (said : Said) → IsAllOf source live → (plan_at request contents).output live said →
    RequestTells request said.outcome source said.text contents
tells yes_text no_text (of_network verb asked cap) capped source contents live said all output = network_tells yes_text no_text source contents live said all verb asked cap capped output
tells yes_text no_text (of_labelled verb asked cap) capped source contents live said all output = labelled_tells yes_text no_text source contents live said all verb asked cap capped output
tells yes_text no_text (of_text verb asked proof) ranged source contents live said all output = text_tells yes_text no_text source contents live said all verb asked proof output
tells yes_text no_text (of_document verb asked) ranged source contents live said all output = document_tells yes_text no_text source contents live said all verb asked output
tells yes_text no_text (of_plan asked) ranged source contents live said all output = plan_tells (plan (file_in contents) asked.deadline) live said output
tells yes_text no_text (drill number) ranged source contents live said all output =
    only_told _ said.outcome (ap (λ (s : Said). s.outcome) output) (counts_right number 64, ap (λ (s : Said). s.text) output)
tells yes_text no_text (host files deadline cap) capped source contents live said all output = host_told no_text cap capped deadline contents source live said all output
tells yes_text no_text (version release) ranged source contents live said all output = only_told _ said.outcome (ap (λ (s : Said). s.outcome) output) (ap (λ (s : Said). s.text) output)
