-- What is prepared for a request, by what it asks and what is answered.
use Rattle.std.proofs.Common.{◌≡◌, ℕ, List, subst}
use Rattle.std.specs.Prelude.{Option, Some}
use Rattle.cstn_top.proofs.Hosts.{files_all}
use Rattle.cstn_request.proofs.Asking.{first_there}
use Rattle.cstn_top.proofs.Outcomes.{IsAnswerIf}
use Rattle.cstn_top.proofs.Answered.{question_answered}
use Rattle.cstn_io.specs.Asked.{and_names}
use Rattle.cstn_request.specs.Requests.{Request, of_network, of_labelled, of_text, of_document, of_plan, drill, host, version, files_of}
use Rattle.cstn_request.specs.Files.{AreContents, AreThere}
use Rattle.cstn_top.specs.Meanings.{HoldsOf, RefusedIsThere}
use Rattle.cstn_top.specs.Plans.{ComesTo}
use Rattle.cstn_top.specs.Prepared.{the_plan, TellsRefused, Planned}
use Rattle.cstn_reply.specs.declared.output.Outcome.{Outcome}
use Rattle.cstn_top.specs.declared.commands.Prepared.{Prepared}
use Rattle.cstn_top.specs.declared.commands.questions.Question.{Question}
use Rattle.cstn_top.specs.Questions.{Asks, MayRefuse, IsOfPlan, the_question}
use Rattle.cstn_top.specs.Dispatch.{plan_at}
use Rattle.cstn_reply.specs.Statuses.{status_of}
use Rattle.cstn_top.proofs.Comes.{comes_through}

-- a plan in sentences that is refused was read, and no other file
plan_refused : (request : Request) (shelf : Option (List ℕ → Option (List ℕ))) (before after : Option (List (List ℕ))) (contents : List (List ℕ)) → AreContents shelf (files_of request) contents → AreThere shelf (files_of request) → after ≡ and_names before (files_of request) → IsOfPlan request → HoldsOf (Some request) shelf (RefusedIsThere shelf before after)
plan_refused (of_plan asked) shelf before after contents are there once is = (contents, are, record { asked = once; there = there })
plan_refused (of_network verb asked cap) shelf before after contents are there once is = absurd is
plan_refused (of_labelled verb asked cap) shelf before after contents are there once is = absurd is
plan_refused (of_text verb asked proof) shelf before after contents are there once is = absurd is
plan_refused (of_document verb asked) shelf before after contents are there once is = absurd is
plan_refused (drill number) shelf before after contents are there once is = absurd is
plan_refused (host files deadline cap) shelf before after contents are there once is = absurd is
plan_refused (version release) shelf before after contents are there once is = absurd is

module _ (request : Request) (shelf : Option (List ℕ → Option (List ℕ))) (question : Question) (prepared : Prepared) (asks : Asks request shelf question) (comes : ComesTo (the_question question) (the_plan prepared)) where
  -- what was prepared says what the request says
  pub whole : ComesTo (plan_at request asks.contents) (the_plan prepared)
  whole = comes_through (plan_at request asks.contents) (the_question question) (the_plan prepared) asks.comes comes

  pub planned_by : Planned request shelf (the_plan prepared)
  planned_by = record {
    contents = asks.contents;
    are = asks.are;
    comes = whole;
    there = λ live said output. files_all shelf (files_of request) (status_of said.outcome) asks.there (first_there shelf (files_of request) 1 asks.there);
  }

  -- and where it says that a file is refused, that is a plan in sentences, since each document was accepted
  pub none_refused : (before after : Option (List (List ℕ))) → after ≡ and_names before (files_of request) → (MayRefuse question → IsOfPlan request) → TellsRefused shelf before after request (the_plan prepared)
  none_refused before after once only = λ live said output outcome.
      plan_refused request shelf before after asks.contents asks.are asks.there once
      (only (subst (λ (o : Outcome). IsAnswerIf (MayRefuse question) o) outcome (question_answered question live said (comes.output live said output))))
