-- What is prepared for a request.
use Rattle.std.specs.Prelude.{◌≡◌, ◌≤◌, ℕ, List, [], length, Option, Some}
use Rattle.cstn_request.specs.Requests.{Request, files_of}
use Rattle.cstn_request.specs.Files.{AreContents, AreThere}
use Rattle.cstn_reply.specs.Texts.{Said}
use Rattle.cstn_reply.specs.Read.{the_said}
use Rattle.cstn_reply.specs.Statuses.{status_of}
use Rattle.cstn_reply.specs.Written.{EndsLine}
use Rattle.cstn_reply.specs.declared.output.Outcome.TheVariants.{Document}
use Rattle.cstn_run.specs.Sessions.{guided_turn, guided_ending}
use Rattle.cstn_edit.specs.Editing.{the_editing, edit_turn, edit_wants, edit_ending}
use Rattle.cstn_run.specs.hosted.Sessions.{host_turn, host_wants, host_ending}
use Rattle.cstn_run.specs.hosted.SessionRead.{the_host_session}
use Rattle.cstn_follow.specs.Marks.{marked_ending}
use Rattle.cstn_follow.specs.MarkedRead.{the_marked}
use Rattle.cstn_top.specs.Plans.{Plan, says, ComesTo, session, wanting_session, ended_session}
use Rattle.cstn_top.specs.Kinds.{AnswerKind, a_run, an_edit, a_follow, a_host}
use Rattle.cstn_top.specs.commands.Follow.{marked_turn}
use Rattle.cstn_top.specs.Dispatch.{plan_at}
use Rattle.cstn_top.specs.Meanings.{HoldsOf, files_read, RefusedIsThere}
use Rattle.cstn_request.specs.Asked.{AskedFirst}
use Rattle.cstn_top.specs.declared.commands.Prepared.{Prepared}
use Rattle.cstn_top.specs.declared.commands.Prepared.TheVariants.{Says, Runs, Edits, Follows, Hosts}

-- the plan that is carried out
abbrev pub the_plan : Prepared → Plan
the_plan (Says said) = says (the_said said)
the_plan (Runs opening session') = session guided_turn guided_ending opening.items session'
the_plan (Edits editing) = wanting_session edit_wants edit_turn edit_ending [] (the_editing editing)
the_plan (Follows opening session') = ended_session marked_turn marked_ending opening.items (the_marked session')
the_plan (Hosts opening session') = wanting_session host_wants host_turn host_ending opening.items (the_host_session session')

-- a session is prepared only where it is asked for, and its opening is whole lines
abbrev pub FitsKind : AnswerKind → Prepared → Type 0
FitsKind kind (Says said) = Unit {0}
FitsKind kind (Runs opening session') = EndsLine opening.items × (kind ≡ a_run)
FitsKind kind (Edits editing) = kind ≡ an_edit
FitsKind kind (Follows opening session') = EndsLine opening.items × (kind ≡ a_follow)
FitsKind kind (Hosts opening session') = EndsLine opening.items × (kind ≡ a_host)

-- where the plan says that a document is refused, it is there, and so is each file before it; no file behind it was asked for
abbrev pub TellsRefused : Option (List ℕ → Option (List ℕ)) → Option (List (List ℕ)) → Option (List (List ℕ)) → Request → Plan → Type 0
TellsRefused shelf before after request plan =
    (live : List ℕ) (said : Said) → plan.output live said → said.outcome ≡ Document → HoldsOf (Some request) shelf (RefusedIsThere shelf before after)

-- the first files of the request were asked for, each of them that has to be read for what the plan says
pub record AsksEnough (request : Request) (shelf : Option (List ℕ → Option (List ℕ))) (before after : Option (List (List ℕ))) (plan : Plan) : Type 0 where
  pub first : AskedFirst shelf before after (files_of request)
  pub enough : (live : List ℕ) (said : Said) → plan.output live said → length (files_read (status_of said.outcome) (files_of request)) ≤ first.count

-- the plan says what the request says of the contents of its files, and the files that were read are there
pub record Planned (request : Request) (shelf : Option (List ℕ → Option (List ℕ))) (plan : Plan) : Type 0 where
  pub contents : List (List ℕ)
  pub are : AreContents shelf (files_of request) contents
  pub comes : ComesTo (plan_at request contents) plan
  pub there : (live : List ℕ) (said : Said) → plan.output live said → AreThere shelf (files_read (status_of said.outcome) (files_of request))
