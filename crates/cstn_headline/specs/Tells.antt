-- What the outcome of each request tells.
use Rattle.std.specs.Prelude.{◌≡◌, ℕ, List, Option}
use Rattle.std.specs.List.{All}
use Rattle.cstn_io.specs.Contents.{with_bytes}
use Rattle.cstn_graphml.specs.Answers.{CanBeHeld}
use Rattle.cstn_sentences.specs.Held.{PlanCanBeHeld}
use Rattle.cstn_request.specs.Requests.{Request, of_network, of_labelled, of_text, of_document, of_plan, drill, host, version}
use Rattle.cstn_request.specs.declared.words.NetworkVerb.TheVariants.{Check, Closed, Tight, Conflict, Tree, Edit}
use Rattle.cstn_request.specs.declared.words.LabelledVerb.TheVariants.{Follow, Run, Cases}
use Rattle.cstn_request.specs.declared.words.TextVerb.TheVariants.{Replay, Closedcheck, Treecheck}
use Rattle.cstn_request.specs.declared.words.DocumentVerb.TheVariants.{Save, Sentences}
use Rattle.cstn_reply.specs.Statuses.{status_of}
use Rattle.cstn_reply.specs.declared.status.Status.{Status}
use Rattle.cstn_reply.specs.declared.output.Outcome.{Outcome}
use Rattle.cstn_top.specs.Dispatch.{file_in, proof_in}
use Rattle.cstn_headline.specs.Telling.{OutcomeTells, OfLabelled, OfNetwork}
use Rattle.cstn_headline.specs.commands.Check.{check_telling}
use Rattle.cstn_headline.specs.commands.Closed.{closed_telling}
use Rattle.cstn_headline.specs.commands.Tight.{tight_telling}
use Rattle.cstn_headline.specs.commands.Conflict.{conflict_telling}
use Rattle.cstn_headline.specs.commands.Tree.{tree_telling}
use Rattle.cstn_headline.specs.commands.Edit.{edit_telling}
use Rattle.cstn_headline.specs.commands.Follow.{follow_telling}
use Rattle.cstn_headline.specs.commands.Run.{run_telling}
use Rattle.cstn_headline.specs.commands.Cases.{cases_telling}
use Rattle.cstn_headline.specs.commands.Replay.{replay_telling}
use Rattle.cstn_headline.specs.commands.Closedcheck.{closedcheck_telling}
use Rattle.cstn_headline.specs.commands.Treecheck.{treecheck_telling}
use Rattle.cstn_headline.specs.commands.Save.{save_telling}
use Rattle.cstn_headline.specs.commands.Sentences.{sentences_telling}
use Rattle.cstn_headline.specs.commands.Plan.{OfPlan}
use Rattle.cstn_headline.specs.commands.Drill.{drill_telling}
use Rattle.cstn_headline.specs.commands.Host.{HostTells}
use Rattle.cstn_headline.specs.commands.Version.{version_telling}

-- what this outcome tells of a request, with the text that was said, by the contents of its files and the bytes of the live source,
-- where they are told
abbrev pub RequestTells : Request → Outcome → Option (List ℕ) → List ℕ → List (List ℕ) → Type 0
RequestTells (of_network Check asked cap) outcome live text contents = OfLabelled (file_in contents) asked.deadline outcome (check_telling cap text)
RequestTells (of_network Closed asked cap) outcome live text contents = OfLabelled (file_in contents) asked.deadline outcome (closed_telling cap text)
RequestTells (of_network Tight asked cap) outcome live text contents = OfLabelled (file_in contents) asked.deadline outcome (tight_telling cap text)
RequestTells (of_network Conflict asked cap) outcome live text contents = OfNetwork (file_in contents) asked.deadline outcome (conflict_telling cap text)
RequestTells (of_network Tree asked cap) outcome live text contents = OfNetwork (file_in contents) asked.deadline outcome (tree_telling cap text)
RequestTells (of_network Edit asked cap) outcome live text contents = OfNetwork (file_in contents) asked.deadline outcome (edit_telling cap live text)
RequestTells (of_labelled Follow asked cap) outcome live text contents = OfLabelled (file_in contents) asked.deadline outcome (follow_telling cap live text)
RequestTells (of_labelled Run asked cap) outcome live text contents = OfLabelled (file_in contents) asked.deadline outcome (run_telling cap live text)
RequestTells (of_labelled Cases asked cap) outcome live text contents = OfLabelled (file_in contents) asked.deadline outcome (cases_telling cap text)
RequestTells (of_text Replay asked proof) outcome live text contents = OfLabelled (file_in contents) asked.deadline outcome (replay_telling (proof_in contents))
RequestTells (of_text Closedcheck asked proof) outcome live text contents = OfLabelled (file_in contents) asked.deadline outcome (closedcheck_telling (proof_in contents))
RequestTells (of_text Treecheck asked proof) outcome live text contents = OfNetwork (file_in contents) asked.deadline outcome (treecheck_telling (proof_in contents))
RequestTells (of_document Save asked) outcome live text contents = OfLabelled (file_in contents) asked.deadline outcome (save_telling text)
RequestTells (of_document Sentences asked) outcome live text contents = OfLabelled (file_in contents) asked.deadline outcome (sentences_telling text)
RequestTells (of_plan asked) outcome live text contents = OfPlan (file_in contents) asked.deadline outcome text
RequestTells (drill number) outcome live text contents = OutcomeTells (drill_telling number text) outcome
RequestTells (host files deadline cap) outcome live text contents = HostTells cap deadline outcome live text contents
RequestTells (version release) outcome live text contents = OutcomeTells (version_telling release text) outcome

-- values of the program can hold what each document of the request says, or its plan in sentences
abbrev pub AreDocumentsHeld : Request → List (List ℕ) → Type 0
AreDocumentsHeld (of_network verb asked cap) contents = CanBeHeld (file_in contents) asked.deadline
AreDocumentsHeld (of_labelled verb asked cap) contents = CanBeHeld (file_in contents) asked.deadline
AreDocumentsHeld (of_text verb asked proof) contents = CanBeHeld (file_in contents) asked.deadline
AreDocumentsHeld (of_document verb asked) contents = CanBeHeld (file_in contents) asked.deadline
AreDocumentsHeld (of_plan asked) contents = PlanCanBeHeld (file_in contents) asked.deadline
AreDocumentsHeld (drill number) contents = Unit {0}
AreDocumentsHeld (host files deadline cap) contents = All (λ bytes. CanBeHeld bytes deadline) contents
AreDocumentsHeld (version release) contents = Unit {0}

-- A text was said to the request, whose files have these contents, and its outcome tells what it tells. The live source has these
-- bytes, where they are told. The text is what was written after what the sink had before, and the status is that of the outcome.
pub record WasAnswered (request : Request) (live old new : Option (List ℕ)) (status : Status) (contents : List (List ℕ)) : Type 0 where
  pub outcome : Outcome
  pub text : List ℕ
  pub status_is : status ≡ status_of outcome
  pub wrote : new ≡ with_bytes old text
  pub tells : RequestTells request outcome live text contents
