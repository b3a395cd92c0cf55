-- What is proved of each verb: what its outcomes tell, that it has an output, and that this is one.
use Rattle.std.proofs.Common.{◌≤◌, ℕ, List, map, refl, ap, sym, ◌∙◌}
use Rattle.std.specs.Prelude.{Option}
use Rattle.cstn_net.specs.Limits.{most_load}
use Rattle.cstn_net.specs.Networks.{Network, count}
use Rattle.cstn_text.specs.PrintedNames.{printed_name}
use Rattle.cstn_io.specs.Contents.{IsAllOf}
use Rattle.cstn_lift.specs.Labelled.{Labelled}
use Rattle.cstn_lift.specs.Lowered.{lowered}
use Rattle.cstn_graphml.specs.Networks.{labelled_of}
use Rattle.cstn_graphml.specs.Answers.{CanBeHeld}
use Rattle.cstn_check.specs.Growth.{load_of}
use Rattle.cstn_check.specs.Decisions.{verdict}
use Rattle.cstn_exec.specs.Guides.{guide_begun}
use Rattle.cstn_run.specs.Sessions.{guide_turn, guide_ending}
use Rattle.cstn_refute.specs.Texts.{refutation_told as told_steps}
use Rattle.cstn_closed.specs.Texts.{closed_told as told_bounds}
use Rattle.cstn_reply.specs.Texts.{Said, yes_line}
use Rattle.cstn_request.specs.Requests.{AskedFile, of_network, of_labelled, of_text, of_document}
use Rattle.cstn_request.specs.declared.words.NetworkVerb.{NetworkVerb}
use Rattle.cstn_request.specs.declared.words.NetworkVerb.TheVariants.{Check, Closed, Tight, Conflict, Tree, Edit}
use Rattle.cstn_request.specs.declared.words.LabelledVerb.{LabelledVerb}
use Rattle.cstn_request.specs.declared.words.LabelledVerb.TheVariants.{Follow, Run, Cases}
use Rattle.cstn_request.specs.declared.words.TextVerb.{TextVerb}
use Rattle.cstn_request.specs.declared.words.TextVerb.TheVariants.{Replay, Closedcheck, Treecheck}
use Rattle.cstn_request.specs.declared.words.DocumentVerb.{DocumentVerb}
use Rattle.cstn_request.specs.declared.words.DocumentVerb.TheVariants.{Save, Sentences}
use Rattle.cstn_top.specs.Dispatch.{network_answer, labelled_answer, text_answer, IsVerbText, document_answer, plan_at, file_in, proof_in}
use Rattle.cstn_top.specs.Plans.{Plan, session}
use Rattle.cstn_top.specs.Answers.{of_lowered}
use Rattle.cstn_top.specs.commands.Run.{run_bounds}
use Rattle.cstn_top.proofs.Labels.{of_parts}
use Rattle.cstn_headline.specs.Tells.{RequestTells}
use Rattle.cstn_headline.specs.commands.Check.{check_telling}
use Rattle.cstn_headline.specs.commands.Closed.{closed_telling}
use Rattle.cstn_headline.specs.commands.Tight.{tight_telling}
use Rattle.cstn_headline.specs.commands.Conflict.{conflict_telling}
use Rattle.cstn_headline.specs.commands.Tree.{tree_telling}
use Rattle.cstn_headline.specs.commands.Edit.{edit_telling}
use Rattle.cstn_headline.specs.commands.Follow.{follow_telling}
use Rattle.cstn_headline.specs.commands.Run.{run_telling}
use Rattle.cstn_headline.specs.commands.Cases.{cases_telling}
use Rattle.cstn_headline.specs.commands.Replay.{replay_telling}
use Rattle.cstn_headline.specs.commands.Closedcheck.{closedcheck_telling}
use Rattle.cstn_headline.specs.commands.Treecheck.{treecheck_telling}
use Rattle.cstn_headline.specs.commands.Save.{save_telling}
use Rattle.cstn_headline.specs.commands.Sentences.{sentences_telling}
use Rattle.cstn_headline.proofs.Standing.{YesAccepted, NoAccepted}
use Rattle.cstn_headline.proofs.Telling.{labelled_told, network_told, only_told}
use Rattle.cstn_headline.proofs.records.Check.{check_tells}
use Rattle.cstn_headline.proofs.records.Closed.{closed_tells}
use Rattle.cstn_headline.proofs.records.Tight.{tight_tells}
use Rattle.cstn_headline.proofs.records.Conflict.{conflict_tells}
use Rattle.cstn_headline.proofs.records.Tree.{tree_tells}
use Rattle.cstn_headline.proofs.records.Edit.{edit_tells}
use Rattle.cstn_headline.proofs.records.Follow.{follow_tells}
use Rattle.cstn_headline.proofs.records.Run.{run_tells}
use Rattle.cstn_headline.proofs.records.Cases.{cases_tells}
use Rattle.cstn_headline.proofs.records.Replay.{replay_tells}
use Rattle.cstn_headline.proofs.records.Closedcheck.{closedcheck_tells}
use Rattle.cstn_headline.proofs.records.Treecheck.{treecheck_tells}
use Rattle.cstn_headline.proofs.SomeOutput.{HasSome, said_some, text_some, PartsMade, PlansMade, document_some, plain_some, TreesMade, unfolded_some, StepsWritten, BoundsWritten, replayed_some, certified_some, guided_some, cases_some}
use Rattle.cstn_headline.proofs.OneOutput.{IsOne, OneFault, OneTree, one_said, one_verdict, one_by_text, one_steps, one_bounds, one_unfolded, one_cases}

-- ---- what the outcomes tell

module _ (yes_text : YesAccepted) (no_text : NoAccepted) (source : Option (List ℕ)) (contents : List (List ℕ)) (live : List ℕ) (said : Said) (all : IsAllOf source live) where
  pub network_tells : (verb : NetworkVerb) (asked : AskedFile) (cap : ℕ) → cap ≤ most_load → (plan_at (of_network verb asked cap) contents).output live said → RequestTells (of_network verb asked cap) said.outcome source said.text contents
  network_tells Check asked cap capped output =
      labelled_told (of_lowered (network_answer Check cap)) (file_in contents) asked.deadline live said (check_telling cap said.text) (check_tells no_text cap capped said) output
  network_tells Closed asked cap capped output =
      labelled_told (of_lowered (network_answer Closed cap)) (file_in contents) asked.deadline live said (closed_telling cap said.text) (closed_tells yes_text no_text cap capped said) output
  network_tells Tight asked cap capped output =
      labelled_told (of_lowered (network_answer Tight cap)) (file_in contents) asked.deadline live said (tight_telling cap said.text) (tight_tells yes_text no_text cap capped said) output
  network_tells Conflict asked cap capped output =
      network_told (network_answer Conflict cap) (file_in contents) asked.deadline live said (conflict_telling cap said.text) (conflict_tells yes_text no_text cap capped said) output
  network_tells Tree asked cap capped output =
      network_told (network_answer Tree cap) (file_in contents) asked.deadline live said (tree_telling cap said.text) (tree_tells no_text cap capped said) output
  network_tells Edit asked cap capped output =
      network_told (network_answer Edit cap) (file_in contents) asked.deadline live said (edit_telling cap source said.text) (edit_tells cap source live said all) output

  pub labelled_tells : (verb : LabelledVerb) (asked : AskedFile) (cap : ℕ) → cap ≤ most_load → (plan_at (of_labelled verb asked cap) contents).output live said → RequestTells (of_labelled verb asked cap) said.outcome source said.text contents
  labelled_tells Follow asked cap capped output =
      labelled_told (labelled_answer Follow cap) (file_in contents) asked.deadline live said (follow_telling cap source said.text) (follow_tells cap source live said all) output
  labelled_tells Run asked cap capped output =
      labelled_told (labelled_answer Run cap) (file_in contents) asked.deadline live said (run_telling cap source said.text) (λ names m of. run_tells cap source live said all names m of no_text capped) output
  labelled_tells Cases asked cap capped output =
      labelled_told (labelled_answer Cases cap) (file_in contents) asked.deadline live said (cases_telling cap said.text) (cases_tells no_text cap capped said) output

  pub text_tells : (verb : TextVerb) (asked : AskedFile) (proof : List ℕ) → (plan_at (of_text verb asked proof) contents).output live said → RequestTells (of_text verb asked proof) said.outcome source said.text contents
  text_tells Replay asked proof output =
      labelled_told (of_lowered (text_answer Replay (proof_in contents))) (file_in contents) asked.deadline live said (replay_telling (proof_in contents)) (replay_tells (proof_in contents) said) output
  text_tells Closedcheck asked proof output =
      labelled_told (of_lowered (text_answer Closedcheck (proof_in contents))) (file_in contents) asked.deadline live said (closedcheck_telling (proof_in contents)) (closedcheck_tells (proof_in contents) said) output
  text_tells Treecheck asked proof output =
      network_told (text_answer Treecheck (proof_in contents)) (file_in contents) asked.deadline live said (treecheck_telling (proof_in contents)) (treecheck_tells (proof_in contents) said) output

  pub document_tells : (verb : DocumentVerb) (asked : AskedFile) → (plan_at (of_document verb asked) contents).output live said → RequestTells (of_document verb asked) said.outcome source said.text contents
  document_tells Save asked output =
      labelled_told (document_answer Save) (file_in contents) asked.deadline live said (save_telling said.text) (λ names m of is. only_told _ said.outcome (ap (λ (s : Said). s.outcome) is) (ap (λ (s : Said). s.text) is)) output
  document_tells Sentences asked output =
      labelled_told (document_answer Sentences) (file_in contents) asked.deadline live said (sentences_telling said.text) (λ names m of is. only_told _ said.outcome (ap (λ (s : Said). s.outcome) is) (ap (λ (s : Said). s.text) is)) output

-- ---- outputs

-- the laws by which each request has an output
pub record Laws : Type 0 where
  pub made : PartsMade
  pub plans : PlansMade
  pub trees : TreesMade
  pub steps : StepsWritten
  pub bounds : BoundsWritten

module _ (laws : Laws) (contents : List (List ℕ)) (live : List ℕ) where
  pub network_some : (verb : NetworkVerb) (asked : AskedFile) (cap : ℕ) → cap ≤ most_load → CanBeHeld (file_in contents) asked.deadline → HasSome (plan_at (of_network verb asked cap) contents) live
  network_some Check asked cap capped held = document_some laws.made (of_lowered (network_answer Check cap)) (file_in contents) asked.deadline live held (λ parts is fit. said_some _ live)
  network_some Closed asked cap capped held = document_some laws.made (of_lowered (network_answer Closed cap)) (file_in contents) asked.deadline live held (λ parts is fit. said_some _ live)
  network_some Tight asked cap capped held = document_some laws.made (of_lowered (network_answer Tight cap)) (file_in contents) asked.deadline live held (λ parts is fit. said_some _ live)
  network_some Conflict asked cap capped held = plain_some laws.made (network_answer Conflict cap) (file_in contents) asked.deadline live held (λ names net of. said_some _ live)
  network_some Tree asked cap capped held = plain_some laws.made (network_answer Tree cap) (file_in contents) asked.deadline live held (λ names net of. unfolded_some laws.trees cap names net live of capped)
  network_some Edit asked cap capped held = plain_some laws.made (network_answer Edit cap) (file_in contents) asked.deadline live held (λ names net of none. none _ refl)

  pub labelled_some : (verb : LabelledVerb) (asked : AskedFile) (cap : ℕ) → CanBeHeld (file_in contents) asked.deadline → HasSome (plan_at (of_labelled verb asked cap) contents) live
  labelled_some Follow asked cap held = document_some laws.made (labelled_answer Follow cap) (file_in contents) asked.deadline live held (λ parts is fit none. none _ refl)
  labelled_some Run asked cap held = document_some laws.made (labelled_answer Run cap) (file_in contents) asked.deadline live held (λ parts is fit. guided_some cap parts.names (labelled_of parts) live)
  labelled_some Cases asked cap held =
      document_some laws.made (labelled_answer Cases cap) (file_in contents) asked.deadline live held
      (λ parts is fit. cases_some cap parts.names (labelled_of parts) live (of_parts (file_in contents) asked.deadline parts is fit))

  pub proof_some : (verb : TextVerb) (asked : AskedFile) (proof : List ℕ) → CanBeHeld (file_in contents) asked.deadline → HasSome (plan_at (of_text verb asked proof) contents) live
  proof_some Replay asked proof held =
      document_some laws.made (of_lowered (text_answer Replay (proof_in contents))) (file_in contents) asked.deadline live held
      (λ parts is fit. text_some (IsVerbText Replay parts.names (proof_in contents) (lowered (labelled_of parts))) (proof_in contents) live (replayed_some laws.steps (proof_in contents) parts.names (lowered (labelled_of parts)) live))
  proof_some Closedcheck asked proof held =
      document_some laws.made (of_lowered (text_answer Closedcheck (proof_in contents))) (file_in contents) asked.deadline live held
      (λ parts is fit. text_some (IsVerbText Closedcheck parts.names (proof_in contents) (lowered (labelled_of parts))) (proof_in contents) live (certified_some laws.bounds (proof_in contents) parts.names (lowered (labelled_of parts)) live))
  proof_some Treecheck asked proof held =
      plain_some laws.made (text_answer Treecheck (proof_in contents)) (file_in contents) asked.deadline live held
      (λ names net of. text_some (IsVerbText Treecheck names (proof_in contents) net) (proof_in contents) live (said_some _ live))

module _ (fault : OneFault) (tree : OneTree) where
  pub network_one : (verb : NetworkVerb) (cap : ℕ) (names : List (List ℕ)) (net : Network) → IsOne (network_answer verb cap names net)
  network_one Check cap names net = one_said _
  network_one Closed cap names net = one_said _
  network_one Tight cap names net = one_said _
  network_one Conflict cap names net = one_said _
  network_one Tree cap names net = one_unfolded tree cap names net
  network_one Edit cap names net = λ live a b x y. x ∙ sym y

  pub labelled_one : (verb : LabelledVerb) (cap : ℕ) (names : List (List ℕ)) (m : Labelled) → IsOne (labelled_answer verb cap names m)
  labelled_one Follow cap names m = λ live a b x y. x ∙ sym y
  labelled_one Run cap names m = one_verdict cap names (lowered m) carried (verdict cap (lowered m)) (λ live a b x y. x ∙ sym y)
    where
      carried : Plan
      carried = session (guide_turn (map printed_name names) m (run_bounds m)) (guide_ending m (run_bounds m)) (yes_line (load_of (lowered m))) (guide_begun (count m.base))
  labelled_one Cases cap names m = λ live a b x y. one_cases cap names m a b x y

  pub text_one : (verb : TextVerb) (text : List ℕ) (names : List (List ℕ)) (net : Network) → IsOne (text_answer verb text names net)
  text_one Replay text names net = one_by_text (IsVerbText Replay names text net) text (one_steps (told_steps names text) net)
  text_one Closedcheck text names net = one_by_text (IsVerbText Closedcheck names text net) text (one_bounds fault names (told_bounds names text) net)
  text_one Treecheck text names net = one_by_text (IsVerbText Treecheck names text net) text (λ a b x y. x ∙ sym y)
