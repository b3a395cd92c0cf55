-- What is proved of each verb: the outcomes of what it says, and where it comes to a session.
use Rattle.std.proofs.Common.{◌≡◌, ℕ, Bool, true, false, List, [], ◌++◌, map, inl, inr}
use Rattle.std.specs.Prelude.{if◌then◌else◌, Option, None, Some, codes, decimal}
use Rattle.cstn_net.specs.Networks.{Network, count}
use Rattle.cstn_text.specs.PrintedNames.{printed_name}
use Rattle.cstn_lift.specs.Labelled.{Labelled}
use Rattle.cstn_lift.specs.Lowered.{lowered}
use Rattle.cstn_lines.specs.LiveLines.{live_read}
use Rattle.cstn_lines.specs.EditLines.{edit_read}
use Rattle.cstn_check.specs.Growth.{log_of, load_of, live_bounds}
use Rattle.cstn_check.specs.Decisions.{verdict, unless_yes}
use Rattle.cstn_check.specs.declared.verdicts.Verdict.{Verdict}
use Rattle.cstn_check.specs.declared.verdicts.Verdict.TheVariants.{Yes, No, Full as IsFullVerdict}
use Rattle.cstn_check.proofs.Deciding.{Tells, verdict_tells}
use Rattle.cstn_refute.specs.Texts.{RefutationTold as ToldSteps, tells as tells_steps, wrong as wrong_step, refutation_told as told_steps}
use Rattle.cstn_replay.specs.Texts.{IsReplayOfSteps}
use Rattle.cstn_closed.specs.Texts.{ClosedTold as ToldBounds, tells as tells_bounds, wrong as wrong_bound, closed_told as told_bounds}
use Rattle.cstn_closed.specs.Certificates.{IsCertificateOfBounds}
use Rattle.cstn_tight.specs.Texts.{tight_said}
use Rattle.cstn_conflict.specs.Conflicts.{conflict_set}
use Rattle.cstn_conflict.specs.Texts.{blamed_after_no, blamed_by}
use Rattle.cstn_cases.specs.Told.{AreCasesUnless}
use Rattle.cstn_tree.specs.Unfolded.{IsTreeUnless, IsUnfolded}
use Rattle.cstn_tree.specs.Good.{first_broken}
use Rattle.cstn_tree.specs.Checked.{told_of_line, checked_lines}
use Rattle.cstn_outline.specs.Read.{the_tree}
use Rattle.cstn_outline.specs.Texts.{TreeTold as ToldTree, tells as tells_tree, wrong as wrong_tree, tree_told as told_tree}
use Rattle.cstn_exec.specs.Guides.{guide_begun}
use Rattle.cstn_exec.specs.Runs.{due}
use Rattle.cstn_exec.specs.Running.{unfinished}
use Rattle.cstn_run.specs.Sessions.{guide_turn, guide_ending}
use Rattle.cstn_edit.specs.Editing.{begun_editing, edit_turn, edit_wants, edit_ending, ending_by}
use Rattle.cstn_follow.specs.Following.{Following, begun_following, is_any_open, verdict_now, outcome_by, following_ending}
use Rattle.cstn_follow.specs.Marks.{begun_marked, marked_ending}
use Rattle.cstn_request.specs.Requests.{AskedFile, of_network, of_labelled}
use Rattle.cstn_request.specs.declared.words.NetworkVerb.{NetworkVerb}
use Rattle.cstn_request.specs.declared.words.NetworkVerb.TheVariants.{Check, Closed, Tight, Conflict, Tree, Edit}
use Rattle.cstn_request.specs.declared.words.LabelledVerb.{LabelledVerb}
use Rattle.cstn_request.specs.declared.words.LabelledVerb.TheVariants.{Follow, Run, Cases}
use Rattle.cstn_request.specs.declared.words.TextVerb.{TextVerb}
use Rattle.cstn_request.specs.declared.words.TextVerb.TheVariants.{Replay, Closedcheck, Treecheck}
use Rattle.cstn_request.specs.declared.words.DocumentVerb.{DocumentVerb}
use Rattle.cstn_request.specs.declared.words.DocumentVerb.TheVariants.{Save, Sentences}
use Rattle.cstn_reply.specs.Texts.{Said, say, yes_line}
use Rattle.cstn_reply.specs.declared.output.Outcome.TheVariants.{Good, Unfinished}
use Rattle.cstn_top.specs.Plans.{says_such, session}
use Rattle.cstn_top.specs.Answers.{plan_on_verdict}
use Rattle.cstn_top.specs.Verdicts.{IsLabelledYes}
use Rattle.cstn_top.specs.Dispatch.{network_answer, labelled_answer, IsVerbText, document_said, file_in, plan_at}
use Rattle.cstn_top.specs.Meanings.{ReadsLive}
use Rattle.cstn_top.specs.commands.Closed.{bounds_said}
use Rattle.cstn_top.specs.commands.Follow.{marked_turn, follow_opening}
use Rattle.cstn_top.specs.commands.Run.{run_answer}
use Rattle.cstn_top.proofs.Documents.{document_talks, document_then}
use Rattle.cstn_top.proofs.Labels.{IsOfLabelled, talks_labelled}
use Rattle.cstn_top.proofs.Networks.{network_silent}
use Rattle.cstn_top.proofs.Outcomes.{IsAnswerIf, IsAnswered, as_said, says_answered, verdict_answered, session_answered, good_answers, none_last, or_else_answers}
use Rattle.cstn_top.proofs.Turns.{guide_answers, edit_answers, follow_answers}

-- ---- outcomes

module _ (refused : Type 0) where
  conflict_answers : (cap : ℕ) (names : List (List ℕ)) (net : Network) (v : Verdict) → IsAnswerIf refused (blamed_by cap names net v).outcome
  conflict_answers cap names net (Yes load) = tt
  conflict_answers cap names net (No load) = by_set (conflict_set cap net)
    where
      by_set : (o : Option (List ℕ)) → IsAnswerIf refused (blamed_after_no cap names net o).outcome
      by_set None = tt
      by_set (Some ids) = tt
  conflict_answers cap names net IsFullVerdict = tt

  tree_answers : (names : List (List ℕ)) (net : Network) (cap : ℕ) (v : Verdict) (said : Said) → IsTreeUnless names net (unless_yes cap names net v) said → IsAnswerIf refused said.outcome
  tree_answers names net cap (Yes load) said is = as_said refused said _ is.said_is tt
  tree_answers names net cap (No load) said is = as_said refused said _ is tt
  tree_answers names net cap IsFullVerdict said is = as_said refused said _ is tt

  unfolded_answered : (cap : ℕ) (names : List (List ℕ)) (net : Network) → IsAnswered refused (says_such (IsUnfolded cap names net))
  unfolded_answered cap names net live said (inl many) = as_said refused said _ many.1 tt
  unfolded_answered cap names net live said (inr few) = tree_answers names net cap (verdict cap net) said few.1

  editing_ends : (v : Option Verdict) → IsAnswerIf refused (ending_by v)
  editing_ends None = tt
  editing_ends (Some (Yes load)) = tt
  editing_ends (Some (No load)) = tt
  editing_ends (Some IsFullVerdict) = tt

  pub network_answered : (verb : NetworkVerb) (cap : ℕ) (names : List (List ℕ)) (net : Network) → IsAnswered refused (network_answer verb cap names net)
  network_answered Check cap names net =
      let yes_said : Said = record { outcome = Good; text = yes_line (load_of net) } in
      says_answered refused _ (or_else_answers refused cap names net yes_said (verdict cap net) tt)
  network_answered Closed cap names net = says_answered refused _ (or_else_answers refused cap names net (bounds_said names net) (verdict cap net) tt)
  network_answered Tight cap names net = says_answered refused _ (or_else_answers refused cap names net (tight_said names net) (verdict cap net) tt)
  network_answered Conflict cap names net = says_answered refused (blamed_by cap names net (verdict cap net)) (conflict_answers cap names net (verdict cap net))
  network_answered Tree cap names net = unfolded_answered cap names net
  network_answered Edit cap names net =
      session_answered refused false edit_wants edit_turn edit_ending [] (begun_editing cap names net) (λ text. edit_read text ≡ None) (λ outcome. ⊥) edit_answers (none_last refused) (λ e. editing_ends e.verdict)

  cases_answers : (names : List (List ℕ)) (m : Labelled) (cap : ℕ) (v : Verdict) (said : Said) → AreCasesUnless names m (unless_yes cap names (lowered m) v) said → IsAnswerIf refused said.outcome
  cases_answers names m cap (Yes load) said (inl is) = as_said refused said _ is.said_is tt
  cases_answers names m cap (Yes load) said (inr is) = as_said refused said _ is.said_is tt
  cases_answers names m cap (No load) said is = as_said refused said _ is tt
  cases_answers names m cap IsFullVerdict said is = as_said refused said _ is tt

  running_ends : (o : Option ℕ) → IsAnswerIf refused (unfinished o).outcome
  running_ends None = tt
  running_ends (Some t) = tt

  following_ends : (s : Following) → IsAnswerIf refused (following_ending s).outcome
  following_ends s = by_open (is_any_open s)
    where
      by_verdict : (v : Verdict) → IsAnswerIf refused (outcome_by v)
      by_verdict (Yes load) = tt
      by_verdict (No load) = tt
      by_verdict IsFullVerdict = tt

      by_open : (some_open : Bool) → IsAnswerIf refused (if some_open then say Unfinished (codes "unfinished " ++ decimal s.history.now) else say (outcome_by (verdict_now s)) (codes "done")).outcome
      by_open true = tt
      by_open false = by_verdict (verdict_now s)

  pub labelled_answered : (verb : LabelledVerb) (cap : ℕ) (names : List (List ℕ)) (m : Labelled) → IsAnswered refused (labelled_answer verb cap names m)
  labelled_answered Follow cap names m =
      session_answered refused true (λ line. true) marked_turn marked_ending (follow_opening (begun_following cap names m)) (begun_marked cap names m) (λ text. ⊥) (λ outcome. ⊥) follow_answers (none_last refused) (λ t. following_ends t.now)
  labelled_answered Run cap names m =
      verdict_answered refused cap names (lowered m)
      (session (guide_turn (map printed_name names) m (live_bounds (log_of (lowered m)))) (guide_ending m (live_bounds (log_of (lowered m)))) (yes_line (load_of (lowered m))) (guide_begun (count m.base))) (verdict cap (lowered m))
      (session_answered refused false (λ line. false) (guide_turn (map printed_name names) m (live_bounds (log_of (lowered m)))) (guide_ending m (live_bounds (log_of (lowered m)))) (yes_line (load_of (lowered m))) (guide_begun (count m.base)) (λ text. live_read text ≡ None)
      (λ outcome. outcome ≡ Good) (guide_answers (map printed_name names) m (live_bounds (log_of (lowered m)))) (good_answers refused) (λ g. running_ends (due (lowered m) (live_bounds (log_of (lowered m))) g.run)))
  labelled_answered Cases cap names m = λ live said is. cases_answers names m cap (verdict cap (lowered m)) said is

  replay_answers : (told : ToldSteps) (net : Network) (said : Said) → IsReplayOfSteps told net said → IsAnswerIf refused said.outcome
  replay_answers (tells_steps load steps) net said (inl found) = as_said refused said _ found.1 tt
  replay_answers (tells_steps load steps) net said (inr found) = as_said refused said _ found.2 tt
  replay_answers (wrong_step at) net said is = as_said refused said _ is tt

  bounds_answer : (names : List (List ℕ)) (told : ToldBounds) (net : Network) (said : Said) → IsCertificateOfBounds names told net said → IsAnswerIf refused said.outcome
  bounds_answer names (tells_bounds load bounds) net said (inl found) = as_said refused said _ found.2 tt
  bounds_answer names (tells_bounds load bounds) net said (inr found) = as_said refused said _ found.2 tt
  bounds_answer names (wrong_bound at) net said is = as_said refused said _ is tt

  lines_answer : (told : ToldTree) (net : Network) → IsAnswerIf refused (checked_lines told net).outcome
  lines_answer (tells_tree lines) net = by_line (first_broken net (the_tree lines))
    where
      by_line : (line : Option ℕ) → IsAnswerIf refused (told_of_line line).outcome
      by_line None = tt
      by_line (Some line) = tt
  lines_answer (wrong_tree at) net = tt

  pub text_answers : (verb : TextVerb) (text : List ℕ) (names : List (List ℕ)) (net : Network) (said : Said) → IsVerbText verb names text net said → IsAnswerIf refused said.outcome
  text_answers Replay text names net said is = replay_answers (told_steps names text) net said is
  text_answers Closedcheck text names net said is = bounds_answer names (told_bounds names text) net said is
  text_answers Treecheck text names net said is = as_said refused said _ is (lines_answer (told_tree names text) net)

  pub document_answers : (verb : DocumentVerb) (names : List (List ℕ)) (m : Labelled) → IsAnswerIf refused (document_said verb names m).outcome
  document_answers Save names m = tt
  document_answers Sentences names m = tt

-- ---- sessions

-- a run comes to a session only after yes
run_talks : (cap : ℕ) (names : List (List ℕ)) (m : Labelled) → IsOfLabelled names m → (run_answer cap names m).talks → IsLabelledYes cap m
run_talks cap names m of may = by_verdict (verdict cap (lowered m)) (verdict_tells cap (lowered m) of.plain.good) may
  where
    by_verdict : (v : Verdict) → Tells cap (lowered m) v → (plan_on_verdict cap names (lowered m) (session (guide_turn (map printed_name names) m (live_bounds (log_of (lowered m)))) (guide_ending m (live_bounds (log_of (lowered m)))) (yes_line (load_of (lowered m))) (guide_begun (count m.base))) v).talks → IsLabelledYes cap m
    by_verdict (Yes load) tells is = (of.same.consistent.1 tells.0, tells.1)
    by_verdict (No load) tells is = absurd is
    by_verdict IsFullVerdict tells is = absurd is

pub network_reads : (verb : NetworkVerb) (asked : AskedFile) (cap : ℕ) (contents : List (List ℕ)) → (plan_at (of_network verb asked cap) contents).talks → ReadsLive (of_network verb asked cap) contents
network_reads Check asked cap contents may = network_silent true (network_answer Check cap) (file_in contents) asked.deadline (λ names net is. is) may
network_reads Closed asked cap contents may = network_silent true (network_answer Closed cap) (file_in contents) asked.deadline (λ names net is. is) may
network_reads Tight asked cap contents may = network_silent true (network_answer Tight cap) (file_in contents) asked.deadline (λ names net is. is) may
network_reads Conflict asked cap contents may = network_silent false (network_answer Conflict cap) (file_in contents) asked.deadline (λ names net is. is) may
network_reads Tree asked cap contents may = network_silent false (network_answer Tree cap) (file_in contents) asked.deadline (λ names net is. is) may
network_reads Edit asked cap contents may =
    document_then (file_in contents) asked.deadline (λ names net. (network_answer Edit cap names net).talks) (λ names net. Unit {0}) (document_talks (network_answer Edit cap) (file_in contents) asked.deadline may) (λ names net of is. tt)

pub labelled_reads : (verb : LabelledVerb) (asked : AskedFile) (cap : ℕ) (contents : List (List ℕ)) → (plan_at (of_labelled verb asked cap) contents).talks → ReadsLive (of_labelled verb asked cap) contents
labelled_reads Follow asked cap contents may = talks_labelled (labelled_answer Follow cap) (file_in contents) asked.deadline (λ names m. Unit {0}) (λ names m of is. tt) may
labelled_reads Run asked cap contents may = talks_labelled (run_answer cap) (file_in contents) asked.deadline (λ names m. IsLabelledYes cap m) (run_talks cap) may
labelled_reads Cases asked cap contents may = talks_labelled (labelled_answer Cases cap) (file_in contents) asked.deadline (λ names m. ⊥) (λ names m of is. is) may
