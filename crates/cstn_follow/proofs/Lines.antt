-- What is said to a line where the session that takes values did so.
use Rattle.std.proofs.Common.{ℕ, ◌≡◌, ◌++◌, List, Option, sym, ap, ◌∙◌}
use Rattle.std.specs.Prelude.{Result, Ok, Err, codes, decimal}
use Rattle.cstn_lift.specs.Labelled.{Labelled}
use Rattle.cstn_lift.specs.Read.{the_labelled}
use Rattle.cstn_check.specs.declared.verdicts.Verdict.{Verdict}
use Rattle.cstn_history.specs.declared.errors.RestError.{RestError}
use Rattle.cstn_history.specs.declared.errors.RestError.TheVariants.{TooManyConstraints as AreTooMany, Memory as OutOfMemory}
use Rattle.cstn_history.specs.Facts.{FactRefusal}
use Rattle.cstn_history.specs.Histories.{History}
use Rattle.cstn_history.specs.Read.{the_history}
use Rattle.cstn_change.specs.Changes.{EditedNetwork, Change, edited_by}
use Rattle.cstn_change.specs.ChangeLines.{accepted_text}
use Rattle.cstn_reply.specs.Texts.{line}
use Rattle.cstn_follow.specs.declared.errors.FollowError.{FollowError}
use Rattle.cstn_follow.specs.declared.errors.FollowError.TheVariants.{Refused, TooManyConstraints, Memory}
use Rattle.cstn_follow.specs.declared.errors.ReplanError.{ReplanError}
use Rattle.cstn_follow.specs.declared.errors.ReplanError.TheVariants.{Refused as IsRefusedEdit, TooManyConstraints as HasTooMany, Memory as RanOut}
use Rattle.cstn_follow.specs.Following.{Following, says, too_many, verdict_line, verdict_now, verdict_within, on_left_verdict}
use Rattle.cstn_follow.specs.FactLines.{on_result}
use Rattle.cstn_follow.specs.PlanLines.{replanned, on_refusal, on_edit, on_deadline}
use Rattle.cstn_follow.specs.Read.{following_of, the_following}
use Rattle.cstn_follow.specs.Replans.{Replans, MakesChange, edited_now, with_due}
use Rattle.cstn_follow.specs.Sessions.{SessionParts, IsSession, Records}
use Rattle.cstn_follow.specs.Told.{IsSaidOfFacts, IsSaidOfEdit, IsSaidOfReplan, IsUnmade}
use Rattle.cstn_follow.proofs.Edited.{within_is}
use Rattle.cstn_follow.proofs.Recording.{recorded_none, recorded_some}

-- ---- facts

-- where they aren't recorded, nothing has changed
pub refused_same : (told : Result History FactRefusal) (old new : SessionParts) (r : Result Verdict FollowError) → Records told old new r → IsUnmade r → new ≡ old
refused_same told old new (Ok v) records refused = absurd refused
refused_same told old new (Err (Refused e)) records refused = records.1
refused_same told old new (Err TooManyConstraints) records refused = records.1
refused_same told old new (Err (Memory e)) records refused = records

-- a call that is told facts keeps the network
pub records_network : (told : Result History FactRefusal) (old new : SessionParts) (r : Result Verdict FollowError) → Records told old new r → new.network ≡ old.network
records_network told old new (Ok v) records = ap (λ (s : SessionParts). s.network) records.1
records_network told old new (Err why) records = ap (λ (s : SessionParts). s.network) (refused_same told old new (Err why) records tt)

-- where an edit isn't made, nothing has changed
pub unmade_same : (e : EditedNetwork) (old new : SessionParts) (r : Result Verdict RestError) → Replans e old new r → IsUnmade r → new ≡ old
unmade_same e old new (Ok v) made unmade = absurd unmade
unmade_same e old new (Err AreTooMany) made unmade = made.1
unmade_same e old new (Err (OutOfMemory error)) made unmade = made

pub unchanged_same : (change : Change) (old new : SessionParts) (r : Result Verdict ReplanError) → MakesChange change old new r → IsUnmade r → new ≡ old
unchanged_same change old new (Ok v) made unmade = absurd unmade
unchanged_same change old new (Err (IsRefusedEdit error)) made unmade = made.1
unchanged_same change old new (Err HasTooMany) made unmade = made.1.1
unchanged_same change old new (Err (RanOut error)) made unmade = made

-- the time-points are as they were
abbrev pub points_of : SessionParts → List (Option ℕ)
points_of s = (the_labelled s.network).base.observes

pub replan_keeps : (e : EditedNetwork) (old new : SessionParts) (r : Result Verdict RestError) → Replans e old new r → e.net.observes ≡ points_of old
    → points_of new ≡ points_of old
replan_keeps e old new (Ok v) made same = ap (λ (m : Labelled). m.base.observes) made.0 ∙ same
replan_keeps e old new (Err why) made same = ap points_of (unmade_same e old new (Err why) made tt)

pub change_keeps : (change : Change) (old new : SessionParts) (r : Result Verdict ReplanError) → MakesChange change old new r → points_of new ≡ points_of old
change_keeps change old new (Ok v) made = ap (λ (m : Labelled). m.base.observes) made.1.0
change_keeps change old new (Err why) made = ap points_of (unchanged_same change old new (Err why) made tt)

module _ (names : List (List ℕ)) (lines : ℕ) where
  -- the session of lines, by its session of values
  abbrev pub lines_of : SessionParts → Following
  lines_of s = the_following (following_of s names lines)

  -- its verdict is the one on what is left
  pub verdict_is : (s : SessionParts) (v : Verdict) → IsSession s → s.verdict ≡ v → verdict_now (lines_of s) ≡ v
  verdict_is s v good is = sym (within_is (lines_of s) s.verdict good.verdict) ∙ is

  pub facts_said : (told : Result History FactRefusal) (old new : SessionParts) (r : Result Verdict FollowError) (text : List ℕ) → Records told old new r
      → IsSaidOfFacts names new.cap r text → on_result (lines_of old) told ≡ says text (lines_of new)
  facts_said told old new (Ok v) text records said =
      ap (on_result (lines_of old)) records.0
      ∙ recorded_some (lines_of old) (the_history new.history) text v records.2 (said ∙ ap (λ (s : SessionParts). verdict_line s.cap v) records.1)
      ∙ ap (λ (s : SessionParts). says text (lines_of s)) (sym records.1)
  facts_said told old new (Err (Refused e)) text records said =
      ap (on_result (lines_of old)) records.0
      ∙ ap (λ t. says t (lines_of old)) (sym said)
      ∙ ap (λ (s : SessionParts). says text (lines_of s)) (sym records.1)
  facts_said told old new (Err TooManyConstraints) text records said =
      let later = records.0 in
      ap (on_result (lines_of old)) later.1
      ∙ recorded_none (lines_of old) later.0 text later.2 said
      ∙ ap (λ (s : SessionParts). says text (lines_of s)) (sym records.1)
  facts_said told old new (Err (Memory e)) text records said = absurd said

  -- ---- edits

  -- the network is put in the place of the other, and this is said
  replan_said : (e : EditedNetwork) (old new : SessionParts) (v : Verdict) (text said : List ℕ) → Replans e old new (Ok v) → said ≡ text
      → on_left_verdict (lines_of old) (replanned (lines_of old) e) (λ w. text) (verdict_within (replanned (lines_of old) e)) ≡ says said (lines_of new)
  replan_said e old new v text said made is =
      ap (on_left_verdict (lines_of old) (replanned (lines_of old) e) (λ w. text)) made.2
      ∙ ap (λ t. says t (replanned (lines_of old) e)) (sym is)
      ∙ ap (λ (m : Labelled). says said (record (lines_of old) { network = m; edits = e.edits; fresh = e.fresh })) (sym made.0)
      ∙ ap (λ (s : SessionParts). says said (lines_of s)) (sym made.1)

  -- or there would be too many constraints
  many_said : (e : EditedNetwork) (old new : SessionParts) (text said : List ℕ) → Replans e old new (Err AreTooMany) → said ≡ too_many
      → on_left_verdict (lines_of old) (replanned (lines_of old) e) (λ w. text) (verdict_within (replanned (lines_of old) e)) ≡ says said (lines_of new)
  many_said e old new text said made is =
      ap (on_left_verdict (lines_of old) (replanned (lines_of old) e) (λ w. text)) made.0
      ∙ ap (λ t. says t (lines_of old)) (sym is)
      ∙ ap (λ (s : SessionParts). says said (lines_of s)) (sym made.1)

  pub change_said : (change : Change) (old new : SessionParts) (r : Result Verdict ReplanError) (text : List ℕ) → MakesChange change old new r
      → IsSaidOfEdit (line (accepted_text old.fresh change)) r text → on_edit (lines_of old) (Ok change) ≡ says text (lines_of new)
  change_said change old new (Ok v) text made is =
      ap (on_refusal (lines_of old) change) made.0
      ∙ replan_said (edited_by (edited_now old) change) old new v (line (accepted_text old.fresh change)) text made.1 is
  change_said change old new (Err (IsRefusedEdit error)) text made is =
      ap (on_refusal (lines_of old) change) made.0
      ∙ ap (λ t. says t (lines_of old)) (sym is)
      ∙ ap (λ (s : SessionParts). says text (lines_of s)) (sym made.1)
  change_said change old new (Err HasTooMany) text made is =
      ap (on_refusal (lines_of old) change) made.0
      ∙ many_said (edited_by (edited_now old) change) old new (line (accepted_text old.fresh change)) text made.1 is
  change_said change old new (Err (RanOut error)) text made is = absurd is

  pub deadline_said : (deadline : ℕ) (old new : SessionParts) (r : Result Verdict RestError) (text : List ℕ) → Replans (with_due (edited_now old) deadline) old new r
      → IsSaidOfReplan (line (codes "deadline " ++ decimal deadline)) r text → on_deadline (lines_of old) deadline ≡ says text (lines_of new)
  deadline_said deadline old new (Ok v) text made is =
      replan_said (with_due (edited_now old) deadline) old new v (line (codes "deadline " ++ decimal deadline)) text made is
  deadline_said deadline old new (Err AreTooMany) text made is =
      many_said (with_due (edited_now old) deadline) old new (line (codes "deadline " ++ decimal deadline)) text made is
  deadline_said deadline old new (Err (OutOfMemory error)) text made is = absurd is
