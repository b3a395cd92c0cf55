-- What is said of a further time-point, where the session that takes values put it in or refused it.
use Rattle.std.proofs.Common.{ℕ, ◌≡◌, ◌+◌, List, [], ◌∷◌, ◌++◌, Option, Some, None, sym, ap, ◌∙◌}
use Rattle.std.specs.Prelude.{codes}
use Rattle.std.specs.Option.{option_map}
use Rattle.cstn_lift.specs.Labelled.{Labelled}
use Rattle.cstn_lift.specs.Read.{the_labelled}
use Rattle.cstn_check.specs.declared.verdicts.Verdict.{Verdict}
use Rattle.cstn_history.specs.Histories.{History}
use Rattle.cstn_history.specs.Read.{the_history}
use Rattle.cstn_history.specs.Steps.{with_place}
use Rattle.cstn_history.proofs.FurtherPoint.{placed_same}
use Rattle.cstn_text.specs.Names.{number_of}
use Rattle.cstn_text.specs.PrintedNames.{printed_name}
use Rattle.cstn_reply.specs.Texts.{line}
use Rattle.cstn_follow.specs.Following.{Following, says, on_left_verdict, follows}
use Rattle.cstn_follow.specs.Read.{following_of, the_following}
use Rattle.cstn_follow.specs.Sessions.{SessionParts}
use Rattle.cstn_follow.specs.Stepping.{stepped_now, verdict_stepped, no_room_now, IsStepRefusal}
use Rattle.cstn_follow.specs.StepLines.{with_step, step_error_text, twice_refusal, step_refusal, step_unless, on_step}
use Rattle.cstn_follow.specs.Told.{IsSaidOfStep}
use Rattle.cstn_follow.specs.declared.errors.StepError.{StepError}
use Rattle.cstn_follow.specs.declared.errors.StepError.TheVariants.{EditLimit, NoPlace, TooManyConstraints, Memory}

-- a time-point has the name
pub twice_said : (s : Following) (name : List ℕ) (x : ℕ) (text : List ℕ) → Some x ≡ number_of s.names name
    → text ≡ line (twice_refusal s.names name x (s.history.done x)) → on_step s name ≡ says text s
twice_said s name x text found is =
    ap (λ o. step_unless s name (step_refusal s name o)) (sym found) ∙ ap (λ t. says t s) (sym is)

module _ (names : List (List ℕ)) (lines : ℕ) (name : List ℕ) (unknown : None ≡ number_of names name) (old : SessionParts) where
  abbrev s : Following
  s = the_following (following_of old names lines)

  by_room : (o : Option StepError) → no_room_now old ≡ o → on_step s name ≡ step_unless s name (option_map step_error_text o)
  by_room o room =
      ap (λ n. step_unless s name (step_refusal s name n)) (sym unknown)
      ∙ ap (λ e. step_unless s name (option_map step_error_text e)) room

  pub refused_said : (error : StepError) (text : List ℕ) → IsStepRefusal old error → IsSaidOfStep error text → on_step s name ≡ says text s
  refused_said EditLimit text why is = by_room (Some EditLimit) why ∙ ap (λ t. says t s) (sym is)
  refused_said NoPlace text why is = by_room (Some NoPlace) why ∙ ap (λ t. says t s) (sym is)
  refused_said TooManyConstraints text why is =
      by_room None why.0 ∙ ap (on_left_verdict s (with_step s name) (λ v. line (codes "step " ++ printed_name name))) why.1 ∙ ap (λ t. says t s) (sym is)
  refused_said (Memory e) text why is = absurd is

  pub stepped_said : (new : SessionParts) (v : Verdict) (text : List ℕ) → no_room_now old ≡ None → the_labelled new.network ≡ stepped_now old
      → new.history ≡ with_place old.history
      → new ≡ record old { network = new.network; history = new.history; edits = old.edits + 1; verdict = v } → verdict_stepped old ≡ Some v
      → text ≡ line (codes "step " ++ printed_name name) → on_step s name ≡ says text (the_following (following_of new (names ++ name ∷ []) lines))
  stepped_said new v text room network history others within is =
      by_room None room
      ∙ ap (on_left_verdict s (with_step s name) (λ w. line (codes "step " ++ printed_name name))) within
      ∙ ap (λ t. says t (with_step s name)) (sym is)
      ∙ ap (λ (l : Labelled). says text (record (with_step s name) { network = l })) (sym network)
      ∙ ap (λ (h : History). says text (record (with_step s name) { network = the_labelled new.network; history = h }))
      (sym (ap the_history history ∙ placed_same old.history))
      ∙ ap (λ (x : SessionParts). says text (the_following (following_of x (names ++ name ∷ []) lines))) (sym others)
