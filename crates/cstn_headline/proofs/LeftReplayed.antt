-- The refutation of what is left is accepted by a replay on the document of what is left.
use Rattle.std.proofs.Common.{ℕ, ◌≡◌, ◌+◌, ◌<◌, ◌≤◌, ◌^◌, false, List, [], ◌∷◌, ◌++◌, length, Option, None, Some, arith, sym, subst, ap, ◌∙◌}
use Rattle.std.specs.Prelude.{Result, Ok, IsSomeAnd, nat_lt, slice_get, codes}
use Rattle.std.proofs.lemmas.List.{append_cancel_right}
use Rattle.std.proofs.lemmas.List.Elements.{All-weaker}
use Rattle.cstn_net.specs.Limits.{most_constraints, most_load}
use Rattle.cstn_net.specs.Networks.{Network, Constraint, IsWellFormed, Observes, count}
use Rattle.cstn_text.specs.Names.{AreNames}
use Rattle.cstn_lift.specs.Labelled.{Labelled}
use Rattle.cstn_lift.specs.Lowered.{lowered, full_constraints, guards}
use Rattle.cstn_lift.specs.WellFormed.{IsLabelled}
use Rattle.cstn_lift.proofs.WellFormed.{lowered_well_formed}
use Rattle.cstn_element.specs.Results.{Refusal as DocumentRefusal}
use Rattle.cstn_graphml.specs.Document.{Parts, document}
use Rattle.cstn_graphml.specs.Networks.{labelled_of, IsFit}
use Rattle.cstn_save.specs.Canonical.{canonical}
use Rattle.cstn_save.specs.ReadBack.{parts}
use Rattle.cstn_save.specs.Names.{AreNamesOf}
use Rattle.cstn_log.specs.Cuts.{last_with_ancestors}
use Rattle.cstn_check.specs.Growth.{log_of}
use Rattle.cstn_check.specs.declared.verdicts.Verdict.{Verdict}
use Rattle.cstn_check.specs.declared.verdicts.Verdict.TheVariants.{No}
use Rattle.cstn_check.proofs.Deciding.{Tells, verdict_tells}
use Rattle.cstn_refute.specs.Texts.{refutation_shown}
use Rattle.cstn_request.specs.Requests.{AskedFile, replay}
use Rattle.cstn_reply.specs.Texts.{line}
use Rattle.cstn_reply.specs.Sessions.{Turn, more, last, wrong}
use Rattle.cstn_reply.specs.Reached.{state_after}
use Rattle.cstn_request.specs.Limits.{most_document}
use Rattle.cstn_request.specs.Documents.{parts_read, HasLabelled}
use Rattle.cstn_follow.specs.Following.{Following, begun_following, left_now, names_left, verdict_now}
use Rattle.cstn_follow.specs.Hearing.{counted}
use Rattle.cstn_follow.specs.Marks.{Marked, begun_marked, marked_by}
use Rattle.cstn_follow.specs.Questions.{check_after}
use Rattle.cstn_follow.proofs.Asked.{no_load}
use Rattle.cstn_follow.proofs.GoesOn.{left_says, left_labelled}
use Rattle.cstn_headline.specs.Accepted.{IsAccepted, IsNoText}
use Rattle.cstn_request.specs.declared.words.TextVerb.TheVariants.{Replay}
use Rattle.cstn_top.specs.Answers.{of_lowered}
use Rattle.cstn_top.specs.Dispatch.{text_answer, plan_at}
use Rattle.cstn_top.specs.commands.Follow.{marked_turn}
use Rattle.cstn_top.proofs.FollowedDocuments.{small_numbers}
use Rattle.cstn_follow.proofs.MarkedStates.{IsOnPoints, marked_points, marked_capped}
use Rattle.cstn_follow.proofs.States.{IsSound}
use Rattle.cstn_headline.proofs.LeftDocuments.{read_back, lowered_same, left_unseen, names_of_left}
use Rattle.cstn_headline.proofs.OneOutput.{OneJudgement}
use Rattle.cstn_headline.proofs.Replayed.{labelled_accepted}
use Rattle.cstn_headline.proofs.Standing.{NoAccepted}

-- what nothing observes has a reaction of 1 tick
abbrev pub AreUnseen : Network → Type 0
AreUnseen net = (p : ℕ) → ((x : ℕ) → Observes net x p → ⊥) → net.reaction p ≡ 1

-- documents of labelled networks are read back
pub record DocumentsBack : Type 0 where
  pub back : (m : Labelled) (names : List (List ℕ)) → IsLabelled m → AreNamesOf m.base names → document (canonical m names) None ≡ Ok (parts m names)
  pub fit : (m : Labelled) (names : List (List ℕ)) → IsLabelled m → IsWellFormed (lowered m) → IsFit (parts m names)

-- the text of an answer
abbrev pub text_of : {S : Type 0} → Turn S → List ℕ
text_of (more text next) = text
text_of (last said) = said.text
text_of wrong = []

not_longer : (n most : ℕ) → n ≤ most → nat_lt most n ≡ false
not_longer n most few = grind arith

-- a session on the same time-points, with their names, and those that were put behind them
pub record HasSamePoints (start s : Following) : Type 0 where
  pub each : length s.names ≡ count s.network.base
  pub names : AreNames start.names → AreNames s.names
  pub origin : slice_get s.names 0 ≡ slice_get start.names 0
  pub observed : (x p : ℕ) → Observes start.network.base x p → Observes s.network.base x p
  pub reaction : s.network.base.reaction ≡ start.network.base.reaction

pub points_kept : (start s : Following) → IsOnPoints start s → HasSamePoints start s
points_kept start s on = record { each = on.sound.named; names = on.names; origin = on.origin; observed = on.observed; reaction = on.reaction }

-- the state that lines lead to has names and what is unseen as at the start
module _ (start s : Following) (keeps : HasSamePoints start s) where
  pub named_still : AreNamesOf start.network.base start.names → AreNamesOf s.network.base s.names
  named_still named = record {
    named = keeps.names named.named;
    each = keeps.each;
    origin = keeps.origin ∙ named.origin;
  }

  pub unseen_still : AreUnseen start.network.base → AreUnseen s.network.base
  unseen_still unseen p none =
      ap (λ (f : ℕ → ℕ). f p) keeps.reaction
      ∙ unseen p (λ x o. none x (keeps.observed x p o))

module _ (one : OneJudgement) (no_text : NoAccepted) (backs : DocumentsBack) where
  -- a labelled network whose lowered network has none but small ids, after a no
  document_passes : (m : Labelled) (names : List (List ℕ)) (file text : List ℕ) → IsLabelled m → length (lowered m).constraints ≤ most_constraints → AreNamesOf m.base names → AreUnseen m.base
      → length (canonical m names) ≤ most_document → IsNoText names (lowered m) text
      → (asked : AskedFile) → asked.deadline ≡ None → IsAccepted (plan_at (replay asked file) (canonical m names ∷ text ∷ []))
  document_passes m names file text good few named unseen short passes asked plain =
      labelled_accepted one (of_lowered (text_answer Replay text)) (canonical m names) asked.deadline (not_longer (length (canonical m names)) most_document short)
      (subst (λ (d : Option ℕ). HasLabelled (canonical m names) d (λ ns l. IsAccepted (text_answer Replay text ns (lowered l)))) (sym plain)
      (subst (λ (parsed : Result Parts DocumentRefusal). IsSomeAnd (parts_read parsed) (λ ps. IsFit ps × IsAccepted (text_answer Replay text ps.names (lowered (labelled_of ps))))) (sym (backs.back m names good named)) (
        backs.fit m names good (lowered_well_formed m good few),
        λ answered. subst (λ (l : Labelled). IsNoText names (lowered l) text) (sym (read_back m names unseen)) (subst (λ (net : Network). IsNoText names net text) (sym (lowered_same m)) passes),
      )))

  -- after a no the refutation is accepted on the document of what is left
  pub left_passes : (s : Following) (load : ℕ) (file : List ℕ) → IsSound s → AreNamesOf s.network.base s.names → AreUnseen s.network.base → s.cap ≤ most_load → verdict_now s ≡ No load
      → length (canonical (left_now s) (names_left s)) ≤ most_document → (asked : AskedFile) → asked.deadline ≡ None
      → IsAccepted (plan_at (replay asked file) (canonical (left_now s) (names_left s) ∷ refutation_shown (names_left s) load (last_with_ancestors (log_of (lowered (left_now s)))) ∷ []))
  left_passes s load file sound named unseen capped refuted short asked plain =
      let is = sound.verdict ∙ ap Some refuted in
      let R = left_now s in
      let room = (left_says s.network s.history s.fresh s.cap (No load) is).0 in
      let good = left_labelled s.network s.history s.fresh s.cap (No load) is sound.labelled sound.timely sound.above in
      let well = lowered_well_formed R good room.lowered in
      let tells : Tells s.cap (lowered R) (No load) = subst (Tells s.cap (lowered R)) refuted (verdict_tells s.cap (lowered R) well) in
      let names = names_of_left s.network s.history s.fresh s.names named sound.labelled.base.network.origin in
      let ids = All-weaker (λ (c : Constraint). c.id < 2 ^ 31) (λ (c : Constraint). c.id < 2 ^ 32) (λ c low. omega (arith, low)) (lowered R).constraints
      (small_numbers 0 (full_constraints R ++ guards R) (omega (arith, room.lowered))) in
      document_passes R (names_left s) file (refutation_shown (names_left s) load (last_with_ancestors (log_of (lowered R)))) good room.lowered names (left_unseen s.network s.history s.fresh sound.labelled sound.timely.history unseen) short
      (subst (λ (n : ℕ). IsNoText (names_left s) (lowered R) (refutation_shown (names_left s) n (last_with_ancestors (log_of (lowered R))))) (sym (no_load s.cap load (lowered R) refuted))
      (no_text (names_left s) (lowered R) (lowered_well_formed R good room.lowered) names.named names.each ids (omega (arith, tells.1, capped)) tells.0))
      asked plain

  -- the answers to `check` and `rest`
  pub refutation_passes : (cap : ℕ) (names : List (List ℕ)) (m : Labelled) (lines : List (List ℕ)) (s t u : Marked) (load : ℕ) (text bytes file : List ℕ)
      (asked : AskedFile) → IsLabelled m → length (lowered m).constraints ≤ most_constraints → AreNamesOf m.base names → AreUnseen m.base → cap ≤ most_load
      → state_after marked_turn (begun_marked cap names m) 0 lines ≡ Some s → verdict_now s.now ≡ No load
      → marked_turn s (codes "check") ≡ more (text ++ line (codes "end")) t → marked_turn s (codes "rest") ≡ more bytes u
      → length bytes ≤ most_document → asked.deadline ≡ None → IsAccepted (plan_at (replay asked file) (bytes ∷ text ∷ []))
  refutation_passes cap names m lines s t u load text bytes file asked good few named unseen capped leads refuted checked left_is short plain =
      let on = (marked_points canonical cap names m s lines good few named.each leads).now in
      let fits = (marked_capped canonical cap names m s lines good few named.each capped leads).now.capped in
      let start = begun_following cap names m in
      let keeps = points_kept start s.now on in
      let said : text_of (marked_turn s (codes "check")) ≡ refutation_shown (names_left s.now) load (last_with_ancestors (log_of (lowered (left_now s.now)))) ++ line (codes "end") =
      ap (λ (v : Verdict). text_of (marked_by canonical (check_after (counted s.now) v) s.marks)) refuted in
      let text_is : refutation_shown (names_left s.now) load (last_with_ancestors (log_of (lowered (left_now s.now)))) ≡ text =
      append_cancel_right _ text (line (codes "end")) (sym said ∙ ap text_of checked) in
      let bytes_are : canonical (left_now s.now) (names_left s.now) ≡ bytes = ap text_of left_is in
      subst (λ (b : List ℕ). IsAccepted (plan_at (replay asked file) (b ∷ text ∷ []))) bytes_are
      (subst (λ (x : List ℕ). IsAccepted (plan_at (replay asked file) (canonical (left_now s.now) (names_left s.now) ∷ x ∷ []))) text_is
      (left_passes s.now load file on.sound (named_still start s.now keeps named) (unseen_still start s.now keeps unseen) fits refuted
      (subst (λ (b : List ℕ). length b ≤ most_document) (sym bytes_are) short) asked plain))
