-- A check of the document of what is left tells whether what has happened can go on.
use Rattle.std.proofs.Common.{ℕ, ◌≡◌, ◌≤◌, List, [], ◌∷◌, length, Option, None, Some, sym, subst, ap, ◌∙◌, inl, inr}
use Rattle.std.specs.Prelude.{Result, IsSomeAnd, codes, ◌⊎◌}
use Rattle.cstn_net.specs.Limits.{most_constraints}
use Rattle.cstn_net.specs.Strategies.{IsConsistent}
use Rattle.cstn_lift.specs.Labelled.{Labelled}
use Rattle.cstn_lift.specs.Lowered.{lowered}
use Rattle.cstn_lift.specs.WellFormed.{IsLabelled}
use Rattle.cstn_lift.specs.Strategies.{IsLabelledConsistent}
use Rattle.cstn_lift.proofs.Equivalent.{equivalent}
use Rattle.cstn_element.specs.Results.{Refusal as DocumentRefusal}
use Rattle.cstn_graphml.specs.Document.{Parts}
use Rattle.cstn_graphml.specs.Networks.{labelled_of, IsFit}
use Rattle.cstn_save.specs.Canonical.{canonical}
use Rattle.cstn_save.specs.Names.{AreNamesOf}
use Rattle.cstn_history.specs.Continuations.{Can}
use Rattle.cstn_history.proofs.Decides.{can_both}
use Rattle.cstn_request.specs.Requests.{AskedFile, check}
use Rattle.cstn_reply.specs.Texts.{Said}
use Rattle.cstn_reply.specs.Sessions.{more}
use Rattle.cstn_reply.specs.Reached.{state_after}
use Rattle.cstn_reply.specs.declared.output.Outcome.{Outcome}
use Rattle.cstn_reply.specs.declared.output.Outcome.TheVariants.{Good, Bad, Document}
use Rattle.cstn_request.specs.Documents.{parts_read, HasLabelled, IsNoDocument}
use Rattle.cstn_follow.specs.Following.{Following, begun_following, left_now, names_left, verdict_now}
use Rattle.cstn_follow.specs.Marks.{Marked, begun_marked}
use Rattle.cstn_follow.proofs.GoesOn.{left_labelled}
use Rattle.cstn_follow.proofs.MarkedStates.{IsOnPoints, marked_points}
use Rattle.cstn_follow.proofs.States.{IsSound}
use Rattle.cstn_top.specs.Dispatch.{network_answer, plan_at}
use Rattle.cstn_top.specs.Verdicts.{IsLabelledYes}
use Rattle.cstn_headline.specs.Verdicts.{IsLabelledNo}
use Rattle.cstn_top.specs.commands.Follow.{marked_turn}
use Rattle.cstn_headline.proofs.LeftDocuments.{renumbered, read_back, lowered_same, left_unseen, names_of_left}
use Rattle.cstn_headline.proofs.LeftReplayed.{AreUnseen, DocumentsBack, text_of, points_kept, named_still, unseen_still}
use Rattle.cstn_top.specs.Answers.{of_lowered}
use Rattle.cstn_check.specs.Decisions.{checked}
use Rattle.cstn_request.specs.declared.words.NetworkVerb.TheVariants.{Check}
use Rattle.cstn_top.proofs.Documents.{labelled_says}
use Rattle.cstn_top.proofs.Labels.{labelled_then}
use Rattle.cstn_headline.proofs.Checks.{VerdictsLabelled, check_verdicts}

module _ (backs : DocumentsBack) where
  -- what holds of the document of a labelled network holds of it under other ids
  module _ (m : Labelled) (names : List (List ℕ)) (good : IsLabelled m) (named : AreNamesOf m.base names) (unseen : AreUnseen m.base) where
    of_document : (holds : Labelled → Type 0) (deadline : Option ℕ) → deadline ≡ None
        → HasLabelled (canonical m names) deadline (λ ns l. holds l) → IsLabelled (renumbered m) × holds (renumbered m)
    of_document holds deadline plain has =
        let at = subst (λ (d : Option ℕ). HasLabelled (canonical m names) d (λ ns l. holds l)) plain has in
        let parts_are = subst (λ (parsed : Result Parts DocumentRefusal). IsSomeAnd (parts_read parsed) (λ ps. IsFit ps × holds (labelled_of ps)))
        (backs.back m names good named) at in
        let back = read_back m names unseen in
        (subst IsLabelled back parts_are.0.labelled, subst holds back parts_are.1)

  consistent_back : (m : Labelled) → IsLabelled m → IsLabelled (renumbered m) → IsLabelledConsistent (renumbered m) → IsLabelledConsistent m
  consistent_back m good also consistent =
      (equivalent m good).consistent.1 (subst IsConsistent (lowered_same m) ((equivalent (renumbered m) also).consistent.0 consistent))

  consistent_on : (m : Labelled) → IsLabelled m → IsLabelled (renumbered m) → IsLabelledConsistent m → IsLabelledConsistent (renumbered m)
  consistent_on m good also consistent =
      (equivalent (renumbered m) also).consistent.1 (subst IsConsistent (sym (lowered_same m)) ((equivalent m good).consistent.0 consistent))

  module _ (cap : ℕ) (names : List (List ℕ)) (m : Labelled) (lines : List (List ℕ)) (t u : Marked) (bytes live : List ℕ) (asked : AskedFile) (checks : ℕ)
      (said : Said) (good : IsLabelled m) (few : length (lowered m).constraints ≤ most_constraints) (named : AreNamesOf m.base names) (unseen : AreUnseen m.base)
      (leads : state_after marked_turn (begun_marked cap names m) 0 lines ≡ Some t) (left_is : marked_turn t (codes "rest") ≡ more bytes u)
      (plain : asked.deadline ≡ None) (output : (plan_at (check asked checks) (bytes ∷ [])).output live said) where
    abbrev s : Following
    s = t.now

    on : IsOnPoints (begun_following cap names m) s
    on = (marked_points canonical cap names m t lines good few named.each leads).now

    sound : IsSound s
    sound = on.sound

    left_good : IsLabelled (left_now s)
    left_good = left_labelled s.network s.history s.fresh s.cap (verdict_now s) sound.verdict sound.labelled sound.timely sound.above

    bytes_are : canonical (left_now s) (names_left s) ≡ bytes
    bytes_are = ap text_of left_is

    -- what a check of the document says of what is left
    on_left : (holds : Labelled → Type 0) → HasLabelled bytes asked.deadline (λ ns l. holds l)
        → IsLabelled (renumbered (left_now s)) × holds (renumbered (left_now s))
    on_left holds has =
        let keeps = points_kept (begun_following cap names m) s on in
        let still = named_still (begun_following cap names m) s keeps named in
        let hidden = unseen_still (begun_following cap names m) s keeps unseen in
        of_document (left_now s) (names_left s) left_good
        (names_of_left s.network s.history s.fresh s.names still sound.labelled.base.network.origin)
        (left_unseen s.network s.history s.fresh sound.labelled sound.timely.history hidden) holds asked.deadline plain
        (subst (λ (b : List ℕ). HasLabelled b asked.deadline (λ ns l. holds l)) (sym bytes_are) has)

    -- the document isn't refused, and its check is right
    right : (o : Outcome) → said.outcome ≡ o → (o ≡ Document → ⊥) → HasLabelled bytes asked.deadline (λ ns l. VerdictsLabelled checks l o)
    right o is unrefused = subst (λ (x : Outcome). HasLabelled bytes asked.deadline (λ ns l. VerdictsLabelled checks l x)) is (by_said (labelled_says (of_lowered (network_answer Check checks)) bytes asked.deadline live said output))
      where
        by_said : ((said.outcome ≡ Document) × IsNoDocument bytes asked.deadline) ⊎ HasLabelled bytes asked.deadline (λ ns l. said ≡ checked checks ns (lowered l)) → HasLabelled bytes asked.deadline (λ ns l. VerdictsLabelled checks l said.outcome)
        by_said (inl refused) = absurd (unrefused (sym is ∙ refused.0))
        by_said (inr has) = labelled_then bytes asked.deadline (λ ns l. said ≡ checked checks ns (lowered l)) (λ ns l. VerdictsLabelled checks l said.outcome) has (check_verdicts checks said)

    pub checked_yes : said.outcome ≡ Good → Can s.network s.history
    checked_yes is =
        let both = on_left (IsLabelledYes checks) (right Good is (λ same. let f : ⊥ = cc in f)) in
        (can_both s.network s.history s.fresh sound.labelled sound.timely.history).1 (consistent_back (left_now s) left_good both.0 both.1.0)

    pub checked_no : said.outcome ≡ Bad → Can s.network s.history → ⊥
    checked_no is can =
        let both = on_left (IsLabelledNo checks) (right Bad is (λ same. let f : ⊥ = cc in f)) in
        both.1.0 (consistent_on (left_now s) left_good both.0
        ((can_both s.network s.history s.fresh sound.labelled sound.timely.history).0 can))
