use Rattle.std.proofs.Common.{◌≡◌, sym, subst}
use Rattle.std.specs.Prelude.{IfOk}
use Rattle.std.proofs.lemmas.Result.{IfOk-weaker}
use Rattle.cstn_follow.specs.Answers.{TellsOutlook}
use Rattle.cstn_follow.specs.Following.{says}
use Rattle.cstn_follow.specs.Questions.{on_next}
use Rattle.cstn_follow.specs.Read.{FollowingParts, IsFollowing, following_of, the_following}
use Rattle.cstn_follow.specs.declared.answers.Outlook.{Outlook}
use Rattle.cstn_follow.proofs.Lines.{verdict_is}
use Rattle.cstn_follow.proofs.WhatIsNext.{moment_said, finish_said}
use Rattle.cstn_follow.proofs.following.Following.next.Goals as goal

pub returns-in-Next : goal.returns-in-Next
returns-in-Next c =
    let w = c.self.inside in
    let f = following_of w.session w.names w.lines in
    let good = subst (λ (v : FollowingParts). IsFollowing v) (sym c.self.view_is) c.is_in_order.ensures.following in
    let told = subst (λ (o : Outlook). TellsOutlook w.session o) c.in-Next.is c.in_ok-next.ensures.told in
    let can = verdict_is w.names w.lines w.session _ good.session told.0.1 in
    record {
      says = subst (λ (v : FollowingParts). IfOk c.next_line.result (λ text. on_next (the_following v) ≡ says text.items (the_following v))) c.self.view_is
          (IfOk-weaker c.next_line.result _ _ (λ text is. moment_said (the_following f) told.0.0 can text.items c.in-Next.next told.1 is) c.next_line.ensures.line);
    }

pub returns-in-Finished : goal.returns-in-Finished
returns-in-Finished c =
    let w = c.self.inside in
    let f = following_of w.session w.names w.lines in
    let good = subst (λ (v : FollowingParts). IsFollowing v) (sym c.self.view_is) c.is_in_order.ensures.following in
    let told = subst (λ (o : Outlook). TellsOutlook w.session o) c.in-Finished.is c.in_ok-next.ensures.told in
    let can = verdict_is w.names w.lines w.session _ good.session told.0.1 in
    record {
      says = subst (λ (v : FollowingParts). IfOk c.word_line.result (λ text. on_next (the_following v) ≡ says text.items (the_following v))) c.self.view_is
          (IfOk-weaker c.word_line.result _ _ (λ text is. finish_said (the_following f) told.0.0 can text.items told.1 is) c.word_line.ensures.line);
    }
