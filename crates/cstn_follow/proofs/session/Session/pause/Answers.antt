use Rattle.std.proofs.Common.{◌≡◌, Bool, sym, subst, ap, ◌∙◌}
use Rattle.std.specs.Prelude.{if◌then◌else◌}
use Rattle.std.proofs.lemmas.Result.{IfOk-weaker}
use Rattle.cstn_lift.specs.Read.{the_labelled}
use Rattle.cstn_history.specs.Read.{the_history}
use Rattle.cstn_follow.specs.Pauses.{has_room_later, pause_by}
use Rattle.cstn_follow.specs.Sessions.{SessionParts}
use Rattle.cstn_follow.specs.declared.answers.Pause.TheVariants.{TooManyConstraints}
use Rattle.cstn_follow.proofs.session.Session.pause.Goals as goal

pub returns-then-not-branch : goal.returns-then-not-branch
returns-then-not-branch c =
    let a = c.args.self.now in
    let room = subst (λ (s : SessionParts). c.in_ok-has_room_later.field-0 ≡ has_room_later (the_labelled s.network) (the_history s.history) s.fresh) c.self.view_is
    c.in_ok-has_room_later.ensures.room in
    record {
      told = sym (ap (λ (b : Bool). if b then pause_by (the_labelled a.network) (the_history a.history) a.fresh a.cap a.verdict else TooManyConstraints)
          (sym room ∙ c.if-not-branch.true));
    }

pub returns : goal.returns
returns c =
    let a = c.args.self.now in
    let room = subst (λ (s : SessionParts). c.in_ok-has_room_later.field-0 ≡ has_room_later (the_labelled s.network) (the_history s.history) s.fresh) c.self.view_is
    c.in_ok-has_room_later.ensures.room in
    record {
      told = IfOk-weaker c.pause_by.result _ _
          (λ p is. is ∙ ap (pause_by (the_labelled a.network) (the_history a.history) a.fresh a.cap) c.verdict.ensures.verdict
          ∙ sym (ap (λ (b : Bool). if b then pause_by (the_labelled a.network) (the_history a.history) a.fresh a.cap a.verdict else TooManyConstraints)
          (sym room ∙ c.if-not-branch.false)))
          c.pause_by.ensures.told;
    }
