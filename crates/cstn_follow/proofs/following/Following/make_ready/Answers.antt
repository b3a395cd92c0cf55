use Rattle.std.proofs.Common.{ℕ, ◌≡◌, sym, subst, ap, ◌∙◌}
use Rattle.std.specs.Prelude.{Result, Ok, IfOk, OnErr}
use Rattle.std.proofs.lemmas.Result.{IfOk-weaker, on_err_weaker}
use Rattle.cstn_net.specs.Networks.{count}
use Rattle.cstn_lift.specs.Read.{LabelledParts, the_labelled}
use Rattle.cstn_history.specs.Facts.{FactRefusal, ready_refusal, with_ready}
use Rattle.cstn_history.specs.Histories.{History}
use Rattle.cstn_history.specs.Read.{the_history}
use Rattle.cstn_follow.specs.FactLines.{unless_fact_refused, on_fact}
use Rattle.cstn_follow.specs.Following.{says}
use Rattle.cstn_follow.specs.Read.{FollowingParts, following_of, session_of, the_following}
use Rattle.cstn_follow.specs.Sessions.{SessionParts}
use Rattle.cstn_follow.proofs.Lines.{facts_said, records_network, refused_same}
use Rattle.cstn_follow.proofs.following.Following.make_ready.Goals as goal

abbrev told : SessionParts → ℕ → ℕ → Result History FactRefusal
told s t x = unless_fact_refused (ready_refusal (the_labelled s.network) (the_history s.history) t x) (Ok (with_ready (the_history s.history) t x))

pub invariant_of-self : goal.invariant_of-self
invariant_of-self c =
    let s = c.self.inside.session in
    let same = records_network (told s c.args.moment c.args.x.0) s c.make_ready-told.new.self c.make_ready-told.result c.make_ready-told.ensures.recorded in
    record {
      named = c.self.invariant.named ∙ ap (λ (l : LabelledParts). count (the_labelled l).base) (sym same);
      few_lines = c.self.invariant.few_lines;
    }

pub returns-clause-says : goal.returns-clause-says
returns-clause-says c =
    let w = c.self.inside in
    let next = c.make_ready-told.new.self in
    subst (λ (v : FollowingParts). IfOk c.answer_told.result (λ text.
    on_fact (the_following v) (ready_refusal (the_labelled (session_of v).network) (the_history (session_of v).history) c.args.moment c.args.x.0)
    (with_ready (the_history (session_of v).history) c.args.moment c.args.x.0)
    ≡ says text.items (the_following (following_of next w.names w.lines)))) c.self.view_is
    (IfOk-weaker c.answer_told.result _ _
    (λ text said. facts_said w.names w.lines (told w.session c.args.moment c.args.x.0) w.session next c.make_ready-told.result text.items c.make_ready-told.ensures.recorded said)
    c.answer_told.ensures.said)

pub returns-clause-same : goal.returns-clause-same
returns-clause-same c =
    let w = c.self.inside in
    let next = c.make_ready-told.new.self in
    subst (λ (v : FollowingParts). OnErr c.answer_told.result (following_of next w.names w.lines ≡ v)) c.self.view_is
    (on_err_weaker c.answer_told.result
    (λ refused. ap (λ (s : SessionParts). following_of s w.names w.lines) (refused_same (told w.session c.args.moment c.args.x.0) w.session next c.make_ready-told.result c.make_ready-told.ensures.recorded refused))
    c.answer_told.ensures.refused)
