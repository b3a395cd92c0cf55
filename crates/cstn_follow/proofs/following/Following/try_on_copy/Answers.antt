use Rattle.std.proofs.Common.{◌≡◌, true, sym, ◌∙◌}
use Rattle.std.proofs.lemmas.Result.{IfOk-weaker}
use Rattle.cstn_follow.specs.Following.{Following}
use Rattle.cstn_follow.specs.Read.{the_following, the_heard}
use Rattle.cstn_follow.specs.Trials.{the_triable, on_try}
use Rattle.cstn_follow.proofs.Trying.{try_said, said_as_is}
use Rattle.cstn_follow.proofs.following.Following.try_on_copy.Goals as goal

pub returns-then-replans : goal.returns-then-replans
returns-then-replans c =
    let self = c.args.self.now in
    let new = c.answer_triable.new.self in
    let s : Following = the_following self in
    let line = the_triable c.args.line in
    let first = try_said self c.in_ok-copy.copy new line true c.in_ok-heard.heard c.in_ok-copy.ensures.same c.in_ok-heard.ensures.heard
    (sym c.if-replans.true ∙ c.is_replanning-replans.ensures) in
    record {
      heard = IfOk-weaker c.verdict_unless_refused.result _ (λ h. on_try s line ≡ the_heard self h)
          (λ h here. first ∙ here s ∙ said_as_is self new h) c.verdict_unless_refused.ensures.heard;
    }
