use Rattle.cstn_follow.specs.Read.{the_following}
use Rattle.cstn_follow.specs.Trials.{the_triable, on_try}
use Rattle.cstn_follow.proofs.Trying.{try_kept, kept_said}
use Rattle.cstn_follow.proofs.following.Following.try_line.Goals as goal

pub returns-clause-said : goal.returns-clause-said
returns-clause-said c =
    let line = the_triable c.args.line in
    kept_said c.args.self.now c.args.self.now (on_try (the_following c.args.self.now) line) c.try_any.result
    (try_kept c.args.self.now c.is_in_order.ensures.following line) c.try_any.ensures.heard
