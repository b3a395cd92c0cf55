use Rattle.std.proofs.Common.{sym, subst, ap, ◌∙◌}
use Rattle.cstn_net.specs.Read.{the_network}
use Rattle.cstn_rules.specs.Closed.{IsClosed}
use Rattle.cstn_plan.specs.Asked.{AllSound}
use Rattle.cstn_check.specs.Checks.{CheckParts}
use Rattle.cstn_check.specs.Growth.{live_bounds}
use Rattle.cstn_check.proofs.Decides.{log_closed, log_sound}
use Rattle.cstn_check.proofs.VerdictLemmas.{held}
use Rattle.cstn_check.proofs.checks.Check.into_plan.Goals as goal

pub new-requires-clause-closed : goal.new-requires-clause-closed
new-requires-clause-closed c =
    let yes_is = held (the_network c.self.inside.net) c.self.inside.log c.self.inside.verdict _
    (ap (λ (s : CheckParts). s.verdict) c.self.view_is ∙ c.requires.yes.1) c.self.invariant.answered in
    subst (λ l. IsClosed (the_network c.self.inside.net) l) (sym (c.live_bounds-bounds.ensures.bounds ∙ ap live_bounds yes_is.2))
    (log_closed (the_network c.self.inside.net) c.network_is_well_formed.ensures.network c.network_is_well_formed.ensures.letters yes_is.3)

pub new-requires-clause-sound : goal.new-requires-clause-sound
new-requires-clause-sound c =
    let yes_is = held (the_network c.self.inside.net) c.self.inside.log c.self.inside.verdict _
    (ap (λ (s : CheckParts). s.verdict) c.self.view_is ∙ c.requires.yes.1) c.self.invariant.answered in
    subst (λ l. AllSound (the_network c.self.inside.net) l) (sym (c.live_bounds-bounds.ensures.bounds ∙ ap live_bounds yes_is.2))
    (log_sound (the_network c.self.inside.net) c.network_is_well_formed.ensures.network c.network_is_well_formed.ensures.letters)
