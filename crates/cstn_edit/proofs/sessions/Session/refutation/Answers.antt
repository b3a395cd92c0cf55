use Rattle.std.proofs.Common.{◌<◌, arith, subst, ap, ◌∙◌}
use Rattle.std.specs.List.{All}
use Rattle.cstn_net.specs.Networks.{count}
use Rattle.cstn_net.specs.Read.{the_network}
use Rattle.cstn_log.specs.Entries.{the_entries}
use Rattle.cstn_rules.specs.declared.entries.Entry.{Entry}
use Rattle.cstn_edit.specs.Sessions.{EditSessionParts}
use Rattle.cstn_edit.proofs.RefutationLemmas.{last_refutes, kept_text, kept_steps, kept_named}
use Rattle.cstn_edit.proofs.sessions.Session.refutation.Goals as goal

pub new-requires : goal.new-requires
new-requires c =
    let net = the_network c.self.inside.net in
    let last = last_refutes net c.self.inside.log c.self.inside.last c.requires.no.0 c.requires.no.1
    (ap (λ (s : EditSessionParts). s.last) c.self.view_is ∙ c.requires.no.2) c.requires.no.3 c.self.invariant.0.refuted in
    record {
      steps = kept_steps net c.self.inside.log c.in_ok-steps.steps.items c.network_is_well_formed.ensures c.self.invariant.0.kept last
          c.len-load.ensures.all_new c.in_ok-steps.ensures.part (omega (arith, c.len-load.ensures.len, c.len-load.ensures.at_most, c.len-load.ensures.largest));
    }

pub returns-clause-named : goal.returns-clause-named
returns-clause-named c =
    let net = the_network c.self.inside.net in
    let last = last_refutes net c.self.inside.log c.self.inside.last c.requires.no.0 c.requires.no.1
    (ap (λ (s : EditSessionParts). s.last) c.self.view_is ∙ c.requires.no.2) c.requires.no.3 c.self.invariant.0.refuted in
    subst (λ (s : EditSessionParts). All (λ (e : Entry). e.bound.node.0 < count (the_network s.net)) c.new.result.steps) c.self.view_is
    (kept_named net c.self.inside.log c.new.result.steps c.network_is_well_formed.ensures c.self.invariant.0.kept last c.len-load.ensures.all_new
    (ap the_entries c.new.ensures.steps ∙ c.in_ok-steps.ensures.part))

pub returns-clause-text : goal.returns-clause-text
returns-clause-text c =
    let net = the_network c.self.inside.net in
    let last = last_refutes net c.self.inside.log c.self.inside.last c.requires.no.0 c.requires.no.1
    (ap (λ (s : EditSessionParts). s.last) c.self.view_is ∙ c.requires.no.2) c.requires.no.3 c.self.invariant.0.refuted in
    kept_text net c.self.inside.log c.new.result c.self.invariant.0.kept last (c.new.ensures.load ∙ c.len-load.ensures.len)
    (ap the_entries c.new.ensures.steps ∙ c.in_ok-steps.ensures.part) (omega (arith, c.len-load.ensures.len, c.len-load.ensures.at_most, c.len-load.ensures.largest))
