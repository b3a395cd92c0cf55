use Rattle.std.proofs.Common.{◌<◌, map, length, arith, sym, subst, ap, ◌∙◌}
use Rattle.std.specs.List.{All}
use Rattle.std.proofs.lemmas.List.{length-map}
use Rattle.cstn_net.specs.Networks.{count}
use Rattle.cstn_net.specs.Read.{NetworkParts, the_network}
use Rattle.cstn_rules.specs.declared.entries.Entry.{Entry}
use Rattle.cstn_rules.specs.Derivations.{IsRefutation}
use Rattle.cstn_rules.specs.Read.{the_entry}
use Rattle.cstn_log.specs.Cuts.{last_with_ancestors}
use Rattle.cstn_refute.specs.Refutations.{the_steps}
use Rattle.cstn_check.specs.Checks.{CheckParts}
use Rattle.cstn_check.specs.Growth.{log_of}
use Rattle.cstn_check.proofs.Bounded.{log_kept}
use Rattle.cstn_check.proofs.VerdictLemmas.{held}
use Rattle.cstn_check.proofs.PartLemmas.{log_refutation, part_steps, part_refutes, part_named, part_text}
use Rattle.cstn_check.proofs.checks.Check.refutation.Goals as goal

pub new-requires : goal.new-requires
new-requires c =
    let net = the_network c.self.inside.net in
    let good = c.network_is_well_formed.ensures in
    let no = held net c.self.inside.log c.self.inside.verdict _
    (ap (λ (s : CheckParts). s.verdict) c.self.view_is ∙ c.requires.no.1) c.self.invariant.answered in
    record {
      steps = part_steps net good (log_of net) (log_kept net good.network good.letters) c.in_ok-steps.steps.items
          (log_refutation net good no.3) (c.in_ok-steps.ensures.part ∙ ap last_with_ancestors no.2) (omega (arith, no.1, c.len-load.ensures.largest));
    }

pub returns-clause-refutes : goal.returns-clause-refutes
returns-clause-refutes c =
    let net = the_network c.self.inside.net in
    let good = c.network_is_well_formed.ensures in
    let no = held net c.self.inside.log c.self.inside.verdict _
    (ap (λ (s : CheckParts). s.verdict) c.self.view_is ∙ c.requires.no.1) c.self.invariant.answered in
    subst (λ (m : NetworkParts). IsRefutation (the_network m) (the_steps c.new.result)) (ap (λ (s : CheckParts). s.net) c.self.view_is)
    (part_refutes net (log_of net) (the_steps c.new.result) (log_refutation net good no.3)
    (ap (map the_entry) c.new.ensures.steps ∙ c.in_ok-steps.ensures.part ∙ ap last_with_ancestors no.2))

pub returns-clause-named : goal.returns-clause-named
returns-clause-named c =
    let net = the_network c.self.inside.net in
    let good = c.network_is_well_formed.ensures in
    let no = held net c.self.inside.log c.self.inside.verdict _
    (ap (λ (s : CheckParts). s.verdict) c.self.view_is ∙ c.requires.no.1) c.self.invariant.answered in
    subst (λ (m : NetworkParts). All (λ (e : Entry). e.bound.node.0 < count (the_network m)) c.new.result.steps)
    (ap (λ (s : CheckParts). s.net) c.self.view_is)
    (part_named net good (log_of net) (log_kept net good.network good.letters) c.new.result.steps
    (ap (map the_entry) c.new.ensures.steps ∙ c.in_ok-steps.ensures.part ∙ ap last_with_ancestors no.2))

pub returns-clause-text : goal.returns-clause-text
returns-clause-text c =
    let net = the_network c.self.inside.net in
    let good = c.network_is_well_formed.ensures in
    let no = held net c.self.inside.log c.self.inside.verdict _
    (ap (λ (s : CheckParts). s.verdict) c.self.view_is ∙ c.requires.no.1) c.self.invariant.answered in
    part_text net (log_of net) c.new.result (log_refutation net good no.3)
    (c.new.ensures.load ∙ c.len-load.ensures.len ∙ sym (length-map c.self.inside.log.entries the_entry) ∙ ap length no.2)
    (ap (map the_entry) c.new.ensures.steps ∙ c.in_ok-steps.ensures.part ∙ ap last_with_ancestors no.2)
    (omega (arith, no.1, c.len-load.ensures.largest))
