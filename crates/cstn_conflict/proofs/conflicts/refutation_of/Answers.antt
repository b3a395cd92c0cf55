use Rattle.std.proofs.Common.{◌≡◌, Some, arith, subst, ap, ◌∙◌}
use Rattle.cstn_net.specs.Read.{NetworkParts, the_network}
use Rattle.cstn_check.specs.Checks.{CheckParts}
use Rattle.cstn_check.specs.Verdicts.{IsRefutationOf}
use Rattle.cstn_conflict.proofs.ConflictLemmas.{started_no}
use Rattle.cstn_conflict.proofs.conflicts.refutation_of.Goals as goal

pub returns : goal.returns
returns c =
    let given = c.in_ok-refutation-in-No.ensures in
    let refutation : IsRefutationOf (the_network c.run.new.self.net) c.in_ok-refutation-in-No.refutation =
    record { part = given.part; load = given.load; refutes = given.refutes; named = given.named; text = given.text } in
    record {
      refutation = subst (λ (n : NetworkParts). IsRefutationOf (the_network n) c.in_ok-refutation-in-No.refutation)
          (ap (λ (k : CheckParts). k.net) c.run.ensures.answered ∙ ap (λ (k : CheckParts). k.net) c.in_ok-check.ensures.start) refutation;
    }

pub unreachable-requires : goal.unreachable-requires
unreachable-requires c =
    let told = started_no c.args.cap.entries c.args.net c.in_ok-check.check c.in_ok-check.ensures.start c.network_is_well_formed.ensures c.requires.no in
    told.1 ((c.run.ensures.exactly_yes c.in-Yes.load).0 c.in-Yes.is).2

pub unreachable-requires-in-Full : goal.unreachable-requires-in-Full
unreachable-requires-in-Full c =
    let told = started_no c.args.cap.entries c.args.net c.in_ok-check.check c.in_ok-check.ensures.start c.network_is_well_formed.ensures c.requires.no in
    let over = c.run.ensures.full.0 c.in-Full.is in
    let within = told.0 in
    omega arith
