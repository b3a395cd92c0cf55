use Rattle.std.proofs.Common.{◌≡◌, sym, subst}
use Rattle.cstn_net.specs.Read.{NetworkParts, the_network}
use Rattle.cstn_net.specs.Strategies.{IsConsistent}
use Rattle.cstn_check.specs.Verdicts.{IsRefutationOf}
use Rattle.cstn_tight.specs.Evidence.{IsTightOf}
use Rattle.cstn_tight.proofs.AnswerLemmas.{full_tells, yes_tells, no_tells, same_net, not_ok}
use Rattle.cstn_tight.proofs.LeastLemmas.{least_upto}
use Rattle.cstn_tight.proofs.tight.least.Goals as goal

pub tight_of-requires-clause-consistent : goal.tight_of-requires-clause-consistent
tight_of-requires-clause-consistent c =
    let yes_is = yes_tells c.args.cap.entries c.args.net c.in_ok-check.check c.in_ok-check.ensures.start c.in-Yes.load ((c.run.ensures.exactly_yes c.in-Yes.load).0 c.in-Yes.is) in
    subst (λ (n : NetworkParts). IsConsistent (the_network n))
    (sym (same_net c.args.cap.entries c.args.net c.in_ok-check.check c.in_ok-check.ensures.start c.run.new.self c.run.result c.run.ensures.answered)) yes_is.1

pub returns-in_err-refutation-in-No-clause-refused : goal.returns-in_err-refutation-in-No-clause-refused
returns-in_err-refutation-in-No-clause-refused c ok =
    absurd (not_ok c.from_residual-in_err-refutation-in-No.result c.from_residual-in_err-refutation-in-No.ensures.0 ok)

pub returns-in_ok-tight_of-in-Yes : goal.returns-in_ok-tight_of-in-Yes
returns-in_ok-tight_of-in-Yes c =
    let yes_is = yes_tells c.args.cap.entries c.args.net c.in_ok-check.check c.in_ok-check.ensures.start c.in-Yes.load ((c.run.ensures.exactly_yes c.in-Yes.load).0 c.in-Yes.is) in
    let net = the_network c.args.net in
    let tight = subst (λ (n : NetworkParts). IsTightOf (the_network n) c.in_ok-tight_of-in-Yes.field-0)
    (same_net c.args.cap.entries c.args.net c.in_ok-check.check c.in_ok-check.ensures.start c.run.new.self c.run.result c.run.ensures.answered) c.in_ok-tight_of-in-Yes.ensures.tight in
    record {
      no = λ r is. absurd (cc);
      full = λ is. absurd (cc);
      bounded = λ is. absurd (cc);
      refused = λ ok. (yes_is.1, yes_is.0);
      tight = tight;
      upto = least_upto net c.in_ok-tight_of-in-Yes.field-0.deadline net.deadline tight.least yes_is.1;
    }

pub returns-in_ok-refutation-in-No-clause-no : goal.returns-in_ok-refutation-in-No-clause-no
returns-in_ok-refutation-in-No-clause-no c r told =
    let no_is = no_tells c.args.cap.entries c.args.net c.in_ok-check.check c.in_ok-check.ensures.start c.in-No.load ((c.run.ensures.exactly_no c.in-No.load).0 c.in-No.is) in
    let given = c.in_ok-refutation-in-No.ensures in
    let refuted : IsRefutationOf (the_network c.run.new.self.net) c.in_ok-refutation-in-No.field-0 =
    record { part = given.part; load = given.load; refutes = given.refutes; named = given.named; text = given.text } in
    let same : c.in_ok-refutation-in-No.field-0 ≡ r = cc in (
      no_is.0,
      no_is.1,
      subst (IsRefutationOf (the_network c.args.net)) same
          (subst (λ (n : NetworkParts). IsRefutationOf (the_network n) c.in_ok-refutation-in-No.field-0)
          (same_net c.args.cap.entries c.args.net c.in_ok-check.check c.in_ok-check.ensures.start c.run.new.self c.run.result c.run.ensures.answered) refuted),
    )

pub returns-in-Full-clause-full : goal.returns-in-Full-clause-full
returns-in-Full-clause-full c full = full_tells c.args.cap.entries c.args.net c.in_ok-check.check c.in_ok-check.ensures.start (c.run.ensures.full.0 c.in-Full.is)
