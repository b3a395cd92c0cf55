use Rattle.std.proofs.Common.{ℕ, map}
use Rattle.cstn_label.specs.Read.{the_bound}
use Rattle.cstn_net.specs.Read.{the_network}
use Rattle.cstn_rules.specs.Rules.{IsWait}
use Rattle.cstn_rules.specs.Read.{the_entry}
use Rattle.cstn_replay.proofs.SameLemmas.{concluded, none_of_all}
use Rattle.cstn_replay.proofs.StepLemmas.{wait_follows}
use Rattle.cstn_replay.proofs.steps.is_awaited.Goals as goal

pub returns : goal.returns
returns c =
    let net = the_network c.args.net.now in
    let seen = the_bound c.in-Some.seen in
    let b = the_bound c.in-Some-premise.premise in
    let given = concluded {P = λ q. (p : ℕ) × IsWait net p seen b q} c.labels_are_their_marks.ensures.equal c.wait-given.result c.args.bound c.wait-given.ensures.wait
    (none_of_all (λ p q. IsWait net p seen b q) c.wait-given.result c.wait-given.ensures.none)
    (λ q s one other. c.rules_have_one_conclusion.ensures.wait net one.0 other.0 seen b q s one.1 other.1) in
    let follows = wait_follows net (map the_entry c.args.steps.now) c.args.k c.args.i c.args.j seen b (the_bound c.args.bound)
    c.in-Some.ensures.earlier c.in-Some-premise.ensures.earlier in
    record {
      awaited = (
        λ t. follows.0 (given.0 (c.is_exactly.ensures.exactly.0 t)),
        λ f. c.is_exactly.ensures.exactly.1 (given.1 (follows.1 f)),
      );
    }
