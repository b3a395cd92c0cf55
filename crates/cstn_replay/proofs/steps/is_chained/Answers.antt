use Rattle.std.proofs.Common.{map}
use Rattle.std.proofs.lemmas.List.Elements.{All-map, All-contains}
use Rattle.cstn_label.specs.Read.{the_bound}
use Rattle.cstn_net.specs.Networks.{Constraint}
use Rattle.cstn_net.specs.Read.{the_network, the_constraint}
use Rattle.cstn_rules.specs.Rules.{IsChain}
use Rattle.cstn_rules.specs.Read.{the_entry}
use Rattle.cstn_replay.proofs.SameLemmas.{concluded}
use Rattle.cstn_replay.proofs.StepLemmas.{chain_follows}
use Rattle.std.specs.Prelude.{◌≢◌}
use Rattle.cstn_facts.proofs.Members.{contains_map}
use Rattle.cstn_replay.proofs.steps.is_chained.Goals as goal

pub returns-in_default : goal.returns-in_default
returns-in_default c = record {
  chained = (
    λ t. cc,
    λ f. absurd (All-contains {X = Constraint} (λ d. d.id ≢ c.args.id) (map the_constraint c.args.net.now.constraints) f.0
        (All-map {X = Constraint} (λ d. d.id ≢ c.args.id) the_constraint c.args.net.now.constraints c.in_default.ensures.none) f.2 f.3),
  );
}

pub returns : goal.returns
returns c =
    let net = the_network c.args.net.now in
    let constraint = c.in-Some.constraint.now in
    let b = the_bound c.in-Some-premise.premise in
    let given = concluded {P = λ q. IsChain net (the_constraint constraint) b q} c.labels_are_their_marks.ensures.equal c.chain-given.result c.args.bound c.chain-given.ensures.chain
    c.chain-given.ensures.none (c.rules_have_one_conclusion.ensures.chain net (the_constraint constraint) b) in
    let follows = chain_follows net (map the_entry c.args.steps.now) c.args.k c.args.id c.args.i (the_constraint constraint) b (the_bound c.args.bound)
    c.network_is_well_formed.ensures.ascending
    (contains_map the_constraint c.args.net.now.constraints constraint c.in-Some.ensures.there) c.in-Some.ensures.id c.in-Some-premise.ensures.earlier in
    record {
      chained = (
        λ t. follows.0 (given.0 (c.is_exactly.ensures.exactly.0 t)),
        λ f. c.is_exactly.ensures.exactly.1 (given.1 (follows.1 f)),
      );
    }
