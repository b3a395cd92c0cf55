use Rattle.std.proofs.Common.{◌≡◌, sym, subst, ap, ◌∙◌, arith, ◌-ℤ◌, w32, to_z, of_z}
use Rattle.std.proofs.lemmas.Int.{ints}
use Rattle.std.proofs.lemmas.Bool.{eqb-true, eq-eqb, both_ways}
use Rattle.cstn_label.specs.Labels.{IsPlain}
use Rattle.cstn_label.specs.Read.{marks, the_bound}
use Rattle.std.proofs.lemmas.List.Elements.{All-contains}
use Rattle.cstn_net.specs.Networks.{IsConstraint}
use Rattle.cstn_net.specs.Read.{the_network, the_constraint}
use Rattle.cstn_rules.specs.Rules.{finished}
use Rattle.cstn_rules.proofs.Sound.{chain_in_strategy}
use Rattle.cstn_rules.proofs.Shapes.{chain_within, limit_small, same_bound}
use Rattle.cstn_rules.proofs.rules.chain.Goals as goal
use Rattle.cstn_rules.proofs.rules.chain.Goals.{else-eq-via-then-eq+else-is_plain, else-eq-via-else-eq}

pub overflow_sub-carried : goal.overflow_sub-carried
overflow_sub-carried c =
    let small = limit_small (the_network c.args.net.now) c.args.b.now.node.0 c.is_in_range.ensures.network in
    let low = c.requires.bound.low in
    let high = c.requires.bound.high in
    let least = c.is_in_range.ensures.range.value.0 in
    let most = c.is_in_range.ensures.range.value.1 in
    omega (arith, ints)

pub returns-then-is_plain-clause-chain : goal.returns-then-is_plain-clause-chain
returns-then-is_plain-clause-chain c =
    let same = c.join-label.ensures.join in
    let together = subst IsPlain same (c.is_plain.ensures.plain.0 c.if-is_plain.true) in
    let small = limit_small (the_network c.args.net.now) c.args.b.now.node.0 c.is_in_range.ensures.network in
    let low = c.requires.bound.low in
    let high = c.requires.bound.high in
    let first = c.is_in_range.ensures.range.value.0 in
    let second = c.is_in_range.ensures.range.value.1 in
    let least : to_z w32 (of_z w32 (to_z w32 (of_z w32 c.args.b.now.least) -ℤ to_z w32 (of_z w32 c.args.c.now.most))) ≡ (c.args.b.now.least -ℤ c.args.c.now.most) = omega (arith, ints) in
    record {
      at = eqb-true _ _ (sym c.eq.ensures ∙ c.if-eq.true);
      plain = (c.joined_is_the_least_above.ensures.plain (marks c.args.b.now.label) (marks c.args.c.now.label) together).0;
      together = together;
      gives = c.finish.ensures ∙ ap (finished (the_network c.args.net.now)) (same_bound _ _ _ _ _ least same);
    }

pub returns-then-is_plain-clause-range : goal.returns-then-is_plain-clause-range
returns-then-is_plain-clause-range c = (chain_within (the_network c.args.net.now) (the_constraint c.args.c.now)
    (the_bound c.args.b.now) (the_bound c.finish.result) (All-contains (IsConstraint (the_network c.args.net.now)) (the_network c.args.net.now).constraints (the_constraint c.args.c.now) c.is_in_range.ensures.network.network.constraints c.is_in_range.ensures.constraint) (returns-then-is_plain-clause-chain c)).1

pub returns-then-is_plain-clause-sound : goal.returns-then-is_plain-clause-sound
returns-then-is_plain-clause-sound c table strategy holds =
    chain_in_strategy (the_network c.args.net.now) table (the_constraint c.args.c.now) (the_bound c.args.b.now)
    (the_bound c.finish.result) c.is_in_range.ensures.network.network strategy c.is_in_range.ensures.constraint
    (returns-then-is_plain-clause-chain c) holds

pub returns-else-eq-clause-none : goal.returns-else-eq-clause-none
returns-else-eq-clause-none c r chain =
    elim c.else-eq.branch [
      | else-eq-via-then-eq+else-is_plain w ↦
          let together = subst IsPlain (sym c.join-label.ensures.join) chain.together in
          both_ways _ w.if-is_plain.false (w.is_plain.ensures.plain.1 together)
      | else-eq-via-else-eq w ↦ both_ways _ w.if-eq.false (c.eq.ensures ∙ eq-eqb _ _ chain.at)
    ]
