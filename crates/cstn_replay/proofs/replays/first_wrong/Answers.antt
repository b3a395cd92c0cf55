use Rattle.std.proofs.Common.{map, ◌<◌, arith, subst, sym}
use Rattle.std.proofs.lemmas.Bool.{both_ways}
use Rattle.std.proofs.lemmas.List.{length-map}
use Rattle.std.proofs.lemmas.Option.{slice_get_within}
use Rattle.cstn_net.specs.Read.{the_network}
use Rattle.cstn_rules.specs.Read.{the_entry}
use Rattle.cstn_replay.proofs.ReplayLemmas.{none_right, one_more}
use Rattle.cstn_replay.proofs.replays.first_wrong.Goals as goal

pub loop-k-init : goal.loop-k-init
loop-k-init c = none_right (the_network c.args.net.now) (map the_entry c.args.steps.now)

pub loop-k-preserved : goal.loop-k-preserved
loop-k-preserved c =
    one_more (the_network c.args.net.now) (map the_entry c.args.steps.now) c.loop-k.k c.loop-k.invariant
    (c.follows.ensures.follows.0 c.if-not-follows.false)

pub returns-then-not-follows-clause-some : goal.returns-then-not-follows-clause-some
returns-then-not-follows-clause-some c = record {
  inside = subst (λ n. c.loop-k.k < n) (sym (length-map c.args.steps.now the_entry)) c.loop-k-test.true;
  wrong = λ right. both_ways _ c.if-not-follows.true (c.follows.ensures.follows.1 right);
  before = c.loop-k.invariant;
}

pub returns-clause-none : goal.returns-clause-none
returns-clause-none c k e there =
    let within = slice_get_within (map the_entry c.args.steps.now) k e there in
    let inside = subst (λ n. k < n) (length-map c.args.steps.now the_entry) within in
    let past = c.loop-k-test.false in
    c.loop-k.invariant k (omega arith) e there
