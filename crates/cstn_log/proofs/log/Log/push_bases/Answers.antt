use Rattle.std.proofs.Common.{◌≡◌, ◌∙◌, length, ap, arith}
use Rattle.std.proofs.lemmas.List.{length-map}
use Rattle.cstn_rules.specs.Read.{the_entry}
use Rattle.cstn_log.specs.Entries.{State}
use Rattle.cstn_log.proofs.BornLemmas.{pushed_born, pushed_base}
use Rattle.cstn_log.proofs.DerivedLemmas.{bases_uncovered, length_bases, ok_unless}
use Rattle.cstn_log.proofs.log.Log.push_bases.Goals as goal

pub push-requires-clause-uncovered : goal.push-requires-clause-uncovered
push-requires-clause-uncovered c =
    let node = ap (λ b. b.node) c.base_entry.ensures.bound in
    bases_uncovered c.loop-node.node c.loop-node.self.entries c.base_entry.result.bound c.loop-node.invariant.entries (omega (arith, node))

pub unwrap-requires : goal.unwrap-requires
unwrap-requires c =
    let loop = c.loop-node.invariant in
    let size : length c.loop-node.self.entries ≡ c.loop-node.node = omega (arith, ap length loop.entries, length_bases c.loop-node.node, length-map c.loop-node.self.entries the_entry) in
    ok_unless c.push.result (λ full. omega (arith, c.push.ensures.full.0 full, size, loop.cap, loop.end, c.requires.room, c.loop-node-test.true))

pub loop-node-preserved : goal.loop-node-preserved
loop-node-preserved c =
    let loop = c.loop-node.invariant in
    let size : length c.loop-node.self.entries ≡ c.loop-node.node = omega (arith, ap length loop.entries, length_bases c.loop-node.node, length-map c.loop-node.self.entries the_entry) in
    let pushed = c.push.ensures.pushed (ok_unless c.push.result (λ full. omega (arith, c.push.ensures.full.0 full, size, loop.cap, loop.end, c.requires.room, c.loop-node-test.true))) in
    record {
      end = loop.end;
      entries = pushed_base c.loop-node.self c.push.new.self c.base_entry.result c.loop-node.node pushed loop.entries c.base_entry.ensures.bound c.base_entry.ensures.why;
      cap = ap (λ (s : State). s.cap) pushed.1 ∙ loop.cap;
      nodes = ap (λ (s : State). s.nodes) pushed.1 ∙ loop.nodes;
      ids = pushed_born c.loop-node.self c.push.new.self c.base_entry.result c.args.self.now.births c.loop-node.node pushed loop.births loop.ids;
      births = omega (arith, ap (λ (s : State). s.births) pushed.1, loop.births);
      derivation = c.push.ensures.derivation loop.derivation;
    }
