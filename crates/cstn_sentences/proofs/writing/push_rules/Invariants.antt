use Rattle.std.proofs.Common.{◌≡◌, ◌++◌, All, length, map}
use Rattle.cstn_net.specs.Read.{the_network, the_constraint, IsInRange}
use Rattle.cstn_sentences.specs.Sentences.{rules_text}
use Rattle.cstn_sentences.proofs.writing.push_rules.Given as goal

abbrev pub invariant-loop-left : goal.invariant-loop-left
invariant-loop-left l = record {
  text : l.text.items ++ rules_text l.names (map the_constraint l.left) ≡ l.fn.text.items ++ rules_text l.names (the_network l.net).constraints;
  ranges : All (IsInRange (length l.names)) l.left;
}

abbrev pub decreases-loop-left : goal.decreases-loop-left
decreases-loop-left l = length l.left
