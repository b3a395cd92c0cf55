use Rattle.cstn_sentences.proofs.WrittenRules.{rules_put}
use Rattle.cstn_sentences.proofs.writing.push_rules.Goals as goal

pub returns : goal.returns
returns c = rules_put c.args.names.now c.loop-left.left.now c.loop-left.text.items _ c.in_default.len_below c.loop-left.invariant.text
