use Rattle.cstn_label.specs.Read.{marks}
use Rattle.cstn_save.proofs.DocumentLemmas.{literals_none, literals_more}
use Rattle.cstn_save.proofs.escapes.push_literals.Goals as goal

pub loop-index-init : goal.loop-index-init
loop-index-init c = literals_none (marks c.args.label) c.args.text.now.items

pub loop-index-preserved : goal.loop-index-preserved
loop-index-preserved c = literals_more (marks c.args.label) c.loop-index.index c.args.text.now.items c.loop-index.text.items _ c.loop-index.invariant c.in_ok-push_literal.ensures
