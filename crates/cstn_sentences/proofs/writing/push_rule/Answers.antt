use Rattle.cstn_label.specs.Read.{marks}
use Rattle.cstn_sentences.specs.NumbersSeen.{number_seen}
use Rattle.cstn_sentences.proofs.WrittenRules.{rule_put}
use Rattle.cstn_sentences.proofs.writing.push_rule.Goals as goal

pub returns : goal.returns
returns c =
    rule_put c.args.names.now c.args.x.0 c.args.says (number_seen c.args.y) (marks c.args.label) c.args.text.now.items _ _ _ _ _
    c.in_ok-push_name_of.ensures c.in_ok-push_says.ensures c.in_ok-push_since.ensures c.in_ok-push_label.ensures c.in_ok-push.ensures.items
