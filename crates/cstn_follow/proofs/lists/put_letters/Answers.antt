use Rattle.std.proofs.Common.{[], ◌∷◌, ◌++◌, ap, ◌∙◌}
use Rattle.cstn_follow.proofs.Listed.{letters_turn}
use Rattle.cstn_follow.proofs.lists.put_letters.Goals as goal

pub loop-p-preserved : goal.loop-p-preserved
loop-p-preserved c = letters_turn c.args.props.now c.args.text.now.items c.loop-p.text.items c.push.new.self.items c.loop-p.p-index c.p-item.result c.loop-p-test.true c.p-item.is
    c.loop-p.invariant (c.in_ok-push.ensures.items ∙ ap (λ b. c.loop-p.text.items ++ b ∷ []) c.letter.ensures.letter)
