use Rattle.std.proofs.Common.{◌≡◌, ap, sym, ◌∙◌}
use Rattle.cstn_net.specs.Read.{NetworkParts, the_network}
use Rattle.cstn_lift.specs.Read.{the_labelled}
use Rattle.cstn_sentences.specs.Sentences.{has_step}
use Rattle.cstn_sentences.proofs.WrittenRules.{steps_none, steps_more, steps_same}
use Rattle.cstn_sentences.proofs.writing.push_steps.Goals.{then-has_step+in_ok-push_step, else-has_step}
use Rattle.cstn_sentences.proofs.writing.push_steps.Goals as goal

pub loop-x-init : goal.loop-x-init
loop-x-init c = steps_none (the_labelled c.args.net.now) c.args.names.now c.args.text.now.items

pub loop-x-preserved : goal.loop-x-preserved
loop-x-preserved c =
    let tested : has_step (the_network c.args.net.now.base) c.loop-x.x ≡ c.has_step.result =
    sym (c.has_step.ensures ∙ ap (λ (n : NetworkParts). has_step (the_network n) c.loop-x.x) c.base-base.ensures.base) in
    elim c.if-has_step.branch [
      | then-has_step+in_ok-push_step w ↦
          rw w.text-is (steps_more (the_labelled c.args.net.now) c.args.names.now c.loop-x.x c.args.text.now.items c.loop-x.text.items _ (tested ∙ w.if-has_step.true) c.loop-x.invariant w.in_ok-push_step.ensures)
      | else-has_step w ↦
          rw w.text-is (steps_same (the_labelled c.args.net.now) c.args.names.now c.loop-x.x c.args.text.now.items c.loop-x.text.items (tested ∙ w.if-has_step.false) c.loop-x.invariant)
    ]
