use Rattle.std.proofs.Common.{◌≡◌, ◌∷◌, [], ◌++◌, ◌∙◌, ap, sym, subst, rules, None}
use Rattle.cstn_label.specs.Labels.{Label}
use Rattle.cstn_label.specs.Letters.{letter_of}
use Rattle.cstn_label.specs.Read.{marks}
use Rattle.cstn_sentences.specs.Printed.{spaced_words, said_words}
use Rattle.cstn_sentences.specs.Sentences.{asserted}
use Rattle.cstn_sentences.proofs.WrittenLabels.{label_none, joint_none, label_more, joint_next, label_same, joint_same}
use Rattle.cstn_sentences.proofs.printed.push_label.Goals.{in-Some+in_ok-push_literal, in_default}
use Rattle.cstn_sentences.proofs.printed.push_label.Goals as goal

pub loop-index-init : goal.loop-index-init
loop-index-init c = record { text = label_none (marks c.args.label) c.args.text.now.items; joint = joint_none (marks c.args.label) }

pub loop-index-preserved : goal.loop-index-preserved
loop-index-preserved c =
    let a : Label = marks c.args.label in
    let at : c.unwrap-p.result.index ≡ c.loop-index.index = search rules in
    let mark : c.asserted.result ≡ asserted (a c.loop-index.index) = c.asserted.ensures ∙ ap asserted (c.mark.ensures.mark ∙ ap a at) in
    elim c.match-asserted.branch [
      | in-Some+in_ok-push_literal w ↦
          let some = sym mark ∙ w.in-Some.is in
          let put = subst (λ k. w.push_literal.new.text.items ≡ c.loop-index.text.items ++ spaced_words (c.loop-index.joint.now ∷ said_words w.in-Some.holds (letter_of k ∷ []))) at w.in_ok-push_literal.ensures in
          rw (w.text-is, w.joint-is) record {
            text = label_more a c.loop-index.index w.in-Some.holds c.args.text.now.items c.loop-index.text.items _ c.loop-index.joint.now some c.loop-index.invariant.text c.loop-index.invariant.joint put;
            joint = joint_next a c.loop-index.index w.in-Some.holds some;
          }
      | in_default w ↦
          let none : asserted (a c.loop-index.index) ≡ None = sym mark ∙ w.in_default.is in
          rw (w.text-is, w.joint-is) record {
            text = label_same a c.loop-index.index c.args.text.now.items c.loop-index.text.items none c.loop-index.invariant.text;
            joint = joint_same a c.loop-index.index c.loop-index.joint.now none c.loop-index.invariant.joint;
          }
    ]
