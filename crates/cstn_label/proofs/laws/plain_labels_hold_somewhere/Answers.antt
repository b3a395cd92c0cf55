use Rattle.std.proofs.Common.{false}
use Rattle.cstn_label.proofs.LabelLemmas.{made_true, made_holds, plain_from_holds}
use Rattle.cstn_label.proofs.laws.plain_labels_hold_somewhere.Goals as goal

pub returns-clause-plain : goal.returns-clause-plain
returns-clause-plain c a = (
  (λ plain. (made_true a (λ p. false), made_holds a (λ p. false) plain)),
  (λ there. plain_from_holds there.0 a there.1),
)
