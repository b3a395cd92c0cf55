use Rattle.cstn_tree.proofs.TreeLengths.{made_short}
use Rattle.cstn_tree.proofs.laws.made_texts_are_short.Goals as goal

pub returns : goal.returns
returns c = record {
  short = λ names load net bounds table are named low narrow wf plan. made_short names are net bounds table wf plan named load low narrow;
}
