use Rattle.cstn_sentences.proofs.KeptPlans.{kept_plan}
use Rattle.cstn_sentences.proofs.reading.graph_of.Goals as goal

pub returns : goal.returns
returns c = kept_plan c.args.d c.args.m c.new.result.items c.truncate.new.self.items c.new.ensures.items c.truncate.ensures.items
