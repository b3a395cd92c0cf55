use Rattle.cstn_label.specs.Read.{marks}
use Rattle.cstn_sentences.proofs.LabelTests.{within_tested}
use Rattle.cstn_sentences.proofs.writing.is_within.Goals as goal

pub returns : goal.returns
returns c = within_tested (marks c.args.a) (marks c.args.b) c.is_within.result (c.labels_are_their_marks.ensures.above c.args.a) c.is_within.ensures.within
