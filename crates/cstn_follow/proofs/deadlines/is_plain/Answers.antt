use Rattle.cstn_label.specs.Read.{marks}
use Rattle.cstn_next.proofs.Coming.{plain_same}
use Rattle.cstn_follow.proofs.deadlines.is_plain.Goals as goal

pub returns : goal.returns
returns c =
    let plain = c.is_plain.ensures.plain in
    plain_same (marks c.args.label) c.is_plain.result plain.0 plain.1 (c.labels_are_their_marks.ensures.above c.args.label)
