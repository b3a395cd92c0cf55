use Rattle.std.proofs.Common.{sym, ap}
use Rattle.cstn_label.specs.Read.{marks, known_value}
use Rattle.cstn_history.specs.Read.{the_history}
use Rattle.cstn_history.proofs.Told.{allowed_is}
use Rattle.cstn_history.proofs.histories.History.allows.Goals as goal

pub returns : goal.returns
returns c = record {
  allows = allowed_is c.self.inside.told (the_history c.args.self.now) (marks c.args.label) c.possible.result
      (ap (λ v. known_value v.told) (sym c.self.view_is)) (c.labels_are_their_marks.ensures.above c.args.label) c.possible.ensures.possible;
}
