use Rattle.std.proofs.Common.{refl, ap}
use Rattle.std.specs.Prelude.{Err}
use Rattle.cstn_net.specs.Read.{the_network}
use Rattle.cstn_conflict.proofs.Saying.{yes_blamed, no_blamed, full_blamed}
use Rattle.cstn_conflict.proofs.texts.conflict_text.Goals as goal

pub returns-in-Ok : goal.returns-in-Ok
returns-in-Ok c = record {
  said =
      no_blamed c.args.cap.entries c.args.names.now (the_network c.args.network) c.requires.well_formed c.in-Ok.conflict.ids c.in-Ok.conflict.refutation
      c.conflict_said.result (c.in-Ok.ensures.refused refl) c.in-Ok.ensures.ids c.in-Ok.ensures.refutation c.conflict_said.ensures.said;
}

pub returns-in-Err-Consistent : goal.returns-in-Err-Consistent
returns-in-Err-Consistent c = record {
  said =
      yes_blamed c.args.cap.entries c.args.names.now (the_network c.args.network) c.requires.well_formed c.in-Err-Consistent.load c.consistent.result
      (c.in-Err-Consistent.ensures.consistent c.in-Err-Consistent.load (ap Err c.in-Err-Consistent.field-0-is)) c.consistent.ensures.said;
}

pub returns-in-Err-Full : goal.returns-in-Err-Full
returns-in-Err-Full c = record {
  said =
      full_blamed c.args.cap.entries c.args.names.now (the_network c.args.network) c.requires.well_formed c.full.result
      (c.in-Err-Full.ensures.full (ap Err c.in-Err-Full.field-0-is)) c.full.ensures.said;
}
