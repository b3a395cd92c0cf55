use Rattle.cstn_top.specs.commands.Drill.{large, large_cap}
use Rattle.cstn_top.proofs.Drills.{verdict_is}
use Rattle.cstn_top.proofs.commands.drill.large_verdict.Goals as goal

pub returns : goal.returns
returns c = record {
  verdict =
      verdict_is c.in_ok-net.net (large c.args.number) c.in_ok-check.check large_cap c.run.result c.in_ok-net.ensures.well_formed c.in_ok-net.ensures.network c.in_ok-check.ensures.start
      c.run.ensures.full c.run.ensures.no c.run.ensures.yes;
}
