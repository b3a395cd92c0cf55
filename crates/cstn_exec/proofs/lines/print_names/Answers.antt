use Rattle.std.proofs.Common.{arith}
use Rattle.cstn_exec.proofs.Names.{printed_more, all_short}
use Rattle.cstn_exec.proofs.lines.print_names.Goals as goal

pub loop-x-preserved : goal.loop-x-preserved
loop-x-preserved c = record { printed = printed_more c.args.names.now c.loop-x.x c.loop-x.printed.items c.push.new.self.items c.in_ok-print_name.field-0 c.name.result.now c.loop-x.invariant.printed c.in_ok-push.ensures.items c.in_ok-print_name.ensures.printed c.name.ensures.name }

pub returns-clause-short : goal.returns-clause-short
returns-clause-short c = all_short c.printed_names_are_short.ensures.most c.args.names.now c.loop-x.x c.loop-x.printed.items c.count-x-end.ensures.names c.loop-x.invariant.printed (omega (arith, c.loop-x-test.false, c.count-x-end.ensures.count, c.requires.few))
