use Rattle.std.proofs.Common.{◌<◌, ◌≤◌, length, arith}
use Rattle.cstn_facts.proofs.Options.{in_any_case}
use Rattle.cstn_text.proofs.PrintedNameLemmas.{none_first, too_long}
use Rattle.cstn_text.proofs.printed_names.unprinted.Goals as goal

pub returns-in_err-b-clause-none : goal.returns-in_err-b-clause-none
returns-in_err-b-clause-none c =
    let some : 0 < length c.loop-left.left.now = grind arith in
    in_any_case c.from_residual.result
    (none_first c.args.bytes.now c.loop-left.text.items c.loop-left.left.now c.loop-left.invariant some c.in_err-b.ensures.none)

pub returns-then-is_full-clause-none : goal.returns-then-is_full-clause-none
returns-then-is_full-clause-none c =
    let some : 0 < length c.loop-left.left.now = grind arith in
    let full : 64 ≤ length c.loop-left.text.items = grind arith in
    too_long c.args.bytes.now c.loop-left.text.items c.loop-left.left.now c.loop-left.invariant some full
