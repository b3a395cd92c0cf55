use Rattle.std.proofs.Common.{◌∙◌}
use Rattle.cstn_history.proofs.Begun.{all_taken}
use Rattle.cstn_history.proofs.histories.zeros.Goals as goal

pub returns : goal.returns
returns c = c.in_ok-resize.ensures.items ∙ all_taken c.args.count 0 c.in_ok-zeros.zeros.items _ c.in_ok-zeros.ensures.items c.in_ok-zeros.ensures.len
