use Rattle.std.proofs.Common.{take}
use Rattle.std.specs.List.{All}
use Rattle.cstn_net.specs.Networks.{IsValue}
use Rattle.cstn_net.proofs.scans.first_out_of_range.Given as goal

abbrev pub invariant-loop-i : goal.invariant-loop-i
invariant-loop-i l = All (λ d. IsValue d.most) (take l.i l.drafts)
