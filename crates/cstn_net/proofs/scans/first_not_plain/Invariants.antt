use Rattle.std.proofs.Common.{take}
use Rattle.std.specs.List.{All}
use Rattle.cstn_label.specs.Labels.{IsPlain}
use Rattle.cstn_label.specs.Read.{marks}
use Rattle.cstn_net.proofs.scans.first_not_plain.Given as goal

abbrev pub invariant-loop-i : goal.invariant-loop-i
invariant-loop-i l = All (λ d. IsPlain (marks d.label)) (take l.i l.drafts)
