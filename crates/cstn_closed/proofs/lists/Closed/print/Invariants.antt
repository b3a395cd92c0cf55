use Rattle.std.proofs.Common.{◌≡◌, take, map}
use Rattle.std.specs.Prelude.{string_bytes}
use Rattle.cstn_label.specs.Read.{the_bound}
use Rattle.cstn_closed.specs.Texts.{closed_shown}
use Rattle.cstn_closed.proofs.lists.Closed.print.Given as goal

abbrev pub invariant-loop-bound : goal.invariant-loop-bound
invariant-loop-bound l = string_bytes l.text ≡ closed_shown l.names l.self.load (map the_bound (take l.bound-index l.bounds))
