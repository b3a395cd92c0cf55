-- What a check answers.
use Rattle.std.specs.Prelude.{List}
use Rattle.cstn_label.specs.Bounds.{Bound}
use Rattle.cstn_net.specs.Networks.{Network}
use Rattle.cstn_closed.specs.declared.answers.ClosedAnswer.{ClosedAnswer}
use Rattle.cstn_closed.specs.declared.answers.ClosedAnswer.TheVariants.{Accepted, Bad, NoBase, NoChain, NoWait}
use Rattle.cstn_closed.specs.Faults.{bad, no_base, no_chain, no_wait, IsFirstFault, IsFaultless}

-- the first fault is told, and a list is accepted where it has none
abbrev pub IsClosedAnswer : Network → List Bound → ClosedAnswer → Type 0
IsClosedAnswer net bounds Accepted = IsFaultless net bounds
IsClosedAnswer net bounds (Bad i) = IsFirstFault net bounds (bad i)
IsClosedAnswer net bounds (NoBase x) = IsFirstFault net bounds (no_base x.0)
IsClosedAnswer net bounds (NoChain id i) = IsFirstFault net bounds (no_chain id i)
IsClosedAnswer net bounds (NoWait i j) = IsFirstFault net bounds (no_wait i j)
