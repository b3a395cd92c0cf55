-- `closed FILE [--deadline N] [--cap CAP]`: the bounds that a yes rests on.
use Rattle.std.specs.Prelude.{ℕ, List}
use Rattle.cstn_net.specs.Networks.{Network}
use Rattle.cstn_check.specs.Growth.{log_of, load_of, live_bounds}
use Rattle.cstn_check.specs.Decisions.{on_verdict}
use Rattle.cstn_closed.specs.Texts.{closed_shown}
use Rattle.cstn_reply.specs.Texts.{Said}
use Rattle.cstn_reply.specs.declared.output.Outcome.TheVariants.{Good}

-- the load of a network, and the bounds of the live entries of its log
abbrev pub bounds_said : List (List ℕ) → Network → Said
bounds_said names net = record { outcome = Good; text = closed_shown names (load_of net) (live_bounds (log_of net)) }

-- what `closed` says of a network: these after yes
abbrev pub listed : ℕ → List (List ℕ) → Network → Said
listed cap names net = on_verdict cap names net (bounds_said names net)
