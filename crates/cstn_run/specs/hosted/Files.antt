-- The files of a host, made of networks.
use Rattle.std.specs.Prelude.{ℕ, List, map, flat_map}
use Rattle.cstn_net.specs.Networks.{Network}
use Rattle.cstn_check.specs.Growth.{log_of, load_of, live_bounds}
use Rattle.cstn_text.specs.PrintedNames.{printed_name}
use Rattle.cstn_reply.specs.Texts.{yes_line}
use Rattle.cstn_run.specs.hosted.Sessions.{File}

-- a network under the names of its time-points
pub record Named : Type 0 where
  pub names : List (List ℕ)
  pub net : Network

-- the file of a network, whose plan has the bounds of the live entries of the network's log
abbrev pub the_file : Named → File
the_file named = record { names = map printed_name named.names; net = named.net; bounds = live_bounds (log_of named.net) }

-- the lines that say yes, one for each network, with its load
abbrev pub yes_lines : List Named → List ℕ
yes_lines all = flat_map (λ (named : Named). yes_line (load_of named.net)) all
