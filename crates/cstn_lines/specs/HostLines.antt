-- Host lines.
use Rattle.std.specs.Prelude.{ℕ, ◌^◌, ◌<◌, ◌++◌, if◌then◌else◌, List, ◌∷◌, Option, None, codes, bytes_eq}
use Rattle.std.specs.Option.{option_map, option_and_then}
use Rattle.cstn_text.specs.Numbers.{printed_number}
use Rattle.cstn_lines.specs.LiveLines.{Live, the_live, cut_at_space, live_read, IsLiveLine, printed_live}
use Rattle.cstn_lines.specs.EditLines.{id_read}
use Rattle.cstn_lines.specs.declared.hosts.HostLine.{HostLine}
use Rattle.cstn_lines.specs.declared.hosts.HostLine.TheVariants.{Open, On, Close}

-- what a host line says: that an id is opened over a file, a live line for an id, or that an id is closed
pub data Hosted : Type 0 where
  opened : ℕ → ℕ → Hosted
  put_on : ℕ → Live → Hosted
  closed : ℕ → Hosted

abbrev pub the_hosted : HostLine → Hosted
the_hosted (Open id file) = opened id file
the_hosted (On id line) = put_on id (the_live line)
the_hosted (Close id) = closed id

-- an id, a space, and the number of a file
abbrev pub opened_read : List ℕ → Option Hosted
opened_read text = option_and_then (λ parts. option_and_then (λ id. option_map (opened id) (id_read parts.1)) (id_read parts.0)) (cut_at_space text)

-- an id, a space, and a live line
abbrev pub put_on_read : List ℕ → Option Hosted
put_on_read text = option_and_then (λ parts. option_and_then (λ id. option_map (put_on id) (live_read parts.1)) (id_read parts.0)) (cut_at_space text)

-- the host line that the word of a line and what follows it say
abbrev pub hosted_read : List ℕ × List ℕ → Option Hosted
hosted_read parts =
    if bytes_eq parts.0 (codes "open") then opened_read parts.1
    else if bytes_eq parts.0 (codes "on") then put_on_read parts.1
    else if bytes_eq parts.0 (codes "close") then option_map closed (id_read parts.1)
    else None

-- a host line is `open`, `on` or `close`, a space, and what follows that word
abbrev pub host_read : List ℕ → Option Hosted
host_read bytes = option_and_then hosted_read (cut_at_space bytes)

-- the numbers are below 2^32, and the live line is one that a text can say
abbrev pub IsHosted : Hosted → Type 0
IsHosted (opened id file) = (id < 2 ^ 32) × (file < 2 ^ 32)
IsHosted (put_on id line) = (id < 2 ^ 32) × IsLiveLine line
IsHosted (closed id) = id < 2 ^ 32

-- the text of a host line: its parts, with one space between
abbrev pub printed_hosted : Hosted → List ℕ
printed_hosted (opened id file) = codes "open" ++ 32 ∷ (printed_number id ++ 32 ∷ printed_number file)
printed_hosted (put_on id line) = codes "on" ++ 32 ∷ (printed_number id ++ 32 ∷ printed_live line)
printed_hosted (closed id) = codes "close" ++ 32 ∷ printed_number id
