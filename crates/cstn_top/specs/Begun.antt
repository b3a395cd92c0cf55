-- How the session of a host begins.
use Rattle.std.specs.Prelude.{◌≡◌, ℕ, List, [], ◌∷◌, length, map}
use Rattle.cstn_net.specs.Read.{the_network}
use Rattle.cstn_check.specs.Growth.{load_of}
use Rattle.cstn_check.specs.Decisions.{verdict}
use Rattle.cstn_check.specs.declared.verdicts.Verdict.TheVariants.{Yes}
use Rattle.cstn_run.specs.hosted.Sessions.{host_begun as begun_session}
use Rattle.cstn_run.specs.hosted.Files.{Named, the_file, yes_lines}
use Rattle.cstn_run.specs.hosted.SessionRead.{the_names, the_files, the_host_session, IsHostSession}
use Rattle.cstn_request.specs.declared.reading.NamedNetwork.{NamedNetwork}
use Rattle.cstn_top.specs.declared.commands.Prepared.{Prepared}
use Rattle.cstn_top.specs.declared.commands.Prepared.TheVariants.{Says, Runs, Edits, Follows, Hosts}
use Rattle.cstn_top.specs.declared.commands.host.Begun.{Begun}

-- the network of a document
abbrev pub the_named : NamedNetwork → Named
the_named document = record { names = document.names; net = the_network document.network }

-- the session begins after the lines that say yes, with the host of the plans in which no id is open
abbrev pub IsBegin : Begun → Prepared → Type 0
IsBegin begun (Says said) = ⊥
IsBegin begun (Runs opening run) = ⊥
IsBegin begun (Edits session) = ⊥
IsBegin begun (Follows opening session) = ⊥
IsBegin begun (Hosts opening session) = (opening ≡ begun.opening) × (the_host_session session ≡ begun_session (the_files begun.plans.items (the_names begun.names.items)))

-- the verdict on each of these networks is yes, with its load
abbrev pub AreYes : ℕ → List Named → Type 0
AreYes cap [] = Unit {0}
AreYes cap (named ∷ rest) = (verdict cap named.net ≡ Yes (load_of named.net)) × AreYes cap rest

-- The networks were checked one after another, and each verdict was yes. `begun` has the lines that say so, the plans, and the
-- printed names.
pub record HasBegun (cap : ℕ) (all : List Named) (begun : Begun) : Type 0 where
  pub opening : begun.opening.items ≡ yes_lines all
  pub files : the_files begun.plans.items (the_names begun.names.items) ≡ map the_file all
  pub many : length begun.plans.items ≡ length all
  pub hosted : IsHostSession begun.plans.items (the_names begun.names.items)
  pub verdicts : AreYes cap all
