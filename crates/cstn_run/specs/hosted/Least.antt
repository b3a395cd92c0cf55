-- What is said of least moments on an open id.
use Rattle.std.specs.Prelude.{◌≡◌, ◌+◌, ℕ, List, ◌∷◌, ◌++◌, Option, flat_map, codes, decimal}
use Rattle.cstn_net.specs.Networks.{IsWellFormed}
use Rattle.cstn_net.specs.Strategies.{IsConsistent, IsLeast}
use Rattle.cstn_exec.specs.Runs.{Run, due}
use Rattle.cstn_exec.specs.Moves.{run_moved}
use Rattle.cstn_exec.specs.Right.{IsPlanBounds, IsCalled, AgreesKnown}
use Rattle.cstn_lines.specs.LiveLines.{moment_at, due_now}
use Rattle.cstn_lines.specs.HostLines.{Hosted, put_on}
use Rattle.cstn_exec.specs.Running.{spaced}
use Rattle.cstn_run.specs.Least.{NamesLeast, TellsDue}
use Rattle.cstn_run.specs.hosted.Sessions.{File, with_id, done_lines}
use Rattle.cstn_run.specs.hosted.Alone.{Own, own_file, own_run, said_after}
use Rattle.cstn_run.specs.hosted.Files.{Named}

-- the network is well-formed, and has a strategy
abbrev pub HasStrategy : Named → Type 0
HasStrategy named = IsWellFormed named.net × IsConsistent named.net

-- the bounds of a file are those of a plan of its network
abbrev pub HasPlanBounds : File → Type 0
HasPlanBounds file = IsPlanBounds file.net file.bounds

-- what is due in a run of a file's plan after the moment t, where that is accepted
abbrev pub due_then : File → Run → ℕ → Option ℕ
due_then file run t = due file.net file.bounds (run_moved file.net file.bounds run t)

-- a line is said that names these time-points at t, and a line `done` after it where nothing is due then
abbrev pub SaysMoment : List File → List Hosted → ℕ → ℕ → Own → List ℕ → Type 0
SaysMoment files lines id t own named =
    said_after files lines (put_on id (moment_at t)) ≡ flat_map (with_id id)
    ((codes "at " ++ decimal t ++ spaced (own_file files own).names named) ∷ done_lines (due_then (own_file files own) (own_run files own) t))

-- The answer to a moment on an open id names, in ascending number, exactly the time-points that the run hasn't executed yet
-- and whose least moment it is, in each scenario that agrees with what is known.
abbrev pub HostNamesLeast : List File → List Hosted → ℕ → ℕ → Own → Type 0
HostNamesLeast files lines id t own =
    NamesLeast (SaysMoment files lines id t own) (IsCalled (own_file files own).net (own_run files own) t)
    (AgreesKnown (own_file files own).net (own_run files own) (t + 1)) (λ s x. IsLeast (own_file files own).net s x t)

-- the answer to `due` on an open id is the due moment, or that all is done
abbrev pub HostTellsDue : List File → List Hosted → ℕ → Own → Type 0
HostTellsDue files lines id own =
    TellsDue (λ text. said_after files lines (put_on id due_now) ≡ with_id id text) (own_file files own).net (own_file files own).bounds (own_run files own)
