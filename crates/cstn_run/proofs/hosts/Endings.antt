-- The least open id of which not all is executed.
use Rattle.std.proofs.Common.{◌≡◌, ◌<◌, ◌≤◌, ◌+◌, ◌-◌, ℕ, suc, Bool, length, refl, ap, sym, ◌∙◌, arith}
use Rattle.std.specs.Prelude.{if◌then◌else◌, Option, Some, None}
use Rattle.std.specs.Option.{option_map}
use Rattle.cstn_exec.specs.Runs.{due}
use Rattle.cstn_exec.specs.Answers.{AskDue, DueAt}
use Rattle.cstn_run.specs.declared.hosted.errors.HostError.{HostError}
use Rattle.cstn_run.specs.hosted.Hosts.{Opened, net_at, bounds_at, case_at}
use Rattle.cstn_run.specs.hosted.Calls.{Pass, Told, Denied, OutOfRange, answer_at, answer_on}
use Rattle.cstn_run.specs.hosted.Read.{the_denial}
use Rattle.cstn_run.specs.hosted.Sessions.{File, Case, HostSession, case_of, due_in, or_second, due_from, unfinished}
use Rattle.cstn_run.specs.hosted.SessionRead.{HostSessionParts, the_files, the_case, the_host_session}
use Rattle.cstn_run.proofs.hosts.Same.{case_same, file_same}
use Rattle.cstn_run.proofs.hosts.Moments.{never_due}
use Rattle.cstn_run.proofs.hosts.Ids.{is_below}

-- the least id from `id` on is `id`, where something is due there, or the least from the next id on
step : (session : HostSession) (id : ℕ) → id < 64 → due_from session id (64 - id) ≡ or_second (option_map (λ t. (id, t)) (due_in session.files (case_of session id))) (due_from session (id + 1) (64 - (id + 1)))
step session id below = ap (due_from session id) count
  where
    count : 64 - id ≡ suc (64 - (id + 1))
    count = omega (arith, below)

pub begins : (session : HostSession) → unfinished session ≡ due_from session 0 64
unfolding unfinished
begins session = refl

-- where nothing is due at an id, the search goes on with the next id
pub passes : (session : HostSession) (id : ℕ) → id < 64 → unfinished session ≡ due_from session id (64 - id) → due_in session.files (case_of session id) ≡ None → unfinished session ≡ due_from session (id + 1) (64 - (id + 1))
passes session id below so_far none = so_far ∙ step session id below ∙ ap (λ (o : Option ℕ). or_second (option_map (λ t. (id, t)) o) (due_from session (id + 1) (64 - (id + 1)))) none

-- where something is due at an id, the search ends with it
pub stops : (session : HostSession) (id t : ℕ) → id < 64 → unfinished session ≡ due_from session id (64 - id) → due_in session.files (case_of session id) ≡ Some t → Some (id, t) ≡ unfinished session
stops session id t below so_far found = sym (so_far ∙ step session id below ∙ ap (λ (o : Option ℕ). or_second (option_map (λ u. (id, u)) o) (due_from session (id + 1) (64 - (id + 1)))) found)

-- after the last id, the search ends with none
pub none_left : (session : HostSession) (id : ℕ) → 64 ≤ id → unfinished session ≡ due_from session id (64 - id) → None ≡ unfinished session
none_left session id above so_far = sym (so_far ∙ ap (due_from session id) count)
  where
    count : 64 - id ≡ 0
    count = omega (arith, above)

module _ (w : HostSessionParts) (as_many : length w.names ≡ length w.host.plans) where
  -- what is due at an id, by what it is open over in the host
  abbrev due_of : Option Opened → Option ℕ
  due_of None = None
  due_of (Some c) = due (net_at w.host.plans c.file) (bounds_at w.host.plans c.file) c.run

  due_same : (id : ℕ) → due_in (the_files w.host.plans w.names) (case_of (the_host_session w) id) ≡ due_of (case_at w.host id)
  due_same id = ap (λ (o : Option Case). due_in (the_files w.host.plans w.names) o) (case_same w as_many id) ∙ at (case_at w.host id)
    where
      at : (o : Option Opened) → due_in (the_files w.host.plans w.names) (option_map the_case o) ≡ due_of o
      at None = refl
      at (Some c) = ap (λ (f : File). due f.net f.bounds c.run) (file_same w.host.plans w.names c.file as_many)

  asked : (id : ℕ) → id < 64 → answer_on w.host id (Pass AskDue) ≡ answer_at w.host.plans id (case_at w.host id) (Pass AskDue)
  asked id below = ap (λ (b : Bool). if b then answer_at w.host.plans id (case_at w.host id) (Pass AskDue) else Denied (OutOfRange id)) (is_below id 64 below)

  -- what the host answers to `due` is what is due
  pub due_told : (id : ℕ) (t : Option ℕ) → id < 64 → Told (DueAt t) ≡ answer_on w.host id (Pass AskDue) → due_in (the_files w.host.plans w.names) (case_of (the_host_session w) id) ≡ t
  due_told id t below is = due_same id ∙ at (case_at w.host id) (is ∙ asked id below)
    where
      at : (o : Option Opened) → Told (DueAt t) ≡ answer_at w.host.plans id o (Pass AskDue) → due_of o ≡ t
      at None told = absurd (cc)
      at (Some c) told = cc

  -- where the host refuses to say what is due, nothing is due
  pub due_denied : (id : ℕ) (e : HostError) → id < 64 → the_denial e ≡ answer_on w.host id (Pass AskDue) → due_in (the_files w.host.plans w.names) (case_of (the_host_session w) id) ≡ None
  due_denied id e below is = due_same id ∙ at (case_at w.host id) (is ∙ asked id below)
    where
      at : (o : Option Opened) → the_denial e ≡ answer_at w.host.plans id o (Pass AskDue) → due_of o ≡ None
      at None told = refl
      at (Some c) told = absurd (never_due e (due (net_at w.host.plans c.file) (bounds_at w.host.plans c.file) c.run) told)
