-- Accepted moments, and what is due.
use Rattle.std.proofs.Common.{◌≡◌, ◌<◌, ℕ, zero, suc, Bool, true, false, List, [], ◌∷◌, ◌++◌, length, refl, ap, ◌∙◌, arith}
use Rattle.std.specs.Prelude.{nat_lt, if◌then◌else◌, is_none, Option, Some, None, slice_index_or, slice_set, flat_map, codes, decimal}
use Rattle.std.specs.Option.{option_map}
use Rattle.std.proofs.lemmas.List.{get_or-set_same, set-get_or}
use Rattle.cstn_lines.specs.LiveLines.{moment_at, seen, due_now}
use Rattle.cstn_lines.specs.HostLines.{put_on}
use Rattle.cstn_exec.specs.Runs.{Run, called, due}
use Rattle.cstn_exec.specs.Moves.{EventRefusal, moment_refusal, run_moved}
use Rattle.cstn_exec.specs.Answers.{Moment, See, AskDue, Names, Kept, DueAt, moment_answer, run_unless}
use Rattle.cstn_run.specs.declared.hosted.errors.HostError.{HostError}
use Rattle.cstn_run.specs.declared.hosted.errors.HostError.TheVariants.{IdInUse, NoSuchPlan, IdRange, NoFile, Exec, Memory}
use Rattle.cstn_run.specs.hosted.Hosts.{HostParts, Opened, net_at, bounds_at, case_at, named_in, named_last}
use Rattle.cstn_run.specs.hosted.Calls.{AskFile, AskNamed, Pass, FileIs, Told, Denied, OutOfRange, answer_at, unless_event_refused, event_passed, case_after, answer_on, host_after}
use Rattle.cstn_run.specs.hosted.Read.{the_denial}
use Rattle.cstn_exec.specs.Running.{spaced, seen_text, due_text}
use Rattle.cstn_run.specs.hosted.Sessions.{File, Case, HostSession, case_of, case_next, with_id, done_lines, told_text, names_in, due_in, host_said, session_after}
use Rattle.cstn_run.specs.hosted.SessionRead.{HostSessionParts, the_files, the_case, the_host_session}
use Rattle.cstn_run.proofs.hosts.PutLines.{nothing_after}
use Rattle.cstn_run.proofs.hosts.Same.{case_same, file_same, said_told}

never_named : (e : HostError) (xs : List ℕ) → the_denial e ≡ Told (Names xs) → ⊥
never_named (IdInUse id) xs is = cc
never_named (NoSuchPlan id) xs is = cc
never_named (IdRange id) xs is = cc
never_named (NoFile file) xs is = cc
never_named (Exec e) xs is = cc
never_named (Memory e) xs is = cc

never_file : (e : HostError) (file : ℕ) → the_denial e ≡ FileIs file → ⊥
never_file (IdInUse id) file is = cc
never_file (NoSuchPlan id) file is = cc
never_file (IdRange id) file is = cc
never_file (NoFile f) file is = cc
never_file (Exec e) file is = cc
never_file (Memory e) file is = cc

pub never_due : (e : HostError) (t : Option ℕ) → the_denial e ≡ Told (DueAt t) → ⊥
never_due (IdInUse id) t is = cc
never_due (NoSuchPlan id) t is = cc
never_due (IdRange id) t is = cc
never_due (NoFile f) t is = cc
never_due (Exec e) t is = cc
never_due (Memory e) t is = cc

-- an id that is open is below the number of cases
inside : (cases : List (Option Opened)) (id : ℕ) (c : Opened) → slice_index_or cases id None ≡ Some c → id < length cases
inside [] id c is = absurd (cc)
inside (o ∷ os) zero c is = omega arith
inside (o ∷ os) (suc id) c is = let rest = inside os id c is in omega (arith, rest)

-- the host after a moment was passed to an id
abbrev pub after_moment : HostParts → ℕ → ℕ → HostParts
after_moment host id t = host_after host id (Pass (Moment t))

-- the id is open, and its executive has accepted the moment
pub record Moved (host : HostParts) (id t : ℕ) : Type 0 where
  pub below : nat_lt id 64 ≡ true
  pub before : Opened
  pub was : case_at host id ≡ Some before
  pub accepted : moment_refusal (net_at host.plans before.file) (bounds_at host.plans before.file) before.run t ≡ None
  pub now : case_at (after_moment host id t) id ≡ Some (event_passed host.plans before (Moment t))

-- where the answer to a moment names time-points, the moment was accepted
pub moved_by : (host : HostParts) (id t : ℕ) (xs : List ℕ) → Told (Names xs) ≡ answer_on host id (Pass (Moment t)) → Moved host id t
moved_by host id t xs is = at (nat_lt id 64) refl (case_at host id) refl is
  where
    by_refusal : nat_lt id 64 ≡ true → (c : Opened) → case_at host id ≡ Some c → (r : Option EventRefusal) → moment_refusal (net_at host.plans c.file) (bounds_at host.plans c.file) c.run t ≡ r → Told (Names xs) ≡ Told (moment_answer (net_at host.plans c.file) (bounds_at host.plans c.file) c.run t r) → Moved host id t
    by_refusal below c was None accepted told = record {
      below = below;
      before = c;
      was = was;
      accepted = accepted;
      now =
          ap (λ (b : Bool). slice_index_or (if b then slice_set host.cases id (case_after host.plans (case_at host id) (Pass (Moment t))) else host.cases) id None) below
          ∙ get_or-set_same host.cases id (case_after host.plans (case_at host id) (Pass (Moment t))) None (inside host.cases id c was)
          ∙ ap (λ (o : Option Opened). case_after host.plans o (Pass (Moment t))) was;
    }
    by_refusal below c was (Some why) accepted told = absurd (cc)

    at : (b : Bool) → nat_lt id 64 ≡ b → (o : Option Opened) → case_at host id ≡ o → Told (Names xs) ≡ (if b then answer_at host.plans id o (Pass (Moment t)) else Denied (OutOfRange id)) → Moved host id t
    at true below (Some c) was told = by_refusal below c was (moment_refusal (net_at host.plans c.file) (bounds_at host.plans c.file) c.run t) refl told
    at true below None was told = absurd (cc)
    at false above o was told = absurd (cc)

module _ (host : HostParts) (id t : ℕ) (m : Moved host id t) where
  -- the run after the moment
  abbrev pub run_then : Run
  run_then = run_moved (net_at host.plans m.before.file) (bounds_at host.plans m.before.file) m.before.run t

  abbrev pub named_then : List ℕ
  named_then = called (net_at host.plans m.before.file) (bounds_at host.plans m.before.file) m.before.run t

  file_asked : answer_on (after_moment host id t) id AskFile ≡ FileIs m.before.file
  file_asked =
      ap (λ (x : Bool). if x then answer_at host.plans id (case_at (after_moment host id t) id) AskFile else Denied (OutOfRange id)) m.below
      ∙ ap (λ (x : Option Opened). answer_at host.plans id x AskFile) m.now

  named_asked : answer_on (after_moment host id t) id AskNamed ≡ Told (Names named_then)
  named_asked =
      ap (λ (x : Bool). if x then answer_at host.plans id (case_at (after_moment host id t) id) AskNamed else Denied (OutOfRange id)) m.below
      ∙ ap (λ (x : Option Opened). answer_at host.plans id x AskNamed) m.now
      ∙ ap (λ (r : Option EventRefusal). Told (Names (unless_event_refused m.before.named named_then r))) m.accepted

  pub file_is : (file : ℕ) → FileIs file ≡ answer_on (after_moment host id t) id AskFile → file ≡ m.before.file
  file_is file is = let same : FileIs file ≡ FileIs m.before.file = is ∙ file_asked in cc

  pub file_there : (e : HostError) → the_denial e ≡ answer_on (after_moment host id t) id AskFile → ⊥
  file_there e is = never_file e m.before.file (is ∙ file_asked)

  pub named_is : (xs : List ℕ) → Told (Names xs) ≡ answer_on (after_moment host id t) id AskNamed → xs ≡ named_then
  named_is xs is = let same : Told (Names xs) ≡ Told (Names named_then) = is ∙ named_asked in cc

  pub named_there : (e : HostError) → the_denial e ≡ answer_on (after_moment host id t) id AskNamed → ⊥
  named_there e is = never_named e named_then (is ∙ named_asked)

  pub named_now : named_last (after_moment host id t) id ≡ named_then
  named_now =
      ap named_in m.now
      ∙ ap (λ (r : Option EventRefusal). unless_event_refused m.before.named named_then r) m.accepted

module _ (w : HostSessionParts) (as_many : length w.names ≡ length w.host.plans) where
  abbrev files : List File
  files = the_files w.host.plans w.names

  module _ (id t : ℕ) (m : Moved w.host id t) where
    abbrev pub names_then : List (List ℕ)
    names_then = slice_index_or w.names m.before.file []

    abbrev pub due_then : Option ℕ
    due_then = due (net_at w.host.plans m.before.file) (bounds_at w.host.plans m.before.file) (run_then w.host id t m)

    case_is : case_of (the_host_session w) id ≡ Some (the_case m.before)
    case_is = case_same w as_many id ∙ ap (λ (o : Option Opened). option_map the_case o) m.was

    names_are : names_in files (case_of (the_host_session w) id) ≡ names_then
    names_are = ap (λ (o : Option Case). names_in files o) case_is ∙ ap (λ (f : File). f.names) (file_same w.host.plans w.names m.before.file as_many)

    due_is : due_in files (case_next files (case_of (the_host_session w) id) (put_on id (moment_at t))) ≡ due_then
    due_is =
        ap (λ (o : Option Case). due_in files (case_next files o (put_on id (moment_at t)))) case_is
        ∙ ap (λ (f : File). due f.net f.bounds (run_unless m.before.run (run_moved f.net f.bounds m.before.run t) (moment_refusal f.net f.bounds m.before.run t))) (file_same w.host.plans w.names m.before.file as_many)
        ∙ ap (λ (r : Option EventRefusal). due (net_at w.host.plans m.before.file) (bounds_at w.host.plans m.before.file) (run_unless m.before.run (run_then w.host id t m) r)) m.accepted

    -- what is said of the moment, by what is due after it
    moment_said : Told (Names (named_last (after_moment w.host id t) id)) ≡ answer_on w.host id (Pass (Moment t)) → host_said (the_host_session w) (put_on id (moment_at t)) ≡ with_id id (codes "at " ++ decimal t ++ spaced names_then (named_then w.host id t m)) ++ flat_map (with_id id) (done_lines due_then)
    moment_said is =
        said_told w as_many (put_on id (moment_at t)) (Names (named_last (after_moment w.host id t) id)) is
        ∙ ap (λ (names : List (List ℕ)). told_text names (due_in files (case_next files (case_of (the_host_session w) id) (put_on id (moment_at t)))) (put_on id (moment_at t)) (Names (named_last (after_moment w.host id t) id))) names_are
        ∙ ap (λ (due : Option ℕ). told_text names_then due (put_on id (moment_at t)) (Names (named_last (after_moment w.host id t) id))) due_is
        ∙ ap (λ (xs : List ℕ). told_text names_then due_then (put_on id (moment_at t)) (Names xs)) (named_now w.host id t m)

    -- what is said of the moment where something is due after it
    pub goes_on : Told (Names (named_last (after_moment w.host id t) id)) ≡ answer_on w.host id (Pass (Moment t)) → false ≡ is_none due_then → host_said (the_host_session w) (put_on id (moment_at t)) ≡ with_id id (codes "at " ++ decimal t ++ spaced names_then (named_then w.host id t m))
    goes_on is more = moment_said is ∙ by_due due_then more
      where
        by_due : (o : Option ℕ) → false ≡ is_none o → with_id id (codes "at " ++ decimal t ++ spaced names_then (named_then w.host id t m)) ++ flat_map (with_id id) (done_lines o) ≡ with_id id (codes "at " ++ decimal t ++ spaced names_then (named_then w.host id t m))
        by_due None is' = absurd (cc)
        by_due (Some u) is' = nothing_after (with_id id (codes "at " ++ decimal t ++ spaced names_then (named_then w.host id t m)))

    -- what is said of the moment where all is executed after it
    pub ends : Told (Names (named_last (after_moment w.host id t) id)) ≡ answer_on w.host id (Pass (Moment t)) → true ≡ is_none due_then → host_said (the_host_session w) (put_on id (moment_at t)) ≡ with_id id (codes "at " ++ decimal t ++ spaced names_then (named_then w.host id t m)) ++ with_id id (codes "done")
    ends is all = moment_said is ∙ by_due due_then all
      where
        by_due : (o : Option ℕ) → true ≡ is_none o → with_id id (codes "at " ++ decimal t ++ spaced names_then (named_then w.host id t m)) ++ flat_map (with_id id) (done_lines o) ≡ with_id id (codes "at " ++ decimal t ++ spaced names_then (named_then w.host id t m)) ++ with_id id (codes "done")
        by_due None is' = ap (λ (xs : List ℕ). with_id id (codes "at " ++ decimal t ++ spaced names_then (named_then w.host id t m)) ++ xs) (nothing_after (with_id id (codes "done")))
        by_due (Some u) is' = absurd (cc)

  -- an outcome was kept
  pub kept_said : (id p : ℕ) (v : Bool) → Told Kept ≡ answer_on w.host id (Pass (See p v)) → host_said (the_host_session w) (put_on id (seen p v)) ≡ with_id id (seen_text p v)
  kept_said id p v is = said_told w as_many (put_on id (seen p v)) Kept is ∙ nothing_after (with_id id (seen_text p v))

  -- what is due was asked
  pub due_said : (id : ℕ) (t : Option ℕ) → Told (DueAt t) ≡ answer_on w.host id (Pass AskDue) → host_said (the_host_session w) (put_on id due_now) ≡ with_id id (due_text t)
  due_said id t is = said_told w as_many (put_on id due_now) (DueAt t) is ∙ nothing_after (with_id id (due_text t))

-- the question what is due changes nothing
pub due_stays : (session : HostSession) (id : ℕ) → session_after session (put_on id due_now) ≡ session
due_stays session id = ap (λ (cs : List (Option Case)). record { files = session.files; cases = cs }) (at (nat_lt id 64))
  where
    same : (o : Option Case) → case_next session.files o (put_on id due_now) ≡ o
    same None = refl
    same (Some c) = refl

    at : (b : Bool) → (if b then slice_set session.cases id (case_next session.files (case_of session id) (put_on id due_now)) else session.cases) ≡ session.cases
    at true = ap (λ (o : Option Case). slice_set session.cases id o) (same (case_of session id)) ∙ set-get_or session.cases id None
    at false = refl
