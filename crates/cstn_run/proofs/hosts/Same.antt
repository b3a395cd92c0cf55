-- What a host answers is what its session answers.
use Rattle.std.proofs.Common.{◌≡◌, ℕ, zero, suc, Bool, true, false, List, [], ◌∷◌, length, map, refl, ap, sym, ◌∙◌, arith}
use Rattle.std.specs.Prelude.{nat_lt, if◌then◌else◌, Option, Some, None, slice_index_or, slice_set}
use Rattle.std.specs.Option.{option_map}
use Rattle.std.proofs.Math.ListN.{get_or-map}
use Rattle.std.proofs.lemmas.List.{map-set}
use Rattle.cstn_net.specs.Networks.{count}
use Rattle.cstn_plan.specs.Plans.{PlanParts}
use Rattle.cstn_lines.specs.HostLines.{Hosted, opened, put_on, closed}
use Rattle.cstn_exec.specs.Runs.{start_of_run}
use Rattle.cstn_exec.specs.Answers.{Answer, answer_to, run_after}
use Rattle.cstn_exec.specs.Read.{the_event_refusal}
use Rattle.cstn_run.specs.declared.hosted.errors.HostError.{HostError}
use Rattle.cstn_run.specs.declared.hosted.errors.HostError.TheVariants.{IdInUse, NoSuchPlan, IdRange, NoFile, Exec, Memory}
use Rattle.cstn_run.specs.hosted.Hosts.{Opened, plan_of_file, case_at, opened_anew}
use Rattle.cstn_run.specs.hosted.Calls.{HostCall, Open, Pass, Close, HostAnswer, Agreed, Told, Denied, OutOfRange, NotAFile, answer_at, case_after, answer_on, host_after}
use Rattle.cstn_run.specs.hosted.Read.{the_denial}
use Rattle.cstn_reply.specs.Texts.{line}
use Rattle.cstn_exec.specs.Running.{refused_text}
use Rattle.cstn_run.specs.hosted.Sessions.{File, Case, hosted_file, case_of, fresh, id_of, the_event, case_next, answer_in, with_id, told_text, agreed_text, denied_text, answer_text, names_in, due_in, said_in, host_said, session_after}
use Rattle.cstn_run.specs.hosted.SessionRead.{HostSessionParts, the_planned, the_files, the_case, the_host_session, error_text}
use Rattle.cstn_run.proofs.hosts.PutLines.{nothing_after}

-- the call of a host that a host line makes, where there is no want of memory
abbrev pub the_call : Hosted → HostCall
the_call (opened id file) = Open file false
the_call (put_on id live) = Pass (the_event live)
the_call (closed id) = Close

pub files_length : (plans : List PlanParts) (names : List (List (List ℕ))) → length names ≡ length plans → length (the_files plans names) ≡ length plans
files_length [] names same = refl
files_length (p ∷ ps) [] same = absurd (omega (arith, same))
files_length (p ∷ ps) (n ∷ ns) same = let rest = files_length ps ns (omega (arith, same)) in omega (arith, rest)

-- a file is a plan under its names
pub file_same : (plans : List PlanParts) (names : List (List (List ℕ))) (k : ℕ) → length names ≡ length plans → hosted_file (the_files plans names) k ≡ the_planned (plan_of_file plans k) (slice_index_or names k [])
file_same [] [] k same = refl
file_same [] (n ∷ ns) k same = absurd (omega (arith, same))
file_same (p ∷ ps) [] k same = absurd (omega (arith, same))
file_same (p ∷ ps) (n ∷ ns) zero same = refl
file_same (p ∷ ps) (n ∷ ns) (suc k) same = file_same ps ns k (omega (arith, same))

module _ (w : HostSessionParts) (as_many : length w.names ≡ length w.host.plans) where
  abbrev files : List File
  files = the_files w.host.plans w.names

  the_file : (k : ℕ) → hosted_file files k ≡ the_planned (plan_of_file w.host.plans k) (slice_index_or w.names k [])
  the_file k = file_same w.host.plans w.names k as_many

  -- what an id is open over
  pub case_same : (id : ℕ) → case_of (the_host_session w) id ≡ option_map the_case (case_at w.host id)
  case_same id = get_or-map (option_map the_case) w.host.cases id None

  next_same : (o : Option Opened) (h : Hosted) → option_map the_case (case_after w.host.plans o (the_call h)) ≡ case_next files (option_map the_case o) h
  next_same None (opened id file) =
      at (nat_lt file (length w.host.plans))
      ∙ ap (λ (n : ℕ). if nat_lt file n then Some (fresh files file) else None) (sym (files_length w.host.plans w.names as_many))
    where
      at : (b : Bool) → option_map the_case (if b then (if false then None else Some (opened_anew w.host.plans file)) else None) ≡ (if b then Some (fresh files file) else None)
      at true = ap (λ (f : File). Some (record { file = file; run = start_of_run (count f.net) })) (sym (the_file file))
      at false = refl
  next_same None (put_on id live) = refl
  next_same None (closed id) = refl
  next_same (Some c) (opened id file) = refl
  next_same (Some c) (put_on id live) = ap (λ (f : File). Some (record { file = c.file; run = run_after f.net f.bounds c.run (the_event live) })) (sym (the_file c.file))
  next_same (Some c) (closed id) = refl

  answer_same : (o : Option Opened) (h : Hosted) → answer_at w.host.plans (id_of h) o (the_call h) ≡ answer_in files (option_map the_case o) h
  answer_same None (opened id file) = ap (λ (n : ℕ). if nat_lt file n then Agreed else Denied (NotAFile file)) (sym (files_length w.host.plans w.names as_many))
  answer_same None (put_on id live) = refl
  answer_same None (closed id) = refl
  answer_same (Some c) (opened id file) = refl
  answer_same (Some c) (put_on id live) = ap (λ (f : File). Told (answer_to f.net f.bounds c.run (the_event live))) (sym (the_file c.file))
  answer_same (Some c) (closed id) = refl

  -- the session after a line is that of the host after the call
  pub after_same : (h : Hosted) → the_host_session (record { host = host_after w.host (id_of h) (the_call h); names = w.names }) ≡ session_after (the_host_session w) h
  after_same h = ap (λ (cs : List (Option Case)). record { files = files; cases = cs }) (at (nat_lt (id_of h) 64))
    where
      at : (b : Bool) → map (option_map the_case) (if b then slice_set w.host.cases (id_of h) (case_after w.host.plans (case_at w.host (id_of h)) (the_call h)) else w.host.cases) ≡ (if b then slice_set (map (option_map the_case) w.host.cases) (id_of h) (case_next files (case_of (the_host_session w) (id_of h)) h) else map (option_map the_case) w.host.cases)
      at true =
          map-set (option_map the_case) w.host.cases (id_of h) (case_after w.host.plans (case_at w.host (id_of h)) (the_call h))
          ∙ ap (λ (o : Option Case). slice_set (map (option_map the_case) w.host.cases) (id_of h) o)
          (next_same (case_at w.host (id_of h)) h ∙ ap (λ (o : Option Case). case_next files o h) (sym (case_same (id_of h))))
      at false = refl

  answer_is : (h : Hosted) (a : HostAnswer) → nat_lt (id_of h) 64 ≡ true → a ≡ answer_on w.host (id_of h) (the_call h) → answer_in files (case_of (the_host_session w) (id_of h)) h ≡ a
  answer_is h a in_range is =
      ap (λ (o : Option Case). answer_in files o h) (case_same (id_of h))
      ∙ sym (answer_same (case_at w.host (id_of h)) h)
      ∙ sym (is ∙ ap (λ (b : Bool). if b then answer_at w.host.plans (id_of h) (case_at w.host (id_of h)) (the_call h) else Denied (OutOfRange (id_of h))) in_range)

  said_is : (h : Hosted) (a : HostAnswer) → nat_lt (id_of h) 64 ≡ true → a ≡ answer_on w.host (id_of h) (the_call h) → host_said (the_host_session w) h ≡ answer_text (names_in files (case_of (the_host_session w) (id_of h))) (due_in files (case_next files (case_of (the_host_session w) (id_of h)) h)) h a
  said_is h a in_range is =
      ap (λ (b : Bool). if b then said_in files (case_of (the_host_session w) (id_of h)) h else line (denied_text (OutOfRange (id_of h)))) in_range
      ∙ ap (λ (x : HostAnswer). answer_text (names_in files (case_of (the_host_session w) (id_of h))) (due_in files (case_next files (case_of (the_host_session w) (id_of h)) h)) h x) (answer_is h a in_range is)

  error_same : (names : List (List ℕ)) (due : Option ℕ) (h : Hosted) (e : HostError) → answer_text names due h (the_denial e) ≡ error_text (id_of h) (the_denial e)
  error_same names due h (IdInUse id) = refl
  error_same names due h (NoSuchPlan id) = refl
  error_same names due h (IdRange id) = refl
  error_same names due h (NoFile file) = refl
  error_same names due h (Exec e) = nothing_after (with_id (id_of h) (refused_text (the_event_refusal e)))
  error_same names due h (Memory e) = refl

  -- why a line is refused
  pub said_error : (h : Hosted) (e : HostError) → the_denial e ≡ answer_on w.host (id_of h) (the_call h) → host_said (the_host_session w) h ≡ error_text (id_of h) (the_denial e)
  said_error h e is = at (nat_lt (id_of h) 64) refl
    where
      at : (b : Bool) → nat_lt (id_of h) 64 ≡ b → host_said (the_host_session w) h ≡ error_text (id_of h) (the_denial e)
      at true in_range = said_is h (the_denial e) in_range is ∙ error_same (names_in files (case_of (the_host_session w) (id_of h))) (due_in files (case_next files (case_of (the_host_session w) (id_of h)) h)) h e
      at false above =
          ap (λ (b : Bool). if b then said_in files (case_of (the_host_session w) (id_of h)) h else line (denied_text (OutOfRange (id_of h)))) above
          ∙ ap (error_text (id_of h)) (sym (is ∙ ap (λ (b : Bool). if b then answer_at w.host.plans (id_of h) (case_at w.host (id_of h)) (the_call h) else Denied (OutOfRange (id_of h))) above))

  -- a call to which the answer isn't that the id is out of range has an id in range
  in_range_by : (h : Hosted) (a : HostAnswer) → (a ≡ Denied (OutOfRange (id_of h)) → ⊥) → a ≡ answer_on w.host (id_of h) (the_call h) → nat_lt (id_of h) 64 ≡ true
  in_range_by h a other is = at (nat_lt (id_of h) 64) refl
    where
      at : (b : Bool) → nat_lt (id_of h) 64 ≡ b → nat_lt (id_of h) 64 ≡ true
      at true below = below
      at false above = absurd (other (is ∙ ap (λ (b : Bool). if b then answer_at w.host.plans (id_of h) (case_at w.host (id_of h)) (the_call h) else Denied (OutOfRange (id_of h))) above))

  -- an id was opened or closed
  pub said_agreed : (h : Hosted) → Agreed ≡ answer_on w.host (id_of h) (the_call h) → host_said (the_host_session w) h ≡ agreed_text h
  said_agreed h is = said_is h Agreed (in_range_by h Agreed (λ e. cc) is) is

  -- an executive has answered
  pub said_told : (h : Hosted) (a : Answer) → Told a ≡ answer_on w.host (id_of h) (the_call h) → host_said (the_host_session w) h ≡ told_text (names_in files (case_of (the_host_session w) (id_of h))) (due_in files (case_next files (case_of (the_host_session w) (id_of h)) h)) h a
  said_told h a is = said_is h (Told a) (in_range_by h (Told a) (λ e. cc) is) is
