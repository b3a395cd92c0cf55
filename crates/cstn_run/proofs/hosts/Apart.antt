-- The answers to an id are those of a run of its file's plan alone.
use Rattle.std.proofs.Common.{◌≡◌, ◌≢◌, ℕ, ◌<◌, List, [], ◌∷◌, ◌++◌, length, map, refl, ap, sym, subst, ◌∙◌, arith, Bool, true, false}
use Rattle.std.specs.Prelude.{Option, Some, None, nat_lt, ◌==◌, if◌then◌else◌, slice_index_or, slice_set, flat_map, codes}
use Rattle.std.proofs.lemmas.List.{get_or-set_same, get_or-set_other, length-set, length-replicate}
use Rattle.cstn_exec.specs.Runs.{Run, due, called}
use Rattle.cstn_exec.specs.Moves.{EventRefusal, moment_refusal, run_moved, outcome_refusal, handed}
use Rattle.cstn_exec.specs.Answers.{moment_answer, see_answer, run_unless}
use Rattle.cstn_run.specs.hosted.Calls.{OutOfRange}
use Rattle.cstn_lines.specs.LiveLines.{Live, moment_at, seen, due_now, live_read}
use Rattle.cstn_lines.specs.HostLines.{Hosted, put_on}
use Rattle.cstn_reply.specs.Texts.{line}
use Rattle.cstn_exec.specs.Running.{moment_line, refused_text, seen_text, due_text, executing, moment_turn, seen_turn, live_turn, run_turn}
use Rattle.cstn_run.specs.hosted.Sessions.{File, Case, HostSession, host_begun, hosted_file, case_of, id_of, passed_on, case_next, with_id, answer_lines, denied_text, said_in, host_said, session_after}
use Rattle.cstn_run.specs.hosted.Alone.{lines_on, put_if, said_to, alone_after, alone_lines, alone_said, turn_text, LeadsToRun}
use Rattle.cstn_run.proofs.hosts.PutLines.{nothing_after}
use Rattle.cstn_run.proofs.hosts.Ids.{is_below, same_is, is_same, other_is}

-- ---- one line

-- a line leaves what every other id is open over as it is
pub leaves : (session : HostSession) (h : Hosted) (other : ℕ) → other ≢ id_of h → case_of (session_after session h) other ≡ case_of session other
leaves session h other apart = at (nat_lt (id_of h) 64)
  where
    at : (b : Bool) → slice_index_or (if b then slice_set session.cases (id_of h) (case_next session.files (case_of session (id_of h)) h) else session.cases) other None ≡ slice_index_or session.cases other None
    at true = get_or-set_other session.cases (id_of h) other (case_next session.files (case_of session (id_of h)) h) None apart
    at false = refl

-- after a line there are as many ids as before
pub as_many : (session : HostSession) (h : Hosted) → length (session_after session h).cases ≡ length session.cases
as_many session h = at (nat_lt (id_of h) 64)
  where
    at : (b : Bool) → length (if b then slice_set session.cases (id_of h) (case_next session.files (case_of session (id_of h)) h) else session.cases) ≡ length session.cases
    at true = length-set session.cases (id_of h) (case_next session.files (case_of session (id_of h)) h)
    at false = refl

-- a line changes what its own id is open over
pub changes : (session : HostSession) (h : Hosted) → length session.cases ≡ 64 → id_of h < 64 → case_of (session_after session h) (id_of h) ≡ case_next session.files (case_of session (id_of h)) h
changes session h size below =
    ap (λ (b : Bool). slice_index_or (if b then slice_set session.cases (id_of h) (case_next session.files (case_of session (id_of h)) h) else session.cases) (id_of h) None) (is_below (id_of h) 64 below)
    ∙ get_or-set_same session.cases (id_of h) (case_next session.files (case_of session (id_of h)) h) None (omega (arith, size, below))

-- ---- all lines

-- two sessions have the same files, and the id is open over the same in both
pub record Agree (w v : HostSession) (id : ℕ) : Type 0 where
  pub same_files : w.files ≡ v.files
  pub same_case : case_of w id ≡ case_of v id
  pub size : length w.cases ≡ 64
  pub also : length v.cases ≡ 64

pub same_said : (w v : HostSession) (h : Hosted) → Agree w v (id_of h) → host_said w h ≡ host_said v h
same_said w v h agree =
    ap (λ (files : List File). if nat_lt (id_of h) 64 then said_in files (case_of w (id_of h)) h else line (denied_text (OutOfRange (id_of h)))) agree.same_files
    ∙ ap (λ (o : Option Case). if nat_lt (id_of h) 64 then said_in v.files o h else line (denied_text (OutOfRange (id_of h)))) agree.same_case

pub same_after : (w v : HostSession) (h : Hosted) → Agree w v (id_of h) → Agree (session_after w h) (session_after v h) (id_of h)
same_after w v h agree = record {
  same_files = agree.same_files;
  same_case = at (nat_lt (id_of h) 64) refl;
  size = as_many w h ∙ agree.size;
  also = as_many v h ∙ agree.also;
}
  where
    at : (b : Bool) → nat_lt (id_of h) 64 ≡ b → slice_index_or (if b then slice_set w.cases (id_of h) (case_next w.files (case_of w (id_of h)) h) else w.cases) (id_of h) None ≡ slice_index_or (if b then slice_set v.cases (id_of h) (case_next v.files (case_of v (id_of h)) h) else v.cases) (id_of h) None
    at true is =
        let size = agree.size in
        let also = agree.also in
        let below : id_of h < 64 = grind arith in
        get_or-set_same w.cases (id_of h) (case_next w.files (case_of w (id_of h)) h) None (omega (arith, size, below))
        ∙ ap (λ (files : List File). case_next files (case_of w (id_of h)) h) agree.same_files
        ∙ ap (λ (o : Option Case). case_next v.files o h) agree.same_case
        ∙ sym (get_or-set_same v.cases (id_of h) (case_next v.files (case_of v (id_of h)) h) None (omega (arith, also, below)))
    at false is = agree.same_case

-- a line on another id makes no difference
same_still : (w v : HostSession) (h : Hosted) (id : ℕ) → id ≢ id_of h → Agree w v id → Agree (session_after w h) v id
same_still w v h id apart agree = record {
  same_files = agree.same_files;
  same_case = leaves w h id apart ∙ agree.same_case;
  size = as_many w h ∙ agree.size;
  also = agree.also;
}

-- the answers to an id are those to its lines alone
pub to_its_lines : (w v : HostSession) (lines : List Hosted) (id : ℕ) → Agree w v id → said_to id w lines ≡ said_to id v (lines_on id lines)
to_its_lines w v [] id agree = refl
to_its_lines w v (h ∷ hs) id agree = at (id_of h == id) refl (λ x y same. to_its_lines x y hs id same)
  where
    at : (b : Bool) → (id_of h == id) ≡ b → ((x y : HostSession) → Agree x y id → said_to id x hs ≡ said_to id y (lines_on id hs)) → said_to id w (h ∷ hs) ≡ said_to id v (lines_on id (h ∷ hs))
    at true is rest =
        let same = same_is (id_of h) id is in
        let agreed = subst (λ (k : ℕ). Agree w v k) (sym same) agree in
        let after = subst (λ (k : ℕ). Agree (session_after w h) (session_after v h) k) same (same_after w v h agreed) in
        ap (λ (b : Bool). put_if b (host_said w h) (said_to id (session_after w h) hs)) is
        ∙ ap (λ (text : List ℕ). text ∷ said_to id (session_after w h) hs) (same_said w v h agreed)
        ∙ ap (λ (later : List (List ℕ)). host_said v h ∷ later) (rest (session_after w h) (session_after v h) after)
        ∙ ap (λ (b : Bool). put_if b (host_said v h) (said_to id (session_after v h) (lines_on id hs))) (sym is)
        ∙ ap (λ (b : Bool). said_to id v (if b then h ∷ lines_on id hs else lines_on id hs)) (sym is)
    at false is rest =
        ap (λ (b : Bool). put_if b (host_said w h) (said_to id (session_after w h) hs)) is
        ∙ rest (session_after w h) v (same_still w v h id (other_is (id_of h) id is) agree)
        ∙ ap (λ (b : Bool). said_to id v (if b then h ∷ lines_on id hs else lines_on id hs)) (sym is)

begun_agree : (files : List File) (id : ℕ) → Agree (host_begun files) (host_begun files) id
begun_agree files id = record { same_files = refl; same_case = refl; size = length-replicate {A = Option Case} 64 None; also = length-replicate {A = Option Case} 64 None }

-- the same lines on an id have the same answers
pub each_apart : (files : List File) (lines others : List Hosted) (id : ℕ) → lines_on id lines ≡ lines_on id others → said_to id (host_begun files) lines ≡ said_to id (host_begun files) others
each_apart files lines others id same =
    to_its_lines (host_begun files) (host_begun files) lines id (begun_agree files id)
    ∙ ap (said_to id (host_begun files)) same
    ∙ sym (to_its_lines (host_begun files) (host_begun files) others id (begun_agree files id))

-- ---- an id that is open

-- the live lines on an open id are answered as by a run alone
pub passes_on : (w : HostSession) (id : ℕ) (c : Case) (lives : List Live) → id < 64 → length w.cases ≡ 64 → case_of w id ≡ Some c → said_to id w (map (put_on id) lives) ≡ alone_said id (hosted_file w.files c.file) c.run lives
passes_on w id c [] below size is = refl
passes_on w id c (live ∷ lives) below size is =
    ap (λ (b : Bool). put_if b (host_said w (put_on id live)) (said_to id (session_after w (put_on id live)) (map (put_on id) lives))) (is_same id)
    ∙ ap (λ (text : List ℕ). text ∷ said_to id (session_after w (put_on id live)) (map (put_on id) lives)) now
    ∙ ap (λ (later : List (List ℕ)). flat_map (with_id id) (alone_lines (hosted_file w.files c.file) c.run live) ∷ later)
    (passes_on (session_after w (put_on id live)) id (passed_on w.files c live) lives below (as_many w (put_on id live) ∙ size)
    (changes w (put_on id live) size below ∙ ap (λ (o : Option Case). case_next w.files o (put_on id live)) is))
  where
    now : host_said w (put_on id live) ≡ flat_map (with_id id) (alone_lines (hosted_file w.files c.file) c.run live)
    now =
        ap (λ (b : Bool). if b then said_in w.files (case_of w id) (put_on id live) else line (denied_text (OutOfRange id))) (is_below id 64 below)
        ∙ ap (λ (o : Option Case). said_in w.files o (put_on id live)) is

-- ---- a run alone

-- its answers have the text of those of `run`
pub alone_text : (file : File) (run : Run) (live : Live) (bytes : List ℕ) → live_read bytes ≡ Some live → turn_text (run_turn file.names file.net file.bounds run bytes) ≡ flat_map line (alone_lines file run live)
alone_text file run live bytes is = ap (λ (o : Option Live). turn_text (live_turn file.names file.net file.bounds run o)) is ∙ by_live live
  where
    by_due : (t : ℕ) (o : Option ℕ) → turn_text (executing (moment_line file.names t (called file.net file.bounds run t)) (run_moved file.net file.bounds run t) o) ≡ flat_map line (answer_lines file.names o (moment_at t) (moment_answer file.net file.bounds run t None))
    by_due t None = ap (λ (xs : List ℕ). moment_line file.names t (called file.net file.bounds run t) ++ xs) (sym (nothing_after (line (codes "done"))))
    by_due t (Some u) = sym (nothing_after (moment_line file.names t (called file.net file.bounds run t)))

    by_refusal : (t : ℕ) (r : Option EventRefusal) → turn_text (moment_turn file.names file.net file.bounds run t r) ≡ flat_map line (answer_lines file.names (due file.net file.bounds (run_unless run (run_moved file.net file.bounds run t) r)) (moment_at t) (moment_answer file.net file.bounds run t r))
    by_refusal t None = by_due t (due file.net file.bounds (run_moved file.net file.bounds run t))
    by_refusal t (Some why) = sym (nothing_after (line (refused_text why)))

    by_outcome : (p : ℕ) (v : Bool) (due : Option ℕ) (r : Option EventRefusal) → turn_text (seen_turn run p v r) ≡ flat_map line (answer_lines file.names due (seen p v) (see_answer r))
    by_outcome p v due None = sym (nothing_after (line (seen_text p v)))
    by_outcome p v due (Some why) = sym (nothing_after (line (refused_text why)))

    by_live : (l : Live) → turn_text (live_turn file.names file.net file.bounds run (Some l)) ≡ flat_map line (alone_lines file run l)
    by_live (moment_at t) = by_refusal t (moment_refusal file.net file.bounds run t)
    by_live (seen p v) = by_outcome p v (due file.net file.bounds (run_unless run (handed run p v) (outcome_refusal file.net run p))) (outcome_refusal file.net run p)
    by_live due_now = sym (nothing_after (line (due_text (due file.net file.bounds run))))

-- it goes on as `run` does
pub alone_leads : (file : File) (run : Run) (live : Live) (bytes : List ℕ) → live_read bytes ≡ Some live → LeadsToRun file (alone_after file run live) (run_turn file.names file.net file.bounds run bytes)
alone_leads file run live bytes is =
    subst (λ (o : Option Live). LeadsToRun file (alone_after file run live) (live_turn file.names file.net file.bounds run o)) (sym is) (by_live live)
  where
    by_due : (t : ℕ) (o : Option ℕ) → due file.net file.bounds (run_moved file.net file.bounds run t) ≡ o → LeadsToRun file (run_moved file.net file.bounds run t) (executing (moment_line file.names t (called file.net file.bounds run t)) (run_moved file.net file.bounds run t) o)
    by_due t None none = none
    by_due t (Some u) some = refl

    by_refusal : (t : ℕ) (r : Option EventRefusal) → LeadsToRun file (run_unless run (run_moved file.net file.bounds run t) r) (moment_turn file.names file.net file.bounds run t r)
    by_refusal t None = by_due t (due file.net file.bounds (run_moved file.net file.bounds run t)) refl
    by_refusal t (Some why) = refl

    by_outcome : (p : ℕ) (v : Bool) (r : Option EventRefusal) → LeadsToRun file (run_unless run (handed run p v) r) (seen_turn run p v r)
    by_outcome p v None = refl
    by_outcome p v (Some why) = refl

    by_live : (l : Live) → LeadsToRun file (alone_after file run l) (live_turn file.names file.net file.bounds run (Some l))
    by_live (moment_at t) = by_refusal t (moment_refusal file.net file.bounds run t)
    by_live (seen p v) = by_outcome p v (outcome_refusal file.net run p)
    by_live due_now = refl
