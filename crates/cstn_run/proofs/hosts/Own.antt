-- The answer to a host line is the one by its id's own lines.
use Rattle.std.proofs.Common.{◌≡◌, ℕ, ◌<◌, ◌+◌, List, [], ◌∷◌, ◌++◌, length, map, refl, ap, sym, subst, ◌∙◌, arith, Bool, true, false}
use Rattle.std.specs.Prelude.{Option, Some, None, nat_lt, ◌==◌, if◌then◌else◌}
use Rattle.std.specs.Option.{option_map}
use Rattle.std.proofs.lemmas.List.{get_or-replicate, length-replicate}
use Rattle.std.proofs.lemmas.Option.{same_Some}
use Rattle.cstn_exec.specs.Runs.{Run}
use Rattle.cstn_run.specs.hosted.Calls.{Agreed, Denied, NotAFile, OutOfRange}
use Rattle.cstn_lines.specs.LiveLines.{Live}
use Rattle.cstn_lines.specs.HostLines.{Hosted, opened, put_on, closed, host_read}
use Rattle.cstn_reply.specs.Texts.{line}
use Rattle.cstn_reply.specs.Sessions.{more}
use Rattle.cstn_reply.specs.Reached.{state_after, LeadsTo, Says}
use Rattle.cstn_reply.proofs.Sessions.{first_leads, Begins, says_next}
use Rattle.cstn_run.specs.hosted.Sessions.{File, Case, HostSession, host_begun, hosted_file, fresh, case_of, id_of, case_next, agreed_text, denied_text, answer_text, due_in, said_in, host_said, session_after, hosted_turn, host_turn, host_ending}
use Rattle.cstn_run.specs.hosted.Alone.{is_on, lines_on, said_to, after_all, said_after, alone_after, alone_after_all, alone_said, Own, own_with, own_from, own_lines, own_file, own_run, said_by_own, said_by}
use Rattle.cstn_run.proofs.hosts.Ids.{is_below, same_is, is_same, other_is}
use Rattle.cstn_run.proofs.hosts.Apart.{leaves, as_many, changes, Agree, to_its_lines, passes_on}

-- ---- what an id is open over

-- what an id is open over, by its own lines
abbrev pub case_by : List File → Own → Case
case_by files own = record { file = own.file; run = own_run files own }

-- a run after one more live line
after_more : (file : File) (run : Run) (lives : List Live) (live : Live) → alone_after_all file run (lives ++ live ∷ []) ≡ alone_after file (alone_after_all file run lives) live
after_more file run [] live = refl
after_more file run (first ∷ lives) live = after_more file (alone_after file run first) lives live

-- a line changes what its id is open over as it changes the id's own lines
steps : (files : List File) (own : Option Own) (h : Hosted) → case_next files (option_map (case_by files) own) h ≡ option_map (case_by files) (own_with files own h)
steps files None (opened id file) = opens (nat_lt file (length files))
  where
    opens : (b : Bool) → (if b then Some (fresh files file) else None) ≡ option_map (case_by files) (if b then Some (record { file = file; lives = [] }) else None)
    opens true = refl
    opens false = refl
steps files None (put_on id live) = refl
steps files None (closed id) = refl
steps files (Some own) (opened id file) = refl
steps files (Some own) (put_on id live) =
    ap (λ (r : Run). Some (record { file = own.file; run = r })) (sym (after_more (own_file files own) (fresh files own.file).run own.lives live))
steps files (Some own) (closed id) = refl

files_stay : (w : HostSession) (lines : List Hosted) → (after_all w lines).files ≡ w.files
files_stay w [] = refl
files_stay w (h ∷ hs) = files_stay (session_after w h) hs

many_stay : (w : HostSession) (lines : List Hosted) → length (after_all w lines).cases ≡ length w.cases
many_stay w [] = refl
many_stay w (h ∷ hs) = many_stay (session_after w h) hs ∙ as_many w h

-- after any lines, an id is open over what its own lines determine
follows : (w : HostSession) (own : Option Own) (id : ℕ) (lines : List Hosted) → length w.cases ≡ 64 → id < 64 → case_of w id ≡ option_map (case_by w.files) own → case_of (after_all w lines) id ≡ option_map (case_by w.files) (own_from w.files own id lines)
follows w own id [] size small is = is
follows w own id (h ∷ hs) size small is =
    follows (session_after w h) (if is_on id h then own_with w.files own h else own) id hs (as_many w h ∙ size) small (stepped (id_of h == id) refl)
  where
    stepped : (b : Bool) → (id_of h == id) ≡ b → case_of (session_after w h) id ≡ option_map (case_by w.files) (if b then own_with w.files own h else own)
    stepped true same =
        let at = same_is (id_of h) id same in
        ap (case_of (session_after w h)) (sym at)
        ∙ changes w h size (subst (λ (k : ℕ). k < 64) (sym at) small)
        ∙ ap (λ (o : Option Case). case_next w.files o h) (ap (case_of w) at ∙ is)
        ∙ steps w.files own h
    stepped false apart = leaves w h id (other_is (id_of h) id apart) ∙ is

begun_many : (files : List File) → length (host_begun files).cases ≡ 64
begun_many files = length-replicate {A = Option Case} 64 None

-- ---- what is said

-- what is said to a line is what is said by the own lines of its id
says_own : (files : List File) (own : Option Own) (h : Hosted) → said_in files (option_map (case_by files) own) h ≡ said_by_own files own h
says_own files None (opened id file) = opens (nat_lt file (length files))
  where
    opens : (b : Bool) → answer_text [] (due_in files (if b then Some (fresh files file) else None)) (opened id file) (if b then Agreed else Denied (NotAFile file)) ≡ (if b then agreed_text (opened id file) else line (denied_text (NotAFile file)))
    opens true = refl
    opens false = refl
says_own files None (put_on id live) = refl
says_own files None (closed id) = refl
says_own files (Some own) (opened id file) = refl
says_own files (Some own) (put_on id live) = refl
says_own files (Some own) (closed id) = refl

pub answered : (files : List File) (lines : List Hosted) (hosted : Hosted) → said_after files lines hosted ≡ said_by files lines hosted
answered files lines hosted = at (nat_lt (id_of hosted) 64) refl
  where
    reached : HostSession
    reached = after_all (host_begun files) lines

    at : (b : Bool) → nat_lt (id_of hosted) 64 ≡ b
        → (if b then said_in reached.files (case_of reached (id_of hosted)) hosted else line (denied_text (OutOfRange (id_of hosted))))
        ≡ (if b then said_by_own files (if b then own_from files None (id_of hosted) lines else None) hosted else line (denied_text (OutOfRange (id_of hosted))))
    at true is =
        let small : id_of hosted < 64 = grind arith in
        ap (λ (fs : List File). said_in fs (case_of reached (id_of hosted)) hosted) (files_stay (host_begun files) lines)
        ∙ ap (λ (o : Option Case). said_in files o hosted)
        (follows (host_begun files) None (id_of hosted) lines (begun_many files) small (get_or-replicate {A = Option Case} 64 (id_of hosted) None None small))
        ∙ says_own files (own_from files None (id_of hosted) lines) hosted
    at false is = refl

-- ---- an id that was opened

abbrev first_byte : List ℕ → ℕ
first_byte [] = 0
first_byte (b ∷ bytes) = b

other_byte : ◌≡◌ {A = ℕ} 114 111 → ⊥
other_byte is = grind arith

-- where `open` is answered by `opened`, the id is open over that file from the start
opens_fresh : (w : HostSession) (id file : ℕ) → length w.cases ≡ 64 → host_said w (opened id file) ≡ agreed_text (opened id file) → case_of (session_after w (opened id file)) id ≡ Some (fresh w.files file)
opens_fresh w id file size is = by_id (nat_lt id 64) refl is
  where
    by_file : (b : Bool) → answer_text [] (due_in w.files (if b then Some (fresh w.files file) else None)) (opened id file) (if b then Agreed else Denied (NotAFile file)) ≡ agreed_text (opened id file) → (if b then Some (fresh w.files file) else None) ≡ Some (fresh w.files file)
    by_file true says = refl
    by_file false says = absurd (other_byte (ap first_byte says))

    by_case : (o : Option Case) → said_in w.files o (opened id file) ≡ agreed_text (opened id file) → case_next w.files o (opened id file) ≡ Some (fresh w.files file)
    by_case None says = by_file (nat_lt file (length w.files)) says
    by_case (Some c) says = absurd (other_byte (ap first_byte says))

    by_id : (b : Bool) → nat_lt id 64 ≡ b → (if b then said_in w.files (case_of w id) (opened id file) else line (denied_text (OutOfRange id))) ≡ agreed_text (opened id file) → case_of (session_after w (opened id file)) id ≡ Some (fresh w.files file)
    by_id true at says =
        let small : id < 64 = grind arith in
        changes w (opened id file) size small ∙ by_case (case_of w id) says
    by_id false at says = absurd (other_byte (ap first_byte says))

pub opened_alone : (files : List File) (before lines : List Hosted) (id file : ℕ) (lives : List Live) → said_after files before (opened id file) ≡ agreed_text (opened id file) → lines_on id lines ≡ map (put_on id) lives → said_to id (session_after (after_all (host_begun files) before) (opened id file)) lines ≡ alone_said id (hosted_file files file) (fresh files file).run lives
opened_alone files before lines id file lives says is = by_id (nat_lt id 64) refl
  where
    reached : HostSession
    reached = after_all (host_begun files) before

    now : HostSession
    now = session_after reached (opened id file)

    size : length now.cases ≡ 64
    size = as_many reached (opened id file) ∙ many_stay (host_begun files) before ∙ begun_many files

    same_files : now.files ≡ files
    same_files = files_stay (host_begun files) before

    over : case_of now id ≡ Some (fresh files file)
    over =
        opens_fresh reached id file (many_stay (host_begun files) before ∙ begun_many files) says
        ∙ ap (λ (fs : List File). Some (fresh fs file)) same_files

    agree : Agree now now id
    agree = record { same_files = refl; same_case = refl; size = size; also = size }

    by_id : (b : Bool) → nat_lt id 64 ≡ b → said_to id now lines ≡ alone_said id (hosted_file files file) (fresh files file).run lives
    by_id true at =
        let small : id < 64 = grind arith in
        to_its_lines now now lines id agree
        ∙ ap (said_to id now) is
        ∙ passes_on now id (fresh files file) lives small size over
        ∙ ap (λ (fs : List File). alone_said id (hosted_file fs file) (fresh files file).run lives) same_files
    by_id false at =
        absurd (other_byte (ap first_byte (sym (ap (λ (b : Bool). if b then said_in reached.files (case_of reached id) (opened id file) else line (denied_text (OutOfRange id))) at) ∙ says)))

-- ---- own lines

own_append : (files : List File) (own : Option Own) (id : ℕ) (xs ys : List Hosted) → own_from files own id (xs ++ ys) ≡ own_from files (own_from files own id xs) id ys
own_append files own id [] ys = refl
own_append files own id (h ∷ hs) ys = own_append files (if is_on id h then own_with files own h else own) id hs ys

closes : (files : List File) (own : Option Own) (id : ℕ) → own_with files own (closed id) ≡ None
closes files None id = refl
closes files (Some own) id = refl

pub not_open : (files : List File) (lines : List Hosted) (id : ℕ) → own_lines files id (lines ++ closed id ∷ []) ≡ None
not_open files lines id = at (nat_lt id 64)
  where
    at : (b : Bool) → (if b then own_from files None id (lines ++ closed id ∷ []) else None) ≡ None
    at true =
        let own = own_from files None id lines in
        own_append files None id lines (closed id ∷ [])
        ∙ ap (λ (b : Bool). if b then own_with files own (closed id) else own) (is_same id)
        ∙ closes files own id
    at false = refl

pub anew : (files : List File) (lines : List Hosted) (id file : ℕ) → own_lines files id lines ≡ None → id < 64 → file < length files → own_lines files id (lines ++ opened id file ∷ []) ≡ Some (record { file = file; lives = [] })
anew files lines id file none small inside =
    let own = own_from files None id lines in
    let before : own ≡ None = sym (ap (λ (b : Bool). if b then own else None) (is_below id 64 small)) ∙ none in
    ap (λ (b : Bool). if b then own_from files None id (lines ++ opened id file ∷ []) else None) (is_below id 64 small)
    ∙ own_append files None id lines (opened id file ∷ [])
    ∙ ap (λ (b : Bool). if b then own_with files own (opened id file) else own) (is_same id)
    ∙ ap (λ (o : Option Own). own_with files o (opened id file)) before
    ∙ ap (λ (b : Bool). if b then Some (record { file = file; lives = [] }) else None) (is_below file (length files) inside)

abbrev Inside : List File → Option Own → Type 0
Inside files None = Unit {0}
Inside files (Some own) = own.file < length files

with_inside : (files : List File) (own : Option Own) (h : Hosted) → Inside files own → Inside files (own_with files own h)
with_inside files None (opened id file) is = by_file (nat_lt file (length files)) refl
  where
    by_file : (b : Bool) → nat_lt file (length files) ≡ b → Inside files (if b then Some (record { file = file; lives = [] }) else None)
    by_file true at = grind arith
    by_file false at = tt
with_inside files None (put_on id live) is = is
with_inside files None (closed id) is = is
with_inside files (Some own) (opened id file) is = is
with_inside files (Some own) (put_on id live) is = is
with_inside files (Some own) (closed id) is = tt

own_inside : (files : List File) (own : Option Own) (id : ℕ) (lines : List Hosted) → Inside files own → Inside files (own_from files own id lines)
own_inside files own id [] is = is
own_inside files own id (h ∷ hs) is = own_inside files (if is_on id h then own_with files own h else own) id hs (by_on (is_on id h))
  where
    by_on : (b : Bool) → Inside files (if b then own_with files own h else own)
    by_on true = with_inside files own h is
    by_on false = is

-- an id is open over one of the files
pub file_inside : (files : List File) (lines : List Hosted) (id : ℕ) (own : Own) → own_lines files id lines ≡ Some own → own.file < length files
file_inside files lines id own is = by_id (nat_lt id 64) is
  where
    by_id : (b : Bool) → (if b then own_from files None id lines else None) ≡ Some own → own.file < length files
    by_id true at = subst (Inside files) at (own_inside files None id lines tt)
    by_id false at = let f : ⊥ = cc in absurd f

-- ---- a session of lines

same_first : (o p : Option Hosted) (xs ys : List (Option Hosted)) → o ∷ xs ≡ p ∷ ys → o ≡ p
same_first o p xs ys is = cc

same_rest : (o p : Option Hosted) (xs ys : List (Option Hosted)) → o ∷ xs ≡ p ∷ ys → xs ≡ ys
same_rest o p xs ys is = cc

no_lines : (o : Option Hosted) (xs : List (Option Hosted)) → [] ≡ o ∷ xs → ⊥
no_lines o xs is = let f : ⊥ = cc in f

some_lines : (o : Option Hosted) (xs : List (Option Hosted)) → o ∷ xs ≡ [] → ⊥
some_lines o xs is = let f : ⊥ = cc in f

same_next : (text other : List ℕ) (a b : HostSession) → more text a ≡ more other b → a ≡ b
same_next text other a b is = cc

-- lines lead a session to the state after what they say
reaches : (w g : HostSession) (n : ℕ) (texts : List (List ℕ)) (lines : List Hosted) → map host_read texts ≡ map Some lines → state_after host_turn w n texts ≡ Some g → g ≡ after_all w lines
reaches w g n [] [] reads is = sym (same_Some w g is)
reaches w g n [] (h ∷ hs) reads is = absurd (no_lines (Some h) (map Some hs) reads)
reaches w g n (text ∷ texts) [] reads is = absurd (some_lines (host_read text) (map host_read texts) reads)
reaches w g n (text ∷ texts) (h ∷ hs) reads is =
    let l = first_leads host_turn w g n text texts is in
    let turn : more (host_said w h) (session_after w h) ≡ more l.text l.next =
    ap (hosted_turn w) (sym (same_first (host_read text) (Some h) (map host_read texts) (map Some hs) reads)) ∙ l.answer in
    reaches l.next g (n + 1) texts hs (same_rest (host_read text) (Some h) (map host_read texts) (map Some hs) reads) l.rest
    ∙ ap (λ (v : HostSession). after_all v hs) (sym (same_next (host_said w h) l.text (session_after w h) l.next turn))

pub session_answered : (files : List File) (before : List (List ℕ)) (next : List ℕ) (lines : List Hosted) (hosted : Hosted) (session : HostSession) → map host_read before ≡ map Some lines → host_read next ≡ Some hosted → LeadsTo host_turn (host_begun files) before next session → Says host_turn host_ending (host_begun files) before next (said_by files lines hosted)
session_answered files before next lines hosted session reads is leads =
    says_next host_turn host_ending (host_begun files) session before next (said_by files lines hosted) leads
    (subst (λ (o : Option Hosted). Begins (hosted_turn session o) (said_by files lines hosted)) (sym is)
    (ap (λ (w : HostSession). host_said w hosted) (reaches (host_begun files) session 0 before lines reads leads.state) ∙ answered files lines hosted))
