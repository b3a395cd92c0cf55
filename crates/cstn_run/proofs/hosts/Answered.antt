-- The answers to host lines, by what a host has answered.
use Rattle.std.proofs.Common.{◌≡◌, ℕ, Bool, true, false, List, [], ◌++◌, length, ap, sym, subst, ◌∙◌}
use Rattle.std.specs.Prelude.{Result, Ok, Err, OnOk, Option, is_none, slice_index_or, codes, decimal}
use Rattle.cstn_lines.specs.LiveLines.{moment_at, seen, due_now}
use Rattle.cstn_lines.specs.HostLines.{Hosted, opened, put_on}
use Rattle.cstn_exec.specs.Answers.{Moment, See, AskDue, Names, Kept, DueAt}
use Rattle.cstn_run.specs.declared.hosted.errors.HostError.{HostError}
use Rattle.cstn_run.specs.hosted.Hosts.{HostParts, named_last}
use Rattle.cstn_run.specs.hosted.Calls.{Open, Pass, Agreed, Told, answer_on, host_after}
use Rattle.cstn_run.specs.hosted.Read.{the_denial, is_memory}
use Rattle.cstn_exec.specs.Running.{spaced, seen_text, due_text}
use Rattle.cstn_run.specs.hosted.Sessions.{id_of, with_id, agreed_text, host_said, session_after}
use Rattle.cstn_run.specs.hosted.SessionRead.{HostSessionParts, the_host_session, error_text}
use Rattle.cstn_run.proofs.hosts.Same.{the_call, after_same, said_error, said_agreed}
use Rattle.cstn_run.proofs.hosts.Moments.{Moved, after_moment, named_then, due_then, goes_on, ends, kept_said, due_said}

-- if `two` follows from `one`, and `one` holds where the result is `Ok`, so does `two`
pub on_ok : {X E : Type 0} (r : Result X E) (one two : Type 0) → (one → two) → OnOk r one → OnOk r two
on_ok (Ok x) one two follows is = follows is
on_ok (Err e) one two follows is = tt

pub on_both : {X E : Type 0} (r : Result X E) (one two three : Type 0) → (one → two → three) → OnOk r one → OnOk r two → OnOk r three
on_both (Ok x) one two three follows is also = follows is also
on_both (Err e) one two three follows is also = tt

-- what holds where a result is `Ok` also holds for an equal result and an equal text
pub on_same : {X E : Type 0} (r s : Result X E) (x t u : List ℕ) → r ≡ s → t ≡ u → OnOk s (x ≡ u) → OnOk r (x ≡ t)
on_same {X = X} {E = E} r s x t u same texts is = subst (λ (q : Result X E). OnOk q (x ≡ t)) (sym same) (subst (λ (v : List ℕ). OnOk s (x ≡ v)) (sym texts) is)

pub on_result : {X E : Type 0} (r s : Result X E) (P : Type 0) → r ≡ s → OnOk s P → OnOk r P
on_result {X = X} {E = E} r s P same is = subst (λ (q : Result X E). OnOk q P) (sym same) is

pub on_any : {X E : Type 0} (r : Result X E) (P : Type 0) → P → OnOk r P
on_any (Ok x) P is = is
on_any (Err e) P is = tt

-- what contracts see of a session
abbrev pub seen_with : HostParts → List (List (List ℕ)) → HostSessionParts
seen_with host names = record { host = host; names = names }

module _ (old : HostSessionParts) (host : HostParts) (names : List (List (List ℕ))) (view : seen_with host names ≡ old) (as_many : length names ≡ length host.plans) where
  -- an id was opened or closed
  pub agreed_said : (h : Hosted) (text : List ℕ) → Agreed ≡ answer_on host (id_of h) (the_call h) → text ≡ agreed_text h → host_said (the_host_session old) h ≡ text
  agreed_said h text is text_is = subst (λ (w : HostSessionParts). host_said (the_host_session w) h ≡ text) view (said_agreed (seen_with host names) as_many h is ∙ sym text_is)

  -- a line was refused
  pub error_said : (h : Hosted) (e : HostError) (text : List ℕ) → the_denial e ≡ answer_on host (id_of h) (the_call h) → text ≡ error_text (id_of h) (the_denial e) → host_said (the_host_session old) h ≡ text
  error_said h e text is text_is = subst (λ (w : HostSessionParts). host_said (the_host_session w) h ≡ text) view (said_error (seen_with host names) as_many h e is ∙ sym text_is)

  -- the session after a host line is that of the host after the call
  pub after_is : (h : Hosted) (new : HostParts) → new ≡ host_after host (id_of h) (the_call h) → session_after (the_host_session old) h ≡ the_host_session (seen_with new names)
  after_is h new is =
      subst (λ (w : HostSessionParts). session_after (the_host_session w) h ≡ the_host_session (seen_with new names)) view
      (sym (after_same (seen_with host names) as_many h) ∙ ap (λ (x : HostParts). the_host_session (seen_with x names)) (sym is))

  -- an `open` that was refused
  pub open_said : {X E : Type 0} (r : Result X E) (id file : ℕ) (e : HostError) (text : List ℕ) → the_denial e ≡ answer_on host id (Open file (is_memory e)) → OnOk r (text ≡ error_text id (the_denial e)) → OnOk r (is_memory e ≡ false) → OnOk r (host_said (the_host_session old) (opened id file) ≡ text)
  open_said r id file e text is text_is wanted =
      on_both r (text ≡ error_text id (the_denial e)) (is_memory e ≡ false) (host_said (the_host_session old) (opened id file) ≡ text)
      (λ same none. error_said (opened id file) e text (is ∙ ap (λ (b : Bool). answer_on host id (Open file b)) none) same) text_is wanted

  pub open_after : {X E : Type 0} (r : Result X E) (id file : ℕ) (e : HostError) (new : HostParts) → new ≡ host_after host id (Open file (is_memory e)) → OnOk r (is_memory e ≡ false) → OnOk r (session_after (the_host_session old) (opened id file) ≡ the_host_session (seen_with new names))
  open_after r id file e new is wanted =
      on_ok r (is_memory e ≡ false) (session_after (the_host_session old) (opened id file) ≡ the_host_session (seen_with new names))
      (λ none. after_is (opened id file) new (is ∙ ap (λ (b : Bool). host_after host id (Open file b)) none)) wanted

  -- another line that was refused
  pub refused_said : {X E : Type 0} (r : Result X E) (h : Hosted) (e : HostError) (text : List ℕ) → the_denial e ≡ answer_on host (id_of h) (the_call h) → OnOk r (text ≡ error_text (id_of h) (the_denial e)) → OnOk r (host_said (the_host_session old) h ≡ text)
  refused_said r h e text is text_is = on_ok r (text ≡ error_text (id_of h) (the_denial e)) (host_said (the_host_session old) h ≡ text) (λ same. error_said h e text is same) text_is

  pub refused_after : {X E : Type 0} (r : Result X E) (h : Hosted) (new : HostParts) → new ≡ host_after host (id_of h) (the_call h) → OnOk r (session_after (the_host_session old) h ≡ the_host_session (seen_with new names))
  refused_after (Ok x) h new is = after_is h new is
  refused_after (Err e) h new is = tt

  -- an outcome was kept
  pub seen_said : (id p : ℕ) (v : Bool) (text : List ℕ) → Told Kept ≡ answer_on host id (Pass (See p v)) → text ≡ with_id id (seen_text p v) → host_said (the_host_session old) (put_on id (seen p v)) ≡ text
  seen_said id p v text is text_is = subst (λ (w : HostSessionParts). host_said (the_host_session w) (put_on id (seen p v)) ≡ text) view (kept_said (seen_with host names) as_many id p v is ∙ sym text_is)

  -- what is due was told
  pub asked_said : (id : ℕ) (t : Option ℕ) (text : List ℕ) → Told (DueAt t) ≡ answer_on host id (Pass AskDue) → text ≡ with_id id (due_text t) → host_said (the_host_session old) (put_on id due_now) ≡ text
  asked_said id t text is text_is = subst (λ (w : HostSessionParts). host_said (the_host_session w) (put_on id due_now) ≡ text) view (due_said (seen_with host names) as_many id t is ∙ sym text_is)

  -- a moment was accepted
  module _ (id t : ℕ) (m : Moved host id t) (told : Told (Names (named_last (after_moment host id t) id)) ≡ answer_on host id (Pass (Moment t))) where
    pub moment_said : (text : List ℕ) → false ≡ is_none (due_then (seen_with host names) as_many id t m) → text ≡ with_id id (codes "at " ++ decimal t ++ spaced (slice_index_or names m.before.file []) (named_then host id t m)) → host_said (the_host_session old) (put_on id (moment_at t)) ≡ text
    moment_said text more text_is = subst (λ (w : HostSessionParts). host_said (the_host_session w) (put_on id (moment_at t)) ≡ text) view (goes_on (seen_with host names) as_many id t m told more ∙ sym text_is)

    pub last_said : (text : List ℕ) → true ≡ is_none (due_then (seen_with host names) as_many id t m) → text ≡ with_id id (codes "at " ++ decimal t ++ spaced (slice_index_or names m.before.file []) (named_then host id t m)) ++ with_id id (codes "done") → host_said (the_host_session old) (put_on id (moment_at t)) ≡ text
    last_said text all text_is = subst (λ (w : HostSessionParts). host_said (the_host_session w) (put_on id (moment_at t)) ≡ text) view (ends (seen_with host names) as_many id t m told all ∙ sym text_is)
