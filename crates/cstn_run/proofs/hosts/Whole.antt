-- What is said to a host line is whole lines.
use Rattle.std.proofs.Common.{◌≡◌, ℕ, Bool, true, false, List, [], ◌∷◌, ◌++◌, refl, ap, sym, subst, ◌∙◌, inl, inr, append_assoc}
use Rattle.std.specs.Prelude.{nat_lt, if◌then◌else◌, Option, flat_map, codes, decimal}
use Rattle.cstn_lines.specs.HostLines.{Hosted, opened, put_on, closed}
use Rattle.cstn_run.specs.hosted.Calls.{HostAnswer, Agreed, FileIs, Told, Denied, OutOfRange}
use Rattle.cstn_reply.specs.Written.{EndsLine}
use Rattle.cstn_reply.specs.Texts.{line}
use Rattle.cstn_run.specs.hosted.Sessions.{HostSession, id_of, with_id, case_of, case_next, answer_in, answer_lines, live_line_of, agreed_text, denied_text, answer_text, names_in, due_in, said_in, host_said}
use Rattle.cstn_run.proofs.hosts.PutLines.{nothing_after}

lines_end : (id : ℕ) (lines : List (List ℕ)) → EndsLine (flat_map (with_id id) lines)
lines_end id [] = inl refl
lines_end id (first ∷ lines) = at (lines_end id lines)
  where
    at : EndsLine (flat_map (with_id id) lines) → EndsLine (with_id id first ++ flat_map (with_id id) lines)
    at (inl none) = inr (decimal id ++ 32 ∷ first, ap (λ (xs : List ℕ). with_id id first ++ xs) none ∙ nothing_after (with_id id first))
    at (inr (front, is)) = inr (with_id id first ++ front, ap (λ (xs : List ℕ). with_id id first ++ xs) is ∙ sym (append_assoc (with_id id first) front (10 ∷ [])))

agreed_ends : (h : Hosted) → EndsLine (agreed_text h)
agreed_ends (opened id file) = inr (codes "opened " ++ decimal id, refl)
agreed_ends (put_on id live) = inl refl
agreed_ends (closed id) = inr (codes "closed " ++ decimal id, refl)

answer_ends : (names : List (List ℕ)) (due : Option ℕ) (h : Hosted) (a : HostAnswer) → EndsLine (answer_text names due h a)
answer_ends names due h Agreed = agreed_ends h
answer_ends names due h (FileIs file) = inl refl
answer_ends names due h (Told a) = lines_end (id_of h) (answer_lines names due (live_line_of h) a)
answer_ends names due h (Denied why) = inr (denied_text why, refl)

pub text_ends : (session : HostSession) (h : Hosted) (text : List ℕ) → host_said session h ≡ text → EndsLine text
text_ends session h text is = subst EndsLine is (at (nat_lt (id_of h) 64))
  where
    at : (b : Bool) → EndsLine (if b then said_in session.files (case_of session (id_of h)) h else line (denied_text (OutOfRange (id_of h))))
    at true = answer_ends (names_in session.files (case_of session (id_of h))) (due_in session.files (case_next session.files (case_of session (id_of h)) h)) h (answer_in session.files (case_of session (id_of h)) h)
    at false = inr (denied_text (OutOfRange (id_of h)), refl)
