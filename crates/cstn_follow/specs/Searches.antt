-- What is said to a question that takes several checks.
use Rattle.std.specs.Prelude.{ℕ, Bool, not, nat_lt, ◌&&◌, List, ◌∷◌, ◌++◌, length, flat_map, Option, None, Some, if◌then◌else◌, codes, decimal}
use Rattle.cstn_net.specs.Limits.{most_constraints}
use Rattle.cstn_net.specs.Networks.{Network}
use Rattle.cstn_text.specs.Names.{number_of}
use Rattle.cstn_text.specs.PrintedNames.{printed_name}
use Rattle.cstn_lift.specs.Completion.{completed_label}
use Rattle.cstn_lift.specs.Lowered.{lowered}
use Rattle.cstn_check.specs.declared.verdicts.Verdict.{Verdict}
use Rattle.cstn_check.specs.declared.verdicts.Verdict.TheVariants.{Yes, No, Full}
use Rattle.cstn_history.specs.Histories.{allows}
use Rattle.cstn_history.specs.Facts.{Done, Undecided}
use Rattle.cstn_reply.specs.Texts.{line, full_line}
use Rattle.cstn_follow.specs.Following.{Following, Heard, left_now, name_of_point, verdict_now, too_many}
use Rattle.cstn_follow.specs.FactLines.{unknown_name, refused_fact}
use Rattle.cstn_follow.specs.Questions.{tells, tells_verdict}
use Rattle.cstn_follow.specs.Waiting.{waits_until}
use Rattle.cstn_follow.specs.Blame.{ids_to_blame}

-- F8: what is left, and its lowered network, have no room for one constraint more
abbrev pub has_place_for_one : Network → Bool
has_place_for_one net = nat_lt (length net.constraints) most_constraints

-- why it isn't told until when x can wait: F4, where it was done at the moment given, F5, where it is ruled out, and F8
abbrev pub by_refusal : Following → ℕ → Option ℕ → Option (List ℕ)
by_refusal s x (Some t) = Some (line (refused_fact s.names (Done x t)))
by_refusal s x None =
    if not (allows s.history (completed_label s.network x)) then Some (line (refused_fact s.names (Undecided x)))
    else if has_place_for_one (left_now s).base && has_place_for_one (lowered (left_now s)) then None else Some too_many

-- until when x can wait, or the cap where a log that was tried is full
abbrev pub by_line : List (List ℕ) → ℕ → ℕ → List ℕ
by_line names t x = line (codes "by " ++ decimal t ++ 32 ∷ printed_name (name_of_point names x))

abbrev pub until_text : Following → ℕ → Option ℕ → List ℕ
until_text s x (Some t) = by_line s.names t x
until_text s x None = full_line s.cap

abbrev pub by_after : Following → ℕ → Verdict → Heard
by_after s x (Yes load) = tells s (until_text s x (waits_until s.network s.history s.fresh x s.cap))
by_after s x (No load) = tells_verdict s
by_after s x Full = tells_verdict s

abbrev pub by_unless : Following → ℕ → Option (List ℕ) → Heard
by_unless s x (Some refusal) = tells s refusal
by_unless s x None = by_after s x (verdict_now s)

abbrev pub by_number : Following → List ℕ → Option ℕ → Heard
by_number s name None = tells s (line (unknown_name name))
by_number s name (Some x) = by_unless s x (by_refusal s x (s.history.done x))

-- `by`: until when the time-point of this name can wait
abbrev pub on_by : Following → List ℕ → Heard
on_by s name = by_number s name (number_of s.names name)

-- the ids of the constraints that are to blame, or the cap where a log that was tried is full
abbrev pub ids_text : List ℕ → List ℕ
ids_text ids = flat_map (λ id. 32 ∷ decimal id) ids

abbrev pub blame_line : ℕ → Option (List ℕ) → List ℕ
blame_line cap (Some ids) = line (codes "blame" ++ ids_text ids)
blame_line cap None = full_line cap

abbrev pub blame_after : Following → Verdict → Heard
blame_after s (Yes load) = tells_verdict s
blame_after s (No load) = tells s (blame_line s.cap (ids_to_blame s.network s.history s.fresh s.cap))
blame_after s Full = tells_verdict s

-- `blame`: which constraints are to blame
abbrev pub on_blame : Following → Heard
on_blame s = blame_after s (verdict_now s)
