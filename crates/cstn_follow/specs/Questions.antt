-- What is said to a question.
use Rattle.std.specs.Prelude.{ℕ, List, [], ◌∷◌, ◌++◌, map, flat_map, Option, None, Some, codes, decimal}
use Rattle.cstn_label.specs.Bounds.{Bound}
use Rattle.cstn_label.specs.Letters.{letter_of}
use Rattle.cstn_text.specs.PrintedNames.{printed_name}
use Rattle.cstn_log.specs.Cuts.{last_with_ancestors}
use Rattle.cstn_refute.specs.Texts.{refutation_shown}
use Rattle.cstn_lift.specs.Lowered.{lowered}
use Rattle.cstn_check.specs.Growth.{log_of, live_bounds}
use Rattle.cstn_check.specs.declared.verdicts.Verdict.{Verdict}
use Rattle.cstn_check.specs.declared.verdicts.Verdict.TheVariants.{Yes, No, Full}
use Rattle.cstn_next.specs.Next.{next_moment, named_at_next, awaited_props}
use Rattle.cstn_reply.specs.Texts.{line}
use Rattle.cstn_follow.specs.Following.{Following, in_full, by_digest, Heard, says, saves, left_now, name_of_point, names_left, verdict_now, verdict_line}

-- the session goes on as it is, and this is said, or the line of its verdict
abbrev pub tells : Following → List ℕ → Heard
tells s text = says text s

abbrev pub tells_verdict : Following → Heard
tells_verdict s = tells s (verdict_line s.cap (verdict_now s))

-- the time-points that are to be executed, each name behind a space, and the propositions whose outcomes are awaited
abbrev pub names_text : List (List ℕ) → List ℕ → List ℕ
names_text names xs = flat_map (λ x. 32 ∷ printed_name (name_of_point names x)) xs

abbrev pub steps_to_do_text : List (List ℕ) → List ℕ → List ℕ
steps_to_do_text names [] = []
steps_to_do_text names (x ∷ xs) = codes " do" ++ names_text names (x ∷ xs)

abbrev pub outcomes_text : List ℕ → List ℕ
outcomes_text [] = []
outcomes_text (p ∷ ps) = codes " wait " ++ map letter_of (p ∷ ps)

-- what is next: the moment, the time-points that are to be executed at it, and the propositions whose outcomes are awaited at it
abbrev pub next_text : List (List ℕ) → ℕ → List ℕ → List ℕ → List ℕ
next_text names t xs ps = codes "next " ++ decimal t ++ steps_to_do_text names xs ++ outcomes_text ps

-- what is next at this moment, if there is one, by the bounds of a plan of what is left
abbrev pub next_at : Following → List Bound → Option ℕ → List ℕ
next_at s bounds None = line (codes "done")
next_at s bounds (Some t) = line (next_text s.names t (named_at_next s.network s.history bounds t) (awaited_props s.network s.history t))

abbrev pub next_by : Following → List Bound → List ℕ
next_by s bounds = next_at s bounds (next_moment s.network s.history bounds)

-- after a yes what is said by the plan of what is left, or the line of the verdict
abbrev pub next_after : Following → Verdict → Heard
next_after s (Yes load) = tells s (next_by s (live_bounds (log_of (lowered (left_now s)))))
next_after s (No load) = tells_verdict s
next_after s Full = tells_verdict s

-- `next`: what is next
abbrev pub on_next : Following → Heard
on_next s = next_after s (verdict_now s)

-- after a no the refutation of what is left, lowered, with the names of what is left
abbrev pub check_after : Following → Verdict → Heard
check_after s (Yes load) = tells_verdict s
check_after s (No load) = tells s (refutation_shown (names_left s) load (last_with_ancestors (log_of (lowered (left_now s)))) ++ line (codes "end"))
check_after s Full = tells_verdict s

-- `check`: why
abbrev pub on_check : Following → Heard
on_check s = check_after s (verdict_now s)

-- `rest`: what is left, as a document
abbrev pub on_rest : Following → Heard
on_rest s = saves in_full (left_now s) (names_left s) s

-- `digest`: which plan it is, by the digest of its document
abbrev pub on_digest : Following → Heard
on_digest s = saves by_digest s.network s.names s
