-- What `run` tells.
use Rattle.std.specs.Prelude.{◌≡◌, ◌<◌, ℕ, Bool, false, List, map, Option, None, Some}
use Rattle.cstn_label.specs.Bounds.{Bound}
use Rattle.cstn_net.specs.Networks.{count}
use Rattle.cstn_text.specs.PrintedNames.{printed_name}
use Rattle.cstn_lift.specs.Labelled.{Labelled}
use Rattle.cstn_lift.specs.Lowered.{lowered}
use Rattle.cstn_check.specs.Growth.{load_of}
use Rattle.cstn_exec.specs.Moves.{moment_refusal}
use Rattle.cstn_exec.specs.Guides.{Guided, guide_begun}
use Rattle.cstn_lines.specs.LiveLines.{moment_at, seen, due_now, live_read}
use Rattle.cstn_reply.specs.Texts.{yes_line}
use Rattle.cstn_run.specs.Sessions.{guide_turn, guide_ending}
use Rattle.cstn_run.specs.Meanings.{GuidesTo, GuideNamesLeast, GuideTellsDue, AcceptsExactly, SeesExactly, IsTimely, said_to, IsCarriedThrough, EndsUnfinished}
use Rattle.cstn_headline.specs.Verdicts.{IsLabelledNo}
use Rattle.cstn_top.specs.Lines.{AreAnswered, StopsUnread}
use Rattle.cstn_top.specs.Verdicts.{IsLabelledYes}
use Rattle.cstn_top.specs.commands.Run.{run_bounds}
use Rattle.cstn_headline.specs.Accepted.{IsNoText}
use Rattle.cstn_headline.specs.Telling.{Telling}
use Rattle.cstn_headline.specs.Sessions.{Wrote}

-- After any lines, a moment that is accepted is answered with exactly the time-points that aren't executed yet, whose completed
-- labels hold, and whose least moment it is, and `due` with the due moment. A moment is accepted exactly where something is left
-- to do, it is above the last accepted one, no outcome is awaited at it, and it is at most the due moment. An outcome is accepted
-- exactly where its observer was named and no outcome of that proposition is kept. Over any lines, each time-point that an answer
-- names is named at its least moment.
pub record AnswersLeast (names : List (List ℕ)) (m : Labelled) (bounds : List Bound) : Type 0 where
  pub moments : (before : List (List ℕ)) (next : List ℕ) (g : Guided) (t : ℕ) → GuidesTo names m bounds before next g → live_read next ≡ Some (moment_at t) → moment_refusal (lowered m) bounds g.run t ≡ None → GuideNamesLeast names m bounds before next g t
  pub accepted : (before : List (List ℕ)) (next : List ℕ) (g : Guided) (t : ℕ) → GuidesTo names m bounds before next g → live_read next ≡ Some (moment_at t) → AcceptsExactly names m bounds before next g t
  pub outcomes : (before : List (List ℕ)) (next : List ℕ) (g : Guided) (p : ℕ) (value : Bool) → GuidesTo names m bounds before next g → live_read next ≡ Some (seen p value) → SeesExactly names m bounds before next g p value
  pub timely : (lines : List (List ℕ)) → IsTimely names m bounds lines
  pub due : (before : List (List ℕ)) (next : List ℕ) (g : Guided) → GuidesTo names m bounds before next g → live_read next ≡ Some due_now → GuideTellsDue names m bounds before next g

-- what is said to the lines of the live source after yes is the text, and this holds of the lines
abbrev pub WroteRun : Option (List ℕ) → List ℕ → List (List ℕ) → Labelled → (List (List ℕ) → Type 0) → Type 0
WroteRun live text names m OfLines = Wrote false (guide_turn names m (run_bounds m)) (guide_ending m (run_bounds m)) (yes_line (load_of (lowered m))) (guide_begun (count m.base)) live text OfLines

-- After yes, the lines carry the run to its end, as one strategy does that meets each constraint in force; or they end while something
-- is due, and the due moment is told; or one of them is of no grammar, too long or too late. Or the network has no strategy, or its log
-- has more than `cap` entries.
abbrev pub run_telling : ℕ → Option (List ℕ) → List ℕ → List (List ℕ) → Labelled → Telling
run_telling cap live text names m = record {
  good = IsLabelledYes cap m × WroteRun live text (map printed_name names) m (IsCarriedThrough (map printed_name names) m (run_bounds m));
  bad = IsLabelledNo cap m × IsNoText names (lowered m) text;
  full = cap < load_of (lowered m);
  unfinished = IsLabelledYes cap m
      × WroteRun live text (map printed_name names) m (λ lines. AreAnswered (guide_turn (map printed_name names) m (run_bounds m)) (guide_begun (count m.base)) lines × EndsUnfinished (map printed_name names) m (run_bounds m) lines);
  script = IsLabelledYes cap m
      × WroteRun live text (map printed_name names) m (λ lines. StopsUnread (guide_turn (map printed_name names) m (run_bounds m)) (guide_begun (count m.base)) (λ line. live_read line ≡ None) lines (said_to (map printed_name names) m (run_bounds m) lines).text);
  wide = ⊥;
}
