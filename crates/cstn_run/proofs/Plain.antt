-- Where no time-point has a label, a guided session says what a plain one says.
use Rattle.std.proofs.Common.{ℕ, ◌≡◌, Bool, List, refl, ap, sym, ◌∙◌}
use Rattle.std.specs.Prelude.{Option, Some, None}
use Rattle.cstn_label.specs.Bounds.{Bound}
use Rattle.cstn_net.specs.Networks.{count}
use Rattle.cstn_lift.specs.Labelled.{Labelled, HasNoLabels}
use Rattle.cstn_lift.specs.Lowered.{lowered}
use Rattle.cstn_lines.specs.LiveLines.{Live, moment_at, seen, due_now, live_read}
use Rattle.cstn_exec.specs.Runs.{Run, start_of_run, called, due}
use Rattle.cstn_exec.specs.Moves.{EventRefusal, moment_refusal, run_moved, outcome_refusal}
use Rattle.cstn_exec.specs.Guides.{Guided, guide_begun, advanced}
use Rattle.cstn_exec.specs.Sound.{IsPlanned, IsGuided}
use Rattle.cstn_exec.proofs.Unlabelled.{all_named, just_moved, see_as_before}
use Rattle.cstn_reply.specs.Sessions.{Turn, more, last, wrong, play}
use Rattle.cstn_reply.specs.Reached.{heard}
use Rattle.cstn_exec.specs.Running.{moment_line, executing, moment_turn, seen_turn, live_turn, run_turn, run_ending, turn_with}
use Rattle.cstn_run.specs.Sessions.{named_turn, noted_turn, answer_turn, guide_turn, guide_ending}
use Rattle.cstn_run.specs.Meanings.{said_to}
use Rattle.cstn_run.proofs.Images.{same_play, same_heard}
use Rattle.cstn_run.proofs.Carrying.{follows, follows_right, begins_right}

-- a state with another run
abbrev with_run : Guided → Run → Guided
with_run g run = record { run = run; left = g.left }

module _ (names : List (List ℕ)) (m : Labelled) (bounds : List Bound) (plan : IsPlanned m bounds) (none : HasNoLabels m) where
  -- ---- one answer

  same_moment : (g : Guided) (t : ℕ) (r : Option EventRefusal) → named_turn names m bounds g t r ≡ turn_with (with_run g) (moment_turn names (lowered m) bounds g.run t r)
  same_moment g t (Some why) = refl
  same_moment g t None =
      ap (λ (xs : List ℕ). executing (moment_line names t xs) (advanced m bounds g t) (due (lowered m) bounds (advanced m bounds g t).run)) (all_named m plan.labelled none bounds g.run t)
      ∙ ap (λ (h : Guided). executing (moment_line names t (called (lowered m) bounds g.run t)) h (due (lowered m) bounds h.run)) (just_moved m plan.labelled none bounds g t)
      ∙ by_due (due (lowered m) bounds (run_moved (lowered m) bounds g.run t))
    where
      by_due : (o : Option ℕ) → executing (moment_line names t (called (lowered m) bounds g.run t)) (with_run g (run_moved (lowered m) bounds g.run t)) o ≡ turn_with (with_run g) (executing (moment_line names t (called (lowered m) bounds g.run t)) (run_moved (lowered m) bounds g.run t) o)
      by_due None = refl
      by_due (Some u) = refl

  same_outcome : (g : Guided) (p : ℕ) (v : Bool) (r : Option EventRefusal) → noted_turn g p v r ≡ turn_with (with_run g) (seen_turn g.run p v r)
  same_outcome g p v None = refl
  same_outcome g p v (Some why) = refl

  same_live : (g : Guided) (o : Option Live) → IsGuided m g → answer_turn names m bounds g o ≡ turn_with (with_run g) (live_turn names (lowered m) bounds g.run o)
  same_live g None right = refl
  same_live g (Some (moment_at t)) right = same_moment g t (moment_refusal (lowered m) bounds g.run t)
  same_live g (Some (seen p v)) right =
      ap (noted_turn g p v) (see_as_before m plan.labelled none g p right) ∙ same_outcome g p v (outcome_refusal (lowered m) g.run p)
  same_live g (Some due_now) right = refl

  same_turn : (g : Guided) (first : List ℕ) → IsGuided m g → guide_turn names m bounds g first ≡ turn_with (with_run g) (run_turn names (lowered m) bounds g.run first)
  same_turn g first right = same_live g (live_read first) right

  -- ---- all answers

  turned_back : (g : Guided) (t : Turn Run) → t ≡ turn_with (λ (next : Guided). next.run) (turn_with (with_run g) t)
  turned_back g (more text run) = refl
  turned_back g (last said) = refl
  turned_back g wrong = refl

  each_same : (g : Guided) (first : List ℕ) → IsGuided m g → run_turn names (lowered m) bounds g.run first ≡ turn_with (λ (next : Guided). next.run) (guide_turn names m bounds g first)
  each_same g first right =
      turned_back g (run_turn names (lowered m) bounds g.run first) ∙ ap (turn_with (λ (next : Guided). next.run)) (sym (same_turn g first right))

  stays : (g : Guided) (first text : List ℕ) (next : Guided) → IsGuided m g → guide_turn names m bounds g first ≡ more text next → IsGuided m next
  stays g first text next right is = follows_right names m bounds plan g first next right (follows names m bounds g first text next is)

  pub whole_same : (lines : List (List ℕ)) → said_to names m bounds lines ≡ play (run_turn names (lowered m) bounds) (run_ending (lowered m) bounds) (start_of_run (count m.base)) 0 lines
  whole_same lines =
      sym (same_play (guide_turn names m bounds) (run_turn names (lowered m) bounds) (λ g. g.run) (IsGuided m) stays each_same (guide_ending m bounds) (run_ending (lowered m) bounds) (λ g. refl)
      (guide_begun (count m.base)) 0 lines (begins_right names m bounds plan))

  pub heard_same : (lines : List (List ℕ)) → heard (guide_turn names m bounds) (guide_begun (count m.base)) lines ≡ heard (run_turn names (lowered m) bounds) (start_of_run (count m.base)) lines
  heard_same lines =
      sym (same_heard (guide_turn names m bounds) (run_turn names (lowered m) bounds) (λ g. g.run) (IsGuided m) stays each_same (guide_begun (count m.base)) lines (begins_right names m bounds plan))
