-- What is said on an open id names least moments.
use Rattle.std.proofs.Common.{◌≡◌, ℕ, ◌<◌, ◌≤◌, List, ◌∷◌, [], map, ap, ◌∙◌, refl, Bool, true, false}
use Rattle.std.specs.Prelude.{◌↔◌, Option, Some, None, flat_map, nat_lt, if◌then◌else◌}
use Rattle.std.specs.List.{All, Contains}
use Rattle.std.specs.List.Sorted.{IsStrictlyIncreasing}
use Rattle.std.proofs.lemmas.List.Elements.{All-map, All-weaker}
use Rattle.cstn_net.specs.Networks.{IsWellFormed}
use Rattle.cstn_net.specs.Strategies.{IsConsistent}
use Rattle.cstn_plan.specs.Asked.{asked}
use Rattle.cstn_plan.proofs.PlanLemmas.{asked_earliest}
use Rattle.cstn_check.specs.Growth.{is_refuted, log_of, live_bounds}
use Rattle.cstn_check.proofs.Decides.{log_closed, log_sound}
use Rattle.cstn_exec.specs.Runs.{Run, due, called, observed_at, outcome_of}
use Rattle.cstn_exec.specs.Moves.{EventRefusal, moment_refusal, run_moved, outcome_refusal, handed, unless_unseen, unless_known}
use Rattle.cstn_exec.specs.Answers.{moment_answer, run_unless}
use Rattle.cstn_exec.specs.Right.{IsPlanBounds, IsRightRun, IsCalled, IsDue, IsDone}
use Rattle.cstn_exec.proofs.Knowing.{observed_from}
use Rattle.cstn_run.specs.hosted.Calls.{OutOfRange}
use Rattle.cstn_lines.specs.LiveLines.{Live, moment_at, seen, due_now}
use Rattle.cstn_lines.specs.HostLines.{Hosted, put_on}
use Rattle.cstn_reply.specs.Texts.{line}
use Rattle.cstn_exec.specs.Running.{due_text}
use Rattle.cstn_run.specs.hosted.Sessions.{File, with_id, answer_lines, denied_text}
use Rattle.cstn_run.specs.hosted.Alone.{alone_lines, alone_after, alone_after_all, said_after, Own, own_lines, own_from, own_file, own_run, said_by_own}
use Rattle.cstn_run.specs.hosted.Files.{Named, the_file}
use Rattle.cstn_run.specs.Least.{IsDueMoment}
use Rattle.cstn_run.specs.hosted.Least.{HasStrategy, HasPlanBounds, HostNamesLeast, HostTellsDue}
use Rattle.cstn_run.proofs.hosts.PutLines.{nothing_after}
use Rattle.cstn_run.proofs.hosts.Own.{answered}

-- the live bounds of the log of a network that no entry refutes are those of a plan
planned : (named : Named) → IsWellFormed named.net → is_refuted named.net (log_of named.net) ≡ false → HasPlanBounds (the_file named)
planned named wf stands = record {
  well_formed = wf;
  table = asked named.net (live_bounds (log_of named.net));
  earliest = asked_earliest named.net (live_bounds (log_of named.net)) wf.network (log_closed named.net wf.network wf.letters stands) (log_sound named.net wf.network wf.letters);
}

-- where each network has a strategy, each of their files has a plan
pub all_planned : (all : List Named) → ((named : Named) → IsWellFormed named.net → IsConsistent named.net → is_refuted named.net (log_of named.net) ≡ false) → All HasStrategy all → All HasPlanBounds (map the_file all)
all_planned all stands each =
    All-map HasPlanBounds the_file all (All-weaker HasStrategy (λ named. HasPlanBounds (the_file named)) (λ named good. planned named good.0 (stands named good.0 good.1)) all each)

-- ---- a run alone stays right

module _ (file : File) (plan : IsPlanBounds file.net file.bounds) (moves : (run : Run) (t : ℕ) → IsRightRun file.net run → moment_refusal file.net file.bounds run t ≡ None → IsRightRun file.net (run_moved file.net file.bounds run t)) (hands : (run : Run) (p : ℕ) → IsRightRun file.net run → outcome_refusal file.net run p ≡ None → p < 52 → IsRightRun file.net (handed run p true) × IsRightRun file.net (handed run p false)) where
  -- an outcome that is accepted is of one of the 52 propositions
  is_letter : (run : Run) (p : ℕ) → outcome_refusal file.net run p ≡ None → p < 52
  is_letter run p ok = by_moment (observed_at file.net run p) refl ok
    where
      by_moment : (o : Option ℕ) → observed_at file.net run p ≡ o → unless_unseen p o (unless_known p (outcome_of run p)) ≡ None → p < 52
      by_moment None at refused = let f : ⊥ = cc in absurd f
      by_moment (Some m) at accepted = let x = observed_from file.net plan.well_formed.network run p m at in plan.well_formed.letters x.0 p x.1

  right_after : (run : Run) (live : Live) → IsRightRun file.net run → IsRightRun file.net (alone_after file run live)
  right_after run (moment_at t) right = by_refusal (moment_refusal file.net file.bounds run t) refl
    where
      by_refusal : (r : Option EventRefusal) → moment_refusal file.net file.bounds run t ≡ r → IsRightRun file.net (run_unless run (run_moved file.net file.bounds run t) r)
      by_refusal None is = moves run t right is
      by_refusal (Some why) is = right
  right_after run (seen p v) right = by_refusal v (outcome_refusal file.net run p) refl
    where
      by_refusal : (v : Bool) (r : Option EventRefusal) → outcome_refusal file.net run p ≡ r → IsRightRun file.net (run_unless run (handed run p v) r)
      by_refusal true None is = (hands run p right is (is_letter run p is)).0
      by_refusal false None is = (hands run p right is (is_letter run p is)).1
      by_refusal v (Some why) is = right
  right_after run due_now right = right

  pub right_after_all : (run : Run) (lives : List Live) → IsRightRun file.net run → IsRightRun file.net (alone_after_all file run lives)
  right_after_all run [] right = right
  right_after_all run (live ∷ lives) right = right_after_all (alone_after file run live) lives (right_after run live right)

-- ---- what is said on an open id

module _ (files : List File) (lines : List Hosted) (id : ℕ) (own : Own) (open' : own_lines files id lines ≡ Some own) where
  said_open : (live : Live) → said_after files lines (put_on id live) ≡ flat_map (with_id id) (alone_lines (own_file files own) (own_run files own) live)
  said_open live = answered files lines (put_on id live) ∙ by_id (nat_lt id 64) open'
    where
      by_id : (b : Bool) → (if b then own_from files None id lines else None) ≡ Some own → (if b then said_by_own files (if b then own_from files None id lines else None) (put_on id live) else line (denied_text (OutOfRange id))) ≡ flat_map (with_id id) (alone_lines (own_file files own) (own_run files own) live)
      by_id true is = ap (λ (o : Option Own). said_by_own files o (put_on id live)) is
      by_id false is = let f : ⊥ = cc in absurd f

  pub names_least : (t : ℕ) → moment_refusal (own_file files own).net (own_file files own).bounds (own_run files own) t ≡ None
      → ((x : ℕ) → Contains (called (own_file files own).net (own_file files own).bounds (own_run files own) t) x ↔ IsCalled (own_file files own).net (own_run files own) t x)
      → IsStrictlyIncreasing (called (own_file files own).net (own_file files own).bounds (own_run files own) t)
      → HostNamesLeast files lines id t own
  names_least t accepted exactly ascending = record {
    named = called (own_file files own).net (own_file files own).bounds (own_run files own) t;
    says =
        said_open (moment_at t)
        ∙ ap (λ (r : Option EventRefusal). flat_map (with_id id) (answer_lines (own_file files own).names (due (own_file files own).net (own_file files own).bounds (run_unless (own_run files own) (run_moved (own_file files own).net (own_file files own).bounds (own_run files own) t) r)) (moment_at t) (moment_answer (own_file files own).net (own_file files own).bounds (own_run files own) t r))) accepted;
    ascending = ascending;
    exactly = exactly;
    least = λ s x agrees there. ((exactly x).0 there).least s agrees;
  }

  pub tells_due : IsDueMoment (own_file files own).net (own_run files own) (due (own_file files own).net (own_file files own).bounds (own_run files own)) → HostTellsDue files lines id own
  tells_due right = record {
    due = due (own_file files own).net (own_file files own).bounds (own_run files own);
    due_is = refl;
    says = said_open due_now ∙ nothing_after (with_id id (due_text (due (own_file files own).net (own_file files own).bounds (own_run files own))));
    right = right;
  }

-- what is due is the due moment
pub is_due_moment : (file : File) (run : Run) → (due file.net file.bounds run ≡ None → IsDone file.net run) → ((t : ℕ) → due file.net file.bounds run ≡ Some t → IsDue file.net run t × (t ≤ file.net.deadline)) → IsDueMoment file.net run (due file.net file.bounds run)
is_due_moment file run none some = by_due (due file.net file.bounds run) refl
  where
    by_due : (o : Option ℕ) → due file.net file.bounds run ≡ o → IsDueMoment file.net run o
    by_due None is = none is
    by_due (Some t) is = some t is
