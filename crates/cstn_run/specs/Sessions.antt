-- What is answered to live lines, where the time-points may have labels.
use Rattle.std.specs.Prelude.{ℕ, Bool, List, Option, None, Some}
use Rattle.cstn_label.specs.Bounds.{Bound}
use Rattle.cstn_label.specs.declared.bounds.Bound.{Bound as PlanBound}
use Rattle.cstn_plan.specs.Plans.{the_bounds}
use Rattle.cstn_lift.specs.Labelled.{Labelled}
use Rattle.cstn_lift.specs.Lowered.{lowered}
use Rattle.cstn_lift.specs.Read.{LabelledParts, the_labelled}
use Rattle.cstn_exec.specs.Runs.{due}
use Rattle.cstn_exec.specs.Moves.{EventRefusal, moment_refusal}
use Rattle.cstn_exec.specs.Guides.{Guided, named, advanced, see_refusal, outcome_noted}
use Rattle.cstn_lines.specs.LiveLines.{Live, moment_at, seen, due_now, live_read}
use Rattle.cstn_reply.specs.Texts.{line, Said}
use Rattle.cstn_reply.specs.Sessions.{Turn, more, wrong}
use Rattle.cstn_exec.specs.Running.{moment_line, refused_text, seen_text, due_text, executing, unfinished, turn_with}

-- the answer to a moment: it names the time-points whose moment it is and whose completed labels hold
abbrev pub named_turn : List (List ℕ) → Labelled → List Bound → Guided → ℕ → Option EventRefusal → Turn Guided
named_turn names m bounds g t None = executing (moment_line names t (named m bounds g.run t)) (advanced m bounds g t) (due (lowered m) bounds (advanced m bounds g t).run)
named_turn names m bounds g t (Some refusal) = more (line (refused_text refusal)) g

-- the answer to an outcome
abbrev pub noted_turn : Guided → ℕ → Bool → Option EventRefusal → Turn Guided
noted_turn g p value None = more (line (seen_text p value)) (outcome_noted g p value)
noted_turn g p value (Some refusal) = more (line (refused_text refusal)) g

-- the answer to what a live line says
abbrev pub answer_turn : List (List ℕ) → Labelled → List Bound → Guided → Option Live → Turn Guided
answer_turn names m bounds g None = wrong
answer_turn names m bounds g (Some (moment_at t)) = named_turn names m bounds g t (moment_refusal (lowered m) bounds g.run t)
answer_turn names m bounds g (Some (seen p value)) = noted_turn g p value (see_refusal m g p)
answer_turn names m bounds g (Some due_now) = more (line (due_text (due (lowered m) bounds g.run))) g

-- the answer to a live line, where a labelled network is carried out by the bounds of a plan, under printed names
abbrev pub guide_turn : List (List ℕ) → Labelled → List Bound → Guided → List ℕ → Turn Guided
guide_turn names m bounds g text = answer_turn names m bounds g (live_read text)

-- what is said where the live lines end
abbrev pub guide_ending : Labelled → List Bound → Guided → Said
guide_ending m bounds g = unfinished (due (lowered m) bounds g.run)

-- what contracts see of a guided session: the labelled network, the bounds of the plan of the lowered one, the state of the
-- guide, and the printed names
pub record RunSessionParts : Type 0 where
  pub labelled : LabelledParts
  pub bounds : List PlanBound
  pub state : Guided
  pub names : List (List ℕ)

abbrev pub with_state : RunSessionParts → Guided → RunSessionParts
with_state guiding g = record { labelled = guiding.labelled; bounds = guiding.bounds; state = g; names = guiding.names }

abbrev pub guided_turn : RunSessionParts → List ℕ → Turn RunSessionParts
guided_turn guiding text =
    turn_with (with_state guiding) (guide_turn guiding.names (the_labelled guiding.labelled) (the_bounds guiding.bounds) guiding.state text)

abbrev pub guided_ending : RunSessionParts → Said
guided_ending guiding = guide_ending (the_labelled guiding.labelled) (the_bounds guiding.bounds) guiding.state
