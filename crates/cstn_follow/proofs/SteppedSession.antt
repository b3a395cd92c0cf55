-- A session with a further time-point.
use Rattle.std.proofs.Common.{ℕ, ◌≡◌, ◌<◌, ◌≤◌, Bool, true, false, List, Option, Some, None, length, arith, refl, sym, subst, ap, ◌∙◌}
use Rattle.std.specs.Prelude.{nat_le, if◌then◌else◌}
use Rattle.std.specs.List.{All}
use Rattle.cstn_net.specs.Limits.{most_constraints, most_edits, most_time_points}
use Rattle.cstn_lift.specs.Labelled.{Labelled}
use Rattle.cstn_lift.specs.Lowered.{lowered}
use Rattle.cstn_lift.specs.Read.{LabelledParts, the_labelled}
use Rattle.cstn_lift.specs.WellFormed.{IsLabelled}
use Rattle.cstn_history.specs.declared.errors.RestError.{RestError}
use Rattle.cstn_history.specs.declared.errors.RestError.TheVariants.{TooManyConstraints as AreTooMany, Memory as OutOfMemory}
use Rattle.cstn_history.specs.Histories.{History}
use Rattle.cstn_history.specs.Read.{HistoryParts, the_history, IsKeptFor}
use Rattle.cstn_history.specs.Steps.{stepped, with_place}
use Rattle.cstn_history.proofs.FurtherPoint.{placed_same}
use Rattle.cstn_follow.specs.declared.errors.StepError.{StepError}
use Rattle.cstn_follow.specs.declared.errors.StepError.TheVariants.{EditLimit, NoPlace, TooManyConstraints, Memory}
use Rattle.cstn_follow.specs.Executions.{ExecutionParts, IsExecution}
use Rattle.cstn_follow.specs.Following.{verdict_left}
use Rattle.cstn_follow.specs.Sessions.{SessionParts}
use Rattle.cstn_follow.specs.Stepping.{unstepped, verdict_stepped, no_room, no_room_now, IsStepRefusal}

-- what is carried out then
pub stepped_execution : (e : ExecutionParts) (network : LabelledParts) (history : HistoryParts) → IsExecution e → IsLabelled (the_labelled network)
    → length (lowered (the_labelled network)).constraints ≤ most_constraints → IsKeptFor (stepped (the_labelled e.network)) (with_place e.history)
    → the_labelled network ≡ stepped (the_labelled e.network) → history ≡ with_place e.history
    → IsExecution (record { network = network; history = history; fresh = e.fresh })
stepped_execution e network history good labelled few kept is placed = record {
  labelled = labelled;
  few = few;
  kept = subst (λ (m : Labelled). IsKeptFor m history) (sym is) (subst (IsKeptFor (stepped (the_labelled e.network))) (sym placed) kept);
  above = subst (λ (m : Labelled). All (λ c. c.id < e.fresh) m.base.constraints) (sym is) good.above;
  low = good.low;
}

-- the verdict on what is left of it
pub stepped_verdict : (e x : ExecutionParts) (cap : ℕ) → the_labelled x.network ≡ stepped (the_labelled e.network) → x.history ≡ with_place e.history
    → x.fresh ≡ e.fresh
    → verdict_left (the_labelled x.network) (the_history x.history) x.fresh cap ≡ verdict_left (stepped (the_labelled e.network)) (the_history e.history) e.fresh cap
stepped_verdict e x cap network history fresh =
    ap (λ (m : Labelled). verdict_left m (the_history x.history) x.fresh cap) network
    ∙ ap (λ (h : History). verdict_left (stepped (the_labelled e.network)) h x.fresh cap) (ap the_history history ∙ placed_same e.history)
    ∙ ap (λ n. verdict_left (stepped (the_labelled e.network)) (the_history e.history) n cap) fresh

-- where nothing refuses it there is room
pub few_edits : (edits points : ℕ) → no_room edits points ≡ None → edits < most_edits
few_edits edits points is = by (nat_le most_edits edits) (nat_le most_time_points points) refl is
  where
    by : (a b : Bool) → nat_le most_edits edits ≡ a → (if a then Some EditLimit else if b then Some NoPlace else None) ≡ None → edits < most_edits
    by true b more so = absurd (cc)
    by false b more so = grind arith

pub roomy : (edits points : ℕ) → no_room edits points ≡ None → points < most_time_points
roomy edits points is = by (nat_le most_edits edits) (nat_le most_time_points points) refl is
  where
    by : (a b : Bool) → nat_le most_time_points points ≡ b → (if a then Some EditLimit else if b then Some NoPlace else None) ≡ None → points < most_time_points
    by true b more so = absurd (cc)
    by false true more so = absurd (cc)
    by false false more so = grind arith

-- why it isn't put in, where there is no network of what would be left
pub refused_as : (s : SessionParts) (error : RestError) → no_room_now s ≡ None → (error ≡ AreTooMany → verdict_stepped s ≡ None)
    → IsStepRefusal s (unstepped error)
refused_as s AreTooMany room none = (room, none refl)
refused_as s (OutOfMemory e) room none = tt
