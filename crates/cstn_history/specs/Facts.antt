-- Facts: which are refused, and what the history is once one is recorded.
use Rattle.std.specs.Prelude.{ℕ, zero, suc, nat_lt, nat_le, max, ◌==◌, cond, Bool, ◌&&◌, not, Option, None, Some, if◌then◌else◌}
use Rattle.std.specs.List.{list_all, range_with_len}
use Rattle.cstn_label.specs.declared.marks.Mark.{Mark}
use Rattle.cstn_label.specs.Labels.{Label}
use Rattle.cstn_label.specs.Marks.{is_absent}
use Rattle.cstn_net.specs.Limits.{most_deadline, most_reaction}
use Rattle.cstn_net.specs.Networks.{count}
use Rattle.cstn_lift.specs.Labelled.{Labelled}
use Rattle.cstn_lift.specs.Completion.{completed_label}
use Rattle.cstn_lift.specs.Lowered.{observer_of}
use Rattle.cstn_label.specs.Tests.{fits}
use Rattle.cstn_history.specs.Histories.{History, allows}

-- Why a fact is refused. F1: the moment that it is to be now has passed. F2: the moment is out of range. F3: no time-point has the
-- number. F4: the time-point was done, at this moment. F5: what was told doesn't decide that the time-point is executed, or rules it
-- out. F6: no time-point that is done observes the proposition. F7: the proposition was told, with this value.
pub data FactRefusal : Type 0 where
  Past : (now : ℕ) → FactRefusal
  OutOfRange : (moment : ℕ) → FactRefusal
  NoSuch : (node : ℕ) → FactRefusal
  Done : (node moment : ℕ) → FactRefusal
  Undecided : (node : ℕ) → FactRefusal
  NotObserved : (prop : ℕ) → FactRefusal
  Told : (prop : ℕ) → (value : Bool) → FactRefusal

-- what was told settles the mark
abbrev pub settles_mark : Option Bool → Mark → Bool
settles_mark None a = is_absent a
settles_mark (Some v) a = fits v a

-- what was told of the 52 propositions decides that the label holds
unfoldable pub settles : History → Label → Bool
settles h a = list_all (λ p. settles_mark (h.told p) (a p)) (range_with_len 0 52)

-- the moment is above the latest one
abbrev pub is_beyond : ℕ → Bool
is_beyond t = nat_lt most_deadline t

-- F1 and F2: why it can't be this moment now
abbrev pub now_refusal : History → ℕ → Option FactRefusal
now_refusal h t = if nat_lt t h.now then Some (Past h.now) else if is_beyond t then Some (OutOfRange t) else None

-- F4, where the time-point was done at this moment, and F5
abbrev pub again_refusal : Labelled → History → ℕ → Option ℕ → Option FactRefusal
again_refusal m h x (Some u) = Some (Done x u)
again_refusal m h x None = if settles h (completed_label m x) then None else Some (Undecided x)

-- F2 to F5: why the time-point can't be done at this moment
abbrev pub done_refusal : Labelled → History → ℕ → ℕ → Option FactRefusal
done_refusal m h t x =
    if is_beyond t then Some (OutOfRange t)
    else if nat_le (count m.base) x then Some (NoSuch x)
    else again_refusal m h x (h.done x)

-- when the observer was done, where there is one that is done
abbrev pub since : History → Option ℕ → Option ℕ
since h None = None
since h (Some x) = h.done x

-- when the observer of p was done, where it is done
abbrev pub observed_since : Labelled → History → ℕ → Option ℕ
observed_since m h p = since h (observer_of m.base p)

-- F7, where this value was told, and F2, where the observer was done at u
abbrev pub again_told : ℕ → ℕ → ℕ → Option Bool → Option FactRefusal
again_told t p u (Some v) = Some (Told p v)
again_told t p u None = if nat_lt t u then Some (OutOfRange t) else None

-- F6, where the observer isn't done, and what else there is
abbrev pub told_after : History → ℕ → ℕ → Option ℕ → Option FactRefusal
told_after h t p None = Some (NotObserved p)
told_after h t p (Some u) = again_told t p u (h.told p)

-- F2, F6 and F7: why the outcome of p can't have come at this moment
abbrev pub told_refusal : Labelled → History → ℕ → ℕ → Option FactRefusal
told_refusal m h t p = if is_beyond t then Some (OutOfRange t) else told_after h t p (observed_since m h p)

-- the latest moment at which an outcome is expected: 1,000 where the origin observes it
abbrev pub latest_expected : Option ℕ → ℕ
latest_expected None = most_deadline
latest_expected (Some zero) = most_reaction
latest_expected (Some (suc x)) = most_deadline

-- F7, where this value was told, and F2, where the observer was done at u
abbrev pub again_expected : Labelled → History → ℕ → ℕ → ℕ → Option Bool → Option FactRefusal
again_expected m h t p u (Some v) = Some (Told p v)
again_expected m h t p u None =
    if not (nat_lt t h.now) && nat_lt u t && nat_le t (latest_expected (observer_of m.base p)) then None else Some (OutOfRange t)

abbrev pub expected_after : Labelled → History → ℕ → ℕ → Option ℕ → Option FactRefusal
expected_after m h t p None = Some (NotObserved p)
expected_after m h t p (Some u) = again_expected m h t p u (h.told p)

-- F6, F7 and F2: why the outcome of p can't be expected at this moment
abbrev pub expected_refusal : Labelled → History → ℕ → ℕ → Option FactRefusal
expected_refusal m h t p = expected_after m h t p (observed_since m h p)

-- F4, where the time-point was done at this moment, and F5, where it is ruled out
abbrev pub ruled_out : Labelled → History → ℕ → Option ℕ → Option FactRefusal
ruled_out m h x (Some u) = Some (Done x u)
ruled_out m h x None = if not (allows h (completed_label m x)) then Some (Undecided x) else None

-- F3 to F5: why the time-point doesn't wait
abbrev pub wait_refusal : Labelled → History → ℕ → Option FactRefusal
wait_refusal m h x = if nat_le (count m.base) x then Some (NoSuch x) else ruled_out m h x (h.done x)

-- F2 to F5: why the time-point can't be ready at this moment
abbrev pub ready_refusal : Labelled → History → ℕ → ℕ → Option FactRefusal
ready_refusal m h t x = if is_beyond t then Some (OutOfRange t) else wait_refusal m h x

-- it is t now
abbrev pub at_now : History → ℕ → History
at_now h t = record h { now = t }

-- x was done at t, which may be past and before it was ready
abbrev pub with_done : History → ℕ → ℕ → History
with_done h t x = record h { now = max h.now t; done = λ y. cond (y == x) (Some t) (h.done y) }

-- the outcome of p came at t, which may be past
abbrev pub with_told : History → ℕ → ℕ → Bool → History
with_told h t p v = record h { now = max h.now t; told = λ q. cond (q == p) (Some v) (h.told q) }

-- the outcome of p is expected at t
abbrev pub with_expected : History → ℕ → ℕ → History
with_expected h t p = record h { expected = λ q. cond (q == p) (Some t) (h.expected q) }

-- x can't be done before t
abbrev pub with_ready : History → ℕ → ℕ → History
with_ready h t x = record h { ready = λ y. cond (y == x) t (h.ready y) }
