-- How the program's history is read as that of the definitions.
use Rattle.std.specs.Prelude.{ℕ, ◌≡◌, List, Option, None, Some, Result, Ok, Err, length, slice_index_or}
use Rattle.cstn_label.specs.declared.knowledge.Known.{Known}
use Rattle.cstn_label.specs.Read.{known_value}
use Rattle.cstn_net.specs.Networks.{count}
use Rattle.cstn_lift.specs.Labelled.{Labelled}
use Rattle.cstn_history.specs.declared.errors.FactError.{FactError}
use Rattle.cstn_history.specs.declared.errors.FactError.TheVariants.{Past as HasPassed, OutOfRange as IsOutOfRange, NoSuch as Missing, Done as WasDone, Undecided as IsUndecided, NotObserved as Unobserved, Told as WasTold}
use Rattle.cstn_history.specs.Histories.{History, IsHistory, IsInTime}
use Rattle.cstn_history.specs.Facts.{FactRefusal, Past, OutOfRange, NoSuch, Done, Undecided, NotObserved, Told}

-- what contracts see of a history: the moment that it is now, the moment of each time-point that is done, what was told, and,
-- for each of the 52 propositions, the moment at which its outcome is expected, if it is, and the moment at which each time-point is
-- ready
pub record HistoryParts : Type 0 where
  pub time : ℕ
  pub done : List (Option ℕ)
  pub told : Known
  pub expected : List (Option ℕ)
  pub ready : List ℕ

-- the history that the parts stand for
abbrev pub the_history : HistoryParts → History
the_history h = record {
  now = h.time;
  done = λ x. slice_index_or h.done x None;
  told = known_value h.told;
  expected = λ p. slice_index_or h.expected p None;
  ready = λ x. slice_index_or h.ready x 0;
}

-- a history of the labelled network as the program keeps it, with a place for each time-point and each proposition and with all
-- numbers in range
pub record IsKeptFor (m : Labelled) (h : HistoryParts) : Type 0 where
  pub one_each : length h.done ≡ count m.base
  pub wide : length h.expected ≡ 52
  pub ready_each : length h.ready ≡ count m.base
  pub history : IsHistory m (the_history h)
  pub in_time : IsInTime m (the_history h)

-- the refusal that an error stands for
abbrev pub the_fact_refusal : FactError → FactRefusal
the_fact_refusal (HasPassed now) = Past now
the_fact_refusal (IsOutOfRange moment) = OutOfRange moment
the_fact_refusal (Missing x) = NoSuch x.0
the_fact_refusal (WasDone x moment) = Done x.0 moment
the_fact_refusal (IsUndecided x) = Undecided x.0
the_fact_refusal (Unobserved p) = NotObserved p.index
the_fact_refusal (WasTold p value) = Told p.index value

-- why a call was refused, or none where it succeeded
abbrev pub refusal_of : {X : Type 0} → Result X FactError → Option FactRefusal
refusal_of (Ok x) = None
refusal_of (Err e) = Some (the_fact_refusal e)
