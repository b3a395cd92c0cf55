-- How what has happened may go on.
use Rattle.std.specs.Prelude.{ℕ, ◌≡◌, ◌+◌, ◌<◌, ◌≤◌, ◌⊎◌, Bool, None, Some}
use Rattle.std.specs.List.{Contains}
use Rattle.cstn_label.specs.Labels.{Scenario}
use Rattle.cstn_net.specs.Networks.{Constraint, Observes, count, limit}
use Rattle.cstn_net.specs.Strategies.{Schedule, Table, Meets}
use Rattle.cstn_lift.specs.Labelled.{Labelled}
use Rattle.cstn_lift.specs.Strategies.{IsExecuted, IsInForce}
use Rattle.cstn_history.specs.Histories.{History, IsObservedAt, AgreesWith, known_at, soonest}

-- the outcome of p was told
abbrev pub IsTold : History → ℕ → Type 0
IsTold h p = (v : Bool) × (h.told p ≡ Some v)

-- the observer of p is done, and the outcome is known at t or earlier
pub record IsDoneKnown (m : Labelled) (h : History) (t p : ℕ) : Type 0 where
  pub since : ℕ
  pub observed : IsObservedAt m h p since
  pub passed : known_at m h p since ≤ t

-- the observer of p isn't done; it is executed in the scenario s, and its reaction has passed at t
pub record IsComingKnown (m : Labelled) (h : History) (s : Scenario) (at : Schedule) (t p : ℕ) : Type 0 where
  pub observer : ℕ
  pub observes : Observes m.base observer p
  pub coming : h.done observer ≡ None
  pub executed : IsExecuted m s observer
  pub passed : at observer + m.base.reaction p ≤ t

-- the outcome of p is known at the moment t of a scenario
abbrev pub IsKnownAfter : Labelled → History → Scenario → Schedule → ℕ → ℕ → Type 0
IsKnownAfter m h s at t p = IsTold h p ⊎ (IsDoneKnown m h t p ⊎ IsComingKnown m h s at t p)

-- A table continues a history where the following holds in each scenario that agrees with it. What is done stands at its moment,
-- within its limit, and what else is executed comes from `now` on and when it is ready, within its limit. Each constraint that is in
-- force is met.
-- What isn't done is executed at the same moment in each scenario that agrees with the history and with what is known then.
pub record Continues (m : Labelled) (h : History) (table : Table) : Type 0 where
  pub done : (s : Scenario) (x t : ℕ) → AgreesWith h s → h.done x ≡ Some t → table s x ≡ t
  pub in_time : (s : Scenario) (x t : ℕ) → AgreesWith h s → h.done x ≡ Some t → t ≤ limit m.base x
  pub from_soonest : (s : Scenario) (x : ℕ) → AgreesWith h s → x < count m.base → h.done x ≡ None → IsExecuted m s x →
      soonest h x ≤ table s x
  pub within : (s : Scenario) (x : ℕ) → AgreesWith h s → x < count m.base → h.done x ≡ None → IsExecuted m s x →
      table s x ≤ limit m.base x
  pub meets : (s : Scenario) (c : Constraint) → AgreesWith h s → Contains m.base.constraints c → IsInForce m s c → Meets (table s) c
  pub dynamic : (s r : Scenario) (x : ℕ) → AgreesWith h s → AgreesWith h r → x < count m.base → h.done x ≡ None → IsExecuted m s x →
      ((p : ℕ) → IsKnownAfter m h s (table s) (table s x) p → r p ≡ s p) → IsExecuted m r x × (table r x ≡ table s x)

-- the history can go on: some table continues it
abbrev pub Can : Labelled → History → Type 0
Can m h = (table : Table) × Continues m h table

-- t is the least moment from now on of x in the scenario s: x isn't done and is executed there, some table that continues the
-- history has x at t, and none has it earlier
pub record IsLeastNow (m : Labelled) (h : History) (s : Scenario) (x t : ℕ) : Type 0 where
  pub coming : h.done x ≡ None
  pub executed : IsExecuted m s x
  pub reached : (table : Table) × Continues m h table × (table s x ≡ t)
  pub least : (table : Table) → Continues m h table → t ≤ table s x

-- in each scenario that agrees with the history, the table has nothing that isn't done before t
abbrev pub IsQuietBefore : Labelled → History → Table → ℕ → Type 0
IsQuietBefore m h table t =
    (s : Scenario) (x : ℕ) → AgreesWith h s → x < count m.base → h.done x ≡ None → IsExecuted m s x → t ≤ table s x

-- in each scenario that agrees with the history, the table has x at t
abbrev pub IsAlwaysAt : Labelled → History → Table → ℕ → ℕ → Type 0
IsAlwaysAt m h table x t = (s : Scenario) → AgreesWith h s → IsExecuted m s x × (table s x ≡ t)

-- x can wait until t: some table that continues the history has x at t or later in each scenario in which x is executed
abbrev pub CanWait : Labelled → History → ℕ → ℕ → Type 0
CanWait m h x t = (table : Table) × Continues m h table × ((s : Scenario) → AgreesWith h s → IsExecuted m s x → t ≤ table s x)

-- the outcome of p is awaited at t: it isn't told, and its observer is done and it is known by then
abbrev pub IsAwaited : Labelled → History → ℕ → ℕ → Type 0
IsAwaited m h t p = (h.told p ≡ None) × IsDoneKnown m h t p

-- x is named at t: it isn't done, and t is its least moment from now on in each scenario that agrees with the history
pub record IsNamed (m : Labelled) (h : History) (t x : ℕ) : Type 0 where
  pub here : x < count m.base
  pub coming : h.done x ≡ None
  pub least : (s : Scenario) → AgreesWith h s → IsLeastNow m h s x t

-- an outcome is awaited at t, or a time-point is named
abbrev pub IsEventful : Labelled → History → ℕ → Type 0
IsEventful m h t = ((p : ℕ) × IsAwaited m h t p) ⊎ ((x : ℕ) × IsNamed m h t x)

-- t is the next moment: the least one from now on at which an outcome is awaited or a time-point is named
pub record IsNext (m : Labelled) (h : History) (t : ℕ) : Type 0 where
  pub from : h.now ≤ t
  pub eventful : IsEventful m h t
  pub first : (u : ℕ) → h.now ≤ u → u < t → IsEventful m h u → ⊥

-- the table has each time-point that isn't done at its least moment from now on
abbrev pub IsLeastTable : Labelled → History → Table → Type 0
IsLeastTable m h table =
    (s : Scenario) (x : ℕ) → AgreesWith h s → x < count m.base → h.done x ≡ None → IsExecuted m s x → IsLeastNow m h s x (table s x)
