-- What has happened while a labelled network was carried out: its history.
use Rattle.std.specs.Prelude.{ℕ, zero, suc, ◌≡◌, ◌+◌, ◌<◌, ◌≤◌, max, Bool, true, Option, None, Some, List}
use Rattle.std.specs.Option.{is_some}
use Rattle.std.specs.List.{list_all, range_with_len}
use Rattle.cstn_label.specs.declared.marks.Mark.{Mark}
use Rattle.cstn_label.specs.declared.marks.Mark.TheVariants.{Absent}
use Rattle.cstn_label.specs.Labels.{Label, Scenario, MarkFits}
use Rattle.cstn_label.specs.Tests.{fits}
use Rattle.cstn_net.specs.Limits.{most_deadline, most_reaction}
use Rattle.cstn_net.specs.Networks.{Constraint, Observes, count}
use Rattle.cstn_lift.specs.Labelled.{Labelled}
use Rattle.cstn_lift.specs.Completion.{completed_label}

-- what is before `now` is over; `done` has the moment of each time-point that is done; `told` has the value of each proposition
-- whose outcome was told; `expected` has the moment at which an outcome is expected, where it isn't expected after the reaction;
-- `ready` has the moment before which a time-point that isn't done can't be done, and 0 where none is known
pub record History : Type 0 where
  pub now : ℕ
  pub done : ℕ → Option ℕ
  pub told : ℕ → Option Bool
  pub expected : ℕ → Option ℕ
  pub ready : ℕ → ℕ

-- the origin is done at 0
abbrev pub origin_alone : ℕ → Option ℕ
origin_alone zero = Some 0
origin_alone (suc x) = None

-- nothing has happened yet
abbrev pub nothing_yet : History
nothing_yet = record { now = 0; done = origin_alone; told = λ p. None; expected = λ p. None; ready = λ x. 0 }

-- the moment before which a time-point that isn't done can't be done: it is past, or the time-point isn't ready
abbrev pub soonest : History → ℕ → ℕ
soonest h x = max h.now (h.ready x)

-- the time-point is done
abbrev pub is_done : History → ℕ → Bool
is_done h x = is_some (h.done x)

-- the outcome of the proposition was told
abbrev pub is_told : History → ℕ → Bool
is_told h p = is_some (h.told p)

-- the observer of p is done, at the moment t
pub record IsObservedAt (m : Labelled) (h : History) (p t : ℕ) : Type 0 where
  pub observer : ℕ
  pub observes : Observes m.base observer p
  pub done : h.done observer ≡ Some t

-- what was told settles the mark: the mark is absent where nothing was told, and fits what was told
abbrev pub SettlesMark : Option Bool → Mark → Type 0
SettlesMark None a = a ≡ Absent
SettlesMark (Some v) a = MarkFits v a

-- the label names only what was told, and holds by it
abbrev pub Settles : History → Label → Type 0
Settles h a = (p : ℕ) → SettlesMark (h.told p) (a p)

-- a history of the labelled network: the origin is done at 0, and what is done isn't in the future; the observers of what is told
-- and of what is expected are done, and an outcome is expected after the moment of its observer; what is told settles the
-- completed label of each time-point that is done
pub record IsHistory (m : Labelled) (h : History) : Type 0 where
  pub origin : h.done 0 ≡ Some 0
  pub inside : (x t : ℕ) → h.done x ≡ Some t → x < count m.base
  pub past : (x t : ℕ) → h.done x ≡ Some t → t ≤ h.now
  pub told : (p : ℕ) (v : Bool) → h.told p ≡ Some v → (t : ℕ) × IsObservedAt m h p t
  pub expected : (p e : ℕ) → h.expected p ≡ Some e → (t : ℕ) × (t < e) × IsObservedAt m h p t
  pub settled : (x t : ℕ) → h.done x ≡ Some t → Settles h (completed_label m x)
  pub ready : (x : ℕ) → count m.base ≤ x → h.ready x ≡ 0

-- a history with all numbers in range: moments up to 1,000,000, and, since a reaction is 1,000 ticks at most, up to 1,000 where
-- an outcome of the origin is expected
pub record IsInTime (m : Labelled) (h : History) : Type 0 where
  pub now : h.now ≤ most_deadline
  pub expected : (p e : ℕ) → h.expected p ≡ Some e → e ≤ most_deadline
  pub origin : (p e : ℕ) → h.expected p ≡ Some e → Observes m.base 0 p → e ≤ most_reaction
  pub ready : (x : ℕ) → h.ready x ≤ most_deadline

-- a history with all numbers in range
pub record IsTimelyHistory (m : Labelled) (h : History) : Type 0 where
  pub history : IsHistory m h
  pub in_time : IsInTime m h

-- the moment expected, and otherwise this one
abbrev pub or_at : Option ℕ → ℕ → ℕ
or_at None t = t
or_at (Some e) t = e

-- when the outcome of p is known, whose observer was done at t: when it is expected, or else the reaction of p after t
abbrev pub known_at : Labelled → History → ℕ → ℕ → ℕ
known_at m h p t = or_at (h.expected p) (t + m.base.reaction p)

-- a scenario agrees with the history where it agrees with what was told
abbrev pub AgreesWith : History → Scenario → Type 0
AgreesWith h s = (p : ℕ) (v : Bool) → h.told p ≡ Some v → s p ≡ v

-- what was told, if anything, doesn't contradict the mark; an unknown mark is contradicted by either value
abbrev pub allows_mark : Option Bool → Mark → Bool
allows_mark None a = true
allows_mark (Some v) a = fits v a

-- what was told contradicts no mark of the label
abbrev pub IsAllowed : History → Label → Type 0
IsAllowed h a = (p : ℕ) (v : Bool) → h.told p ≡ Some v → MarkFits v (a p)

-- what was told of the 52 propositions doesn't contradict the label
unfoldable pub allows : History → Label → Bool
allows h a = list_all (λ p. allows_mark (h.told p) (a p)) (range_with_len 0 52)

-- the mark where nothing was told, and absent where something was
abbrev pub mark_left : Option Bool → Mark → Mark
mark_left None a = a
mark_left (Some v) a = Absent

-- the label without the marks of what was told
abbrev pub label_left : History → Label → Label
label_left h a = λ p. mark_left (h.told p) (a p)

-- the labelled network with another deadline and other constraints
abbrev pub edited : Labelled → ℕ → List Constraint → Labelled
edited m deadline cs = record m { base = record m.base { deadline = deadline; constraints = cs } }

-- the later history has a later `now`, or time-points that are ready later, or more done at moments from which it could be; nothing else
-- is changed
pub record GoesOn (h later : History) : Type 0 where
  pub now : h.now ≤ later.now
  pub kept : (x t : ℕ) → h.done x ≡ Some t → later.done x ≡ Some t
  pub more : (x t : ℕ) → h.done x ≡ None → later.done x ≡ Some t → soonest h x ≤ t
  pub ready : (x : ℕ) → later.done x ≡ None → h.ready x ≤ later.ready x
  pub told : (p : ℕ) → later.told p ≡ h.told p
  pub expected : (p : ℕ) → later.expected p ≡ h.expected p

-- in the later history more is told, and nothing else is changed
pub record IsToldMore (h later : History) : Type 0 where
  pub now : later.now ≡ h.now
  pub done : (x : ℕ) → later.done x ≡ h.done x
  pub told : (p : ℕ) (v : Bool) → h.told p ≡ Some v → later.told p ≡ Some v
  pub expected : (p : ℕ) → later.expected p ≡ h.expected p
  pub ready : (x : ℕ) → later.ready x ≡ h.ready x
