-- By how much a limit has to give way.
use Rattle.std.specs.Prelude.{ℕ, ℤ, pos, ◌≡◌, ◌≢◌, ◌<◌, ◌⊎◌, ◌+◌, ◌/◌, ◌+ℤ◌, ◌-ℤ◌, ◌≤ℤ◌, ◌<ℤ◌, int_lt, ◌==◌, Bool, true, false, List, [], ◌∷◌, map, Option, None, Some, if◌then◌else◌}
use Rattle.std.specs.Int.{int_max}
use Rattle.std.specs.List.{All}
use Rattle.std.specs.Option.{option_map}
use Rattle.cstn_net.specs.Limits.{most_value}
use Rattle.cstn_net.specs.Networks.{Constraint}
use Rattle.cstn_plan.specs.Asked.{moment_of}
use Rattle.cstn_lift.specs.Labelled.{Labelled}
use Rattle.cstn_lift.specs.Lowered.{lowered}
use Rattle.cstn_change.specs.Changes.{with_value}
use Rattle.cstn_check.specs.Growth.{load_of}
use Rattle.cstn_check.specs.Search.{halving}
use Rattle.cstn_check.specs.declared.verdicts.Verdict.{Verdict}
use Rattle.cstn_check.specs.declared.verdicts.Verdict.TheVariants.{Yes, No, Full}
use Rattle.cstn_history.specs.Continuations.{Can}
use Rattle.cstn_history.specs.Histories.{History, edited}
use Rattle.cstn_history.specs.Rest.{rest}
use Rattle.cstn_follow.specs.Following.{verdict_left}
use Rattle.cstn_follow.specs.Pauses.{said_of}
use Rattle.cstn_follow.specs.declared.answers.Raise.{Raise}
use Rattle.cstn_follow.specs.declared.answers.Raise.TheVariants.{To, Never, NoSuch, Possible, Unknown}

-- the labelled network in which the constraint of the id has this value
abbrev pub with_limit : Labelled → ℕ → ℤ → Labelled
with_limit m id most = edited m m.base.deadline (map (with_value id most) m.base.constraints)

-- the value of the constraint of the id, if there is one
abbrev pub value_among : ℕ → List Constraint → Option ℤ
value_among id [] = None
value_among id (c ∷ cs) = if c.id == id then Some c.most else value_among id cs

-- w is the least value above its own, up to 1,000,000,000, with which the history can go on
pub record IsLeastRaise (m : Labelled) (h : History) (id : ℕ) (own w : ℤ) : Type 0 where
  pub above : own <ℤ w
  pub upto : w ≤ℤ pos most_value
  pub goes : Can (with_limit m id w) h
  pub least : (v : ℤ) → own <ℤ v → Can (with_limit m id v) h → w ≤ℤ v

-- with no value above its own, up to 1,000,000,000, it can
abbrev pub IsRaisedInVain : Labelled → History → ℕ → ℤ → Type 0
IsRaisedInVain m h id own = (v : ℤ) → own <ℤ v → v ≤ℤ pos most_value → Can (with_limit m id v) h → ⊥

-- what is said of what is left with this value
abbrev pub said_raised : Labelled → History → ℕ → ℕ → ℕ → ℤ → Option Bool
said_raised m h fresh cap id w = said_of (verdict_left (with_limit m id w) h fresh cap)

-- the value half-way, rounded down
abbrev pub middle_value : ℤ → ℤ → ℤ
middle_value low high = high -ℤ pos ((moment_of (high -ℤ low) + 1) / 2)

-- the least value from one up to another of which yes is said, where it is said of the other: how far it is below that is found by
-- halving, by at most so many tries; none where nothing is said of a value that is tried
abbrev pub least_between : (ℤ → Option Bool) → ℕ → ℤ → ℤ → Option ℤ
least_between says tries low high =
    option_map (λ u. high -ℤ pos u) (halving (λ u. says (high -ℤ pos u)) tries (record { low = 0; high = moment_of (high -ℤ low) }))

abbrev pub raised_to : Option ℤ → Raise
raised_to None = Unknown
raised_to (Some w) = To w

-- after a no: by what is said of the deadline, and then from a value on
abbrev pub raise_first : Labelled → History → ℕ → ℕ → ℕ → ℤ → Option Bool → Raise
raise_first m h fresh cap id low None = Unknown
raise_first m h fresh cap id low (Some true) = raised_to (least_between (said_raised m h fresh cap id) 21 low (pos m.base.deadline))
raise_first m h fresh cap id low (Some false) = Never

-- no difference of moments is above the deadline either way, so the values from the deadline on are one, and those below it, negated
abbrev pub least_tried : Labelled → ℤ → ℤ
least_tried m own = int_max (own +ℤ pos 1) (pos 0 -ℤ pos m.base.deadline)

abbrev pub raise_stuck : Labelled → History → ℕ → ℕ → ℕ → ℤ → Raise
raise_stuck m h fresh cap id own =
    if int_lt own (pos m.base.deadline) then raise_first m h fresh cap id (least_tried m own) (said_raised m h fresh cap id (pos m.base.deadline))
    else Never

abbrev pub raise_by : Labelled → History → ℕ → ℕ → ℕ → ℤ → Verdict → Raise
raise_by m h fresh cap id own (Yes load) = Possible
raise_by m h fresh cap id own (No load) = raise_stuck m h fresh cap id own
raise_by m h fresh cap id own Full = Unknown

-- S2, where no constraint has the id, and else the answer
abbrev pub raise_from : Labelled → History → ℕ → ℕ → ℕ → Verdict → Option ℤ → Raise
raise_from m h fresh cap id v None = NoSuch
raise_from m h fresh cap id v (Some own) = raise_by m h fresh cap id own v

abbrev pub raise_of : Labelled → History → ℕ → ℕ → ℕ → Verdict → Raise
raise_of m h fresh cap id v = raise_from m h fresh cap id v (value_among id m.base.constraints)

-- the log of what is left, with this value or as it is, has more entries than it may
abbrev pub IsRaiseFull : Labelled → History → ℕ → ℕ → ℕ → Type 0
IsRaiseFull m h fresh cap id =
    (cap < load_of (lowered (rest m h fresh))) ⊎ ((w : ℤ) × (cap < load_of (lowered (rest (with_limit m id w) h fresh))))

-- the answer is right: this is the least value above its own with which the history can go on, or there is none, or no constraint has
-- the id, or the history can go on, or a log that is tried is full
abbrev pub IsRightRaise : Labelled → History → ℕ → ℕ → ℕ → Raise → Type 0
IsRightRaise m h fresh cap id (To w) = (own : ℤ) × (value_among id m.base.constraints ≡ Some own) × IsLeastRaise m h id own w
IsRightRaise m h fresh cap id Never = (own : ℤ) × (value_among id m.base.constraints ≡ Some own) × IsRaisedInVain m h id own
IsRightRaise m h fresh cap id NoSuch = All (λ c. c.id ≢ id) m.base.constraints
IsRightRaise m h fresh cap id Possible = Can m h
IsRightRaise m h fresh cap id Unknown = IsRaiseFull m h fresh cap id
