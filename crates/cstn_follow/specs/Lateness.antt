-- Until when an outcome may be late.
use Rattle.std.specs.Prelude.{ℕ, ◌≡◌, ◌+◌, ◌<◌, ◌≤◌, ◌⊎◌, Bool, true, false, max, min, nat_lt, Option, None, Some, if◌then◌else◌}
use Rattle.cstn_lift.specs.Labelled.{Labelled}
use Rattle.cstn_lift.specs.Lowered.{observer_of, lowered}
use Rattle.cstn_check.specs.Growth.{load_of}
use Rattle.cstn_check.specs.Search.{halving}
use Rattle.cstn_check.specs.declared.verdicts.Verdict.{Verdict}
use Rattle.cstn_check.specs.declared.verdicts.Verdict.TheVariants.{Yes, No, Full}
use Rattle.cstn_history.specs.Continuations.{Can}
use Rattle.cstn_history.specs.Facts.{FactRefusal, NotObserved, Told, observed_since, latest_expected, expected_refusal, with_expected}
use Rattle.cstn_history.specs.Histories.{History, IsObservedAt, known_at}
use Rattle.cstn_history.specs.Read.{the_fact_refusal}
use Rattle.cstn_history.specs.Rest.{rest}
use Rattle.cstn_follow.specs.Following.{verdict_left}
use Rattle.cstn_follow.specs.Pauses.{said_of}
use Rattle.cstn_follow.specs.declared.answers.Lateness.{Lateness}
use Rattle.cstn_follow.specs.declared.answers.Lateness.TheVariants.{Until, Never, Refused, Unknown}

-- until when an outcome may be late: until a moment; not at all, whenever it comes; it isn't told, for this reason; or a log that is
-- tried is full
pub data Late : Type 0 where
  late_until : ℕ → Late
  late_never : Late
  late_refused : FactRefusal → Late
  late_unknown : Late

abbrev pub the_late : Lateness → Late
the_late (Until t) = late_until t
the_late Never = late_never
the_late (Refused e) = late_refused (the_fact_refusal e)
the_late Unknown = late_unknown

-- the latest moment at which the outcome of p may be expected: 1,000,000, or 1,000 where the origin observes it
abbrev pub late_most : Labelled → ℕ → ℕ
late_most m p = latest_expected (observer_of m.base p)

-- The outcome of p may be as late as t: when it is expected at t, of the moments at which it may be expected, the history can go on,
-- and when it is expected later it can't.
pub record IsLastExpected (m : Labelled) (h : History) (p t : ℕ) : Type 0 where
  pub upto : t ≤ late_most m p
  pub goes : Can m (with_expected h t p)
  pub last : (u : ℕ) → u ≤ late_most m p → Can m (with_expected h u p) → u ≤ t

-- whenever the outcome of p is expected after its observer was done, the history can't go on
abbrev pub IsNeverInTime : Labelled → History → ℕ → Type 0
IsNeverInTime m h p = (since u : ℕ) → IsObservedAt m h p since → since < u → u ≤ late_most m p → Can m (with_expected h u p) → ⊥

-- what is said of what is left when the outcome of p is expected at t; nothing where that is refused
abbrev pub unless_expected : Option FactRefusal → Option Bool → Option Bool
unless_expected None said = said
unless_expected (Some e) said = None

abbrev pub said_late : Labelled → History → ℕ → ℕ → ℕ → ℕ → Option Bool
said_late m h fresh cap p t = unless_expected (expected_refusal m h t p) (said_of (verdict_left m (with_expected h t p) fresh cap))

abbrev pub late_found : Option ℕ → Late
late_found None = late_unknown
late_found (Some t) = late_until t

-- what is found by at most 20 tries from a moment on at which it may come
abbrev pub late_from : Labelled → History → ℕ → ℕ → ℕ → ℕ → Late
late_from m h fresh cap p low = late_found (halving (said_late m h fresh cap p) 20 (record { low = low; high = late_most m p }))

-- after a yes it may come now, or when it is known anyhow; the observer of p was done at the moment given
abbrev pub late_possible : Labelled → History → ℕ → ℕ → ℕ → ℕ → Late
late_possible m h fresh cap p since = late_from m h fresh cap p (min (late_most m p) (max h.now (known_at m h p since)))

-- after a no the first moment is tried at which it may be expected
abbrev pub late_first : Labelled → History → ℕ → ℕ → ℕ → ℕ → Option Bool → Late
late_first m h fresh cap p low None = late_unknown
late_first m h fresh cap p low (Some true) = late_from m h fresh cap p low
late_first m h fresh cap p low (Some false) = late_never

abbrev pub late_tried : Labelled → History → ℕ → ℕ → ℕ → ℕ → Late
late_tried m h fresh cap p low =
    if nat_lt (late_most m p) low then late_never else late_first m h fresh cap p low (said_late m h fresh cap p low)

abbrev pub late_stuck : Labelled → History → ℕ → ℕ → ℕ → ℕ → Late
late_stuck m h fresh cap p since = late_tried m h fresh cap p (max h.now (since + 1))

abbrev pub late_by : Labelled → History → ℕ → ℕ → ℕ → ℕ → Verdict → Late
late_by m h fresh cap p since (Yes load) = late_possible m h fresh cap p since
late_by m h fresh cap p since (No load) = late_stuck m h fresh cap p since
late_by m h fresh cap p since Full = late_unknown

-- F7, where this value was told, and else the answer
abbrev pub late_untold : Labelled → History → ℕ → ℕ → ℕ → Verdict → ℕ → Option Bool → Late
late_untold m h fresh cap p v since (Some value) = late_refused (Told p value)
late_untold m h fresh cap p v since None = late_by m h fresh cap p since v

-- F6, where the observer isn't done, and else what there is
abbrev pub late_since : Labelled → History → ℕ → ℕ → ℕ → Verdict → Option ℕ → Late
late_since m h fresh cap p v None = late_refused (NotObserved p)
late_since m h fresh cap p v (Some since) = late_untold m h fresh cap p v since (h.told p)

abbrev pub late_of : Labelled → History → ℕ → ℕ → ℕ → Verdict → Late
late_of m h fresh cap p v = late_since m h fresh cap p v (observed_since m h p)

-- the log of what is left, as it is or when the outcome of p is expected at some moment, has more entries than it may
abbrev pub IsLateFull : Labelled → History → ℕ → ℕ → ℕ → Type 0
IsLateFull m h fresh cap p =
    (cap < load_of (lowered (rest m h fresh))) ⊎ ((t : ℕ) × (cap < load_of (lowered (rest m (with_expected h t p) fresh))))

-- the answer is right: the outcome may be as late as this and no later, or it is too late whenever it comes, or this is why it isn't told,
-- or a log that is tried is full
abbrev pub IsRightLate : Labelled → History → ℕ → ℕ → ℕ → Late → Type 0
IsRightLate m h fresh cap p (late_until t) = IsLastExpected m h p t
IsRightLate m h fresh cap p late_never = IsNeverInTime m h p
IsRightLate m h fresh cap p (late_refused (NotObserved q)) = (since : ℕ) → IsObservedAt m h p since → ⊥
IsRightLate m h fresh cap p (late_refused (Told q v)) = h.told p ≡ Some v
IsRightLate m h fresh cap p (late_refused e) = ⊥
IsRightLate m h fresh cap p late_unknown = IsLateFull m h fresh cap p
