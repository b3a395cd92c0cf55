-- Labels: what a constraint or a bound supposes of each proposition.
use Rattle.std.specs.Prelude.{ℕ, ◌≢◌, Bool, true, false, cond, ◌==◌}
use Rattle.cstn_label.specs.declared.marks.Mark.{Mark}
use Rattle.cstn_label.specs.declared.marks.Mark.TheVariants.{Absent, Yes, No, Unknown}

-- a label gives each proposition a mark
abbrev pub Label : Type 0
Label = ℕ → Mark

-- a label marks p where its mark isn't absent
abbrev pub IsMarked : Label → ℕ → Type 0
IsMarked a p = a p ≢ Absent

-- a scenario says of each proposition whether it is true
abbrev pub Scenario : Type 0
Scenario = ℕ → Bool

-- the label with no mark
abbrev pub empty : Label
empty = λ p. Absent

-- the label with the mark m on p
abbrev pub with_mark : Label → ℕ → Mark → Label
with_mark a p m = λ q. cond (q == p) m (a q)

-- the label without its mark on p
abbrev pub without : Label → ℕ → Label
without a p = with_mark a p Absent

-- equal marks stay, absent gives way to the other, and every other pair gives unknown
abbrev pub joined_mark : Mark → Mark → Mark
joined_mark Absent m = m
joined_mark Yes Absent = Yes
joined_mark Yes Yes = Yes
joined_mark Yes No = Unknown
joined_mark Yes Unknown = Unknown
joined_mark No Absent = No
joined_mark No Yes = Unknown
joined_mark No No = No
joined_mark No Unknown = Unknown
joined_mark Unknown m = Unknown

-- two labels are joined mark by mark
abbrev pub joined : Label → Label → Label
joined a b = λ p. joined_mark (a p) (b p)

-- a mark is plain where it isn't unknown
abbrev pub IsMarkPlain : Mark → Type 0
IsMarkPlain Absent = Unit {0}
IsMarkPlain Yes = Unit {0}
IsMarkPlain No = Unit {0}
IsMarkPlain Unknown = ⊥

-- a label is plain where no mark is unknown
abbrev pub IsPlain : Label → Type 0
IsPlain a = (p : ℕ) → IsMarkPlain (a p)

-- a mark is within another: it is absent, it is equal to the other, or the other is unknown
abbrev pub IsMarkWithin : Mark → Mark → Type 0
IsMarkWithin Absent m = Unit {0}
IsMarkWithin Yes Absent = ⊥
IsMarkWithin Yes Yes = Unit {0}
IsMarkWithin Yes No = ⊥
IsMarkWithin Yes Unknown = Unit {0}
IsMarkWithin No Absent = ⊥
IsMarkWithin No Yes = ⊥
IsMarkWithin No No = Unit {0}
IsMarkWithin No Unknown = Unit {0}
IsMarkWithin Unknown Absent = ⊥
IsMarkWithin Unknown Yes = ⊥
IsMarkWithin Unknown No = ⊥
IsMarkWithin Unknown Unknown = Unit {0}

-- a is within b: each mark of a is within the mark of b
abbrev pub IsWithin : Label → Label → Type 0
IsWithin a b = (p : ℕ) → IsMarkWithin (a p) (b p)

-- a mark fits a truth value: it is absent, or it is the literal that is true there; unknown fits none
abbrev pub MarkFits : Bool → Mark → Type 0
MarkFits v Absent = Unit {0}
MarkFits true Yes = Unit {0}
MarkFits true No = ⊥
MarkFits true Unknown = ⊥
MarkFits false Yes = ⊥
MarkFits false No = Unit {0}
MarkFits false Unknown = ⊥

-- a label holds in a scenario: it is plain, and each of its literals is true there
abbrev pub Holds : Scenario → Label → Type 0
Holds s a = (p : ℕ) → MarkFits (s p) (a p)

-- a label is possible where the propositions of `known` are known with their values in s: on none of these does it have a
-- false literal or an unknown mark
abbrev pub IsPossible : (ℕ → Type 0) → Scenario → Label → Type 0
IsPossible known s a = (p : ℕ) → known p → MarkFits (s p) (a p)
