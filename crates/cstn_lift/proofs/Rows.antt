-- Worked examples of completed labels and lowered constraints.
use Rattle.std.proofs.Common.{ℕ, zero, suc, ◌≡◌, [], ◌∷◌, Some, None, refl}
use Rattle.std.specs.Prelude.{map, pos, negsuc, ℤ}
use Rattle.cstn_label.specs.declared.marks.Mark.{Mark}
use Rattle.cstn_label.specs.declared.marks.Mark.TheVariants.{Absent, Yes, No, Unknown}
use Rattle.cstn_label.specs.Labels.{Label, empty}
use Rattle.cstn_net.specs.Networks.{Constraint}
use Rattle.cstn_net.specs.Examples.{only_mark, both}
use Rattle.cstn_lift.specs.Labelled.{Labelled}
use Rattle.cstn_lift.specs.Completion.{completed_label}
use Rattle.cstn_lift.specs.Lowered.{is_plain, guards_of, lowered}

abbrev pub shape : Constraint → ℕ × ℕ × ℕ × ℤ × Mark × Mark
shape c = (c.id, c.from, c.to, c.most, c.label 0, c.label 1)

abbrev pub late : Labelled
late = record { base = record { deadline = 10; observes = None ∷ (Some 0 ∷ (None ∷ [])); reaction = λ p. 1; constraints = record { id = 4; from = 2; to = 0; most = negsuc 4; label = empty } ∷ [] }; labels = empty ∷ (empty ∷ (only_mark Yes ∷ [])) }

pub late_row : map shape (lowered late).constraints ≡ (0, 2, 0, negsuc 4, Yes, Absent) ∷ ((1, 2, 1, negsuc 0, Yes, Absent) ∷ [])
unfolding is_plain guards_of
late_row = refl

abbrev pub circle : Labelled
circle = record { base = record { deadline = 10; observes = None ∷ (Some 0 ∷ (Some 1 ∷ [])); reaction = λ p. 3; constraints = [] }; labels = empty ∷ (both Absent Yes ∷ (only_mark Yes ∷ [])) }

circle_row : completed_label circle 1 0 ≡ Yes
circle_row = refl

-- P observes p, Q has the label p and observes q, and X has the label q!p: X is never executed
abbrev pub never : Labelled
never = record { base = record { deadline = 10; observes = None ∷ (Some 0 ∷ (Some 1 ∷ (None ∷ []))); reaction = λ p. 3; constraints = record { id = 0; from = 3; to = 2; most = pos 1; label = empty } ∷ [] }; labels = empty ∷ (empty ∷ (only_mark Yes ∷ (both No Yes ∷ []))) }

never_row : completed_label never 3 0 ≡ Unknown
never_row = refl

never_lowered : map shape (lowered never).constraints ≡ (0, 2, 1, negsuc 2, Yes, Absent) ∷ ((1, 3, 1, negsuc 2, Unknown, Yes) ∷ ((2, 3, 2, negsuc 2, Unknown, Yes) ∷ []))
unfolding is_plain guards_of
never_lowered = refl

-- a label with these marks of p, q and r, for a chain of three observers: R has the label !q and observes r, Q has the label p
-- and observes q, P observes p, and X has the label r
abbrev pub three : Mark → Mark → Mark → Label
three m n o zero = m
three m n o (suc zero) = n
three m n o (suc (suc zero)) = o
three m n o (suc (suc (suc p))) = Absent

abbrev pub chain : Labelled
chain = record { base = record { deadline = 10; observes = None ∷ (Some 2 ∷ (Some 1 ∷ (Some 0 ∷ (None ∷ [])))); reaction = λ p. 1; constraints = record { id = 7; from = 4; to = 0; most = pos 1; label = empty } ∷ [] }; labels = empty ∷ (three Absent No Absent ∷ (three Yes Absent Absent ∷ (empty ∷ (three Absent Absent Yes ∷ [])))) }

pub chain_row : map shape (lowered chain).constraints ≡ (0, 4, 0, pos 1, Yes, No) ∷ ((1, 1, 3, negsuc 0, Yes, No) ∷ ((2, 1, 2, negsuc 0, Yes, No) ∷ ((3, 2, 3, negsuc 0, Yes, Absent) ∷ ((4, 4, 3, negsuc 0, Yes, No) ∷ ((5, 4, 2, negsuc 0, Yes, No) ∷ ((6, 4, 1, negsuc 0, Yes, No) ∷ []))))))
unfolding is_plain guards_of
chain_row = refl
