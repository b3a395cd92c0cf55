-- Worked examples of what is left of the clinical pathway.
use Rattle.std.proofs.Common.{ℕ, ◌≡◌, [], ◌∷◌, Some, None, refl}
use Rattle.std.specs.Prelude.{map, pos, negsuc, ℤ}
use Rattle.cstn_label.specs.declared.marks.Mark.{Mark}
use Rattle.cstn_label.specs.declared.marks.Mark.TheVariants.{Absent, Yes, No}
use Rattle.cstn_net.specs.Networks.{Constraint}
use Rattle.cstn_history.specs.Histories.{nothing_yet, allows}
use Rattle.cstn_history.specs.Rest.{rest}
use Rattle.cstn_history.specs.Examples.{pathway, sampled, infected, given_late, result_late}

abbrev shape : Constraint → ℕ × ℕ × ℕ × ℤ × Mark
shape c = (c.id, c.from, c.to, c.most, c.label 34)

-- before anything has happened, all is left
pub all_left : map shape (rest pathway nothing_yet 8).base.constraints ≡ map shape pathway.base.constraints
unfolding allows
all_left = refl

-- the sample is watched: it stands at 0, and its outcome is known 65 ticks later
pub sampled_left : map shape (rest pathway sampled 8).base.constraints ≡
    (1, 2, 0, negsuc 69, Yes) ∷ ((2, 0, 2, pos 95, Yes) ∷ ((3, 3, 2, negsuc 119, Yes) ∷ ((4, 3, 0, negsuc 84, No) ∷
    ((5, 0, 3, pos 125, No) ∷ ((6, 4, 3, negsuc 9, Absent) ∷ ((7, 0, 4, pos 360, Absent) ∷ ((8, 1, 0, pos 0, Absent) ∷
    ((9, 0, 1, pos 0, Absent) ∷ ((10, 2, 0, negsuc 4, Absent) ∷ ((11, 3, 0, negsuc 4, Absent) ∷ ((12, 4, 0, negsuc 4, Absent) ∷ [])))))))))))
unfolding allows
sampled_left = refl

pub sampled_observes : (rest pathway sampled 8).base.observes ≡ None ∷ (Some 34 ∷ (None ∷ (None ∷ (None ∷ []))))
unfolding allows
sampled_observes = refl

pub sampled_reaction : (rest pathway sampled 8).base.reaction 34 ≡ 65
unfolding allows
sampled_reaction = refl

-- with an infection the constraints of the other case are gone, and so is the sample
pub infected_left : map shape (rest pathway infected 8).base.constraints ≡
    (1, 1, 0, negsuc 69, Absent) ∷ ((2, 0, 1, pos 95, Absent) ∷ ((3, 2, 1, negsuc 119, Absent) ∷ ((6, 3, 2, negsuc 9, Absent) ∷
    ((7, 0, 3, pos 360, Absent) ∷ ((8, 1, 0, negsuc 44, Absent) ∷ ((9, 2, 0, negsuc 44, Absent) ∷ ((10, 3, 0, negsuc 44, Absent) ∷ [])))))))
unfolding allows
infected_left = refl

pub infected_observes : (rest pathway infected 8).base.observes ≡ None ∷ (None ∷ (None ∷ (None ∷ [])))
unfolding allows
infected_observes = refl

pub infected_labels : map (λ a. a 34) (rest pathway infected 8).labels ≡ Absent ∷ (Absent ∷ (Absent ∷ (Absent ∷ [])))
unfolding allows
infected_labels = refl

-- the antibiotic came 17 ticks after the last moment that its constraint with the sample allows
pub given_late_left : map shape (rest pathway given_late 8).base.constraints ≡
    (2, 0, 0, negsuc 16, Absent) ∷ ((3, 1, 0, negsuc 231, Absent) ∷ ((6, 2, 1, negsuc 9, Absent) ∷ ((7, 0, 2, pos 360, Absent) ∷
    ((8, 1, 0, negsuc 111, Absent) ∷ ((9, 2, 0, negsuc 111, Absent) ∷ [])))))
unfolding allows
given_late_left = refl

-- the result is expected at 130
pub result_late_left : map shape (rest pathway result_late 8).base.constraints ≡
    (1, 2, 0, negsuc 74, Yes) ∷ ((2, 0, 2, pos 100, Yes) ∷ ((3, 3, 2, negsuc 119, Yes) ∷ ((4, 3, 0, negsuc 89, No) ∷
    ((5, 0, 3, pos 130, No) ∷ ((6, 4, 3, negsuc 9, Absent) ∷ ((7, 0, 4, pos 360, Absent) ∷ ((8, 1, 0, pos 0, Absent) ∷
    ((9, 0, 1, pos 0, Absent) ∷ ((10, 2, 0, negsuc 99, Absent) ∷ ((11, 3, 0, negsuc 99, Absent) ∷ ((12, 4, 0, negsuc 99, Absent) ∷ [])))))))))))
unfolding allows
result_late_left = refl

pub result_late_reaction : (rest pathway result_late 8).base.reaction 34 ≡ 130
unfolding allows
result_late_reaction = refl
