-- Lists of a small network, cut. Z, P, which observes p, and X are its time-points 0 to 2.
use Rattle.std.specs.Prelude.{ℕ, zero, suc, List, [], ◌∷◌, pos}
use Rattle.cstn_label.specs.declared.marks.Mark.{Mark}
use Rattle.cstn_label.specs.declared.marks.Mark.TheVariants.{Absent, Yes, No}
use Rattle.cstn_label.specs.Labels.{Label}
use Rattle.cstn_rules.specs.declared.entries.Why.{Why}
use Rattle.cstn_rules.specs.declared.entries.Why.TheVariants.{Base, Chain, Wait}
use Rattle.cstn_rules.specs.Derivations.{Entry}

abbrev pub of_mark : Mark → Label
of_mark m zero = m
of_mark m (suc p) = Absent

-- an entry: its time-point, its least value, its mark on p and its rule
abbrev pub entry : ℕ → ℕ → Mark → Why → Entry
entry node least mark why = record { bound = record { node = node; least = pos least; label = of_mark mark }; why = why }

abbrev pub based : List Entry → List Entry
based more = entry 0 0 Absent Base ∷ (entry 1 0 Absent Base ∷ (entry 2 0 Absent Base ∷ more))

-- the log of the network in which p is known too late, and its part
abbrev pub too_late_log : List Entry
too_late_log = based
    (entry 2 10 Yes (Chain 0 0) ∷ (entry 1 3 Absent (Chain 2 0) ∷ (entry 2 4 Absent (Wait 4 3) ∷ (entry 0 1 No (Chain 1 5) ∷ []))))

abbrev pub too_late_part : List Entry
too_late_part =
    entry 0 0 Absent Base ∷ (entry 2 10 Yes (Chain 0 0) ∷ (entry 1 3 Absent (Chain 2 0) ∷ (entry 2 4 Absent (Wait 2 1) ∷
    (entry 0 1 No (Chain 1 3) ∷ []))))

-- a list in which the constraints 2 and 3 gave bounds at P, and what is left without 3
abbrev pub two_at_p : List Entry
two_at_p = based
    (entry 2 10 Yes (Chain 0 0) ∷ (entry 1 2 Absent (Chain 2 0) ∷ (entry 1 3 Absent (Chain 3 0) ∷
    (entry 2 4 Absent (Wait 5 3) ∷ (entry 0 1 No (Chain 1 6) ∷ [])))))

abbrev pub one_at_p : List Entry
one_at_p = based (entry 2 10 Yes (Chain 0 0) ∷ (entry 1 2 Absent (Chain 2 0) ∷ []))

-- a list in which X waits for P, and what is left without the constraint 0
abbrev pub waiting_at_x : List Entry
waiting_at_x = based
    (entry 2 10 Yes (Chain 0 0) ∷ (entry 2 1 Absent (Wait 1 3) ∷ (entry 1 2 Absent (Chain 2 0) ∷ (entry 2 3 Absent (Wait 5 3) ∷ []))))

abbrev pub none_at_x : List Entry
none_at_x = based (entry 1 2 Absent (Chain 2 0) ∷ [])
