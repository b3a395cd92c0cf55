-- Small networks, two with a strategy and two without one. The proposition 0 is called p here, and 1 is called q.
use Rattle.std.specs.Prelude.{ℕ, zero, suc, Bool, true, false, [], ◌∷◌, ◌++◌, Some, None, ℤ, pos, negsuc}
use Rattle.cstn_label.specs.declared.marks.Mark.{Mark}
use Rattle.cstn_label.specs.declared.marks.Mark.TheVariants.{Absent, Yes, No}
use Rattle.cstn_label.specs.Labels.{Label, empty}
use Rattle.cstn_net.specs.Networks.{Constraint, Network}
use Rattle.cstn_net.specs.Strategies.{Table}

-- p has the mark m, and no other proposition has a mark
abbrev pub only_mark : Mark → Label
only_mark m zero = m
only_mark m (suc p) = Absent

-- X is at 10 or later where p is true
abbrev pub ten_if_true : Constraint
ten_if_true = record { id = 0; from = 2; to = 0; most = negsuc 9; label = only_mark Yes }

-- X is at 3 or earlier where p is false
abbrev pub three_if_false : Constraint
three_if_false = record { id = 1; from = 0; to = 2; most = pos 3; label = only_mark No }

-- P is at 3 or later
abbrev pub observed_late : Constraint
observed_late = record { id = 2; from = 1; to = 0; most = negsuc 2; label = empty }

-- Z, P, which observes p, and X, with a constraint on X for each value of p
abbrev pub branch : Network
branch = record {
  deadline = 10;
  observes = None ∷ (Some 0 ∷ (None ∷ []));
  reaction = λ p. 1;
  constraints = ten_if_true ∷ (three_if_false ∷ []);
}

-- the branch network with P at 3 or later
abbrev pub branch_late : Network
branch_late = record branch { constraints = branch.constraints ++ observed_late ∷ [] }

-- 10 for true, and 1 for false
abbrev pub ten_or_one : Bool → ℕ
ten_or_one true = 10
ten_or_one false = 1

-- P is at 0, and X is at 10 where p is true and at 1 where it is false
abbrev pub branch_table : Table
branch_table s zero = 0
branch_table s (suc zero) = 0
branch_table s (suc (suc x)) = ten_or_one (s 0)

-- p has the mark m and q the mark n, and no other proposition has a mark
abbrev pub both : Mark → Mark → Label
both m n zero = m
both m n (suc zero) = n
both m n (suc (suc p)) = Absent

-- Z, P, which observes p, Q, which observes q, and X. Where p is true, Q is late. Where p is false, Q is early, and X is
-- early where q is false and late where q is true.
abbrev pub split : ℕ → ℤ → ℤ → Network
split deadline early late_by = record {
  deadline = deadline;
  observes = None ∷ (Some 0 ∷ (Some 1 ∷ (None ∷ [])));
  reaction = λ p. 1;
  constraints =
      record { id = 0; from = 0; to = 2; most = early; label = both No Absent } ∷
      (record { id = 1; from = 2; to = 0; most = late_by; label = both Yes Absent } ∷
      (record { id = 2; from = 0; to = 3; most = early; label = both No No } ∷
      (record { id = 3; from = 3; to = 0; most = late_by; label = both No Yes } ∷ [])));
}

-- the network `split` with deadline 3, where early is 1 or earlier, and late is 2 or later
abbrev pub coarse : Network
coarse = split 3 (pos 1) (negsuc 1)

-- the network `coarse` with the deadline and every value doubled; the reactions stay one tick
abbrev pub fine : Network
fine = split 6 (pos 2) (negsuc 3)

-- the moment of Q by p
abbrev pub fine_q : Bool → ℕ
fine_q true = 4
fine_q false = 1

-- the moment of X by p and q
abbrev pub fine_x : Bool → Bool → ℕ
fine_x true q = 1
fine_x false true = 4
fine_x false false = 2

-- P is at 0, Q waits for p, and X waits for p and, where p is false, also for q
abbrev pub fine_table : Table
fine_table s zero = 0
fine_table s (suc zero) = 0
fine_table s (suc (suc zero)) = fine_q (s 0)
fine_table s (suc (suc (suc x))) = fine_x (s 0) (s 1)
