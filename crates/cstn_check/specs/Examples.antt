-- Small networks, with their logs.
use Rattle.std.specs.Prelude.{ℕ, zero, suc, Bool, ◌≡◌, List, [], ◌∷◌, Option, Some, None, map, ℤ, pos, negsuc}
use Rattle.cstn_label.specs.declared.marks.Mark.{Mark}
use Rattle.cstn_label.specs.declared.marks.Mark.TheVariants.{Absent, Yes, No, Unknown}
use Rattle.cstn_label.specs.Labels.{Label, empty}
use Rattle.cstn_net.specs.Networks.{Network, Constraint}
use Rattle.cstn_rules.specs.declared.entries.Why.{Why}
use Rattle.cstn_rules.specs.declared.entries.Why.TheVariants.{Base, Chain, Wait}
use Rattle.cstn_rules.specs.Derivations.{Entry}
use Rattle.cstn_check.specs.Growth.{log_of, load_of, is_refuted}

-- the log has `load` entries, and `refuted` says whether one of them refutes the network
pub record HasLog (net : Network) (load : ℕ) (refuted : Bool) : Type 0 where
  pub load_is : load_of net ≡ load
  pub refuted_is : is_refuted net (log_of net) ≡ refuted

-- the label with these marks on the propositions 0 and 1, and no other
abbrev pub of_two_marks : Mark → Mark → Label
of_two_marks m n zero = m
of_two_marks m n (suc zero) = n
of_two_marks m n (suc (suc p)) = Absent

-- `from` is executed `least` or more ticks after `to`
abbrev pub at_least_after : ℕ → ℕ → ℕ → ℕ → Label → Constraint
at_least_after id from to zero label = record { id = id; from = from; to = to; most = pos 0; label = label }
at_least_after id from to (suc least) label = record { id = id; from = from; to = to; most = negsuc least; label = label }

-- `to` is executed at most `most` ticks after `from`
abbrev pub at_most_after : ℕ → ℕ → ℕ → ℕ → Label → Constraint
at_most_after id from to most label = record { id = id; from = from; to = to; most = pos most; label = label }

-- a network with a reaction of one tick
abbrev pub prompt : ℕ → List (Option ℕ) → List Constraint → Network
prompt deadline observes constraints = record { deadline = deadline; observes = observes; reaction = λ p. 1; constraints = constraints }

-- Z, P, which observes p, and X, which is at 10 or later where p is true and at 3 or earlier where it is false
abbrev pub branch_and : List Constraint → Network
branch_and more = prompt 10 (None ∷ (Some 0 ∷ (None ∷ [])))
    (at_least_after 0 2 0 10 (of_two_marks Yes Absent) ∷ (at_most_after 1 0 2 3 (of_two_marks No Absent) ∷ more))

-- P and Q, each of which observes, and is at 5 or later where the other's proposition is true
abbrev pub crossed_and : List Constraint → Network
crossed_and more = prompt 5 (None ∷ (Some 0 ∷ (Some 1 ∷ [])))
    (at_least_after 0 1 0 5 (of_two_marks Absent Yes) ∷ (at_least_after 1 2 0 5 (of_two_marks Yes Absent) ∷ more))

-- a network whose log has an unknown mark: X waits for p and q, and Q for p, which is known too late
abbrev pub unknown_mark : Network
unknown_mark = prompt 10 (None ∷ (Some 0 ∷ (Some 1 ∷ (None ∷ []))))
    (at_least_after 0 3 0 9 (of_two_marks Yes Yes) ∷ (at_least_after 1 2 0 7 (of_two_marks No Absent) ∷
    (at_least_after 2 1 0 7 empty ∷ (at_most_after 3 0 3 7 (of_two_marks No No) ∷ []))))

-- a process: it starts at S, P observes p, and it goes on at T, which takes longer where p is false, and ends at E
abbrev pub process : Network
process = prompt 40 (None ∷ (None ∷ (Some 0 ∷ (None ∷ (None ∷ [])))))
    (at_least_after 0 2 1 5 empty ∷ (at_most_after 1 1 2 10 empty ∷ (at_least_after 2 3 2 2 (of_two_marks Yes Absent) ∷
    (at_least_after 3 3 2 8 (of_two_marks No Absent) ∷ (at_least_after 4 4 3 3 empty ∷ (at_most_after 5 0 4 30 empty ∷ []))))))

-- the label with these marks on the first propositions, and no other
abbrev pub of_marks : List Mark → Label
of_marks [] p = Absent
of_marks (m ∷ ms) zero = m
of_marks (m ∷ ms) (suc p) = of_marks ms p

-- six time-points beside the origin, of which three observe, and twelve constraints drawn by chance
abbrev pub drawn_network : Network
drawn_network = prompt 22 (None ∷ (Some 0 ∷ (Some 1 ∷ (Some 2 ∷ (None ∷ (None ∷ (None ∷ [])))))))
    (at_least_after 0 4 1 0 empty ∷ (at_most_after 1 3 5 14 (of_marks (Yes ∷ [])) ∷
    (at_least_after 2 1 0 2 (of_marks (Absent ∷ (Absent ∷ (Yes ∷ [])))) ∷ (at_least_after 3 2 0 6 empty ∷ (at_least_after 4 3 0 2 empty ∷
    (at_least_after 5 6 0 8 (of_marks (Yes ∷ (Absent ∷ (Yes ∷ [])))) ∷ (at_least_after 6 2 0 2 (of_marks (Absent ∷ (No ∷ []))) ∷
    (at_least_after 7 6 0 2 (of_marks (Absent ∷ (Absent ∷ (Yes ∷ [])))) ∷ (at_least_after 8 3 0 5 (of_marks (Absent ∷ (No ∷ []))) ∷
    (at_least_after 9 6 1 1 (of_marks (No ∷ (Yes ∷ []))) ∷ (at_least_after 10 6 4 8 (of_marks (No ∷ (Absent ∷ (No ∷ [])))) ∷
    (at_least_after 11 2 0 9 (of_marks (Absent ∷ (No ∷ (No ∷ [])))) ∷ []))))))))))))

-- an entry as a line: its time-point, its least value, its marks on the propositions 0 and 1, and the rule that gave it
pub record EntryLine : Type 0 where
  pub node : ℕ
  pub least : ℤ
  pub first : Mark
  pub second : Mark
  pub why : Why

-- a line with a least value of 0 or more
abbrev pub entry_line : ℕ → ℕ → Mark → Mark → Why → EntryLine
entry_line node least first second why = record { node = node; least = pos least; first = first; second = second; why = why }

-- the line of an entry
abbrev pub line_of_entry : Entry → EntryLine
line_of_entry e = record { node = e.bound.node; least = e.bound.least; first = e.bound.label 0; second = e.bound.label 1; why = e.why }

-- the entries of the network's log are these lines
abbrev pub Shows : Network → List EntryLine → Type 0
Shows net lines = map line_of_entry (log_of net) ≡ lines

-- the log of two observers that wait for each other
abbrev pub crossed_lines : List EntryLine
crossed_lines =
    entry_line 0 0 Absent Absent Base ∷ (entry_line 1 0 Absent Absent Base ∷ (entry_line 2 0 Absent Absent Base ∷
    (entry_line 1 5 Absent Yes (Chain 0 0) ∷ (entry_line 2 5 Yes Absent (Chain 1 0) ∷ (entry_line 1 1 Absent Absent (Wait 2 3) ∷
    (entry_line 2 5 Absent Absent (Wait 3 4) ∷ (entry_line 1 5 Absent Absent (Wait 6 3) ∷ [])))))))

-- the log of `unknown_mark`
abbrev pub unknown_mark_lines : List EntryLine
unknown_mark_lines =
    entry_line 0 0 Absent Absent Base ∷ (entry_line 1 0 Absent Absent Base ∷ (entry_line 2 0 Absent Absent Base ∷ (entry_line 3 0 Absent Absent Base ∷
    (entry_line 3 9 Yes Yes (Chain 0 0) ∷ (entry_line 2 7 No Absent (Chain 1 0) ∷ (entry_line 1 7 Absent Absent (Chain 2 0) ∷
    (entry_line 3 1 Yes Absent (Wait 2 4) ∷ (entry_line 3 8 Unknown Absent (Wait 5 4) ∷ (entry_line 3 8 Absent Yes (Wait 6 4) ∷
    (entry_line 2 7 Absent Absent (Wait 6 5) ∷ (entry_line 3 1 Absent Absent (Wait 6 7) ∷ (entry_line 3 8 Absent Absent (Wait 6 8) ∷
    (entry_line 0 1 No No (Chain 3 12) ∷ [])))))))))))))

-- the log of the process
abbrev pub process_lines : List EntryLine
process_lines =
    entry_line 0 0 Absent Absent Base ∷ (entry_line 1 0 Absent Absent Base ∷ (entry_line 2 0 Absent Absent Base ∷ (entry_line 3 0 Absent Absent Base ∷
    (entry_line 4 0 Absent Absent Base ∷ (entry_line 2 5 Absent Absent (Chain 0 1) ∷ (entry_line 4 3 Absent Absent (Chain 4 3) ∷
    (entry_line 3 7 Yes Absent (Chain 2 5) ∷ (entry_line 3 13 No Absent (Chain 3 5) ∷ (entry_line 4 10 Yes Absent (Chain 4 7) ∷
    (entry_line 3 6 Absent Absent (Wait 5 7) ∷ (entry_line 4 16 No Absent (Chain 4 8) ∷ (entry_line 4 6 Absent Absent (Wait 5 9) ∷
    (entry_line 4 9 Absent Absent (Chain 4 10) ∷ [])))))))))))))
