-- Logs of small networks, computed.
use Rattle.std.proofs.Common.{ℕ, ◌≡◌, ◌+◌, ◌≤◌, Bool, true, false, List, [], ◌∷◌, length, map, None, arith, refl, ap, ◌∙◌}
use Rattle.cstn_label.specs.declared.marks.Mark.TheVariants.{Absent, No}
use Rattle.cstn_label.specs.Labels.{empty}
use Rattle.cstn_net.specs.Networks.{Network, count}
use Rattle.cstn_log.specs.Entries.{bases}
use Rattle.cstn_check.specs.Growth.{step, grown, log_of, most_entries, is_refuted}
use Rattle.cstn_check.specs.Examples.{HasLog, Shows, EntryLine, line_of_entry, of_two_marks, at_least_after, at_most_after, prompt, branch_and, crossed_and, unknown_mark, process, drawn_network, crossed_lines, unknown_mark_lines, process_lines}
use Rattle.cstn_check.proofs.Grows.{grown_idle}

-- the log is the list after n turns, where that has n entries
log_at : (net : Network) (n : ℕ) → length (grown net (bases (count net)) n) ≡ n → n ≤ length (bases (count net)) + most_entries net →
    log_of net ≡ grown net (bases (count net)) n
log_at net n long few = grown_idle net (bases (count net)) n (length (bases (count net)) + most_entries net) (omega arith) few

has_log : (net : Network) (n : ℕ) (refuted : Bool) → length (grown net (bases (count net)) n) ≡ n →
    is_refuted net (grown net (bases (count net)) n) ≡ refuted → n ≤ length (bases (count net)) + most_entries net →
    HasLog net n refuted
has_log net n refuted long is few = record {
  load_is = ap length (log_at net n long few) ∙ long;
  refuted_is = ap (is_refuted net) (log_at net n long few) ∙ is;
}

shows : (net : Network) (n : ℕ) (lines : List EntryLine) → length (grown net (bases (count net)) n) ≡ n →
    map line_of_entry (grown net (bases (count net)) n) ≡ lines → n ≤ length (bases (count net)) + most_entries net →
    Shows net lines
shows net n lines long is few = ap (map line_of_entry) (log_at net n long few) ∙ is

pub log_alone : HasLog (prompt 0 (None ∷ []) []) 1 false
unfolding step
log_alone = has_log (prompt 0 (None ∷ []) []) 1 false refl refl (omega arith)

pub log_branch : HasLog (branch_and []) 5 false
unfolding step
log_branch = has_log (branch_and []) 5 false refl refl (omega arith)

pub log_last_tick : HasLog (branch_and (at_least_after 2 1 0 2 empty ∷ [])) 6 false
unfolding step
log_last_tick = has_log (branch_and (at_least_after 2 1 0 2 empty ∷ [])) 6 false refl refl (omega arith)

pub log_too_late : HasLog (branch_and (at_least_after 2 1 0 3 empty ∷ [])) 7 true
unfolding step
log_too_late = has_log (branch_and (at_least_after 2 1 0 3 empty ∷ [])) 7 true refl refl (omega arith)

pub log_crossed : HasLog (crossed_and []) 8 false
unfolding step
log_crossed = has_log (crossed_and []) 8 false refl refl (omega arith)

pub log_crossed_no : HasLog (crossed_and (at_most_after 2 0 1 4 (of_two_marks Absent No) ∷ [])) 9 true
unfolding step
log_crossed_no = has_log (crossed_and (at_most_after 2 0 1 4 (of_two_marks Absent No) ∷ [])) 9 true refl refl (omega arith)

pub log_unknown_mark : HasLog unknown_mark 14 true
unfolding step
log_unknown_mark = has_log unknown_mark 14 true refl refl (omega arith)

pub log_process : HasLog process 14 false
unfolding step
log_process = has_log process 14 false refl refl (omega arith)

pub log_drawn : HasLog drawn_network 31 false
unfolding step
log_drawn = has_log drawn_network 31 false refl refl (omega arith)

pub lines_crossed : Shows (crossed_and []) crossed_lines
unfolding step
lines_crossed = shows (crossed_and []) 8 crossed_lines refl refl (omega arith)

pub lines_unknown_mark : Shows unknown_mark unknown_mark_lines
unfolding step
lines_unknown_mark = shows unknown_mark 14 unknown_mark_lines refl refl (omega arith)

pub lines_process : Shows process process_lines
unfolding step
lines_process = shows process 14 process_lines refl refl (omega arith)
