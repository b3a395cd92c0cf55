-- Edit lines: the changes that they say by the names of time-points, what is said of these, and the network as edited by lines.
use Rattle.std.specs.Prelude.{ℕ, ℤ, List, [], ◌∷◌, ◌++◌, Option, None, Some, Result, Ok, Err, codes, decimal}
use Rattle.cstn_label.specs.Labels.{Label}
use Rattle.cstn_label.specs.Letters.{letter_of}
use Rattle.cstn_net.specs.Limits.{most_constraints}
use Rattle.cstn_net.specs.Networks.{Network}
use Rattle.cstn_text.specs.Names.{number_of}
use Rattle.cstn_text.specs.Numbers.{printed_value}
use Rattle.cstn_text.specs.PrintedNames.{printed_name}
use Rattle.cstn_lines.specs.EditLines.{Edit, added, removed, changed, asked, edit_read}
use Rattle.cstn_change.specs.Changes.{EditedNetwork, Change, adds, removes, revalues, ChangeRefusal, NoRoom, NoSuch, ValueRange, NotPlain, NotObserved, EditLimit}
use Rattle.cstn_change.specs.Changes.{UnknownEnd, unedited, refusal, edited_by, if_accepted}

-- ---- what is said of a change

-- why a change is refused
abbrev pub refused_change_text : ChangeRefusal → List ℕ
refused_change_text (NoRoom room) = codes "refused S1 " ++ decimal room
refused_change_text (NoSuch id) = codes "refused S2 " ++ decimal id
refused_change_text (ValueRange most) = codes "refused S3 " ++ printed_value most
refused_change_text NotPlain = codes "refused S4"
refused_change_text (NotObserved p) = codes "refused S5 " ++ letter_of p ∷ []
refused_change_text EditLimit = codes "refused S6"
refused_change_text (UnknownEnd name) = codes "refused S7 " ++ printed_name name

-- that a change is accepted, with the id of the constraint, which is this one where it is added
abbrev pub accepted_text : ℕ → Change → List ℕ
accepted_text fresh (adds from to most a) = codes "added " ++ decimal fresh
accepted_text fresh (removes id) = codes "removed " ++ decimal id
accepted_text fresh (revalues id most) = codes "changed " ++ decimal id

-- ---- changes by the names of time-points

-- the addition between two names, whose numbers these are, or why it is refused where there is none of one of them
abbrev pub addition_between : List ℕ → List ℕ → ℤ → Label → Option ℕ → Option ℕ → Result Change ChangeRefusal
addition_between from to most a None y = Err (UnknownEnd from)
addition_between from to most a (Some x) None = Err (UnknownEnd to)
addition_between from to most a (Some x) (Some y) = Ok (adds x y most a)

-- the addition between the time-points of two names
abbrev pub addition : List (List ℕ) → List ℕ → List ℕ → ℤ → Label → Result Change ChangeRefusal
addition names from to most a = addition_between from to most a (number_of names from) (number_of names to)

-- ---- the network as edited by lines

-- what a change leads to, which is nothing else where it is refused
abbrev pub after_change : EditedNetwork → Result Change ChangeRefusal → EditedNetwork
after_change e (Ok change) = if_accepted (refusal most_constraints e change) (edited_by e change) e
after_change e (Err why) = e

-- what an edit leads to, by the names of the time-points
abbrev pub after_edit : List (List ℕ) → EditedNetwork → Option Edit → EditedNetwork
after_edit names e None = e
after_edit names e (Some (added from to most a)) = after_change e (addition names from to most a)
after_edit names e (Some (removed id)) = after_change e (Ok (removes id))
after_edit names e (Some (changed id most)) = after_change e (Ok (revalues id most))
after_edit names e (Some asked) = e

-- what edit lines lead to, one after another
abbrev pub after_lines : List (List ℕ) → EditedNetwork → List (List ℕ) → EditedNetwork
after_lines names e [] = e
after_lines names e (first ∷ lines) = after_lines names (after_edit names e (edit_read first)) lines

-- a network as edited by these lines, under the names of its time-points
abbrev pub network_after : List (List ℕ) → Network → List (List ℕ) → Network
network_after names net lines = (after_lines names (unedited net) lines).net
