-- A host with one plan, and what is answered while two ids are open over it.
use Rattle.std.specs.Prelude.{ℕ, true, false, List, [], ◌∷◌, Some, None, pos}
use Rattle.std.proofs.Common.{lit<}
use Rattle.cstn_label.specs.declared.props.Prop.{Prop}
use Rattle.cstn_label.specs.declared.labels.Label.{Label}
use Rattle.cstn_label.specs.declared.bounds.Bound.{Bound}
use Rattle.cstn_plan.specs.Plans.{PlanParts}
use Rattle.cstn_exec.specs.Moves.{Done}
use Rattle.cstn_exec.specs.Answers.{Moment, See, AskDue, Names, Kept, Refused, DueAt}
use Rattle.cstn_run.specs.hosted.Calls.{HostCall, CallOn, Open, AskFile, AskNamed, Pass, Close, HostAnswer, Agreed, FileIs, Told, Denied, InUse, NotOpen, OutOfRange, NotAFile, NoMemory}

-- the proposition 0, called p here
abbrev pub p : Prop
p = record { index = 0; in_range = lit< tt }

abbrev pub unmarked : Label
unmarked = record { yes = 0; no = 0; yes_in_range = lit< tt; no_in_range = lit< tt }

-- the label that p is true
abbrev pub if_p : Label
if_p = record { yes = 1; no = 0; yes_in_range = lit< tt; no_in_range = lit< tt }

-- x is at `least` or later where the label is possible
abbrev pub bound_from : ℕ → ℕ → Label → Bound
bound_from x least label = record { node = record { 0 = x }; least = pos least; label = label }

-- Z, P, which observes p, and X, which is at 10 where p is true; the deadline is 10
abbrev pub branch_parts : PlanParts
branch_parts = record {
  net = record {
    deadline = 10;
    points = record { observes = None; reaction = 1 } ∷ (record { observes = Some p; reaction = 1 } ∷ (record { observes = None; reaction = 1 } ∷ []));
    constraints = [];
    spare = 0;
  };
  bounds = bound_from 0 0 unmarked ∷ (bound_from 1 0 unmarked ∷ (bound_from 2 10 if_p ∷ (bound_from 2 1 unmarked ∷ [])));
}

abbrev pub on : ℕ → HostCall → CallOn
on id call = record { id = id; call = call }

-- calls on the ids 0 and 7 in turn and on some that aren't open, with every refusal of a host, and their answers
abbrev pub branch_calls : List CallOn
branch_calls =
    on 0 (Open 0 false) ∷ (on 7 (Open 0 false) ∷ (on 0 (Pass (Moment 0)) ∷ (on 7 (Pass (Moment 0)) ∷ (on 0 (Pass (See 0 false)) ∷
    (on 0 (Pass (Moment 1)) ∷ (on 0 (Pass AskDue) ∷ (on 7 (Pass (See 0 true)) ∷ (on 7 (Pass AskDue) ∷ (on 7 AskNamed ∷
    (on 7 (Open 0 false) ∷ (on 3 (Pass AskDue) ∷ (on 64 (Open 0 false) ∷ (on 0 (Pass (Moment 2)) ∷ (on 1 (Open 1 false) ∷
    (on 64 (Open 9 false) ∷ (on 0 (Open 9 false) ∷ (on 2 (Open 0 true) ∷ (on 2 AskFile ∷ (on 7 Close ∷ (on 7 (Pass AskDue) ∷
    (on 0 AskFile ∷ (on 7 (Open 0 false) ∷ (on 7 (Pass AskDue) ∷ (on 63 (Open 0 false) ∷ []))))))))))))))))))))))))

abbrev pub hosted_branch_answers : List HostAnswer
hosted_branch_answers =
    Agreed ∷ (Agreed ∷ (Told (Names (0 ∷ (1 ∷ []))) ∷ (Told (Names (0 ∷ (1 ∷ []))) ∷ (Told Kept ∷
    (Told (Names (2 ∷ [])) ∷ (Told (DueAt None) ∷ (Told Kept ∷ (Told (DueAt (Some 10)) ∷ (Told (Names (0 ∷ (1 ∷ []))) ∷
    (Denied (InUse 7) ∷ (Denied (NotOpen 3) ∷ (Denied (OutOfRange 64) ∷ (Told (Refused Done) ∷ (Denied (NotAFile 1) ∷
    (Denied (OutOfRange 64) ∷ (Denied (InUse 0) ∷ (Denied NoMemory ∷ (Denied (NotOpen 2) ∷ (Agreed ∷ (Denied (NotOpen 7) ∷
    (FileIs 0 ∷ (Agreed ∷ (Told (DueAt (Some 0)) ∷ (Agreed ∷ []))))))))))))))))))))))))
