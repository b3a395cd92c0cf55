-- What reading a plan answers.
use Rattle.std.specs.Prelude.{◌≡◌, Result, Ok, Err}
use Rattle.cstn_sentences.specs.declared.errors.PlanError.{PlanError}
use Rattle.cstn_sentences.specs.declared.errors.PlanError.TheVariants.{Long, Wrong, Range, Twice, NoName, NoLetter, NoDeadline, Net, Lift, Memory}
use Rattle.cstn_sentences.specs.Refusals.{PlanRefusal, too_long, wrong_word, out_of_range, stands_twice, no_name, no_letter, no_deadline}

-- the error is the refusal that is told, or it is want of memory, which may come at any point
abbrev pub FailsPlan : {B : Type 0} → PlanError → Result B PlanRefusal → Type 0
FailsPlan Long told = told ≡ Err too_long
FailsPlan (Wrong line word) told = told ≡ Err (wrong_word line word)
FailsPlan (Range line) told = told ≡ Err (out_of_range line)
FailsPlan (Twice line text) told = told ≡ Err (stands_twice line text)
FailsPlan (NoName line name) told = told ≡ Err (no_name line name)
FailsPlan (NoLetter line word) told = told ≡ Err (no_letter line word)
FailsPlan NoDeadline told = told ≡ Err no_deadline
FailsPlan (Net error names) told = ⊥
FailsPlan (Lift error names) told = ⊥
FailsPlan (Memory e) told = Unit {0}

-- what was returned, seen by a view, is what is told
abbrev pub TellsPlan : {A B : Type 0} → (A → B) → Result A PlanError → Result B PlanRefusal → Type 0
TellsPlan view (Ok x) told = told ≡ Ok (view x)
TellsPlan view (Err e) told = FailsPlan e told
