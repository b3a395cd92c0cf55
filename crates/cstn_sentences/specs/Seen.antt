-- What functions of the program return, beside what the definitions tell.
use Rattle.std.specs.Prelude.{◌≡◌, ℕ, Result, Ok, Err}
use Rattle.cstn_sentences.specs.declared.faults.LineFault.{LineFault}
use Rattle.cstn_sentences.specs.declared.faults.LineFault.TheVariants.{Wrong, Memory}
use Rattle.cstn_sentences.specs.declared.rests.Rest.{Rest as LentRest}
use Rattle.cstn_sentences.specs.Grammar.{Rest}

-- the fault is what is told, or it is want of memory, which may come at any point
abbrev pub FailsRead : {B : Type 0} → LineFault → Result B ℕ → Type 0
FailsRead (Wrong left) told = told ≡ Err left
FailsRead (Memory e) told = Unit {0}

-- what was returned, seen by a view, is what is told
abbrev pub GivesRead : {A B : Type 0} → (A → B) → Result A LineFault → Result B ℕ → Type 0
GivesRead view (Ok x) told = told ≡ Ok (view x)
GivesRead view (Err fault) told = FailsRead fault told

abbrev pub the_rest : LentRest → Rest
the_rest r = record { since = r.since.items; label = r.label.items; expects = r.expects }
