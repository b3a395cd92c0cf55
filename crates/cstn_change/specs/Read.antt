-- How the program's changes, refusals and networks are read.
use Rattle.std.specs.Prelude.{◌≡◌, List, Option, None, Some, Result, Ok, Err}
use Rattle.cstn_label.specs.Read.{marks}
use Rattle.cstn_net.specs.Networks.{Constraint}
use Rattle.cstn_net.specs.Read.{NetworkParts, the_network}
use Rattle.cstn_change.specs.declared.changes.Change.{Change as DeclaredChange}
use Rattle.cstn_change.specs.declared.changes.Change.TheVariants.{Add, Remove, Revalue}
use Rattle.cstn_change.specs.declared.errors.EditError.{EditError}
use Rattle.cstn_change.specs.declared.errors.EditError.TheVariants.{EditLimit as AtLimit, NoRoom as WithoutRoom, NoSuch as Missing, ValueRange as OutOfRange}
use Rattle.cstn_change.specs.declared.errors.EditError.TheVariants.{NotPlain as Unplain, NotObserved as Unobserved}
use Rattle.cstn_change.specs.Changes.{Change, adds, removes, revalues, ChangeRefusal, NoRoom, NoSuch, ValueRange, NotPlain, NotObserved, EditLimit}

-- the change that a value of the program stands for
abbrev pub the_change : DeclaredChange → Change
the_change (Add from to most label) = adds from.0 to.0 most (marks label)
the_change (Remove id) = removes id
the_change (Revalue id most) = revalues id most

-- the refusal that an error stands for
abbrev pub the_change_refusal : EditError → ChangeRefusal
the_change_refusal AtLimit = EditLimit
the_change_refusal (WithoutRoom room) = NoRoom room
the_change_refusal (Missing id) = NoSuch id
the_change_refusal (OutOfRange most) = ValueRange most
the_change_refusal Unplain = NotPlain
the_change_refusal (Unobserved prop) = NotObserved prop.index

-- why a call was refused, or none where it succeeded
abbrev pub change_refusal : {X : Type 0} → Result X EditError → Option ChangeRefusal
change_refusal (Ok x) = None
change_refusal (Err e) = Some (the_change_refusal e)

-- the network has these constraints, and is as it was else
pub record OnlyConstraintsDiffer (old new : NetworkParts) (cs : List Constraint) : Type 0 where
  pub points : new.points ≡ old.points
  pub deadline : new.deadline ≡ old.deadline
  pub constraints : (the_network new).constraints ≡ cs
