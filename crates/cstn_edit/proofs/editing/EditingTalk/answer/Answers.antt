use Rattle.std.proofs.Common.{Some, ap, w32, to_z, of_z}
use Rattle.cstn_label.specs.Read.{marks}
use Rattle.cstn_lines.specs.EditLines.{the_edit, added, removed, changed, asked}
use Rattle.cstn_edit.specs.Editing.{the_editing}
use Rattle.cstn_edit.proofs.Edits.{answer_ends}
use Rattle.cstn_edit.proofs.Wanting.{adding_wants, add_wants, check_wants, said_so, on_err}
use Rattle.cstn_edit.proofs.editing.EditingTalk.answer.Goals as goal

pub returns-in_ok-add-in-Some-Add-clause-lines : goal.returns-in_ok-add-in-Some-Add-clause-lines
returns-in_ok-add-in-Some-Add-clause-lines c = λ is.
    answer_ends (the_editing c.args.self.now)
    (Some (added c.as_str.result.now c.as_str-in-Some-Add.result.now (to_z w32 (of_z w32 c.in-Some-Add.most)) (marks c.in-Some-Add.label))) _ _
    c.in_ok-add-in-Some-Add.ensures.turn

pub returns-in-Some-Remove-clause-lines : goal.returns-in-Some-Remove-clause-lines
returns-in-Some-Remove-clause-lines c = λ is.
    answer_ends (the_editing c.args.self.now) (Some (removed c.in-Some-Remove.id)) _ _ c.remove.ensures.turn

pub returns-in-Some-Change-clause-lines : goal.returns-in-Some-Change-clause-lines
returns-in-Some-Change-clause-lines c = λ is.
    answer_ends (the_editing c.args.self.now) (Some (changed c.in-Some-Change.id (to_z w32 (of_z w32 c.in-Some-Change.most)))) _ _ c.change.ensures.turn

pub returns-in_ok-check-in-Some-Check-clause-lines : goal.returns-in_ok-check-in-Some-Check-clause-lines
returns-in_ok-check-in-Some-Check-clause-lines c = λ is.
    answer_ends (the_editing c.args.self.now) (Some asked) _ _ c.in_ok-check-in-Some-Check.ensures.turn

pub returns-in_err-from-clause-memory : goal.returns-in_err-from-clause-memory
returns-in_err-from-clause-memory c = on_err _ _ (adding_wants c.args.line.now c.in_err-from.ensures.memory)

pub returns-in_err-add-in-Some-Add-clause-memory : goal.returns-in_err-add-in-Some-Add-clause-memory
returns-in_err-add-in-Some-Add-clause-memory c = on_err _ _ (add_wants c.args.line.now _ _ _ _ (said_so c.args.line.now _ _ _ c.in-Some-Add.is c.in_ok-from.ensures.read (ap the_edit c.in-Some-Add.field-0-is)))

pub returns-in_err-check-in-Some-Check-clause-memory : goal.returns-in_err-check-in-Some-Check-clause-memory
returns-in_err-check-in-Some-Check-clause-memory c = on_err _ _ (check_wants c.args.line.now (said_so c.args.line.now _ _ _ c.in-Some-Check.is c.in_ok-from.ensures.read (ap the_edit c.in-Some-Check.field-0-is)))
