use Rattle.std.proofs.Common.{ap, sym, subst}
use Rattle.std.specs.Prelude.{Err}
use Rattle.cstn_request.specs.Read.{the_request}
use Rattle.cstn_top.specs.Kinds.{AnswerKind}
use Rattle.cstn_top.specs.Prepared.{the_plan, FitsKind}
use Rattle.cstn_top.specs.Questions.{the_question}
use Rattle.cstn_top.proofs.Asking.{enough_all, instead_of}
use Rattle.cstn_top.proofs.Preparing.{planned_by, none_refused}
use Rattle.cstn_top.proofs.commands.prepare.Goals as goal

pub returns-in_ok-answer-in-Ok-clause-plan : goal.returns-in_ok-answer-in-Ok-clause-plan
returns-in_ok-answer-in-Ok-clause-plan g c = planned_by (the_request c.args.request) (g.F.Shelf.files c.args.shelf.now) c.in-Ok.question c.in_ok-answer-in-Ok.field-0 c.in-Ok.ensures.asks c.in_ok-answer-in-Ok.ensures.comes

pub returns-in_ok-answer-in-Ok-clause-fits : goal.returns-in_ok-answer-in-Ok-clause-fits
returns-in_ok-answer-in-Ok-clause-fits g c = subst (λ (k : AnswerKind). FitsKind k c.in_ok-answer-in-Ok.field-0) c.in-Ok.ensures.kind c.in_ok-answer-in-Ok.ensures.fits

pub returns-in_ok-answer-in-Ok-clause-refused : goal.returns-in_ok-answer-in-Ok-clause-refused
returns-in_ok-answer-in-Ok-clause-refused g c =
    none_refused (the_request c.args.request) (g.F.Shelf.files c.args.shelf.now) c.in-Ok.question c.in_ok-answer-in-Ok.field-0 c.in-Ok.ensures.asks c.in_ok-answer-in-Ok.ensures.comes _ _ c.in-Ok.ensures.once c.in-Ok.ensures.accepted

pub returns-in_ok-answer-in-Ok-clause-asked : goal.returns-in_ok-answer-in-Ok-clause-asked
returns-in_ok-answer-in-Ok-clause-asked g c =
    enough_all (the_request c.args.request) (g.F.Shelf.files c.args.shelf.now) _ _ (the_plan c.in_ok-answer-in-Ok.field-0) c.in-Ok.ensures.once c.in-Ok.ensures.asks.there

pub returns-in_err-answer-in-Ok-clause-first : goal.returns-in_err-answer-in-Ok-clause-first
returns-in_err-answer-in-Ok-clause-first g c =
    λ is. (enough_all (the_request c.args.request) (g.F.Shelf.files c.args.shelf.now) _ _ (the_question c.in-Ok.question) c.in-Ok.ensures.once c.in-Ok.ensures.asks.there).first

pub returns-in-Err-Told-clause-refused : goal.returns-in-Err-Told-clause-refused
returns-in-Err-Told-clause-refused g c =
    (instead_of (g.F.Shelf.files c.args.shelf.now) _ _ (the_request c.args.request) _ _ (sym c.in-Err-Told.said-is) (c.in-Err-Told.ensures.refused c.in-Err-Told.said (ap Err c.in-Err-Told.field-0-is))).refused

pub returns-in-Err-Told-clause-asked : goal.returns-in-Err-Told-clause-asked
returns-in-Err-Told-clause-asked g c =
    (instead_of (g.F.Shelf.files c.args.shelf.now) _ _ (the_request c.args.request) _ _ (sym c.in-Err-Told.said-is) (c.in-Err-Told.ensures.refused c.in-Err-Told.said (ap Err c.in-Err-Told.field-0-is))).asked
