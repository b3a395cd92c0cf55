use Rattle.std.proofs.Common.{◌≡◌, inl, ap, ◌∙◌}
use Rattle.std.specs.Prelude.{Err, IsErrAnd}
use Rattle.cstn_request.specs.Read.{the_asked_file}
use Rattle.cstn_request.specs.declared.reading.Unread.TheVariants.{Told}
use Rattle.cstn_request.specs.Opened.{IsLabelledOf, IsDocumentRefusal, IsPlainRefusal}
use Rattle.cstn_request.proofs.Opening.{file_as, plain_refused, plainly_asked, handed_on}
use Rattle.cstn_request.proofs.documents.open.Goals as goal

pub returns-in_err-document-clause-refused : goal.returns-in_err-document-clause-refused
returns-in_err-document-clause-refused g c = λ said e.
    let told : IsErrAnd c.from_residual.result (λ x. x ≡ c.in_err-document.field-0.0) = c.from_residual.ensures.1 in
    file_as (g.F.Shelf.files c.args.shelf.now) c.args.asked.file.now (λ bytes. IsDocumentRefusal bytes c.args.asked.deadline said) (λ bytes. IsPlainRefusal bytes c.args.asked.deadline said)
    (c.open_labelled.ensures.refused said (c.in_err-document.was ∙ ap Err (handed_on c.from_residual.result c.in_err-document.field-0.0 (Told said) told e)))
    (λ bytes is. (inl is.0, is.1))

pub returns-clause-opened : goal.returns-clause-opened
returns-clause-opened g c =
    plainly_asked c.unlabelled_is_plain.ensures.numbered c.unlabelled_is_plain.ensures.same (g.F.Shelf.files c.args.shelf.now) (the_asked_file c.args.asked) c.in_ok-document.document c.take_plain.result c.in_ok-document.ensures.opened c.take_plain.ensures.taken

pub returns-clause-refused : goal.returns-clause-refused
returns-clause-refused g c = λ said e.
    file_as (g.F.Shelf.files c.args.shelf.now) c.args.asked.file.now (λ bytes. IsLabelledOf bytes c.args.asked.deadline c.in_ok-document.document) (λ bytes. IsPlainRefusal bytes c.args.asked.deadline said)
    c.in_ok-document.ensures.opened (λ bytes is. plain_refused bytes c.args.asked.deadline c.in_ok-document.document said is (c.take_plain.ensures.refused said e))
