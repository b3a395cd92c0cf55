use Rattle.std.proofs.Common.{◌≡◌, ℕ, List, ap, subst}
use Rattle.std.specs.Prelude.{Err}
use Rattle.cstn_reply.specs.declared.output.Said.{Said}
use Rattle.cstn_request.specs.Opened.{HasFile, IsDocumentRefusal}
use Rattle.cstn_request.proofs.Opening.{long_document, whole_file}
use Rattle.cstn_request.proofs.documents.open_labelled.Goals as goal

pub returns-in-Ok-clause-refused : goal.returns-in-Ok-clause-refused
returns-in-Ok-clause-refused g c = λ said e.
    whole_file (g.F.Shelf.files c.args.shelf.now) c.args.asked.file.now c.in-Ok.bytes.items (λ bytes. IsDocumentRefusal bytes c.args.asked.deadline said) c.in-Ok.ensures.file
    (subst (λ (bytes : List ℕ). IsDocumentRefusal bytes c.args.asked.deadline said) c.deref.ensures.value (c.open_bytes.ensures.refused said e))

pub returns-in_ok-said-in-Err-TooLong-clause-refused : goal.returns-in_ok-said-in-Err-TooLong-clause-refused
returns-in_ok-said-in-Err-TooLong-clause-refused g c = λ said e.
    let same : c.in_ok-said-in-Err-TooLong.said ≡ said = cc in
    subst (λ (s : Said). HasFile (g.F.Shelf.files c.args.shelf.now) c.args.asked.file.now (λ bytes. IsDocumentRefusal bytes c.args.asked.deadline s)) same
    (long_document (g.F.Shelf.files c.args.shelf.now) c.args.asked.file.now c.args.asked.deadline c.in_ok-said-in-Err-TooLong.said (c.in-Err-TooLong.ensures.long (ap Err c.in-Err-TooLong.field-0-is)) c.in_ok-said-in-Err-TooLong.ensures.said)
