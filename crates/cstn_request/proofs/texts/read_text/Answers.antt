use Rattle.std.proofs.Common.{◌≡◌, ap, subst}
use Rattle.std.specs.Prelude.{Err}
use Rattle.cstn_reply.specs.declared.output.Said.{Said}
use Rattle.cstn_request.specs.Opened.{HasFile, IsLongText}
use Rattle.cstn_request.proofs.Opening.{long_text}
use Rattle.cstn_request.proofs.texts.read_text.Goals as goal

pub returns-in_ok-said-in-Err-TooLong-clause-refused : goal.returns-in_ok-said-in-Err-TooLong-clause-refused
returns-in_ok-said-in-Err-TooLong-clause-refused g c = λ said e.
    let same : c.in_ok-said-in-Err-TooLong.said ≡ said = cc in
    subst (λ (s : Said). HasFile (g.F.Shelf.files c.args.shelf.now) c.args.file.now (IsLongText s)) same
    (long_text (g.F.Shelf.files c.args.shelf.now) c.args.file.now c.in_ok-said-in-Err-TooLong.said (c.in-Err-TooLong.ensures.long (ap Err c.in-Err-TooLong.field-0-is)) c.in_ok-said-in-Err-TooLong.ensures.said)
