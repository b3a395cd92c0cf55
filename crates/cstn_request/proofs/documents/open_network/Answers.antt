use Rattle.std.proofs.Common.{Bool, sym, subst}
use Rattle.std.specs.Prelude.{IfOk}
use Rattle.cstn_request.specs.Read.{the_asked_file}
use Rattle.cstn_request.specs.Opened.{HasAskedFile, IsNetworkOf, IsNetworkRefusal}
use Rattle.cstn_request.proofs.documents.open_network.Goals as goal

pub returns-then-takes_labels-clause-opened : goal.returns-then-takes_labels-clause-opened
returns-then-takes_labels-clause-opened g c =
    subst (λ (takes : Bool). IfOk c.open_lowered.result (λ d. HasAskedFile (g.F.Shelf.files c.args.shelf.now) (the_asked_file c.args.asked) (λ bytes deadline. IsNetworkOf takes bytes deadline d))) (sym c.if-takes_labels.true) c.open_lowered.ensures.opened

pub returns-then-takes_labels-clause-refused : goal.returns-then-takes_labels-clause-refused
returns-then-takes_labels-clause-refused g c said e =
    subst (λ (takes : Bool). HasAskedFile (g.F.Shelf.files c.args.shelf.now) (the_asked_file c.args.asked) (λ bytes deadline. IsNetworkRefusal takes bytes deadline said)) (sym c.if-takes_labels.true) (c.open_lowered.ensures.refused said e)

pub returns-clause-opened : goal.returns-clause-opened
returns-clause-opened g c =
    subst (λ (takes : Bool). IfOk c.open.result (λ d. HasAskedFile (g.F.Shelf.files c.args.shelf.now) (the_asked_file c.args.asked) (λ bytes deadline. IsNetworkOf takes bytes deadline d))) (sym c.if-takes_labels.false) c.open.ensures.opened

pub returns-clause-refused : goal.returns-clause-refused
returns-clause-refused g c said e =
    subst (λ (takes : Bool). HasAskedFile (g.F.Shelf.files c.args.shelf.now) (the_asked_file c.args.asked) (λ bytes deadline. IsNetworkRefusal takes bytes deadline said)) (sym c.if-takes_labels.false) (c.open.ensures.refused said e)
