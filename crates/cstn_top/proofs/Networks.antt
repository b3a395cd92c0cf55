-- Sessions over networks.
use Rattle.std.proofs.Common.{ℕ, Bool, true, false, List}
use Rattle.std.specs.Prelude.{Option, None, Some, IsSomeAnd}
use Rattle.cstn_net.specs.Networks.{Network}
use Rattle.cstn_graphml.specs.Document.{Parts, document}
use Rattle.cstn_top.specs.Answers.{NetworkAnswer, by_labels, on_labelled, on_document}
use Rattle.cstn_request.specs.Documents.{AreUnlabelled, parts_read}
use Rattle.cstn_lift.specs.Lowered.{lowered}
use Rattle.cstn_top.proofs.Labels.{labels_silent}
use Rattle.cstn_top.proofs.Documents.{document_then, document_talks}

-- no document has a network of which a falsehood holds
none_such : (o : Option Parts) → IsSomeAnd o (λ parts. AreUnlabelled parts × ⊥) → ⊥
none_such None h = h
none_such (Some parts) h = h.1

-- where no session is held over any network, none is held over a document
never_talks : (answer : NetworkAnswer) (bytes : List ℕ) (deadline : Option ℕ) → ((names : List (List ℕ)) (net : Network) → (answer names net).talks → ⊥) → (on_document answer bytes deadline).talks → ⊥
never_talks answer bytes deadline never may =
    none_such (parts_read (document bytes deadline))
    (document_then bytes deadline (λ names net. (answer names net).talks) (λ names net. ⊥) (document_talks answer bytes deadline may) (λ names net of is. never names net is))

-- where no session is held over any network, none is held over a document, by whether labels are taken
pub network_silent : (takes : Bool) (answer : NetworkAnswer) (bytes : List ℕ) (deadline : Option ℕ) → ((names : List (List ℕ)) (net : Network) → (answer names net).talks → ⊥) → (on_labelled (by_labels takes answer) bytes deadline).talks → ⊥
network_silent true answer bytes deadline never may = labels_silent (by_labels true answer) bytes deadline (λ names m. never names (lowered m)) may
network_silent false answer bytes deadline never may = never_talks answer bytes deadline never may
