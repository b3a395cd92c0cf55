-- What is said of documents that were read one after another.
use Rattle.std.proofs.Common.{◌≡◌, ℕ, List, [], ◌∷◌, ◌++◌, map, sym, subst, append_assoc, arith}
use Rattle.std.specs.Prelude.{Option}
use Rattle.std.proofs.lemmas.Grind.{common_steps}
use Rattle.cstn_reply.specs.Read.{the_said}
use Rattle.cstn_reply.specs.declared.output.Said.{Said as SaidText}
use Rattle.cstn_request.specs.Several.{WereOpened, HasRefusedFile}
use Rattle.cstn_request.specs.declared.reading.NamedNetwork.{NamedNetwork}
use Rattle.cstn_run.specs.hosted.Files.{Named}
use Rattle.cstn_top.specs.Plans.{Plan, says, ComesTo}
use Rattle.cstn_top.specs.commands.Host.{on_documents}
use Rattle.cstn_top.specs.Begun.{the_named}
use Rattle.cstn_top.proofs.Comes.{comes_itself, comes_through, accepted_comes, told_comes}

pub no_more : (ns : List Named) → ns ++ [] ≡ ns
no_more ns = grind (arith, common_steps)

-- what is said of documents and then of others is what is said of the others after those, where they were accepted
pub documents_come : (answer : List Named → Plan) (deadline : Option ℕ) (before : List Named) (contents rest : List (List ℕ)) (documents : List NamedNetwork) → WereOpened contents deadline documents → ComesTo (on_documents answer deadline before (contents ++ rest)) (on_documents answer deadline (before ++ map the_named documents) rest)
documents_come answer deadline before [] rest [] are =
    subst (λ (all : List Named). ComesTo (on_documents answer deadline before rest) (on_documents answer deadline all rest)) (sym (no_more before)) (comes_itself (on_documents answer deadline before rest))
documents_come answer deadline before [] rest (d ∷ ds) are = absurd are
documents_come answer deadline before (bytes ∷ contents) rest [] are = absurd are
documents_come answer deadline before (bytes ∷ contents) rest (d ∷ ds) are =
    accepted_comes (λ names net. on_documents answer deadline (before ++ record { names = names; net = net } ∷ []) (contents ++ rest)) bytes deadline d (on_documents answer deadline (before ++ map the_named (d ∷ ds)) rest) are.0
    (subst (λ (all : List Named). ComesTo (on_documents answer deadline (before ++ the_named d ∷ []) (contents ++ rest)) (on_documents answer deadline all rest)) (append_assoc before (the_named d ∷ []) (map the_named ds))
    (documents_come answer deadline (before ++ the_named d ∷ []) contents rest ds are.1))

-- what is said where a document is refused, whatever would be said of all networks
pub refused_come : (answer : List Named → Plan) (shelf : Option (List ℕ → Option (List ℕ))) (before after : Option (List (List ℕ))) (deadline : Option ℕ) (files : List (List ℕ)) (said : SaidText) → (is : HasRefusedFile shelf before after deadline files said) → ComesTo (on_documents answer deadline [] is.contents) (says (the_said said))
refused_come answer shelf before after deadline files said is =
    let all : List Named = map the_named is.file.documents in
    subst (λ (contents : List (List ℕ)). ComesTo (on_documents answer deadline [] contents) (says (the_said said))) (sym is.file.contents_are)
    (comes_through (on_documents answer deadline [] (is.file.earlier ++ is.file.bytes ∷ is.file.later)) (on_documents answer deadline all (is.file.bytes ∷ is.file.later)) (says (the_said said))
    (documents_come answer deadline [] is.file.earlier (is.file.bytes ∷ is.file.later) is.file.documents is.file.accepted)
    (told_comes (λ names net. on_documents answer deadline (all ++ record { names = names; net = net } ∷ []) is.file.later) is.file.bytes deadline said (is.file.is, is.outcome)))
