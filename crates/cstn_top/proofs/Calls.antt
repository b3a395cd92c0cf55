-- What is told of a call.
use Rattle.std.proofs.Common.{◌≡◌, subst}
use Rattle.std.specs.Prelude.{Option, Some, IfSome}
use Rattle.cstn_request.specs.Requests.{Request}
use Rattle.cstn_request.specs.Read.{the_request}
use Rattle.cstn_request.specs.declared.words.Request.{Request as RequestWords}
use Rattle.cstn_request.specs.declared.words.Request.TheVariants.{OfNetwork, OfLabelled, OfText, OfDocument, OfPlan, Drill, Host, Version}
use Rattle.cstn_top.specs.Meanings.{IsCapRanged}

-- a request that the words give has its cap in range
request_ranged : (r : RequestWords) → IsCapRanged (the_request r)
request_ranged (OfNetwork verb asked cap) = cap.most
request_ranged (OfLabelled verb asked cap) = cap.most
request_ranged (OfText verb asked proof) = tt
request_ranged (OfDocument verb asked) = tt
request_ranged (OfPlan asked) = tt
request_ranged (Drill number) = tt
request_ranged (Host files deadline cap) = cap.most
request_ranged (Version release) = tt

pub ranged_as : (words : Option Request) (r : RequestWords) → Some (the_request r) ≡ words → IfSome words IsCapRanged
ranged_as words r is = subst (λ (w : Option Request). IfSome w IsCapRanged) is (request_ranged r)
