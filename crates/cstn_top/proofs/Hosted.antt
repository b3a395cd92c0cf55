-- What is asked of the files of a host.
use Rattle.std.proofs.Common.{◌≡◌, ℕ, List, [], ◌++◌, map, subst, arith}
use Rattle.std.specs.Prelude.{Option, Vec}
use Rattle.std.specs.Global.{Global}
use Rattle.std.proofs.lemmas.Grind.{common_steps}
use Rattle.cstn_request.specs.Requests.{host}
use Rattle.cstn_log.specs.declared.caps.Cap.{Cap}
use Rattle.cstn_request.specs.declared.reading.NamedNetwork.{NamedNetwork}
use Rattle.cstn_top.specs.Plans.{ComesTo}
use Rattle.cstn_top.specs.commands.Host.{attended, on_documents}
use Rattle.cstn_top.specs.Questions.{Asks}
use Rattle.cstn_top.specs.Begun.{the_named}
use Rattle.cstn_request.specs.Several.{HasRead}
use Rattle.cstn_top.specs.declared.commands.questions.Question.TheVariants.{Host}
use Rattle.cstn_top.proofs.ReadAll.{documents_come}

nothing_more : (xs : List (List ℕ)) → xs ++ [] ≡ xs
nothing_more xs = grind (arith, common_steps)

-- all documents were accepted
pub host_asked : (shelf : Option (List ℕ → Option (List ℕ))) (cap : Cap) (deadline : Option ℕ) (files : List (List ℕ)) (documents : Vec NamedNetwork Global) → HasRead shelf deadline files documents.items → Asks (host files deadline cap.entries) shelf (Host documents cap)
host_asked shelf cap deadline files documents read = record {
  contents = read.contents;
  are = read.are;
  comes = subst (λ (contents : List (List ℕ)). ComesTo (on_documents (attended cap.entries) deadline [] contents) (attended cap.entries (map the_named documents.items))) (nothing_more read.contents) (documents_come (attended cap.entries) deadline [] read.contents [] documents.items read.accepted);
  there = read.there;
}
