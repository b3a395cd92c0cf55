use Rattle.std.proofs.Common.{ℕ, List, ◌++◌, ◌≡◌, ◌∙◌, subst, codes, decimal}
use Rattle.std.specs.Prelude.{IfOk}
use Rattle.cstn_reply.specs.Read.{the_said}
use Rattle.cstn_reply.specs.Texts.{say}
use Rattle.cstn_reply.specs.declared.output.Outcome.TheVariants.{Document}
use Rattle.cstn_request.proofs.Joining.{four_parts}
use Rattle.cstn_request.proofs.refusals.at_place.Goals as goal

pub returns : goal.returns
returns c = record {
  said = subst (λ (why : List ℕ). IfOk c.refusal.result (λ said. the_said said ≡ say Document (codes "document " ++ why)))
      (c.as_bytes.ensures.value ∙ (c.in_ok-why.ensures.ok ∙ four_parts (codes "X") (decimal c.args.kind) (codes " at ") (decimal c.args.at))) c.refusal.ensures.said;
}
