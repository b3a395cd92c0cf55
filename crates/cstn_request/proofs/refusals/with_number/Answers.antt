use Rattle.std.proofs.Common.{ℕ, ap, ◌∙◌, Vec, Global, codes, decimal}
use Rattle.cstn_request.proofs.Joining.{four_parts}
use Rattle.cstn_request.proofs.refusals.with_number.Goals as goal

pub returns : goal.returns
returns c = record { why = ap (λ (v : Vec ℕ Global). v.items) c.into_bytes.ensures.value ∙ (c.in_ok-text.ensures.ok ∙ four_parts (codes "N") (decimal c.args.kind) (codes " ") (decimal c.args.n)) }
