use Rattle.std.proofs.Common.{ℕ, ap, ◌∙◌, Vec, Global, codes}
use Rattle.cstn_closed.proofs.Certifying.{two_numbers, refusal_text}
use Rattle.cstn_closed.proofs.texts.no_chain.Goals as goal

pub returns : goal.returns
returns c = record {
  said =
      ap refusal_text (ap (λ (v : Vec ℕ Global). v.items) c.into_bytes.ensures.value ∙ (c.in_ok-text.ensures.ok ∙ two_numbers (codes "rejected chain ") c.args.constraint c.args.at));
}
