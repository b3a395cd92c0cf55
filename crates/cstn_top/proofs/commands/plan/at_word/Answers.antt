use Rattle.std.proofs.Common.{ℕ, ◌++◌, ap, sym, ◌∙◌, Vec, Global, codes, decimal}
use Rattle.std.proofs.lemmas.List.{append_assoc}
use Rattle.cstn_top.proofs.commands.plan.at_word.Goals as goal

pub returns : goal.returns
returns c = record { why = ap (λ (v : Vec ℕ Global). v.items) c.into_bytes.ensures.value ∙ (c.in_ok-why.ensures.ok ∙ sym (append_assoc (codes "line ") (decimal c.args.line) (codes " word " ++ decimal c.args.word))) }
