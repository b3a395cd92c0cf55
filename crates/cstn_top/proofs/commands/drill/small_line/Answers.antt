use Rattle.std.proofs.Common.{◌∙◌, ℕ, ap}
use Rattle.std.proofs.Common.{ℕ, ap, ◌∙◌, Vec, Global, codes, decimal}
use Rattle.cstn_top.proofs.Joining.{line_of_six}
use Rattle.cstn_top.proofs.commands.drill.small_line.Goals as goal

pub returns : goal.returns
returns c = record {
  line =
      ap (λ (v : Vec ℕ Global). v.items) c.into_bytes.ensures.value
      ∙ (c.in_ok-line.ensures.ok ∙ line_of_six (codes "small 64 yes ") (decimal c.args.counts.yes) (codes " no ") (decimal c.args.counts.no) (codes " differ ") (decimal c.args.counts.differ));
}
