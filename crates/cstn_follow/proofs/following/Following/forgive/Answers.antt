use Rattle.std.proofs.Common.{length, sym, ap, ◌∙◌}
use Rattle.cstn_follow.proofs.ForgivenLines.{forgive_keeps}
use Rattle.cstn_follow.proofs.following.Following.forgive.Goals as goal

pub invariant_of-self : goal.invariant_of-self
invariant_of-self c =
    let f = c.forgive.ensures in
    record {
      named = c.self.invariant.named ∙ ap length (sym (forgive_keeps c.self.inside.session c.forgive.new.self c.forgive.result f.forgiven f.same));
      few_lines = c.self.invariant.few_lines;
    }
