use Rattle.std.proofs.Common.{refl, rules}
use Rattle.cstn_lines.proofs.StepLemmas.{hand_cut}
use Rattle.cstn_lines.proofs.lines.Lines.hand_out.Goals as goal

pub returns-clause-steps : goal.returns-clause-steps
returns-clause-steps c = hand_cut _ c.self.inside.bytes.items c.self.inside.start c.self.inside.end c.args.len _ _ _ c.requires.cut (search rules) (search rules) c.requires.count refl (search rules) refl (search rules) (search rules)
