use Rattle.std.proofs.Common.{refl, rules}
use Rattle.cstn_lines.proofs.StepLemmas.{refuse_late, refuse_long, whole_not_past, open_not_past}
use Rattle.cstn_lines.proofs.lines.Lines.cut.Goals as goal

pub returns-then-self-eq-MOST-clause-steps : goal.returns-then-self-eq-MOST-clause-steps
returns-then-self-eq-MOST-clause-steps c = refuse_late _ _ _ _ (search rules) (search rules) (search rules) refl refl

pub returns-then-len-gt-LONGEST-clause-steps : goal.returns-then-len-gt-LONGEST-clause-steps
returns-then-len-gt-LONGEST-clause-steps c = refuse_long _ _ _ _ (search rules) (search rules) (search rules) (search rules) (search rules)

pub returns-in-Some-clause-past : goal.returns-in-Some-clause-past
returns-in-Some-clause-past c = λ past. absurd (whole_not_past c.args.self.now c.in-Some.i c.in-Some.ensures.cut (search rules) (search rules) past)

pub returns-else-len-gt-LONGEST-clause-past : goal.returns-else-len-gt-LONGEST-clause-past
returns-else-len-gt-LONGEST-clause-past c = λ past. absurd (open_not_past c.args.self.now c.args.self.now.kept refl (search rules) (search rules) (search rules) past)
