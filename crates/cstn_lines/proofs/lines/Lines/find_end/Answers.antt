use Rattle.std.proofs.Common.{refl, rules}
use Rattle.cstn_lines.proofs.PieceLemmas.{cut_further, open_further}
use Rattle.cstn_lines.proofs.lines.Lines.find_end.Goals as goal

pub invariant_of-self : goal.invariant_of-self
invariant_of-self c = (search rules, search rules, search rules, search rules, search rules, search rules, open_further _ c.self.inside.bytes.items c.self.inside.start c.self.inside.searched c.self.inside.end refl (search rules) (search rules) (search rules) (search rules), search rules)

pub returns-in-Some-clause-cut : goal.returns-in-Some-clause-cut
returns-in-Some-clause-cut c = cut_further _ c.self.inside.bytes.items c.self.inside.start c.self.inside.searched c.self.inside.end c.in-Some.i (search rules) (search rules) (search rules) (search rules) (search rules) (search rules)

pub returns-in-None-clause-none : goal.returns-in-None-clause-none
returns-in-None-clause-none c = open_further _ c.self.inside.bytes.items c.self.inside.start c.self.inside.searched c.self.inside.end (search rules) (search rules) (search rules) (search rules) (search rules)
