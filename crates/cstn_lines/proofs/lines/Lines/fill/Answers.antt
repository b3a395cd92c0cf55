use Rattle.std.proofs.Common.{rules, ◌-◌}
use Rattle.cstn_lines.proofs.PieceLemmas.{moved_front}
use Rattle.cstn_lines.proofs.StepLemmas.{filled}
use Rattle.cstn_lines.proofs.lines.Lines.fill.Goals as goal

pub returns-in-Ok-clause-taken : goal.returns-in-Ok-clause-taken
returns-in-Ok-clause-taken g c =
    let kept = moved_front c.args.self.now.kept c.deref_mut-2.result.now c.move_to_front.new.bytes c.self.inside.bytes.items c.deref_mut.result.now c.self.inside.start c.self.inside.end c.self.inside.bytes.len (search rules) c.deref_mut-2.ensures.value c.move_to_front.ensures.moved c.deref_mut.ensures.value (search rules) (search rules) in
    filled _ c.deref_mut-2.result.now _ _ _ _ _ (c.self.inside.end - c.self.inside.start) c.in-Ok.count c.self.inside.bytes.len (search rules) c.in-Ok.ensures.bytes.0 (search rules) kept c.in-Ok.ensures.bytes.1
