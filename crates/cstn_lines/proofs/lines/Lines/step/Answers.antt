use Rattle.std.proofs.Common.{[], refl}
use Rattle.cstn_lines.proofs.StepLemmas.{no_bytes, steps_kept}
use Rattle.cstn_lines.proofs.lines.Lines.step.Goals as goal

pub returns-in-Some-clause-steps : goal.returns-in-Some-clause-steps
returns-in-Some-clause-steps g c = ([], no_bytes _, λ e. refl, steps_kept _ _ _ _ c.in-Some.ensures.steps)
