use Rattle.std.proofs.Common.{◌≡◌, ◌++◌}
use Rattle.cstn_lift.specs.Read.{the_labelled}
use Rattle.cstn_sentences.specs.Sentences.{step_lines_text}
use Rattle.cstn_sentences.proofs.writing.push_steps.Given as goal

abbrev pub invariant-loop-x : goal.invariant-loop-x
invariant-loop-x l = l.text.items ≡ l.fn.text.items ++ step_lines_text (the_labelled l.net) l.names l.x
