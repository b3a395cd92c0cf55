use Rattle.std.proofs.Common.{◌≡◌, ◌+◌, ◌≤◌, length}
use Rattle.cstn_text.specs.Parts.{parts_at}
use Rattle.cstn_sentences.specs.Words.{plan_lines, cut_lines}
use Rattle.cstn_sentences.specs.Declarations.{declared_after, nothing_declared}
use Rattle.cstn_sentences.specs.SeenDeclared.{the_declared}
use Rattle.cstn_sentences.proofs.declarations.declare_lines.Given as goal

abbrev pub invariant-loop-line : goal.invariant-loop-line
invariant-loop-line l =
    (declared_after 1 nothing_declared (plan_lines l.fn.text) ≡ declared_after l.n (the_declared l.d) (cut_lines (parts_at 10 l.left))) × (l.n + length l.left ≤ 8388609)

abbrev pub decreases-loop-line : goal.decreases-loop-line
decreases-loop-line l = length l.left
