use Rattle.std.proofs.Common.{◌≡◌, ◌+◌, ◌≤◌, length, true}
use Rattle.std.specs.List.{list_all}
use Rattle.cstn_text.specs.Parts.{parts_at}
use Rattle.cstn_sentences.specs.Words.{plan_lines, cut_lines, is_of_words}
use Rattle.cstn_sentences.specs.Meaning.{meant_after, nothing_meant}
use Rattle.cstn_sentences.specs.Drawn.{kept_meant}
use Rattle.cstn_sentences.specs.SeenDeclared.{the_declared}
use Rattle.cstn_sentences.specs.SeenMeaning.{the_meaning}
use Rattle.cstn_sentences.proofs.meaning.mean_lines.Given as goal

abbrev pub invariant-loop-line : goal.invariant-loop-line
invariant-loop-line l =
    (kept_meant (meant_after 1 (the_declared l.fn.d) nothing_meant (plan_lines l.fn.text))
    ≡ kept_meant (meant_after l.n (the_declared l.fn.d) (the_meaning l.m) (cut_lines (parts_at 10 l.left))))
    × (l.n + length l.left ≤ 8388609)
    × (list_all is_of_words (cut_lines (parts_at 10 l.left)) ≡ true)

abbrev pub decreases-loop-line : goal.decreases-loop-line
decreases-loop-line l = length l.left
