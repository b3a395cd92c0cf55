use Rattle.std.proofs.Common.{◌≡◌, ◌++◌, ◌∷◌, [], take, map, codes}
use Rattle.std.specs.Prelude.{string_bytes}
use Rattle.std.specs.List.{All}
use Rattle.cstn_text.specs.Numbers.{printed_number}
use Rattle.cstn_outline.specs.Texts.{printed_lines}
use Rattle.cstn_outline.specs.Written.{IsPrintableLine}
use Rattle.cstn_outline.specs.Read.{the_tree_line}
use Rattle.cstn_outline.proofs.printing.print.Given as goal

abbrev pub invariant-loop-k : goal.invariant-loop-k
invariant-loop-k l = record {
  shown : string_bytes l.text ≡ (codes "yes " ++ printed_number l.load ++ 10 ∷ []) ++ printed_lines l.names (map the_tree_line (take l.k l.lines));
  written : All (IsPrintableLine l.names) (map the_tree_line (take l.k l.lines));
}
