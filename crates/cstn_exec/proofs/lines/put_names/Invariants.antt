use Rattle.std.proofs.Common.{◌≡◌, ◌≤◌, ◌+◌, ◌*◌, ◌++◌, take, map, length, string_bytes}
use Rattle.cstn_exec.specs.Running.{spaced, the_nodes}
use Rattle.cstn_exec.proofs.lines.put_names.Given as goal

abbrev pub invariant-loop-x : goal.invariant-loop-x
invariant-loop-x l = record {
  items : l.text ≡ l.fn.text ++ spaced (map string_bytes l.names) (the_nodes (take l.x-index l.named));
  short : length l.text ≤ length l.fn.text + 193 * l.x-index;
}
