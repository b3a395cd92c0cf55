use Rattle.std.proofs.Common.{◌≡◌, length, take}
use Rattle.cstn_follow.specs.Needs.{HasSources}
use Rattle.cstn_follow.proofs.needs.at_numbers.Given as goal

abbrev pub invariant-loop-i : goal.invariant-loop-i
invariant-loop-i l = record {
  end : l.i-end ≡ length l.numbers;
  found : HasSources l.sources l.found.items (take l.i l.numbers);
}
