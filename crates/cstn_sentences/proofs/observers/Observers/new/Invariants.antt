use Rattle.std.proofs.Common.{◌≡◌, ◌+◌, ◌<◌, ◌^◌, ℕ, length, map, None}
use Rattle.std.specs.Prelude.{slice_index_or}
use Rattle.std.specs.Option.{option_or}
use Rattle.cstn_graphml.specs.DrawnGraphSeen.{observed_seen}
use Rattle.cstn_sentences.specs.Meaning.{declared_observations, first_observer}
use Rattle.cstn_sentences.specs.SeenDeclared.{the_declared}
use Rattle.cstn_sentences.proofs.observers.Observers.new.Given as goal

abbrev pub invariant-loop-observed : goal.invariant-loop-observed
invariant-loop-observed l = record {
  known : (p : ℕ) → p < 52 → option_or (slice_index_or l.observers p None) (first_observer p l.x (map observed_seen l.left)) ≡ first_observer p 0 (declared_observations (the_declared l.fn.d));
  long : length l.observers ≡ 52;
  few : l.x + length l.left < 2 ^ 32;
}

abbrev pub decreases-loop-observed : goal.decreases-loop-observed
decreases-loop-observed l = length l.left
