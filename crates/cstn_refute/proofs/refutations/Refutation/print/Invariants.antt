use Rattle.std.proofs.Common.{◌≡◌, take, map}
use Rattle.std.specs.Prelude.{string_bytes}
use Rattle.cstn_rules.specs.Read.{the_entry}
use Rattle.std.specs.List.{All}
use Rattle.cstn_refute.specs.Texts.{refutation_shown}
use Rattle.cstn_refute.specs.Written.{ArePlaces}
use Rattle.cstn_refute.proofs.refutations.Refutation.print.Given as goal

abbrev pub invariant-loop-k : goal.invariant-loop-k
invariant-loop-k l = record {
  text : string_bytes l.text ≡ refutation_shown l.names l.self.load (map the_entry (take l.k l.steps));
  places : All (λ e. ArePlaces e.why) (take l.k l.steps);
}
