use Rattle.std.proofs.Common.{ℕ, ◌<◌, sym, subst}
use Rattle.std.specs.List.{All}
use Rattle.cstn_rules.specs.declared.entries.Entry.{Entry}
use Rattle.cstn_check.proofs.decisions.refuted.Goals as goal

pub print-requires : goal.print-requires
print-requires c = record { named = subst (λ (n : ℕ). All (λ (e : Entry). e.bound.node.0 < n) c.in_ok-refutation.refutation.steps) (sym c.requires.named) c.in_ok-refutation.ensures.named }
