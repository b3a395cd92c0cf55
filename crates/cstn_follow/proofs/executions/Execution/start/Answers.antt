use Rattle.std.proofs.Common.{ℕ, ◌<◌, arith, sym, subst, ap, ◌∙◌}
use Rattle.std.specs.List.{All}
use Rattle.cstn_net.specs.Read.{NetworkParts, the_network}
use Rattle.cstn_change.specs.Changes.{id_above}
use Rattle.cstn_change.proofs.IdLemmas.{above_each}
use Rattle.cstn_follow.proofs.executions.Execution.start.Goals as goal

pub invariant_of-result : goal.invariant_of-result
invariant_of-result c =
    let cs = (the_network c.args.network.base).constraints in
    let is = c.id_above-fresh.ensures.above ∙ ap (λ (n : NetworkParts). id_above (the_network n).constraints) c.base.ensures.base in
    let small = c.id_above-fresh.ensures.small in
    record {
      labelled = c.labelled_network_is_in_order.ensures.labelled;
      few = c.labelled_network_is_in_order.ensures.few;
      kept = c.in_ok-history.ensures.kept;
      above = subst (λ (n : ℕ). All (λ d. d.id < n) cs) (sym is) (above_each cs);
      low = omega (arith, small);
    }

pub returns-clause-execution : goal.returns-clause-execution
returns-clause-execution c = invariant_of-result c
