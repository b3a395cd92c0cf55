use Rattle.std.proofs.Common.{◌≡◌, map, take}
use Rattle.std.specs.List.{filter}
use Rattle.cstn_net.specs.Networks.{Constraint}
use Rattle.cstn_net.specs.Read.{the_constraint}
use Rattle.cstn_lift.specs.Read.{the_labelled}
use Rattle.cstn_history.specs.Read.{the_history}
use Rattle.cstn_follow.specs.Forgiving.{is_broken_by}
use Rattle.cstn_follow.proofs.forgiving.broken_ids.Given as goal

abbrev pub invariant-loop-c : goal.invariant-loop-c
invariant-loop-c l =
    l.ids.items
    ≡ map (λ (c : Constraint). c.id) (filter (is_broken_by (the_labelled l.network) (the_history l.history)) (map the_constraint (take l.c-index l.network.base.constraints)))
