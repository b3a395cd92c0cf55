use Rattle.std.proofs.Common.{◌≡◌, map, take}
use Rattle.std.specs.List.{filter_map}
use Rattle.cstn_net.specs.Networks.{Constraint}
use Rattle.cstn_net.specs.Read.{the_constraint}
use Rattle.cstn_lift.specs.Lowered.{with_full_label}
use Rattle.cstn_lift.specs.Read.{the_labelled}
use Rattle.cstn_follow.proofs.needs.sources.Given as goal

abbrev pub invariant-loop-c : goal.invariant-loop-c
invariant-loop-c l =
    l.ids.items
    ≡ map (λ (c : Constraint). c.id) (filter_map (with_full_label (the_labelled l.network)) (map the_constraint (take l.c-index l.network.base.constraints)))
