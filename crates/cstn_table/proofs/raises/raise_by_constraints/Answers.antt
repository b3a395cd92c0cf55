use Rattle.std.proofs.Common.{ℕ, ◌≡◌, ◌<◌, get_or, map, subst, sym}
use Rattle.cstn_net.specs.Networks.{Constraint}
use Rattle.cstn_net.specs.Read.{the_network, the_constraint}
use Rattle.cstn_table.specs.Raises.{MeetsIn, rows}
use Rattle.cstn_table.proofs.WalkLemmas.{one_more, weaker, constraint_at}
use Rattle.cstn_table.proofs.raises.raise_by_constraints.Goals as goal

pub loop-c-preserved : goal.loop-c-preserved
loop-c-preserved c =
    let net = the_network c.args.net.now in
    one_more net (λ i ts. (d : Constraint) → get_or net.constraints i d ≡ d → (row : ℕ) → row < rows net → MeetsIn net row d ts)
    c.loop-c.c-index c.args.moments.now c.loop-c.moments c.raise_starts.new.moments c.loop-c.raised c.in_ok-raised.field-0 c.loop-c.invariant
    (weaker net (λ ts. (row : ℕ) → row < rows net → MeetsIn net row (the_constraint c.c-item.result) ts)
    (λ ts. (d : Constraint) → get_or net.constraints c.loop-c.c-index d ≡ d → (row : ℕ) → row < rows net → MeetsIn net row d ts)
    c.loop-c.moments c.raise_starts.new.moments c.in_ok-raised.field-0
    (λ meets d there row inside.
    let same : the_constraint c.c-item.result ≡ d =
    constraint_at c.constraints-c-items.result.now c.loop-c.c-index c.c-item.result d c.loop-c-test.true c.c-item.is
    (subst (λ cs. get_or (map the_constraint cs) c.loop-c.c-index d ≡ d) (sym c.constraints-c-items.ensures.constraints) there) in
    subst (λ d. MeetsIn net row d c.loop-c.moments) same (meets row inside))
    c.in_ok-raised.ensures.some)
