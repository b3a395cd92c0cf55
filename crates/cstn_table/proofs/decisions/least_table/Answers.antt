use Rattle.std.proofs.Common.{◌≡◌, ◌++◌, take, drop, length, refl, subst, ap, ◌∙◌}
use Rattle.std.proofs.Math.Seq.{take-append_seam}
use Rattle.cstn_net.specs.Read.{the_network}
use Rattle.cstn_table.specs.Read.{TableParts}
use Rattle.cstn_table.proofs.SettledLemmas.{settled_table}
use Rattle.cstn_table.proofs.decisions.least_table.Goals as goal

pub returns-then-settle : goal.returns-then-settle
returns-then-settle c =
    let net = the_network c.args.net.now in
    let moments = c.settle.new.moments in
    let old = c.in_ok-moments.moments.items in
    let kept : take c.in_ok-moments.moments.len (c.settle.new.moments ++ drop (length c.settle.new.moments) c.in_ok-moments.moments.items) ≡ c.settle.new.moments =
    subst (λ n. take n (c.settle.new.moments ++ drop (length c.settle.new.moments) c.in_ok-moments.moments.items) ≡ c.settle.new.moments)
    (c.settle.auto.moments ∙ c.deref_mut.ensures.len)
    (take-append_seam c.settle.new.moments (drop (length c.settle.new.moments) c.in_ok-moments.moments.items)) in
    settled_table net c.count.ensures.well_formed.network
    (λ table. (c.dynamic_is_one_sided.ensures net table c.count.ensures.well_formed.network).1) c.settle.new.moments (c.if-settle.ensures.low refl) (c.if-settle.ensures.settled refl)
    c.in_ok-props.props.items c.count.result c.new.result c.in_ok-props.ensures c.count.ensures.count
    (c.new.ensures ∙ ap {B = TableParts} (λ ts. record { props = c.in_ok-props.props.items; points = c.count.result; moments = ts }) kept)
