use Rattle.std.proofs.Common.{◌≡◌, ◌++◌, sym, subst, ap, ◌∙◌}
use Rattle.std.specs.Prelude.{map}
use Rattle.cstn_net.specs.Networks.{AreConstraintsFor}
use Rattle.cstn_net.specs.Read.{the_network, the_constraint}
use Rattle.cstn_history.proofs.FurtherBuilt.{constraints_fit}
use Rattle.cstn_history.proofs.steps.base_stepped.Goals as goal

pub insert_all-requires-clause-fit : goal.insert_all-requires-clause-fit
insert_all-requires-clause-fit c =
    let n = c.reserve.new.self in
    let same = c.in_ok-reserve.ensures.same in
    let given = c.constraints-constraints.ensures.constraints ∙ ap (λ b. b.constraints) c.base.ensures.base in
    subst (λ cs. AreConstraintsFor (the_network n) (map the_constraint (n.constraints ++ cs))) (sym given)
    (constraints_fit c.args.network.now c.base.ensures.labelled c.requires.room n (ap the_network same ∙ c.in_ok-base.ensures.bare)
    (ap (λ k. k.constraints) same ∙ c.in_ok-base.ensures.none))
