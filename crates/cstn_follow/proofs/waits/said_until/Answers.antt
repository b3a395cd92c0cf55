use Rattle.std.proofs.Common.{◌≡◌, ◌≤◌, ◌++◌, ◌∷◌, [], length, arith, sym, subst, ap, ◌∙◌}
use Rattle.std.specs.Prelude.{IfOk}
use Rattle.cstn_net.specs.Limits.{most_constraints}
use Rattle.cstn_net.specs.Networks.{Network, IsWellFormed}
use Rattle.cstn_net.specs.Read.{NetworkParts, the_network}
use Rattle.cstn_lift.specs.Lowered.{lowered}
use Rattle.cstn_lift.specs.Read.{the_labelled}
use Rattle.cstn_lift.specs.WellFormed.{IsLabelled}
use Rattle.cstn_history.specs.Rest.{with_constraint}
use Rattle.cstn_check.specs.Needs.{said}
use Rattle.cstn_follow.specs.Tries.{with_base}
use Rattle.cstn_follow.specs.Waiting.{waiting_one}
use Rattle.cstn_follow.proofs.waits.said_until.Goals as goal

pub with_base-requires-clause-labelled : goal.with_base-requires-clause-labelled
with_base-requires-clause-labelled c =
    let m = the_labelled c.args.remaining.now in
    let one = waiting_one c.args.fresh c.args.number c.args.moment in
    let is : the_network c.in_ok-base.base ≡ (with_constraint m one).base = c.in_ok-base.ensures.base
    ∙ ap (λ (n : NetworkParts). record (the_network n) { constraints = (the_network n).constraints ++ one ∷ [] }) c.base.ensures.base in
    subst (λ (n : Network). IsLabelled (with_base m n)) (sym is)
    (c.waiting_is_found.ensures.labelled m c.args.fresh c.args.number c.args.moment c.requires.takes.labelled
    (subst IsWellFormed is c.in_ok-base.ensures.well_formed))

pub with_base-requires-clause-few : goal.with_base-requires-clause-few
with_base-requires-clause-few c =
    let m = the_labelled c.args.remaining.now in
    let one = waiting_one c.args.fresh c.args.number c.args.moment in
    let is : the_network c.in_ok-base.base ≡ (with_constraint m one).base = c.in_ok-base.ensures.base
    ∙ ap (λ (n : NetworkParts). record (the_network n) { constraints = (the_network n).constraints ++ one ∷ [] }) c.base.ensures.base in
    let long = c.waiting_is_found.ensures.long m c.args.fresh c.args.number c.args.moment c.requires.takes.labelled c.requires.takes.inside in
    let few = c.requires.takes.lowered in
    subst (λ (n : Network). length (lowered (with_base m n)).constraints ≤ most_constraints) (sym is) (omega arith)

pub returns : goal.returns
returns c =
    let m = the_labelled c.args.remaining.now in
    let one = waiting_one c.args.fresh c.args.number c.args.moment in
    let is : the_network c.in_ok-base.base ≡ (with_constraint m one).base = c.in_ok-base.ensures.base
    ∙ ap (λ (n : NetworkParts). record (the_network n) { constraints = (the_network n).constraints ++ one ∷ [] }) c.base.ensures.base in
    subst (λ (n : Network). IfOk c.said.result (λ o. o ≡ said c.args.cap.entries n))
    (c.split-net.ensures.lowered ∙ ap lowered (c.in_ok-waiting.ensures.base ∙ ap (with_base m) is)) c.said.ensures.said
