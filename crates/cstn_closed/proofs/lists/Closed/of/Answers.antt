use Rattle.std.proofs.Common.{◌≡◌, List, map, arith, subst, ◌++◌, ◌∷◌, [], take, sym, ap, ◌∙◌}
use Rattle.std.proofs.Math.Seq.{take_all}
use Rattle.cstn_label.specs.declared.bounds.Bound.{Bound}
use Rattle.cstn_label.specs.Read.{the_bound}
use Rattle.cstn_net.specs.Read.{the_network}
use Rattle.cstn_closed.specs.Closed.{the_listed_bounds}
use Rattle.cstn_closed.specs.Faults.{IsFaultless}
use Rattle.cstn_closed.proofs.FaultLemmas.{closed_faultless}
use Rattle.std.proofs.lemmas.List.{take_more}
use Rattle.std.proofs.lemmas.Option.{slice_get_within, get_or_from_slice_get}
use Rattle.cstn_closed.proofs.lists.Closed.of.Goals as goal

pub loop-k-preserved : goal.loop-k-preserved
loop-k-preserved c =
    let bounds = c.args.plan.now.bounds in
    let b = c.bound.result in
    let within = slice_get_within bounds c.loop-k.k b c.bound.ensures.bound in
    let at = get_or_from_slice_get bounds c.loop-k.k b b c.bound.ensures.bound in
    record {
      end = c.count-k-end.ensures.count;
      taken = ◌∙◌ {A = List Bound} c.in_ok-push.ensures.items
          (◌∙◌ {A = List Bound} (ap (λ (xs : List Bound). xs ++ b ∷ []) c.loop-k.invariant.taken)
          (sym (◌∙◌ {A = List Bound} (take_more bounds c.loop-k.k b within) (ap (λ (x : Bound). take c.loop-k.k bounds ++ x ∷ []) at))));
    }

pub returns-clause-accepted : goal.returns-clause-accepted
returns-clause-accepted c range =
    let net = the_network c.args.plan.now.net in
    let bounds = c.args.plan.now.bounds in
    let none = closed_faultless net (map the_bound bounds) c.is_closed.ensures.closed range in
    let all : c.loop-k.bounds.items ≡ bounds = c.loop-k.invariant.taken
    ∙ take_all c.loop-k.k bounds (omega (arith, c.loop-k-test.false, c.count-k-end.ensures.count)) in
    subst (λ v. IsFaultless net (the_listed_bounds v)) (sym c.new.ensures.new) (subst (λ (bs : List Bound). IsFaultless net (map the_bound bs)) (sym all) none)
