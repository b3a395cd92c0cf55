use Rattle.std.proofs.Common.{ℕ, ◌≡◌, ◌+◌, ◌<◌, ◌≤◌, Bool, true, false, Option, Some, None, drop, get_or, length, arith, refl, sym, subst, ap, ◌∙◌}
use Rattle.std.specs.Prelude.{option_map, IfSome}
use Rattle.std.proofs.lemmas.List.{drop_all}
use Rattle.cstn_net.specs.Networks.{Network}
use Rattle.cstn_net.specs.Read.{the_network}
use Rattle.cstn_check.specs.Givers.{ids_of, but, network_without, IsPart}
use Rattle.cstn_check.specs.Needs.{IfNo, Stands}
use Rattle.cstn_check.specs.Search.{narrowed, left_by, left_over}
use Rattle.cstn_check.specs.declared.search.Left.{Left}
use Rattle.cstn_check.proofs.Leaving.{next_id, left_next, left_stop}
use Rattle.cstn_check.proofs.Parts.{whole_part, without_one}
use Rattle.cstn_check.proofs.search.leave_out.Goals as goal

-- a network by what is said of it without an id is a part of the whole
narrowed_part : (whole now next : Network) (id : ℕ) (o : Option Bool) → IsPart whole now → narrowed o id now ≡ Some next → IsPart whole next
narrowed_part whole now next id None part found = absurd (cc)
narrowed_part whole now next id (Some true) part found = let same : now ≡ next = cc in (part.0, sym same ∙ part.1)
narrowed_part whole now next id (Some false) part found =
    let same : network_without id now ≡ next = cc in
    (but id part.0, sym same ∙ ap (network_without id) part.1 ∙ without_one whole part.0 id)

pub loop-k-init : goal.loop-k-init
loop-k-init g c = record {
  ids = c.in_ok-ids.ensures;
  part = whole_part (the_network c.args.net);
  reached = refl;
  stands = c.requires.stands;
}

pub narrowed-requires-clause-may : goal.narrowed-requires-clause-may
narrowed-requires-clause-may g c =
    let part = c.loop-k.invariant.part in
    subst (g.T.Trial.may c.args.trial.now) (sym (ap (network_without c.index.result.now) part.1 ∙ without_one (the_network c.args.net) part.0 c.index.result.now))
    (c.requires.may (but c.index.result.now part.0))

pub returns-in_default : goal.returns-in_default
returns-in_default g c =
    let says = g.T.Trial.says c.args.trial.now in
    let now = the_network c.loop-k.left.net in
    let ids = ids_of (the_network c.args.net) in
    let k = c.loop-k.k in
    let id = c.index.result.now in
    let same = ap length c.loop-k.invariant.ids in
    let inside : k < length ids = omega arith in
    let here = next_id ids k id inside (c.index.ensures ∙ ap (λ l. get_or l k id) c.loop-k.invariant.ids) in
    record {
      left = sym (left_stop says id (drop (k + 1) ids) now (left_over says (the_network c.args.net)) (ap (λ l. left_by says l now) (sym here) ∙ c.loop-k.invariant.reached)
          (sym c.in_ok-less.ensures.narrowed ∙ ap (option_map (λ (l : Left). the_network l.net)) c.in_default.is));
    }

pub loop-k-preserved : goal.loop-k-preserved
loop-k-preserved g c =
    let says = g.T.Trial.says c.args.trial.now in
    let now = the_network c.loop-k.left.net in
    let next = the_network c.in-Some.less.net in
    let ids = ids_of (the_network c.args.net) in
    let k = c.loop-k.k in
    let id = c.index.result.now in
    let same = ap length c.loop-k.invariant.ids in
    let inside : k < length ids = omega arith in
    let here = next_id ids k id inside (c.index.ensures ∙ ap (λ l. get_or l k id) c.loop-k.invariant.ids) in
    let found : narrowed (says (network_without id now)) id now ≡ Some next = sym c.in_ok-less.ensures.narrowed ∙ ap (option_map (λ (l : Left). the_network l.net)) c.in-Some.is in
    record {
      ids = c.loop-k.invariant.ids;
      part = narrowed_part (the_network c.args.net) now next id (says (network_without id now)) c.loop-k.invariant.part found;
      reached = left_next says id (drop (k + 1) ids) now (left_over says (the_network c.args.net)) (ap (λ l. left_by says l now) (sym here) ∙ c.loop-k.invariant.reached)
          next found;
      stands = subst (λ (o : Option Left). IfSome o (λ (l : Left). IfNo l.last (Stands says (the_network l.net))))
          c.in-Some.is c.in_ok-less.ensures.stands;
    }

pub returns : goal.returns
returns g c =
    let says = g.T.Trial.says c.args.trial.now in
    let now = the_network c.loop-k.left.net in
    let ids = ids_of (the_network c.args.net) in
    let same = ap length c.loop-k.invariant.ids in
    let past : length ids ≤ c.loop-k.k = omega arith in
    record { left = ap (λ l. left_by says l now) (sym (drop_all c.loop-k.k ids past)) ∙ c.loop-k.invariant.reached }
