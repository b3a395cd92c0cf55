use Rattle.std.proofs.Common.{◌≡◌, ◌+◌, ◌-◌, ◌<◌, Some, None, length, get_or, set, arith, sym, subst, ◌∙◌}
use Rattle.std.proofs.lemmas.List.{get_or-map, get_or_default, length-map, length-set}
use Rattle.std.proofs.lemmas.List.Elements.{All-get_or}
use Rattle.cstn_net.specs.declared.constraints.Constraint.{Constraint}
use Rattle.cstn_tree.specs.declared.starts.End.TheVariants.{From}
use Rattle.cstn_tree.specs.Starts.{end_of, AreLinkedFrom, starts}
use Rattle.cstn_tree.proofs.StartLemmas.{one_linked}
use Rattle.cstn_tree.proofs.starts.Starts.link.Goals as goal

pub loop-low-preserved : goal.loop-low-preserved
loop-low-preserved c =
    let cs = c.args.constraints.now in
    let xs = starts cs in
    let low = c.loop-low.low - 1 in
    let firsts = c.loop-low.self.firsts.items in
    let nexts = c.loop-low.self.nexts.items in
    let inv = c.loop-low.invariant in
    let upto = inv.upto in
    let some = c.loop-low-test.true in
    let many = length-map cs (end_of From) in
    let inside : low < length cs = omega arith in
    let y = c.index-x.result in
    let d = c.index-constraints-low.result in
    let here : get_or xs low 0 ≡ y = get_or-map (end_of From) cs low d 0 inside ∙ sym c.index-x.ensures.index in
    let at : (get_or cs low d).from.0 < length c.args.self.now.firsts.items =
    (All-get_or (λ (e : Constraint). e.from.0 < length c.args.self.now.firsts.items) cs low d inside c.requires.inside) in
    let wide : y < length firsts = omega (arith, inv.wide, c.index-x.ensures.index) in
    let value : get_or firsts y None ≡ c.index.result.now = get_or_default firsts y None c.index.result.now wide ∙ sym c.index.ensures in
    let from = subst (λ n. AreLinkedFrom n xs firsts nexts) (let e : c.loop-low.low ≡ low + 1 = omega arith in e) inv.linked in
    record {
      upto = omega arith;
      long = length-set nexts low c.index.result.now ∙ inv.long;
      wide = length-set firsts y (Some low) ∙ inv.wide;
      linked = subst (λ v. AreLinkedFrom low xs (set firsts y (Some low)) (set nexts low v)) value
          (one_linked xs low y firsts nexts here (omega arith) wide (inv.long ∙ sym many) from);
    }
