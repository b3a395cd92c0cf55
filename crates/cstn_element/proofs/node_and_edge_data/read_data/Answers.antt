use Rattle.std.proofs.Common.{ℕ, List, [], ◌∷◌, arith, refl, map, Vec, Global, Bor}
use Rattle.std.proofs.lemmas.Result.{err_from_is_err_and}
use Rattle.cstn_element.specs.DataElementSeen.{datum_seen}
use Rattle.cstn_element.specs.Elements.{data_reading}
use Rattle.cstn_element.specs.declared.data_element.Datum.{Datum as Lent}
use Rattle.cstn_element.proofs.ChildLemmas.{takes_one, next_is, fold_child, fold_child_fails, fold_wrong, fold_done}
use Rattle.cstn_element.proofs.node_and_edge_data.read_data.Goals as goal

pub loop-start-preserved : goal.loop-start-preserved
loop-start-preserved c =
    let r = data_reading (map (λ (u : Bor (List ℕ)). u.now) c.args.used.now) in
    record {
      same = λ others l.
          let n = next_is _ _ _ others _ _ (c.next_child.ensures.next others (omega (arith, l))) c.in-Child.is in
          let q = c.in_ok-read_child-in-Child.ensures.reads (c.args.name.now ∷ others) (omega (arith, l)) in
          fold_child r (λ s at raw. refl) [] (map datum_seen c.loop-start.found.items) _ others _ _ (c.loop-start.invariant.same others l) _ _ _ _ _ n q.told q.left;
      less = omega (arith, c.in_ok-read_child-in-Child.ensures.less, takes_one _ _ _ _ c.next_child.ensures.takes c.in-Child.is, c.loop-start.invariant.less);
    }

pub returns-in_err-read_child-in-Child-clause-reads : goal.returns-in_err-read_child-in-Child-clause-reads
returns-in_err-read_child-in-Child-clause-reads c = λ others l.
    let r = data_reading (map (λ (u : Bor (List ℕ)). u.now) c.args.used.now) in
    let p = err_from_is_err_and c.from_residual.result c.from_residual.ensures.1 in
    let n = next_is _ _ _ others _ _ (c.next_child.ensures.next others (omega (arith, l))) c.in-Child.is in
    let q = c.in_err-read_child-in-Child.ensures.reads (c.args.name.now ∷ others) (omega (arith, l)) in
    rw (p.1, p.2) (fold_child_fails r (λ s at raw. refl) [] (map datum_seen c.loop-start.found.items) _ others _ _ (c.loop-start.invariant.same others l) (λ (v : Vec Lent Global). map datum_seen v.items) _ _ _ _ _ n q.told)

pub returns-in-End-clause-reads : goal.returns-in-End-clause-reads
returns-in-End-clause-reads c = λ others l.
    let r = data_reading (map (λ (u : Bor (List ℕ)). u.now) c.args.used.now) in
    let n = next_is _ _ _ others _ _ (c.next_child.ensures.next others (omega (arith, l))) c.in-End.is in
    fold_done r (λ s at raw. refl) [] (map datum_seen c.loop-start.found.items) _ others _ _ (c.loop-start.invariant.same others l) (λ (v : Vec Lent Global). map datum_seen v.items) c.loop-start.found _ _ n refl

pub returns-in-Wrong-clause-reads : goal.returns-in-Wrong-clause-reads
returns-in-Wrong-clause-reads c = λ others l.
    let r = data_reading (map (λ (u : Bor (List ℕ)). u.now) c.args.used.now) in
    let n = next_is _ _ _ others _ _ (c.next_child.ensures.next others (omega (arith, l))) c.in-Wrong.is in
    fold_wrong r (λ s at raw. refl) [] (map datum_seen c.loop-start.found.items) _ others _ _ (c.loop-start.invariant.same others l) (λ (v : Vec Lent Global). map datum_seen v.items) _ _ n
