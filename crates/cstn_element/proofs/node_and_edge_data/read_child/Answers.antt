use Rattle.std.proofs.Common.{◌≡◌, ℕ, List, map, Bor, false, subst, sym, Ok, Err}
use Rattle.std.proofs.lemmas.Result.{err_from_is_err_and}
use Rattle.std.proofs.lemmas.Bool.{not-true}
use Rattle.cstn_markup.specs.Bytes.{is_same}
use Rattle.cstn_element.specs.Children.{tag_seen}
use Rattle.cstn_element.specs.DataElementSeen.{datum_seen}
use Rattle.cstn_element.specs.Faults.{document_refusal}
use Rattle.cstn_element.proofs.Judging.{child_passed}
use Rattle.cstn_element.proofs.node_and_edge_data.read_child.Goals as goal

pub returns-then-ne-clause-reads : goal.returns-then-ne-clause-reads
returns-then-ne-clause-reads c = λ names l.
    child_passed _ (map (λ (u : Bor (List ℕ)). u.now) c.args.used.now) (map datum_seen c.args.found.now.items) (tag_seen c.args.start.now) _ _ names _ _ (Ok tt)
    (subst (λ k. is_same c.args.start.now.name.now k ≡ false) c.as_slice.ensures (not-true (is_same c.args.start.now.name.now c.as_slice.result.now) (sym c.if-ne.ensures)))
    (c.in_ok-pass_element.ensures.reads names l)

pub returns-in_err-pass_element-clause-reads : goal.returns-in_err-pass_element-clause-reads
returns-in_err-pass_element-clause-reads c = λ names l.
    let p = err_from_is_err_and c.from_residual.result c.from_residual.ensures.1 in
    rw (p.1, p.2) (child_passed _ (map (λ (u : Bor (List ℕ)). u.now) c.args.used.now) (map datum_seen c.args.found.now.items) (tag_seen c.args.start.now) _ _ names _ _ (Err (document_refusal c.in_err-pass_element.field-0.0))
    (subst (λ k. is_same c.args.start.now.name.now k ≡ false) c.as_slice.ensures (not-true (is_same c.args.start.now.name.now c.as_slice.result.now) (sym c.if-ne.ensures)))
    (c.in_err-pass_element.ensures.reads names l))
