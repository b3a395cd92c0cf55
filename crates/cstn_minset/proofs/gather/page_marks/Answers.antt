use Rattle.std.proofs.Common.{◌≡◌, eqb, sym, ap, ◌∙◌}
use Rattle.std.proofs.lemmas.Bool.{false≢true, not-false, eqb-true}
use Rattle.cstn_label.specs.Words.{has_bit}
use Rattle.cstn_label.proofs.WordLemmas.{has_bit-zero}
use Rattle.cstn_minset.proofs.gather.page_marks.Goals as goal

pub returns : goal.returns
returns c = λ f i r at marked.
    let none : c.marking.result ≡ 0 = eqb-true c.marking.result 0 (not-false (eqb c.marking.result 0) f) in
    false≢true (sym (has_bit-zero i) ∙ ap (λ w. has_bit w i) (sym none) ∙ (c.marking.ensures i).1 (r, at, marked))
