use Rattle.std.proofs.Common.{◌≡◌, inl, inr, Bool, Option, true, arith, sym, subst, ap, ◌∙◌}
use Rattle.std.proofs.lemmas.Bool.{cases_eq}
use Rattle.cstn_label.specs.Read.{marks, known_value}
use Rattle.cstn_exec.specs.Guides.{fits_surely}
use Rattle.cstn_exec.proofs.Holding.{fails_at, holds_whole}
use Rattle.cstn_exec.proofs.guides.sorting.holds_by.Goals as goal

pub returns-then-not-fits_surely : goal.returns-then-not-fits_surely
returns-then-not-fits_surely c =
    sym (fails_at (known_value c.args.known.now) (marks c.args.label) c.loop-index.index (omega arith)
    (sym (c.if-not-fits_surely.ensures ∙ ap (λ (o : Option Bool). fits_surely o c.mark.result) c.value.ensures.value
    ∙ ap (fits_surely (known_value c.args.known.now c.loop-index.index)) c.mark.ensures.mark)))

pub loop-index-preserved : goal.loop-index-preserved
loop-index-preserved c q before = elim (cases_eq q c.loop-index.index) [
  | inl same ↦
      subst (λ r. fits_surely (known_value c.args.known.now r) (marks c.args.label r) ≡ true) (sym same)
      (sym (c.if-not-fits_surely.ensures ∙ ap (λ (o : Option Bool). fits_surely o c.mark.result) c.value.ensures.value
      ∙ ap (fits_surely (known_value c.args.known.now c.loop-index.index)) c.mark.ensures.mark))
  | inr other ↦ c.loop-index.invariant q (omega arith)
]

pub returns : goal.returns
returns c = sym (holds_whole (known_value c.args.known.now) (marks c.args.label) (λ p below. c.loop-index.invariant p (omega arith)))
