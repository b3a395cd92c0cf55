use Rattle.std.proofs.Common.{ℕ, ◌+◌, inl, inr, min, arith, subst, sym, ap, ◌∙◌}
use Rattle.cstn_exec.proofs.Searching.{IsLeastFrom, least_same, least_more, none_when}
use Rattle.cstn_exec.proofs.Dues.{some_none}
use Rattle.cstn_exec.proofs.executive.search.least_from.Goals as goal
use Rattle.cstn_exec.proofs.executive.search.least_from.Goals.{then-is_none, else-is_none}

pub loop-x-preserved : goal.loop-x-preserved
loop-x-preserved c = elim c.if-is_none.branch [
  | then-is_none w ↦
      let is = w.least-is ∙ w.min-least.ensures ∙ ap (λ (m : ℕ). min c.loop-x.least m) w.max.ensures in
      let max_is = w.max.ensures in
      let fits = w.max.type_inv in
      subst (λ (n : ℕ). IsLeastFrom c.args.moments.now c.args.after.now c.args.t (c.loop-x.x + 1) n) (sym is)
      (least_more c.args.moments.now c.args.after.now c.args.t c.loop-x.x c.loop-x.least c.loop-x.invariant
      (none_when _ _ c.is_none.ensures ∙ w.if-is_none.true) (omega arith))
  | else-is_none w ↦
      subst (λ (n : ℕ). IsLeastFrom c.args.moments.now c.args.after.now c.args.t (c.loop-x.x + 1) n) (sym w.least-is)
      (least_same c.args.moments.now c.args.after.now c.args.t c.loop-x.x c.loop-x.least c.loop-x.invariant
      (none_when _ _ c.is_none.ensures ∙ w.if-is_none.false))
]

pub returns-clause-from : goal.returns-clause-from
returns-clause-from c = c.loop-x.invariant.from

pub returns-clause-held : goal.returns-clause-held
returns-clause-held c x u inside = c.loop-x.invariant.held x u (omega arith)

pub returns-clause-free : goal.returns-clause-free
returns-clause-free c = elim c.loop-x.invariant.free [
  | inr somebody ↦ let inside = somebody.1 in (somebody.0, omega arith, somebody.2, somebody.3)
  | inl nobody ↦
      let waits = some_none c.args.moments.now c.requires.waits in
      let inside = waits.1 in
      absurd (nobody.0 waits.0 (omega arith) waits.2)
]
