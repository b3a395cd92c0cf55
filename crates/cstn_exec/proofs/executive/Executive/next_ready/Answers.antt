use Rattle.std.proofs.Common.{◌≡◌, ◌+◌, inl, inr, true, arith, sym, subst, ap, ◌∙◌}
use Rattle.std.proofs.lemmas.Bool.{cases_eq}
use Rattle.cstn_net.specs.Read.{the_network}
use Rattle.cstn_exec.specs.Runs.{is_before, ready_at}
use Rattle.cstn_exec.proofs.Knowing.{ready_from}
use Rattle.cstn_exec.proofs.executive.Executive.next_ready.Goals as goal

pub loop-index-preserved : goal.loop-index-preserved
loop-index-preserved c = record {
  later = let one = c.loop-index.invariant.later in let other = c.after.ensures.later in let is = c.min-next.ensures in omega arith;
  same = λ w p below low high h. let is = c.min-next.ensures in elim (cases_eq p c.loop-index.index) [
    | inr other ↦ c.loop-index.invariant.same w p (omega arith) low (omega arith) h
    | inl here ↦
        let at = c.ready_at.ensures ∙ ap (ready_at (the_network c.args.self.now.net) c.args.self.now.run) (sym here) in
        subst (λ o. is_before (c.args.t + 1) o ≡ true) at
        (c.after.ensures.same w low (omega arith) (subst (λ o. is_before (w + 1) o ≡ true) (sym at) h))
  ];
}

pub returns-clause-same : goal.returns-clause-same
returns-clause-same c w p low high h =
    let r = ready_from (the_network c.args.self.now.net) c.is_right.ensures.well_formed.network c.args.self.now.run (w + 1) p h in
    let letter = c.is_right.ensures.well_formed.letters r.observer p r.observes in
    c.loop-index.invariant.same w p (omega arith) low high h
