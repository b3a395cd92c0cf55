use Rattle.std.proofs.Common.{ℕ, ◌≤◌, sym, subst, arith}
use Rattle.std.specs.Prelude.{IfOk}
use Rattle.cstn_net.specs.Read.{NetworkParts, the_network}
use Rattle.cstn_check.specs.Growth.{log_of, live_bounds}
use Rattle.cstn_reply.specs.Read.{the_said}
use Rattle.cstn_check.specs.Decisions.{TellsVerdict}
use Rattle.cstn_check.specs.declared.decisions.Judged.{Judged}
use Rattle.cstn_check.specs.declared.decisions.Judged.TheVariants.{Yes}
use Rattle.cstn_tree.specs.Unfolded.{IsTreeText}
use Rattle.cstn_tree.proofs.SayingTrees.{yes_said}
use Rattle.cstn_tree.proofs.unfolding.tree_text.Goals as goal

pub tell-requires-clause-low : goal.tell-requires-clause-low
tell-requires-clause-low c =
    let decided : TellsVerdict c.args.cap.entries c.args.names.now c.args.network (Yes c.in-Yes.load c.in-Yes.check) = subst (λ (d : Judged). TellsVerdict c.args.cap.entries c.args.names.now c.args.network d) c.in-Yes.is c.in_ok-load.ensures.judged in
    subst (λ (n : ℕ). 1 ≤ n) (sym decided.1) (omega (arith, c.requires.well_formed.network.origin, c.growth_is_bounded.ensures.bases (the_network c.args.network) c.requires.well_formed))

pub returns-in-Yes : goal.returns-in-Yes
returns-in-Yes c = record {
  said =
      let decided : TellsVerdict c.args.cap.entries c.args.names.now c.args.network (Yes c.in-Yes.load c.in-Yes.check) = subst (λ (d : Judged). TellsVerdict c.args.cap.entries c.args.names.now c.args.network d) c.in-Yes.is c.in_ok-load.ensures.judged in
      let counted = c.observed-observed.ensures in
      let few = c.if-observed-gt-MOST_OBSERVED.false in
      yes_said c.args.cap.entries c.args.names.now (the_network c.args.network) c.in-Yes.load c.tell.result (omega (arith, counted, few)) decided.0 decided.1
      (subst (λ (n : NetworkParts). IfOk c.tell.result (λ said. IsTreeText c.args.names.now c.in-Yes.load (live_bounds (log_of (the_network n))) (the_network n) (the_said said))) decided.2 c.tell.ensures.said);
}
