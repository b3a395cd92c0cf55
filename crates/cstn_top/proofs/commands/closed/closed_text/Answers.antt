use Rattle.std.proofs.Common.{sym, subst, ℕ, ◌≤◌, arith}
use Rattle.cstn_net.specs.Read.{the_network}
use Rattle.cstn_check.specs.Decisions.{TellsVerdict}
use Rattle.cstn_check.specs.declared.decisions.Judged.{Judged}
use Rattle.cstn_check.specs.declared.decisions.Judged.TheVariants.{Yes}
use Rattle.cstn_top.proofs.commands.closed.closed_text.Goals as goal

pub list-requires-clause-low : goal.list-requires-clause-low
list-requires-clause-low c =
    let decided : TellsVerdict c.args.cap.entries c.args.names.now c.args.network (Yes c.in-Yes.load c.in-Yes.check) = subst (λ (d : Judged). TellsVerdict c.args.cap.entries c.args.names.now c.args.network d) c.in-Yes.is c.in_ok-load.ensures.judged in
    subst (λ (n : ℕ). 1 ≤ n) (sym decided.1) (omega (arith, c.requires.well_formed.network.origin, c.growth_is_bounded.ensures.bases (the_network c.args.network) c.requires.well_formed))
