use Rattle.std.proofs.Common.{◌-◌, ap, sym, subst, ◌∙◌}
use Rattle.cstn_net.specs.Networks.{count}
use Rattle.cstn_net.specs.Read.{NetworkParts, the_network}
use Rattle.cstn_check.specs.Decisions.{TellsVerdict}
use Rattle.cstn_check.specs.declared.decisions.Judged.{Judged}
use Rattle.cstn_check.specs.declared.decisions.Judged.TheVariants.{Yes}
use Rattle.cstn_tight.specs.Deadlines.{at_deadline}
use Rattle.cstn_tight.proofs.Saying.{yes_consistent, yes_tightened, steps_named}
use Rattle.cstn_tight.proofs.texts.tight_text.Goals as goal

pub tight_of-requires-clause-consistent : goal.tight_of-requires-clause-consistent
tight_of-requires-clause-consistent c =
    let told : TellsVerdict c.args.cap.entries c.args.names.now c.args.network (Yes c.in-Yes.load c.in-Yes.check) =
    subst (λ (d : Judged). TellsVerdict c.args.cap.entries c.args.names.now c.args.network d) c.in-Yes.is c.in_ok-check.ensures.judged in
    yes_consistent c.args.cap.entries c.args.names.now c.args.network c.in-Yes.load c.in-Yes.check c.requires.well_formed told

pub tight_said-requires-clause-named : goal.tight_said-requires-clause-named
tight_said-requires-clause-named c =
    let told : TellsVerdict c.args.cap.entries c.args.names.now c.args.network (Yes c.in-Yes.load c.in-Yes.check) =
    subst (λ (d : Judged). TellsVerdict c.args.cap.entries c.args.names.now c.args.network d) c.in-Yes.is c.in_ok-check.ensures.judged in
    c.in_ok-tight-in-Yes.ensures.tight.closed.named c.args.names.now (c.requires.named ∙ ap (λ (n : NetworkParts). count (the_network n)) (sym told.2))

pub tight_said-requires-clause-steps : goal.tight_said-requires-clause-steps
tight_said-requires-clause-steps c =
    let told : TellsVerdict c.args.cap.entries c.args.names.now c.args.network (Yes c.in-Yes.load c.in-Yes.check) =
    subst (λ (d : Judged). TellsVerdict c.args.cap.entries c.args.names.now c.args.network d) c.in-Yes.is c.in_ok-check.ensures.judged in
    let tight = c.in_ok-tight-in-Yes.tight in
    steps_named c.args.names.now (at_deadline (the_network c.in-Yes.check.net) (tight.deadline - 1)) tight.refutation
    (c.requires.named ∙ ap (λ (n : NetworkParts). count (the_network n)) (sym told.2)) c.in_ok-tight-in-Yes.ensures.tight.refutation

pub returns-in_ok-tight-in-Yes : goal.returns-in_ok-tight-in-Yes
returns-in_ok-tight-in-Yes c =
    let told : TellsVerdict c.args.cap.entries c.args.names.now c.args.network (Yes c.in-Yes.load c.in-Yes.check) =
    subst (λ (d : Judged). TellsVerdict c.args.cap.entries c.args.names.now c.args.network d) c.in-Yes.is c.in_ok-check.ensures.judged in
    record {
      said = yes_tightened c.args.cap.entries c.args.names.now c.args.network c.in-Yes.load c.in-Yes.check c.in_ok-tight-in-Yes.tight c.tight_said.result
          c.requires.well_formed told c.in_ok-tight-in-Yes.ensures.tight c.tight_said.ensures.said;
    }
