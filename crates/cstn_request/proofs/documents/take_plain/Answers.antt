use Rattle.std.proofs.Common.{◌≡◌, sym, ap, subst, ◌∙◌, refl}
use Rattle.std.specs.Prelude.{codes}
use Rattle.std.proofs.lemmas.Bool.{false≢true}
use Rattle.cstn_net.specs.Networks.{count}
use Rattle.cstn_reply.specs.declared.output.Said.{Said}
use Rattle.cstn_reply.specs.declared.output.Outcome.TheVariants.{Document}
use Rattle.cstn_reply.specs.Read.{the_said}
use Rattle.cstn_reply.specs.Texts.{say}
use Rattle.cstn_request.proofs.Opening.{empties_from, some_label}
use Rattle.cstn_request.proofs.documents.take_plain.Goals as goal

pub returns-then-is_labelled-clause-refused : goal.returns-then-is_labelled-clause-refused
returns-then-is_labelled-clause-refused c = λ said e.
    let same : c.in_ok-said.said ≡ said = cc in
    let one = c.is_labelled-is_labelled.ensures.labelled.0 c.if-is_labelled.true in
    (some_label c.args.labelled c.split-network.ensures.labelled one.0 one.1 one.2, subst (λ (s : Said). the_said s ≡ say Document (codes "document labels")) same c.in_ok-said.ensures.said)

pub returns-clause-taken : goal.returns-clause-taken
returns-clause-taken c = record {
  empties = empties_from c.args.labelled c.split-network.ensures.labelled (λ x inside there. false≢true (sym c.if-is_labelled.false ∙ c.is_labelled-is_labelled.ensures.labelled.1 (x, inside, there)));
  labelled = c.split-network.ensures.labelled;
  network = c.split-network.ensures.lowered;
  well_formed = c.split-network.ensures.well_formed;
  same = refl;
  named = record { named = c.requires.named ∙ sym (ap count c.split-network.ensures.lowered); origin = c.requires.origin };
}
