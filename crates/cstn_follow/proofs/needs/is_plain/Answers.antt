use Rattle.std.proofs.Common.{◌≡◌, rules, sym, subst}
use Rattle.cstn_facts.proofs.Booleans.{same_truth}
use Rattle.cstn_label.specs.Labels.{IsPlain}
use Rattle.cstn_label.specs.Read.{marks}
use Rattle.cstn_net.specs.Read.{the_constraint}
use Rattle.cstn_lift.specs.Completion.{full_label}
use Rattle.cstn_lift.specs.Lowered.{is_plain}
use Rattle.cstn_lift.specs.Read.{the_labelled}
use Rattle.cstn_follow.proofs.needs.is_plain.Goals as goal

pub returns : goal.returns
returns c =
    let m = the_labelled c.args.network.now in
    let full = full_label m (the_constraint c.args.c.now) in
    let whole : marks c.completed.result ≡ full = search rules in
    let told = c.plain_constraints_are_kept.ensures.plain m (the_constraint c.args.c.now) c.base.ensures.labelled c.requires.given in
    let said = c.is_plain.ensures.plain in
    same_truth c.is_plain.result (is_plain full) (λ t. told.1 (subst IsPlain whole (said.0 t))) (λ t. said.1 (subst IsPlain (sym whole) (told.0 t)))
