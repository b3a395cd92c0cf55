use Rattle.std.proofs.Common.{◌≡◌, ◌++◌, [], ◌∷◌, refl, sym, subst, ap, true, false, arith, to_z, of_z, w32}
use Rattle.std.proofs.lemmas.Int.{ints}
use Rattle.std.specs.List.{filter_map}
use Rattle.cstn_net.specs.Read.{the_constraint}
use Rattle.cstn_lift.specs.Lowered.{with_full_label}
use Rattle.cstn_lift.specs.Read.{with_labels}
use Rattle.cstn_lift.specs.Handed.{HasConstraints}
use Rattle.cstn_lift.proofs.Built.{full_added, full_skipped}
use Rattle.cstn_lift.proofs.lowering.add_one_full.Goals as goal

pub returns-then-not-is_plain-clause-added : goal.returns-then-not-is_plain-clause-added
returns-then-not-is_plain-clause-added c = λ cs has.
    full_skipped (with_labels c.args.net.now c.args.labels.now) c.args.c.now cs c.args.builder.now.drafts c.full_label-label.result
    (c.labels_are_their_marks.ensures.above c.full_label-label.result) c.full_label-label.ensures.full
    (λ plain. let no : false ≡ true = c.if-not-is_plain.ensures.plain.1 plain in cc) has

pub returns-clause-added : goal.returns-clause-added
returns-clause-added c = λ cs has.
    let m = with_labels c.args.net.now c.args.labels.now in
    let value = c.requires.range.value in
    let same : to_z w32 (of_z w32 c.args.c.now.most) ≡ c.args.c.now.most = omega (arith, ints) in
    subst (λ ds. HasConstraints (cs ++ filter_map (with_full_label m) (the_constraint c.args.c.now ∷ [])) ds)
    (sym (ap (λ b. b.drafts) c.in_ok-constrain.ensures.appended))
    (full_added c.drafts_are_numbered.ensures.length c.drafts_are_numbered.ensures.more m c.args.c.now cs c.args.builder.now.drafts c.number.result c.number-2.result (to_z w32 (of_z w32 c.args.c.now.most)) c.full_label-label.result c.number.ensures.number
    c.number-2.ensures.number same c.full_label-label.ensures.full (c.if-not-is_plain.ensures.plain.0 refl) has)
