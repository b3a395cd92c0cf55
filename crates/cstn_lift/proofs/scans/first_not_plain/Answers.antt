use Rattle.std.proofs.Common.{◌≡◌, arith, refl, sym, subst, true, false}
use Rattle.std.specs.Prelude.{map}
use Rattle.cstn_label.specs.Labels.{IsPlain}
use Rattle.cstn_label.specs.Read.{marks}
use Rattle.cstn_lift.specs.Labelled.{label_in}
use Rattle.cstn_lift.proofs.LabelLemmas.{label_there, upto_next}
use Rattle.cstn_lift.proofs.scans.first_not_plain.Goals as goal

pub returns-then-not-is_plain : goal.returns-then-not-is_plain
returns-then-not-is_plain c =
    let size = c.requires.one_each in
    let count = c.count-x-end.ensures.count in
    let is = label_there c.args.labels.now c.index.result c.loop-x.x c.index-labels-index.result (omega arith) c.index.ensures.index c.index-labels-index.is in
    record {
      first = record {
        inside = omega arith;
        here = λ plain.
            let no : false ≡ true = c.if-not-is_plain.ensures.plain.1 (subst IsPlain (sym is) plain) in
            cc;
        before = λ y before unplain. unplain (c.loop-x.invariant y before);
      };
      well_formed = c.count-x-end.ensures.well_formed;
    }

pub loop-x-preserved : goal.loop-x-preserved
loop-x-preserved c =
    let size = c.requires.one_each in
    let count = c.count-x-end.ensures.count in
    let is = label_there c.args.labels.now c.index.result c.loop-x.x c.index-labels-index.result (omega arith) c.index.ensures.index c.index-labels-index.is in
    upto_next (λ y. IsPlain (label_in (map marks c.args.labels.now) y)) c.loop-x.x c.loop-x.invariant
    (subst IsPlain is (c.if-not-is_plain.ensures.plain.0 refl))
