use Rattle.std.proofs.Common.{ℕ, ◌<◌, arith, length, ap, sym, subst, ◌∙◌}
use Rattle.std.specs.Prelude.{map}
use Rattle.std.proofs.lemmas.List.{length-map}
use Rattle.cstn_label.specs.Labels.{IsPlain}
use Rattle.cstn_label.specs.Read.{marks}
use Rattle.cstn_net.specs.Networks.{count}
use Rattle.cstn_net.specs.Read.{the_network}
use Rattle.cstn_lift.specs.Labelled.{label_in}
use Rattle.cstn_lift.specs.Completion.{completed, completed_label}
use Rattle.cstn_lift.specs.Faults.{ObservesMark}
use Rattle.cstn_lift.specs.Read.{with_labels}
use Rattle.cstn_lift.proofs.FaultLemmas.{whole_at, first_same, circle_lowest, never_lowest, labelled_from}
use Rattle.cstn_lift.proofs.lifting.completed_fault.Goals as goal

pub returns-in-Some : goal.returns-in-Some
returns-in-Some c =
    let net = the_network c.args.net.now in
    let m = with_labels c.args.net.now c.args.labels.now in
    let own = map marks c.args.whole.now in
    let one_each = length-map c.args.labels.now marks ∙ c.requires.one_each in
    let at = whole_at m one_each own c.requires.completed in
    record {
      has = first_same (count net) (λ x. ObservesMark net (label_in own x) x) (λ x. ObservesMark net (completed_label m x) x) c.in-Some.node.0
          (λ x inside seen. subst (λ a. ObservesMark net a x) (at x inside) seen) (λ x inside seen. subst (λ a. ObservesMark net a x) (sym (at x inside)) seen)
          c.in-Some.ensures.first;
      lowest = circle_lowest m c.requires.good;
    }

pub first_not_plain-requires : goal.first_not_plain-requires
first_not_plain-requires c =
    let same = ap length c.requires.completed in
    let m = with_labels c.args.net.now c.args.labels.now in
    record {
      one_each = omega (arith, same, c.requires.one_each, length-map c.args.whole.now marks, length-map c.args.labels.now marks, length-map m.labels (completed m));
    }

pub returns-in-Some-first_not_plain : goal.returns-in-Some-first_not_plain
returns-in-Some-first_not_plain c =
    let net = the_network c.args.net.now in
    let m = with_labels c.args.net.now c.args.labels.now in
    let own = map marks c.args.whole.now in
    let one_each = length-map c.args.labels.now marks ∙ c.requires.one_each in
    let at = whole_at m one_each own c.requires.completed in
    let none : (x : ℕ) → x < count net → ObservesMark net (completed_label m x) x → ⊥ = λ x inside seen.
    c.in_default.ensures.first x inside (subst (λ a. ObservesMark net a x) (sym (at x inside)) seen) in
    record {
      has = first_same (count net) (λ x. IsPlain (label_in own x) → ⊥) (λ x. IsPlain (completed_label m x) → ⊥) c.in-Some-first_not_plain.node.0
          (λ x inside unplain plain. unplain (subst IsPlain (sym (at x inside)) plain)) (λ x inside unplain plain. unplain (subst IsPlain (at x inside) plain))
          c.in-Some-first_not_plain.ensures.first;
      lowest = never_lowest m c.requires.good none;
    }

pub returns : goal.returns
returns c =
    let net = the_network c.args.net.now in
    let m = with_labels c.args.net.now c.args.labels.now in
    let own = map marks c.args.whole.now in
    let one_each = length-map c.args.labels.now marks ∙ c.requires.one_each in
    let at = whole_at m one_each own c.requires.completed in
    let none : (x : ℕ) → x < count net → ObservesMark net (completed_label m x) x → ⊥ = λ x inside seen.
    c.in_default.ensures.first x inside (subst (λ a. ObservesMark net a x) (sym (at x inside)) seen) in
    labelled_from m c.requires.good (c.observers_are_time_points.ensures.within net) c.in_default-first_not_plain.ensures.well_formed one_each none
    (λ x inside. subst IsPlain (at x inside) (c.in_default-first_not_plain.ensures.first x inside))
