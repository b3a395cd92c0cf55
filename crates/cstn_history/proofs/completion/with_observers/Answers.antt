use Rattle.std.proofs.Common.{ℕ, ◌<◌, ◌+◌, arith, subst, sym, inl, inr}
use Rattle.std.proofs.lemmas.Bool.{cases_lt}
use Rattle.cstn_label.specs.Labels.{joined, IsMarked, IsWithin, Label}
use Rattle.cstn_label.specs.Read.{marks}
use Rattle.cstn_net.specs.Networks.{Observes}
use Rattle.cstn_lift.specs.Labelled.{label_of}
use Rattle.cstn_lift.specs.Read.{the_labelled}
use Rattle.cstn_net.specs.Networks.{count}
use Rattle.cstn_lift.specs.Completion.{joined_upto}
use Rattle.cstn_history.proofs.Rounds.{round_begins, round_ends, round_joins, round_within, round_grows}
use Rattle.cstn_history.proofs.completion.with_observers.Goals as goal

pub loop-p-init : goal.loop-p-init
loop-p-init c = record {
  range = omega arith;
  contains = c.within_is_an_order.ensures.reflexive (marks c.args.label);
  joined = λ x p before. absurd (omega arith);
  upto = round_begins (the_labelled c.args.network.now) (marks c.args.label);
}

pub loop-p-preserved : goal.loop-p-preserved
loop-p-preserved c =
    let m = the_labelled c.args.network.now in
    let loop = c.loop-p.invariant in
    let a = marks c.args.label in
    let b = marks c.loop-p.joined in
    let new = marks c.observer_label.result in
    let one = c.base-base.ensures.well_formed.network.one_observer in
    let is = c.join-joined.ensures.join in
    let range = c.in-Some.p.in_range in
    let from = c.loop-p.from in
    let p = c.in-Some.p.index in
    record {
      range = omega arith;
      contains = subst (λ l. IsWithin a l) (sym is) (c.within_is_an_order.ensures.transitive a b (joined b new) loop.contains (round_grows m one a b new from p c.observer_label.ensures.label));
      joined = subst (λ (l : Label). (x q : ℕ) → q < c.in-Some.p.index + 1 → Observes m.base x q → IsMarked a q → IsWithin (label_of m x) l) (sym is) (round_joins m one a b new from p c.observer_label.ensures.label c.in-Some.ensures.least loop.joined);
      upto = subst (λ l. IsWithin l (joined_upto m (count m.base) a)) (sym is) (round_within m one a b new from p c.observer_label.ensures.label c.in-Some.ensures.marked loop.upto);
    }

pub returns : goal.returns
returns c =
    let m = the_labelled c.args.network.now in
    let loop = c.loop-p.invariant in
    record {
      joined = round_ends m (marks c.args.label) (marks c.loop-p.joined) loop.contains (λ x p o marked.
          elim (cases_lt p c.loop-p.from) [
            | inl before ↦ loop.joined x p before o marked
            | inr after ↦ absurd (marked (c.in_default.ensures.none p after))
          ]) loop.upto;
    }
