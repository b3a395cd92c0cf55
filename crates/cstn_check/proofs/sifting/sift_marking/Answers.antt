use Rattle.std.proofs.Common.{inl, inr, arith, sym, subst}
use Rattle.std.proofs.lemmas.Bool.{cases_eq}
use Rattle.cstn_net.specs.Read.{the_network}
use Rattle.cstn_check.specs.Waits.{AreMarkingAt}
use Rattle.cstn_check.proofs.TurnLemmas.{bound_in}
use Rattle.cstn_check.proofs.SiftLemmas.{open_on, inside_on, bound_at_on, sifted_itself, sifted_through, marking_at_on, marking_all, nothing_marking}
use Rattle.cstn_check.proofs.sifting.sift_marking.Goals as goal

pub observes-requires : goal.observes-requires
observes-requires c = (bound_in (the_network c.args.net.now) c.args.log.now c.args.j c.args.own.now c.requires.ready c.requires.bound).node

pub returns-in_default-clause-sifted : goal.returns-in_default-clause-sifted
returns-in_default-clause-sifted c = sifted_itself c.args.log.now c.args.j

pub returns-in_default-clause-marking : goal.returns-in_default-clause-marking
returns-in_default-clause-marking c =
    nothing_marking (the_network c.args.net.now) c.args.log.now c.args.j c.args.own.now c.requires.place c.requires.bound (sym c.in_default.ensures.observes)

pub sift_marking_at-requires-clause-observes : goal.sift_marking_at-requires-clause-observes
sift_marking_at-requires-clause-observes c = record { what = sym c.in-Some.ensures.observes }

pub sift_marking_at-requires-clause-node : goal.sift_marking_at-requires-clause-node
sift_marking_at-requires-clause-node c = omega (arith, c.loop-x.invariant.end, c.loop-x-test.true)

pub loop-x-init : goal.loop-x-init
loop-x-init c = record {
  end = c.count-x-end.ensures.count;
  sifted = sifted_itself c.args.log.now c.args.j;
  marking = λ y below. absurd (omega (arith, below));
}

pub sift_marking_at-requires-clause-ready : goal.sift_marking_at-requires-clause-ready
sift_marking_at-requires-clause-ready c =
    open_on (the_network c.args.net.now) c.args.log.now c.loop-x.log c.loop-x.invariant.sifted.stays c.requires.ready

pub sift_marking_at-requires-clause-place : goal.sift_marking_at-requires-clause-place
sift_marking_at-requires-clause-place c = inside_on c.args.log.now c.loop-x.log c.args.j c.loop-x.invariant.sifted c.requires.place

pub sift_marking_at-requires-clause-bound : goal.sift_marking_at-requires-clause-bound
sift_marking_at-requires-clause-bound c =
    bound_at_on (the_network c.args.net.now) c.args.log.now c.loop-x.log c.args.j c.loop-x.invariant.sifted c.args.own.now c.requires.bound

pub loop-x-preserved : goal.loop-x-preserved
loop-x-preserved c =
    let net = the_network c.args.net.now in
    let was = c.loop-x.invariant in
    let now = c.sift_marking_at.ensures in
    let mid = c.loop-x.log in
    let new = c.sift_marking_at.new.log in
    record {
      end = was.end;
      sifted = sifted_through c.args.log.now mid new c.args.j was.sifted now.sifted;
      marking = λ y below. elim (cases_eq y c.loop-x.x) [
        | inl same ↦ subst (λ n. AreMarkingAt net new c.args.j n) (sym same) now.marking
        | inr ne ↦ marking_at_on net mid new c.args.j now.sifted y (was.marking y (omega (arith, below, ne)))
      ];
    }

pub returns-clause-marking : goal.returns-clause-marking
returns-clause-marking c =
    let net = the_network c.args.net.now in
    let was = c.loop-x.invariant in
    marking_all net c.loop-x.log c.args.j (open_on net c.args.log.now c.loop-x.log was.sifted.stays c.requires.ready)
    (inside_on c.args.log.now c.loop-x.log c.args.j was.sifted c.requires.place)
    (λ x inside. was.marking x (omega (arith, inside, was.end, c.loop-x-test.false)))
