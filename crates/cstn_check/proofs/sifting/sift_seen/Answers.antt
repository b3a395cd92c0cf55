use Rattle.std.proofs.Common.{inl, inr, arith, rules, sym, subst, w32}
use Rattle.std.specs.Prelude.{ℤ, pos, FitsSigned, slice_index_or}
use Rattle.std.proofs.lemmas.Int.{to_z-of_z}
use Rattle.std.proofs.lemmas.Bool.{cases_lt, cases_eq}
use Rattle.cstn_label.specs.Labels.{without}
use Rattle.cstn_label.specs.Read.{marks}
use Rattle.cstn_net.specs.Read.{the_network}
use Rattle.cstn_check.specs.Floors.{IsFloor}
use Rattle.cstn_check.specs.Waits.{AreSeenOf}
use Rattle.cstn_check.proofs.SiftLemmas.{open_on, inside_on, bound_at_on, floor_on, sifted_itself, sifted_through, seen_of_on, unmarked_seen, seen_all}
use Rattle.cstn_check.proofs.sifting.sift_seen.Goals as goal

pub returns-in_default-clause-sifted : goal.returns-in_default-clause-sifted
returns-in_default-clause-sifted c = sifted_itself c.args.log.now c.args.j

pub returns-in_default-clause-seen : goal.returns-in_default-clause-seen
returns-in_default-clause-seen c =
    seen_all (the_network c.args.net.now) c.args.log.now c.args.j c.args.own.now c.requires.place c.requires.bound
    (λ p. unmarked_seen (the_network c.args.net.now) c.args.log.now c.args.j p c.args.own.now c.requires.bound (c.in_default.ensures.none p (omega arith)))

pub loop-p-init : goal.loop-p-init
loop-p-init c = record {
  small = omega arith;
  sifted = sifted_itself c.args.log.now c.args.j;
  seen = λ p below. absurd (omega (arith, below));
}

pub sift_at_observer-requires-clause-ready : goal.sift_at_observer-requires-clause-ready
sift_at_observer-requires-clause-ready c =
    open_on (the_network c.args.net.now) c.args.log.now c.loop-p.log c.loop-p.invariant.sifted.stays c.requires.ready

pub sift_at_observer-requires-clause-place : goal.sift_at_observer-requires-clause-place
sift_at_observer-requires-clause-place c = inside_on c.args.log.now c.loop-p.log c.args.j c.loop-p.invariant.sifted c.requires.place

pub sift_at_observer-requires-clause-bound : goal.sift_at_observer-requires-clause-bound
sift_at_observer-requires-clause-bound c =
    bound_at_on (the_network c.args.net.now) c.args.log.now c.loop-p.log c.args.j c.loop-p.invariant.sifted c.args.own.now c.requires.bound

pub sift_at_observer-requires-clause-floor : goal.sift_at_observer-requires-clause-floor
sift_at_observer-requires-clause-floor c =
    let net = the_network c.args.net.now in
    let own = c.args.own.now in
    let p = c.in-Some-first_marked_from.p in
    let floor = slice_index_or c.floors-floors.result p.index (pos 0) in
    let is = c.floors-floors.ensures.floors p.index p.in_range in
    let fits : FitsSigned w32 floor = search rules in
    subst (λ (z : ℤ). IsFloor c.loop-p.log.entries own.node.0 (without (marks own.label) p.index) z) (sym (to_z-of_z w32 floor fits))
    (floor_on net c.args.log.now c.loop-p.log c.args.j c.loop-p.invariant.sifted own.node.0 (without (marks own.label) p.index) floor is)

pub loop-p-preserved : goal.loop-p-preserved
loop-p-preserved c =
    let net = the_network c.args.net.now in
    let was = c.loop-p.invariant in
    let now = c.sift_at_observer.ensures in
    let mid = c.loop-p.log in
    let new = c.sift_at_observer.new.log in
    let sifted = sifted_through c.args.log.now mid new c.args.j was.sifted now.sifted in
    record {
      small = omega (arith, c.in-Some-first_marked_from.p.in_range);
      sifted = sifted;
      seen = λ p below. elim (cases_lt p c.loop-p.index) [
        | inl before ↦ seen_of_on net mid new c.args.j now.sifted p (was.seen p before)
        | inr from ↦ elim (cases_eq p c.in-Some-first_marked_from.p.index) [
          | inl same ↦ subst (λ q. AreSeenOf net new c.args.j q) (sym same) now.seen
          | inr ne ↦
              unmarked_seen net new c.args.j p c.args.own.now
              (bound_at_on net c.args.log.now new c.args.j sifted c.args.own.now c.requires.bound) (c.in-Some-first_marked_from.ensures.least p from (omega (arith, below, ne)))
        ]
      ];
    }

pub returns-clause-seen : goal.returns-clause-seen
returns-clause-seen c =
    let net = the_network c.args.net.now in
    let was = c.loop-p.invariant in
    let at = bound_at_on net c.args.log.now c.loop-p.log c.args.j was.sifted c.args.own.now c.requires.bound in
    seen_all net c.loop-p.log c.args.j c.args.own.now (inside_on c.args.log.now c.loop-p.log c.args.j was.sifted c.requires.place) at
    (λ p. elim (cases_lt p c.loop-p.index) [
      | inl before ↦ was.seen p before
      | inr from ↦ unmarked_seen net c.loop-p.log c.args.j p c.args.own.now at (c.in_default-first_marked_from.ensures.none p from)
    ])
