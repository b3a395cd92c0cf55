use Rattle.std.proofs.lemmas.Bool.{both_ways}
use Rattle.cstn_label.proofs.ReadLemmas.{possible_from_bits, inside_from_possible, apart_from_possible}
use Rattle.cstn_label.proofs.labels.Label.possible.Goals as goal

pub returns-then-is_inside : goal.returns-then-is_inside
returns-then-is_inside c = record {
  possible = (
    λ t. possible_from_bits c.args.self.yes c.args.self.no c.args.k.seen c.args.k.bits
        (c.is_inside.ensures.0 c.if-is_inside.true) (c.are_apart.ensures.0 t),
    λ h. c.are_apart.ensures.1 (apart_from_possible c.args.self.yes c.args.self.no c.args.k.seen c.args.k.bits h),
  );
}

pub returns-else-is_inside : goal.returns-else-is_inside
returns-else-is_inside c = record {
  possible = (
    λ t. absurd (both_ways c.is_inside.result c.if-is_inside.false t),
    λ h. c.is_inside.ensures.1 (inside_from_possible c.args.self.yes c.args.self.no c.args.k.seen c.args.k.bits h),
  );
}
