use Rattle.std.proofs.lemmas.Bool.{eqb-true, eq-eqb, and_parts}
use Rattle.std.specs.Cmp.Derive.{both_true}
use Rattle.cstn_label.specs.Words.{meant}
use Rattle.cstn_label.proofs.WordLemmas.{meant_from_bits, bits_from_meant}
use Rattle.cstn_label.proofs.KnownLemmas.{values_from_meant, seen_from_values, bits_from_values}
use Rattle.cstn_label.proofs.laws.equality_is_of_values.Goals as goal

pub returns-clause-scenarios : goal.returns-clause-scenarios
returns-clause-scenarios c s r = (
  (λ same. bits_from_meant s.bits r.bits (eqb-true (meant s.bits) (meant r.bits) same)),
  (λ same. eq-eqb (meant s.bits) (meant r.bits) (meant_from_bits s.bits r.bits same)),
)

pub returns-clause-known : goal.returns-clause-known
returns-clause-known c k l = (
  (λ same. values_from_meant k l (eqb-true (meant k.seen) (meant l.seen) (and_parts _ _ same).0)
      (eqb-true (meant k.bits) (meant l.bits) (and_parts _ _ same).1)),
  (λ same. both_true (eq-eqb (meant k.seen) (meant l.seen) (seen_from_values k l same))
      (eq-eqb (meant k.bits) (meant l.bits) (bits_from_values k l same))),
)
