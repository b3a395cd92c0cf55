-- Domination is an order of bounds.
use Rattle.std.proofs.Common.{◌∙◌, arith, refl}
use Rattle.std.proofs.lemmas.Int.{ints}
use Rattle.cstn_label.specs.Bounds.{Bound, Dominates}
use Rattle.cstn_label.proofs.LabelLemmas.{within_itself, within_through}

pub dominates_itself : (a : Bound) → Dominates a a
dominates_itself a = record { node = refl; least = omega (arith, ints); label = within_itself a.label }

pub dominates_through : (a b c : Bound) → Dominates a b → Dominates b c → Dominates a c
dominates_through a b c one two = record {
  node = one.node ∙ two.node;
  least = let high = one.least in let low = two.least in omega (arith, ints);
  label = within_through a.label b.label c.label one.label two.label;
}
