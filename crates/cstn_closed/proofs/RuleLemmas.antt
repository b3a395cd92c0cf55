-- What is derived from a bound is dominated by what is derived from one that dominates it.
use Rattle.std.proofs.Common.{ℕ, ◌≡◌, Option, None, Some, List, arith, inl, inr, refl, sym, subst, ap, ◌∙◌}
use Rattle.std.specs.Prelude.{slice_index_or}
use Rattle.std.proofs.lemmas.Bool.{cases_eq, eq-eqb, ne_eqb}
use Rattle.std.proofs.lemmas.Int.{ints, clamps}
use Rattle.cstn_label.specs.declared.marks.Mark.{Mark}
use Rattle.cstn_label.specs.Labels.{Label, IsMarkWithin, IsWithin, joined_mark, joined, without}
use Rattle.cstn_label.specs.Bounds.{Bound, Dominates}
use Rattle.cstn_net.specs.Networks.{Network, Observes, limit}
use Rattle.cstn_rules.specs.Rules.{without_own, finished, carried, awaited}
use Rattle.cstn_closed.specs.Instances.{AreChainsCovered, AreWaitsCovered}
use Rattle.cstn_closed.proofs.CoverLemmas.{covered_through}
use Rattle.cstn_label.proofs.LabelLemmas.{plain_within}

mark_joined : (m n o : Mark) → IsMarkWithin m n → IsMarkWithin (joined_mark m o) (joined_mark n o)
mark_joined m n o within = grind arith

joined_within : (a b c : Label) → IsWithin a b → IsWithin (joined a c) (joined b c)
joined_within a b c within p = mark_joined (a p) (b p) (c p) (within p)

own_within : (o : Option ℕ) (a b : Label) → IsWithin a b → IsWithin (without_own o a) (without_own o b)
own_within None a b within q = within q
own_within (Some p) a b within q = elim (cases_eq q p) [
  | inl same ↦ rw (eq-eqb q p same) tt
  | inr other ↦ rw (ne_eqb q p other) (within q)
]

finished_over : (net : Network) (a b : Bound) → Dominates a b → Dominates (finished net a) (finished net b)
finished_over net a b over = record {
  node = over.node;
  least = let same : limit net a.node ≡ limit net b.node = ap (limit net) over.node in let high = over.least in omega (arith, ints, clamps);
  label = subst (λ x. IsWithin (without_own (slice_index_or net.observes a.node None) a.label) (without_own (slice_index_or net.observes x None) b.label)) over.node
      (own_within (slice_index_or net.observes a.node None) a.label b.label over.label);
}

-- where all chains of a bound are covered, those of a bound that it dominates are
pub chains_under : (net : Network) (bounds : List Bound) (a b : Bound) → Dominates a b → AreChainsCovered net bounds a → AreChainsCovered net bounds b
chains_under net bounds a b over covered c has r is =
    let within = joined_within a.label b.label c.label over.label in
    let s = finished net (carried c a) in
    covered_through bounds s r
    (covered c has s (record {
      at = over.node ∙ is.at;
      plain = plain_within a.label b.label over.label is.plain;
      together = plain_within (joined a.label c.label) (joined b.label c.label) within is.together;
      gives = refl;
    }))
    (subst (λ x. Dominates s x) (sym is.gives) (finished_over net (carried c a) (carried c b) (record {
      node = refl;
      least = let high = over.least in omega (arith, ints, clamps);
      label = within;
    })))

-- where all waits for a bound at an observer are covered, those for a bound that it dominates are
pub waits_under : (net : Network) (bounds : List Bound) (a seen : Bound) → Dominates a seen → AreWaitsCovered net bounds a → AreWaitsCovered net bounds seen
waits_under net bounds a seen over covered b has p r is =
    let s = finished net (awaited net p a b) in
    covered_through bounds s r
    (covered b has p s (record {
      observes = subst (λ x. Observes net x p) (sym over.node) is.observes;
      marked = is.marked;
      gives = refl;
    }))
    (subst (λ x. Dominates s x) (sym is.gives) (finished_over net (awaited net p a b) (awaited net p seen b) (record {
      node = refl;
      least = let high = over.least in omega (arith, ints, clamps);
      label = joined_within a.label seen.label (without b.label p) over.label;
    })))
