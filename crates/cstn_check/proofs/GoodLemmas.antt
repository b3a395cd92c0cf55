-- What growth appends is at time-points, with marks on observed propositions alone.
use Rattle.std.proofs.Common.{ℕ, zero, suc, ◌≡◌, inl, inr, ◌<◌, ◌≤◌, not, ◌&&◌, List, [], ◌∷◌, ◌++◌, Option, Some, None, eqb, arith, refl, sym, subst}
use Rattle.std.specs.Prelude.{pos, ◌-ℤ◌, ◌+ℤ◌, slice_get, slice_index_or}
use Rattle.std.specs.Int.{int_min}
use Rattle.std.proofs.lemmas.Bool.{cases_Bool, cond-true, cond-false}
use Rattle.std.proofs.lemmas.List.Elements.{All-contains}
use Rattle.cstn_label.specs.declared.marks.Mark.{Mark}
use Rattle.cstn_label.specs.Labels.{Label, joined, without}
use Rattle.cstn_label.specs.declared.marks.Mark.TheVariants.{Absent}
use Rattle.cstn_label.proofs.MarkLemmas.{absent_or_not}
use Rattle.cstn_label.proofs.LabelLemmas.{kept_without, absent_joined}
use Rattle.cstn_net.specs.Networks.{Network, IsNetwork, IsConstraint, Constraint, Observes, IsOnObserved, count}
use Rattle.cstn_label.specs.Bounds.{Bound}
use Rattle.cstn_label.specs.Marks.{is_absent, is_plain}
use Rattle.cstn_rules.specs.Rules.{finished}
use Rattle.cstn_rules.specs.Derivations.{Entry}
use Rattle.cstn_check.specs.Kept.{AllGood, MarksObserved}
use Rattle.cstn_plan.proofs.FinishLemmas.{kept_own}
use Rattle.cstn_rules.specs.Tests.{chain_of, wait_for as wait_by, wait_of}
use Rattle.cstn_check.specs.Growth.{Instance, why_of, is_covered, is_refuted, premises_live, of_one, of_two, conclusion, with_conclusion, step, tried, turn, grown}
use Rattle.cstn_log.specs.Entries.{bases}
use Rattle.cstn_check.proofs.Decided.{HasLetters}
use Rattle.cstn_check.specs.Growth.Instance.{chain_at, wait_at}
use Rattle.cstn_check.proofs.Grows.{Each, each_turn}
use Rattle.cstn_label.specs.OnLetters.{IsOnLetters}

pub good_at : (net : Network) (L : List Entry) (k : ℕ) (e : Entry) → AllGood net L → slice_get L k ≡ Some e → MarksObserved net e.bound
good_at net [] k e h there = let f : ⊥ = cc in absurd f
good_at net (x ∷ xs) zero e h there = let same : x ≡ e = cc in subst (λ y. MarksObserved net y.bound) same h.0
good_at net (x ∷ xs) (suc k) e h there = good_at net xs k e h.1 there

pub good_more : (net : Network) (L M : List Entry) → AllGood net L → AllGood net M → AllGood net (L ++ M)
good_more net [] M h k = k
good_more net (x ∷ xs) M h k = (h.0, good_more net xs M h.1 k)

-- a bound of the network marks propositions from 0 to 51 alone
pub good_small : (net : Network) (b : Bound) → HasLetters net → MarksObserved net b → IsOnLetters b.label
good_small net b letters good = λ p past. elim (absent_or_not (b.label p)) [
  | inl none ↦ none
  | inr marked ↦ let o = good.observed p marked in let l = letters o.0 p o.1 in absurd (omega arith)
]

-- a mark is absent, or its proposition is observed
Seen : Network → ℕ → Mark → Type 0
Seen net p m = (m ≡ Absent → ⊥) → (x : ℕ) × Observes net x p

pub joined_observed : (net : Network) (a b : Label) → IsOnObserved net a → IsOnObserved net b → IsOnObserved net (joined a b)
joined_observed net a b h k = λ p marked. elim (absent_or_not (a p)) [
  | inr a_marked ↦ h p a_marked
  | inl a_none ↦ elim (absent_or_not (b p)) [
    | inr b_marked ↦ k p b_marked
    | inl b_none ↦ absurd (marked (absent_joined a b p a_none b_none))
  ]
]

without_observed : (net : Network) (a : Label) (p : ℕ) → IsOnObserved net a → IsOnObserved net (without a p)
unfolding Seen
without_observed net a p h = λ q. kept_without (Seen net q) a p q (λ f. absurd (f refl)) (h q)

finished_good : (net : Network) (b : Bound) → b.node < count net → IsOnObserved net b.label → MarksObserved net (finished net b)
unfolding Seen
finished_good net b here h = record {
  node = here;
  observed = λ q. kept_own (Seen net q) (slice_index_or net.observes b.node None) b.label q (λ f. absurd (f refl)) (h q);
}

pub chain_good : (net : Network) (c : Constraint) (b r : Bound) → IsConstraint net c → MarksObserved net b → chain_of net c b ≡ Some r → MarksObserved net r
chain_good net c b r good_c good e =
    elim (cases_Bool ((eqb b.node c.to) && (is_plain b.label && is_plain (joined b.label c.label)))) [
      | inl given ↦
          let at = cond-true _ (Some (finished net (record { node = c.from; least = b.least -ℤ c.most; label = joined b.label c.label }))) None given in
          let same : finished net (record { node = c.from; least = b.least -ℤ c.most; label = joined b.label c.label }) ≡ r = cc in
          subst (λ x. MarksObserved net x) same
          (finished_good net (record { node = c.from; least = b.least -ℤ c.most; label = joined b.label c.label }) good_c.from
          (joined_observed net b.label c.label good.observed good_c.observed))
      | inr none ↦
          let at = cond-false _ (Some (finished net (record { node = c.from; least = b.least -ℤ c.most; label = joined b.label c.label }))) None none in
          let f : ⊥ = cc in absurd f
    ]

pub wait_good : (net : Network) (o : Option ℕ) (seen b r : Bound) → MarksObserved net seen → MarksObserved net b → wait_by net o seen b ≡ Some r → MarksObserved net r
wait_good net None seen b r good_seen good e = let f : ⊥ = cc in absurd f
wait_good net (Some p) seen b r good_seen good e =
    let made : Bound = record {
      node = b.node;
      least = int_min (seen.least +ℤ pos (net.reaction p)) b.least;
      label = joined seen.label (without b.label p);
    } in
    elim (cases_Bool (is_absent (b.label p))) [
      | inr marked ↦
          let at = cond-false (is_absent (b.label p)) None (Some (finished net made)) marked in
          let same : finished net made ≡ r = cc in
          subst (λ x. MarksObserved net x) same
          (finished_good net made good.node
          (joined_observed net seen.label (without b.label p) good_seen.observed (without_observed net b.label p good.observed)))
      | inl none ↦
          let at = cond-true (is_absent (b.label p)) None (Some (finished net made)) none in
          let f : ⊥ = cc in absurd f
    ]

abbrev pub GoodInstance : Network → Instance → Type 0
GoodInstance net (chain_at c j) = IsConstraint net c
GoodInstance net (wait_at i j) = Unit {0}

one_good : (net : Network) (L : List Entry) (c : Constraint) (o : Option Entry) (j : ℕ) (r : Bound) → AllGood net L →
    IsConstraint net c → slice_get L j ≡ o → of_one (chain_of net c) o ≡ Some r → MarksObserved net r
one_good net L c None j r h good at e = let f : ⊥ = cc in absurd f
one_good net L c (Some x) j r h good at e = chain_good net c x.bound r good (good_at net L j x h at) e

two_good : (net : Network) (L : List Entry) (o u : Option Entry) (i j : ℕ) (r : Bound) → AllGood net L →
    slice_get L i ≡ o → slice_get L j ≡ u → of_two (wait_of net) o u ≡ Some r → MarksObserved net r
two_good net L None u i j r h at_i at_j e = let f : ⊥ = cc in absurd f
two_good net L (Some x) None i j r h at_i at_j e = let f : ⊥ = cc in absurd f
two_good net L (Some x) (Some y) i j r h at_i at_j e =
    wait_good net (slice_index_or net.observes x.bound.node None) x.bound y.bound r (good_at net L i x h at_i)
    (good_at net L j y h at_j) e

pub conclusion_good : (net : Network) (L : List Entry) (i : Instance) (r : Bound) → AllGood net L → GoodInstance net i →
    conclusion net L i ≡ Some r → MarksObserved net r
conclusion_good net L (chain_at c j) r h good e = one_good net L c (slice_get L j) j r h good refl e
conclusion_good net L (wait_at i j) r h good e = two_good net L (slice_get L i) (slice_get L j) i j r h refl refl e

with_good : (net : Network) (L : List Entry) (i : Instance) (o : Option Bound) → AllGood net L →
    ((r : Bound) → o ≡ Some r → MarksObserved net r) → AllGood net (with_conclusion L i o)
with_good net L i None h g = h
with_good net L i (Some r) h g = elim (cases_Bool (premises_live L i && not (is_covered L r))) [
  | inl new ↦ subst (λ G. AllGood net G) (sym (cond-true _ _ _ new))
      (good_more net L (record { bound = r; why = why_of i } ∷ []) h (g r refl, tt))
  | inr old ↦ subst (λ G. AllGood net G) (sym (cond-false _ _ _ old)) h
]

step_good : (net : Network) (L : List Entry) (i : Instance) → AllGood net L → GoodInstance net i → AllGood net (step net L i)
unfolding step
step_good net L i h good = elim (cases_Bool (is_refuted net L)) [
  | inl over ↦ subst (λ G. AllGood net G) (sym (cond-true _ _ _ over)) h
  | inr on ↦ subst (λ G. AllGood net G) (sym (cond-false _ _ _ on))
      (with_good net L i (conclusion net L i) h (λ r e. conclusion_good net L i r h good e))
]

tried_good : (net : Network) (is : List Instance) (L : List Entry) → AllGood net L → Each (GoodInstance net) is → AllGood net (tried net L is)
tried_good net [] L h g = h
tried_good net (i ∷ is) L h g = tried_good net is (step net L i) (step_good net L i h g.0) g.1

pub grown_good : (net : Network) (L : List Entry) (n : ℕ) → IsNetwork net → AllGood net L → AllGood net (grown net L n)
grown_good net L zero wf h = h
grown_good net L (suc n) wf h = tried_good net (turn net n) (grown net L n) (grown_good net L n wf h)
    (each_turn (GoodInstance net) net n (λ c has. All-contains (IsConstraint net) net.constraints c wf.constraints has) (λ i. (tt, tt)))

pub bases_good : (net : Network) (n : ℕ) → n ≤ count net → AllGood net (bases n)
bases_good net zero h = tt
bases_good net (suc n) h = good_more net (bases n) _ (bases_good net n (omega arith))
    (record { node = h; observed = λ p marked. absurd (marked refl) }, tt)
