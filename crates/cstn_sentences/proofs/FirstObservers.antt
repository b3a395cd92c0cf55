-- The first observer of a proposition, and its reaction.
use Rattle.std.proofs.Common.{◌≡◌, ℕ, suc, ◌+◌, Bool, true, false, List, [], ◌∷◌, map, refl, ap, sym, ◌∙◌, arith, Option, Some, None, Ok, Result}
use Rattle.std.specs.Prelude.{◌==◌, if◌then◌else◌, slice_index_or}
use Rattle.cstn_net.specs.Networks.{is_prop}
use Rattle.cstn_net.specs.Read.{first_reaction}
use Rattle.cstn_graphml.specs.DrawnGraph.{Observation}
use Rattle.cstn_graphml.specs.Networks.{observed_prop, observed_reaction}
use Rattle.cstn_sentences.specs.Results.{◌>>?◌, some_or}
use Rattle.cstn_sentences.specs.Refusals.{PlanRefusal, no_letter}
use Rattle.cstn_sentences.specs.Declarations.{Declared}
use Rattle.cstn_sentences.specs.Meaning.{prop_in, declared_observations, first_observer, Moment_after, known_after, outcome_in}
use Rattle.cstn_sentences.proofs.Accepted.{bind_ok, ok_is, given}

pub record IsObserved (p k : ℕ) (os : List (Option Observation)) (y : ℕ × ℕ) : Type 0 where
  pub place : ℕ
  pub number : y.0 ≡ k + place
  pub observes : slice_index_or (map observed_prop os) place None ≡ Some p
  pub reaction : y.1 ≡ first_reaction observed_prop observed_reaction os p

is_that : (p q : ℕ) → (q == p) ≡ true → Some q ≡ Some p
is_that p q e = ap Some (grind arith)

here_observed : (p k : ℕ) (o : Option Observation) (later : List (Option Observation)) (y : ℕ × ℕ) → is_prop p (observed_prop o) ≡ true
    → (k, observed_reaction o) ≡ y → IsObserved p k (o ∷ later) y
here_observed p k None later y is e = absurd (cc)
here_observed p k (Some o) later y is e = record {
  place = 0;
  number = let first : k ≡ y.0 = ap (λ (z : ℕ × ℕ). z.0) e in omega (arith, first);
  observes = is_that p o.prop is;
  reaction = sym (ap (λ (z : ℕ × ℕ). z.1) e) ∙ sym (ap (λ (b : Bool). if b then o.reaction else first_reaction observed_prop observed_reaction later p) is);
}

later_observed : (p k : ℕ) (o : Option Observation) (later : List (Option Observation)) (y : ℕ × ℕ) → is_prop p (observed_prop o) ≡ false
    → IsObserved p (k + 1) later y → IsObserved p k (o ∷ later) y
later_observed p k o later y is h = record {
  place = suc h.place;
  number = omega (arith, h.number);
  observes = h.observes;
  reaction = h.reaction ∙ sym (ap (λ (b : Bool). if b then observed_reaction o else first_reaction observed_prop observed_reaction later p) is);
}

observed_by : (b : Bool) (p k : ℕ) (o : Option Observation) (later : List (Option Observation)) (y : ℕ × ℕ) → is_prop p (observed_prop o) ≡ b
    → (first_observer p (k + 1) later ≡ Some y → IsObserved p (k + 1) later y)
    → (if b then Some (k, observed_reaction o) else first_observer p (k + 1) later) ≡ Some y → IsObserved p k (o ∷ later) y
observed_by true p k o later y is rest e = here_observed p k o later y is (cc)
observed_by false p k o later y is rest e = later_observed p k o later y is (rest e)

pub observed : (p k : ℕ) (os : List (Option Observation)) (y : ℕ × ℕ) → first_observer p k os ≡ Some y → IsObserved p k os y
observed p k [] y e = absurd (cc)
observed p k (o ∷ later) y e = observed_by (is_prop p (observed_prop o)) p k o later y refl (λ f. observed p (k + 1) later y f) e

-- the letter, its first observer with the reaction, and the moment that comes of them
pub record HasOutcome (n : ℕ) (d : Declared) (prop : List ℕ) (m : Moment_after) : Type 0 where
  pub letter : ℕ
  pub letter_is : prop_in n d.words prop ≡ Ok letter
  pub seen : ℕ × ℕ
  pub first : IsObserved letter 0 (declared_observations d) seen
  pub moment_is : known_after seen ≡ m

pub outcome_parts : (n : ℕ) (d : Declared) (prop : List ℕ) (m : Moment_after) → outcome_in n d prop ≡ Ok m → HasOutcome n d prop m
outcome_parts n d prop m e =
    let told : ℕ × ℕ → Result Moment_after PlanRefusal = λ x. Ok (known_after x) in
    let a = bind_ok (prop_in n d.words prop) (λ p. some_or (first_observer p 0 (declared_observations d)) (no_letter n prop) >>? told) m e in
    let b = bind_ok (some_or (first_observer a.0 0 (declared_observations d)) (no_letter n prop)) told m a.2 in
    record {
      letter = a.0;
      letter_is = a.1;
      seen = b.0;
      first = observed a.0 0 (declared_observations d) b.0 (given (first_observer a.0 0 (declared_observations d)) (no_letter n prop) b.0 b.1);
      moment_is = ok_is (known_after b.0) m b.2;
    }
