-- Derivations by their steps.
use Rattle.std.proofs.Common.{ℕ, ◌≡◌, ◌+◌, ◌-◌, ◌↔◌, List, Some, length, arith, inl, inr, subst}
use Rattle.std.specs.Prelude.{slice_get}
use Rattle.std.proofs.lemmas.Bool.{cases_lt}
use Rattle.std.proofs.lemmas.Option.{slice_get_within}
use Rattle.cstn_net.specs.Networks.{Network}
use Rattle.cstn_rules.specs.Rules.{Refutes}
use Rattle.cstn_rules.specs.Derivations.{Entry, IsDerivation, IsRefutation}
use Rattle.cstn_replay.specs.Wrong.{FollowsByItsRule, AreRightBefore, IsFirstWrong}

-- where each step follows, the steps are a derivation
pub right_all : (net : Network) (steps : List Entry) → AreRightBefore net steps (length steps) → IsDerivation net steps
right_all net steps right k e there = right k (slice_get_within steps k e there) e there

pub derivation_right : (net : Network) (steps : List Entry) (k : ℕ) → IsDerivation net steps → AreRightBefore net steps k
derivation_right net steps k derivation i h e there = derivation i e there

-- no derivation has a wrong step
pub none_wrong : (net : Network) (steps : List Entry) (k : ℕ) → IsFirstWrong net steps k → IsDerivation net steps → ⊥
none_wrong net steps k wrong derivation = wrong.wrong (λ e there. derivation k e there)

-- there is one first wrong step
pub one_wrong : (net : Network) (steps : List Entry) (k j : ℕ) → IsFirstWrong net steps k → IsFirstWrong net steps j → k ≡ j
one_wrong net steps k j one other = elim (cases_lt k j) [
  | inl before ↦ absurd (one.wrong (other.before k before))
  | inr past ↦ elim (cases_lt j k) [
    | inl after ↦ absurd (other.wrong (one.before j after))
    | inr here ↦ omega arith
  ]
]

-- a derivation is a refutation exactly where its last bound refutes the network
pub last_refutes : (net : Network) (steps : List Entry) (last : Entry) → IsDerivation net steps →
    slice_get steps (length steps - 1) ≡ Some last → Refutes net last.bound ↔ IsRefutation net steps
last_refutes net steps last derivation there = (
  λ r. record { derivation = derivation; last = last; is_last = there; refutes = r },
  λ s.
      let other = s.is_last in
      let same : s.last ≡ last = cc in
      subst (λ e. Refutes net e.bound) same s.refutes,
)

pub none_right : (net : Network) (steps : List Entry) → AreRightBefore net steps 0
none_right net steps i h = absurd (omega arith)

pub one_more : (net : Network) (steps : List Entry) (k : ℕ) → AreRightBefore net steps k → FollowsByItsRule net steps k →
    AreRightBefore net steps (k + 1)
one_more net steps k before here i h = elim (cases_lt i k) [
  | inl earlier ↦ before i earlier
  | inr past ↦ let same : k ≡ i = omega arith in subst (FollowsByItsRule net steps) same here
]
