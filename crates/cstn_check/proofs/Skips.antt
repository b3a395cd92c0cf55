-- Instances that change nothing may be left out.
use Rattle.std.proofs.Common.{ℕ, zero, suc, ◌≡◌, inl, inr, ◌<◌, ◌≤◌, Bool, false, List, [], ◌∷◌, arith, refl, sym, ap, ◌∙◌}
use Rattle.std.specs.List.{filter}
use Rattle.std.proofs.lemmas.Bool.{cases_Bool, cases_lt, cond-true, cond-false}
use Rattle.cstn_net.specs.Networks.{Network}
use Rattle.cstn_rules.specs.Derivations.{Entry as TheEntry}
use Rattle.cstn_check.specs.Growth.{Instance, step, tried, waits_below}
use Rattle.cstn_check.specs.Growth.Instance.{wait_at}
use Rattle.cstn_check.proofs.Lists.{Extends, extends_itself, extends_through}
use Rattle.cstn_check.proofs.Grows.{Each, step_extends}
use Rattle.cstn_check.proofs.Sequences.{tried_append}

-- the instance changes nothing
abbrev pub IsIdle : Network → List TheEntry → Instance → Type 0
IsIdle net L i = step net L i ≡ L

-- instances that are idle in every list which goes on from this one may be left out
pub tried_without : (net : Network) (keep : Instance → Bool) (is : List Instance) (L : List TheEntry) →
    ((G : List TheEntry) → Extends L G → Each (λ i. keep i ≡ false → IsIdle net G i) is) →
    tried net L (filter keep is) ≡ tried net L is
tried_without net keep [] L idle = refl
tried_without net keep (i ∷ is) L idle =
    let rest : tried net (step net L i) (filter keep is) ≡ tried net (step net L i) is =
    tried_without net keep is (step net L i) (λ G more. (idle G (extends_through L (step net L i) G (step_extends net L i) more)).1) in
    elim (cases_Bool (keep i)) [
      | inl kept ↦ ap (tried net L) (cond-true (keep i) (i ∷ filter keep is) (filter keep is) kept) ∙ rest
      | inr left ↦
          ap (tried net L) (cond-false (keep i) (i ∷ filter keep is) (filter keep is) left)
          ∙ ap (λ l. tried net l (filter keep is)) (sym ((idle L (extends_itself L)).0 left)) ∙ rest
    ]

-- the waits of the entry at j with the places from i up to r may be left out where they are idle
pub waits_passed : (net : Network) (L M : List TheEntry) (j i r : ℕ) → i ≤ r → M ≡ tried net L (waits_below i j) →
    ((k : ℕ) → i ≤ k → k < r → IsIdle net M (wait_at k j) × IsIdle net M (wait_at j k)) → M ≡ tried net L (waits_below r j)
waits_passed net L M j i zero upto is idle = let e : i ≡ 0 = omega arith in is ∙ ap (λ k. tried net L (waits_below k j)) e
waits_passed net L M j i (suc r) upto is idle = elim (cases_lt r i) [
  | inl last ↦ let e : i ≡ suc r = omega arith in is ∙ ap (λ k. tried net L (waits_below k j)) e
  | inr before ↦
      let so_far = waits_passed net L M j i r before is (λ k low high. idle k low (omega arith)) in
      let both = idle r before (omega arith) in
      sym (tried_append net (waits_below r j) (wait_at r j ∷ (wait_at j r ∷ [])) L
      ∙ ap (λ l. step net (step net l (wait_at r j)) (wait_at j r)) (sym so_far)
      ∙ ap (λ l. step net l (wait_at j r)) both.0 ∙ both.1)
]
