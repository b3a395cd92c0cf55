-- Spent instances add nothing, and stay spent.
use Rattle.std.proofs.Common.{ℕ, zero, suc, ◌≡◌, inl, inr, ◌+◌, ◌<◌, ◌≤◌, Bool, true, false, not, cond, ◌&&◌, List, [], ◌∷◌, length, map, take, get_or, Option, Some, None, arith, refl, sym, subst, ap, ◌∙◌}
use Rattle.std.specs.List.{Contains}
use Rattle.std.proofs.lemmas.Bool.{cases_Bool, cases_lt, cond-true, cond-false}
use Rattle.std.proofs.lemmas.List.{length-map}
use Rattle.cstn_net.specs.declared.constraints.Constraint.{Constraint as DeclaredConstraint}
use Rattle.cstn_net.specs.Networks.{Network, Constraint, IsWellFormed}
use Rattle.cstn_net.specs.Read.{the_constraint}
use Rattle.cstn_label.specs.Bounds.{Bound}
use Rattle.cstn_rules.specs.Derivations.{Entry}
use Rattle.cstn_rules.specs.Read.{the_entry}
use Rattle.cstn_log.specs.Entries.{State, the_entries}
use Rattle.cstn_check.specs.Growth.{Instance, is_covered, is_refuted, premises_live, conclusion, with_conclusion, step, tried, waits_below, grow, most_entries}
use Rattle.cstn_check.specs.Growth.Instance.{chain_at, wait_at}
use Rattle.cstn_check.specs.Kept.{IsKeptList}
use Rattle.cstn_check.specs.Spent.{IsSpent, AreSpent, is_fresh, fresh_count}
use Rattle.cstn_check.specs.Turns.{IsOpen, HasBecome}
use Rattle.cstn_check.specs.Waits.{IsSpentWait}
use Rattle.cstn_check.proofs.Lists.{Extends}
use Rattle.cstn_check.proofs.Grows.{has_left, has_right, spent_kept, tried_extends, all_spent}
use Rattle.cstn_check.proofs.Closes.{has_chain, has_waits}
use Rattle.cstn_check.proofs.Ends.{all_turns}
use Rattle.cstn_check.proofs.Skips.{IsIdle, waits_passed}
use Rattle.cstn_check.proofs.TurnLemmas.{idle}

clash : (p c : Bool) → (p && not c) ≡ true → (p ≡ true → c ≡ true) → ⊥
clash true true h k = cc
clash true false h k = let e = k refl in cc
clash false c h k = cc

with_spent : (net : Network) (L : List Entry) (i : Instance) (o : Option Bound) → conclusion net L i ≡ o → IsSpent net L i → with_conclusion L i o ≡ L
with_spent net L i None e spent = refl
with_spent net L i (Some r) e spent = elim (cases_Bool (premises_live L i && not (is_covered L r))) [
  | inl new ↦ absurd (clash (premises_live L i) (is_covered L r) new (spent r e))
  | inr old ↦ cond-false _ _ _ old
]

-- a spent instance adds nothing
pub spent_idle : (net : Network) (L : List Entry) (i : Instance) → IsSpent net L i → IsIdle net L i
unfolding step
spent_idle net L i spent = elim (cases_Bool (is_refuted net L)) [
  | inl over ↦ cond-true _ _ _ over
  | inr on ↦ cond-false _ _ _ on ∙ with_spent net L i (conclusion net L i) refl spent
]

pub spent_on : (net : Network) (L G : List Entry) (fresh : List ℕ) (n : ℕ) → Extends L G → n ≤ length L → AreSpent net L fresh n → AreSpent net G fresh n
spent_on net L G fresh n ext front are = record {
  chains = λ c j has other low. spent_kept net L G (chain_at c j) ext (omega (arith, low, front)) (are.chains c j has other low);
  waits = λ i j low below. spent_kept net L G (wait_at i j) ext (omega (arith, low, front), omega (arith, below, front)) (are.waits i j low below);
}

-- spent instances stay spent when a log goes on
pub spent_after : (net : Network) (old new : State) (is : List Instance) (r : Bool) (fresh : List ℕ) (n : ℕ) → HasBecome net old new (tried net (the_entries old.entries) is) r → n ≤ length old.entries → AreSpent net (the_entries old.entries) fresh n → AreSpent net (the_entries new.entries) fresh n
spent_after net old new is r fresh n t front are =
    let L = the_entries old.entries in
    let ext : Extends L (the_entries new.entries) = subst (λ l. Extends L l) (sym t.entries) (tried_extends net is L) in
    spent_on net L (the_entries new.entries) fresh n ext (omega (arith, front, length-map old.entries the_entry)) are

-- on the first 0 entries there is nothing that has to be spent
pub none_spent : (net : Network) (L : List Entry) (fresh : List ℕ) → AreSpent net L fresh 0
none_spent net L fresh = record {
  chains = λ c j has other low. absurd (omega (arith, low));
  waits = λ i j low below. absurd (omega (arith, low));
}

pub chain_spent : (net : Network) (s : State) (fresh : List ℕ) (n j : ℕ) (c : Constraint) → IsOpen net s → AreSpent net (the_entries s.entries) fresh n → Contains net.constraints c → is_fresh fresh c.id ≡ false → j < n →
    HasBecome net s s (step net (the_entries s.entries) (chain_at c j)) false
chain_spent net s fresh n j c ready are has other low =
    idle net s (step net (the_entries s.entries) (chain_at c j)) ready (spent_idle net (the_entries s.entries) (chain_at c j) (are.chains c j has other low))

pub waits_spent : (net : Network) (s : State) (fresh : List ℕ) (n j : ℕ) → IsOpen net s → AreSpent net (the_entries s.entries) fresh n → j < n →
    HasBecome net s s (tried net (the_entries s.entries) (waits_below (j + 1) j)) false
waits_spent net s fresh n j ready are low =
    let L = the_entries s.entries in
    let same : L ≡ tried net L (waits_below (j + 1) j) = waits_passed net L L j 0 (j + 1) (omega arith) refl (λ k from upto. (
      spent_idle net L (wait_at k j) (are.waits k j (omega (arith, upto, low)) low),
      spent_idle net L (wait_at j k) (are.waits j k low (omega (arith, upto, low))),
    )) in
    idle net s (tried net L (waits_below (j + 1) j)) ready (sym same)

-- a turn's waits go on at the next place, where the waits of those between are spent
pub waits_to : (net : Network) (old new : State) (j i r : ℕ) → i ≤ r → ((k : ℕ) → i ≤ k → k < r → IsSpentWait net new k j × IsSpentWait net new j k) →
    HasBecome net old new (tried net (the_entries old.entries) (waits_below i j)) false →
    HasBecome net old new (tried net (the_entries old.entries) (waits_below r j)) false
waits_to net old new j i r upto spent t =
    let M = the_entries new.entries in
    let is = waits_passed net (the_entries old.entries) M j i r upto t.entries (λ k low high. (
      spent_idle net M (wait_at k j) (spent k low high).0,
      spent_idle net M (wait_at j k) (spent k low high).1,
    )) in
    record { entries = is; refuted_is = t.refuted_is ∙ ap (is_refuted net) (sym t.entries ∙ is); longer = t.longer }

-- once a list is grown, each instance is spent
pub grown_spent : (net : Network) (list : List Entry) (fresh : List ℕ) → IsWellFormed net → IsKeptList net list → is_refuted net (grow net list) ≡ false → AreSpent net (grow net list) fresh (length (grow net list))
grown_spent net list fresh good kept on =
    let n = length list + most_entries net in
    let done = all_turns net good.network good.letters list kept in
    record {
      chains = λ c j has other low.
          all_spent net list n j (chain_at c j) done on low
          (has_left (map (λ d. chain_at d j) net.constraints) (waits_below (suc j) j) (chain_at c j) (has_chain net.constraints c has.0 j has.1 has.2))
          (λ M h. h);
      waits = λ i j low below. elim (cases_lt j i) [
        | inl over ↦
            all_spent net list n i (wait_at i j) done on low
            (has_right (map (λ d. chain_at d i) net.constraints) (waits_below (suc i) i) (wait_at i j) (has_waits (suc i) j i (omega (arith, over))).1)
            (λ M h. (h, omega (arith, h, over)))
        | inr upto ↦
            all_spent net list n j (wait_at i j) done on below
            (has_right (map (λ d. chain_at d j) net.constraints) (waits_below (suc j) j) (wait_at i j) (has_waits (suc j) i j (omega (arith, upto))).0)
            (λ M h. (omega (arith, h, upto), h))
      ];
    }

-- ---- how many constraints are fresh

pub count_step : (fresh : List ℕ) (cs : List DeclaredConstraint) (k : ℕ) (c : DeclaredConstraint) → c ≡ get_or cs k c → k < length cs →
    fresh_count fresh (map the_constraint (take (k + 1) cs)) ≡ fresh_count fresh (map the_constraint (take k cs)) + cond (is_fresh fresh c.id) 1 0
count_step fresh [] k c is inside = absurd (omega (arith, inside))
count_step fresh (d ∷ cs) zero c is inside =
    let id : c.id ≡ d.id = ap (λ (y : DeclaredConstraint). y.id) is in
    rw id (omega arith)
count_step fresh (d ∷ cs) (suc k) c is inside =
    let e : suc k + 1 ≡ suc (k + 1) = omega arith in
    let rest = count_step fresh cs k c is (omega (arith, inside)) in
    rw e (omega (arith, rest))

pub count_upto : (fresh : List ℕ) (cs : List DeclaredConstraint) (a b : ℕ) → a ≤ b →
    fresh_count fresh (map the_constraint (take a cs)) ≤ fresh_count fresh (map the_constraint (take b cs))
count_upto fresh cs zero b upto = omega arith
count_upto fresh [] (suc a) zero upto = absurd (omega (arith, upto))
count_upto fresh [] (suc a) (suc b) upto = omega arith
count_upto fresh (c ∷ cs) (suc a) zero upto = absurd (omega (arith, upto))
count_upto fresh (c ∷ cs) (suc a) (suc b) upto = let rest = count_upto fresh cs a b (omega (arith, upto)) in omega (arith, rest)

pub count_whole : (fresh : List ℕ) (cs : List DeclaredConstraint) (k : ℕ) → fresh_count fresh (map the_constraint (take k cs)) ≤ fresh_count fresh (map the_constraint cs)
count_whole fresh cs zero = omega arith
count_whole fresh [] (suc k) = omega arith
count_whole fresh (c ∷ cs) (suc k) = let rest = count_whole fresh cs k in omega (arith, rest)
