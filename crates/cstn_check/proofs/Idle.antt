-- Constraints that gave no entry make no difference to growth.
use Rattle.std.proofs.Common.{ℕ, zero, suc, ◌≡◌, Bool, true, false, not, ◌&&◌, ◌||◌, eqb, inl, inr, List, [], ◌∷◌, ◌++◌, Option, Some, None, refl, sym, subst, ap, ◌∙◌}
use Rattle.std.specs.List.{filter}
use Rattle.std.proofs.lemmas.Bool.{cases_Bool, both_ways, or_left, or_right, cond-true, cond-false, eq-eqb, eqb-true}
use Rattle.std.proofs.lemmas.List.Folds.{list_any-append}
use Rattle.cstn_net.specs.Networks.{Network, Constraint, count}
use Rattle.cstn_label.specs.Bounds.{Bound}
use Rattle.cstn_rules.specs.Derivations.{Entry}
use Rattle.cstn_log.specs.Entries.{bases}
use Rattle.cstn_check.specs.Growth.{Instance, why_of, is_covered, is_refuted, premises_live, conclusion, with_conclusion, step, tried, chains_at, waits_below, turn, grown, log_of}
use Rattle.cstn_check.specs.Growth.Instance.{chain_at, wait_at}
use Rattle.cstn_check.specs.Givers.{is_by, gave, with_some, network_without}
use Rattle.cstn_check.proofs.Lists.{Extends, none_before}
use Rattle.cstn_check.proofs.Grows.{tried_extends}
use Rattle.cstn_check.proofs.Sequences.{tried_append}

-- an instance of chain whose constraint gave no entry of the list that it leaves has left the list as it was
module _ (c : Constraint) (j : ℕ) where
  given : (L : List Entry) (r : Bound) → gave c.id (L ++ record { bound = r; why = why_of (chain_at c j) } ∷ []) ≡ true
  given L r =
      list_any-append (λ e. is_by c.id e.why) L (record { bound = r; why = why_of (chain_at c j) } ∷ [])
      ∙ or_right (gave c.id L) (eqb c.id c.id || false) (or_left (eqb c.id c.id) false (eq-eqb c.id c.id refl))

  with_idle : (L : List Entry) (o : Option Bound) → gave c.id (with_conclusion L (chain_at c j) o) ≡ false → with_conclusion L (chain_at c j) o ≡ L
  with_idle L None none = refl
  with_idle L (Some r) none = elim (cases_Bool (premises_live L (chain_at c j) && not (is_covered L r))) [
    | inl new ↦ absurd (both_ways (gave c.id (with_conclusion L (chain_at c j) (Some r))) none (ap (gave c.id) (cond-true _ _ _ new) ∙ given L r))
    | inr old ↦ cond-false _ _ _ old
  ]

  pub step_idle : (net : Network) (L : List Entry) → gave c.id (step net L (chain_at c j)) ≡ false → step net L (chain_at c j) ≡ L
  unfolding step
  step_idle net L none = elim (cases_Bool (is_refuted net L)) [
    | inl over ↦ cond-true _ _ _ over
    | inr on ↦
        let same = cond-false (is_refuted net L) L (with_conclusion L (chain_at c j) (conclusion net L (chain_at c j))) on in
        same ∙ with_idle L (conclusion net L (chain_at c j)) (sym (ap (gave c.id) same) ∙ none)
  ]

module _ (net : Network) (test : ℕ → Bool) where
  -- the constraints that fail the test gave no entry of the list
  IsIdle : List Entry → Type 0
  IsIdle L = (id : ℕ) → test id ≡ false → gave id L ≡ false

  idle_before : (L G : List Entry) → Extends L G → IsIdle G → IsIdle L
  unfolding IsIdle
  idle_before L G ext idle id fails = none_before (λ e. is_by id e.why) L G ext (idle id fails)

  -- what chain gives by the constraints depends on the others of the network alone
  step_same : (L : List Entry) (i : Instance) → step (with_some net test) L i ≡ step net L i
  unfolding step
  step_same L (chain_at c j) = refl
  step_same L (wait_at i j) = refl

  tried_same : (is : List Instance) (L : List Entry) → tried (with_some net test) L is ≡ tried net L is
  tried_same [] L = refl
  tried_same (i ∷ is) L = ap (λ l. tried (with_some net test) l is) (step_same L i) ∙ tried_same is (step net L i)

  chains_same : (cs : List Constraint) (j : ℕ) (L : List Entry) → IsIdle (tried net L (chains_at cs j)) →
      tried net L (chains_at (filter (λ c. test c.id) cs) j) ≡ tried net L (chains_at cs j)
  unfolding IsIdle
  chains_same [] j L idle = refl
  chains_same (c ∷ cs) j L idle = elim (cases_Bool (test c.id)) [
    | inl passes ↦ rw passes (chains_same cs j (step net L (chain_at c j)) idle)
    | inr fails ↦
        let after = step net L (chain_at c j) in
        let same = step_idle c j net L (idle_before after (tried net after (chains_at cs j)) (tried_extends net (chains_at cs j) after) idle c.id fails) in
        rw fails (ap (λ l. tried net l (chains_at (filter (λ c. test c.id) cs) j)) (sym same) ∙ chains_same cs j after idle)
  ]

  turn_same : (j : ℕ) (L : List Entry) → IsIdle (tried net L (turn net j)) → tried (with_some net test) L (turn (with_some net test) j) ≡ tried net L (turn net j)
  turn_same j L idle =
      let chains = chains_at net.constraints j in
      let fewer = chains_at (filter (λ c. test c.id) net.constraints) j in
      let waits = waits_below (suc j) j in
      let whole = tried_append net chains waits L in
      let first = chains_same net.constraints j L
      (idle_before (tried net L chains) (tried net L (chains ++ waits)) (subst (Extends (tried net L chains)) (sym whole) (tried_extends net waits (tried net L chains))) idle) in
      tried_same (fewer ++ waits) L ∙ tried_append net fewer waits L ∙ ap (λ l. tried net l waits) first ∙ sym whole

  grown_same : (L : List Entry) (n : ℕ) → IsIdle (grown net L n) → grown (with_some net test) L n ≡ grown net L n
  grown_same L zero idle = refl
  grown_same L (suc n) idle =
      let before = idle_before (grown net L n) (grown net L (suc n)) (tried_extends net (turn net n) (grown net L n)) idle in
      ap (λ l. tried (with_some net test) l (turn (with_some net test) n)) (grown_same L n before) ∙ turn_same n (grown net L n) idle

  pub log_same : ((id : ℕ) → test id ≡ false → gave id (log_of net) ≡ false) → log_of (with_some net test) ≡ log_of net
  unfolding IsIdle
  log_same idle = grown_same (bases (count net)) _ idle

-- where a constraint gave no entry, none did that another id leaves out
pub none_but : (id : ℕ) (list : List Entry) → gave id list ≡ false → (i : ℕ) → not (eqb i id) ≡ false → gave i list ≡ false
none_but id list none i fails = by (eqb i id) refl fails
  where
    by : (b : Bool) → eqb i id ≡ b → not b ≡ false → gave i list ≡ false
    by true same fails = subst (λ k. gave k list ≡ false) (sym (eqb-true i id same)) none
    by false other fails = absurd (both_ways true fails refl)

-- a constraint that gave no entry can be taken out
pub log_without : (net : Network) (id : ℕ) → gave id (log_of net) ≡ false → log_of (network_without id net) ≡ log_of net
log_without net id none = log_same net (λ i. not (eqb i id)) (none_but id (log_of net) none)
