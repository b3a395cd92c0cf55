-- The live entries at the end of growth are closed.
use Rattle.std.proofs.Common.{ℕ, zero, suc, ◌≡◌, inl, inr, ◌<◌, ◌≤◌, true, false, ◌||◌, List, [], ◌∷◌, length, get_or, map, Some, arith, refl, sym, subst, ap, ◌∙◌}
use Rattle.std.specs.Prelude.{pos, slice_get}
use Rattle.std.specs.List.{Contains}
use Rattle.std.proofs.lemmas.Bool.{cases_lt, or_left, or_right, or_parts, false≢true, and_from}
use Rattle.std.proofs.lemmas.List.Folds.{list_any-append}
use Rattle.std.proofs.lemmas.Option.{slice_get_within}
use Rattle.cstn_label.specs.Labels.{empty}
use Rattle.cstn_net.specs.Networks.{Network, IsNetwork, Constraint, count}
use Rattle.cstn_label.specs.Bounds.{Bound}
use Rattle.cstn_rules.specs.Rules.{Refutes, IsBase, IsChain, IsWait}
use Rattle.cstn_rules.specs.Derivations.{Entry}
use Rattle.cstn_rules.specs.declared.entries.Why.TheVariants.{Base}
use Rattle.cstn_rules.specs.Closed.{IsCovered, IsClosed}
use Rattle.cstn_check.specs.Kept.{AllGood, MarksObserved}
use Rattle.cstn_rules.specs.Tests.{refutes, chain_of, wait_of}
use Rattle.cstn_label.specs.Tests.{dominates}
use Rattle.cstn_check.specs.Growth.{is_covered, is_live, is_refuted, of_one, of_two, conclusion, waits_below, grown, live_bounds}
use Rattle.cstn_log.specs.Entries.{bases}
use Rattle.cstn_check.proofs.Decided.{HasLetters, chain_gives, wait_gives, refutes_true}
use Rattle.cstn_check.specs.Growth.Instance.{chain_at, wait_at}
use Rattle.cstn_check.proofs.Lists.{covered_kept, itself_true, live_over, live_listed, listed_live}
use Rattle.cstn_check.proofs.Grows.{Has, has_left, has_right, grown_extends, all_spent}
use Rattle.cstn_check.proofs.GoodLemmas.{good_at, good_small, grown_good}
use Rattle.cstn_label.specs.OnLetters.{IsOnLetters}

pub has_chain : (cs : List Constraint) (c : Constraint) (k j : ℕ) → k < length cs → get_or cs k c ≡ c →
    Has (map (λ d. chain_at d j) cs) (chain_at c j)
has_chain [] c k j h e = absurd (omega arith)
has_chain (x ∷ xs) c zero j h e = inl (ap (λ d. chain_at d j) e)
has_chain (x ∷ xs) c (suc k) j h e = inr (has_chain xs c k j (omega arith) e)

pub has_waits : (n i j : ℕ) → i < n → Has (waits_below n j) (wait_at i j) × Has (waits_below n j) (wait_at j i)
has_waits zero i j h = absurd (omega arith)
has_waits (suc n) i j h = elim (cases_lt i n) [
  | inl below ↦
      let both = has_waits n i j below in (
        has_left (waits_below n j) (wait_at n j ∷ (wait_at j n ∷ [])) (wait_at i j) both.0,
        has_left (waits_below n j) (wait_at n j ∷ (wait_at j n ∷ [])) (wait_at j i) both.1,
      )
  | inr last ↦
      let e : n ≡ i = omega arith in (
        has_right (waits_below n j) (wait_at n j ∷ (wait_at j n ∷ [])) (wait_at i j) (inl (ap (λ k. wait_at k j) e)),
        has_right (waits_below n j) (wait_at n j ∷ (wait_at j n ∷ [])) (wait_at j i) (inr (inl (ap (λ k. wait_at j k) e))),
      )
]

pub bases_cover : (n x : ℕ) → x < n → is_covered (bases n) (record { node = x; least = pos 0; label = empty }) ≡ true
bases_cover zero x h = absurd (omega arith)
bases_cover (suc n) x h = elim (cases_lt x n) [
  | inl below ↦ covered_kept (bases n) (bases (suc n)) (record { node = x; least = pos 0; label = empty })
      (record { more = _; is = refl }) (bases_cover n x below)
  | inr last ↦
      let e : n ≡ x = omega arith in
      let r : Bound = record { node = n; least = pos 0; label = empty } in
      subst (λ k. is_covered (bases (suc n)) (record { node = k; least = pos 0; label = empty }) ≡ true) e
      (list_any-append (λ y. dominates y.bound r) (bases n) (record { bound = r; why = Base } ∷ [])
      ∙ or_right (is_covered (bases n) r) (dominates r r || false) (ap (λ b. b || false) (itself_true r)))
]

module _ (net : Network) (start : List Entry) (n : ℕ) (wf : IsNetwork net) (letters : HasLetters net) (good_start : AllGood net start)
    (based : (x : ℕ) → x < count net → is_covered start (record { node = x; least = pos 0; label = empty }) ≡ true)
    (done : length (grown net start n) ≤ n) (on : is_refuted net (grown net start n) ≡ false) where
  G : List Entry
  G = grown net start n

  good : AllGood net (grown net start n)
  good = grown_good net start n wf good_start

  small : (k : ℕ) (e : Entry) → slice_get (grown net start n) k ≡ Some e → IsOnLetters e.bound.label
  small k e there = good_small net e.bound letters (good_at net (grown net start n) k e good there)

  -- what is covered is covered by a live bound
  covered : (r : Bound) → is_covered (grown net start n) r ≡ true →
      IsCovered (live_bounds (grown net start n)) r
  covered r h =
      let l = live_over (grown net start n) r small h in
      record {
        by = l.entry.bound;
        in_list = live_listed (grown net start n) l.place l.entry l.there l.live;
        dominates = l.dominates;
      }

  base_covered : (r : Bound) → IsBase net r → IsCovered (live_bounds (grown net start n)) r
  base_covered r b =
      let first = based r.node b.node in
      let kept = covered_kept start (grown net start n) (record { node = r.node; least = pos 0; label = empty })
      (grown_extends net start 0 n (omega arith)) first in
      subst (λ x. IsCovered (live_bounds (grown net start n)) x) (sym b.gives)
      (covered (record { node = r.node; least = pos 0; label = empty }) kept)

  chain_covered : (c : Constraint) (b r : Bound) → Contains net.constraints c →
      Contains (live_bounds (grown net start n)) b → IsChain net c b r →
      IsCovered (live_bounds (grown net start n)) r
  chain_covered c b r has in_list chain =
      let at = listed_live (grown net start n) b in_list in
      let here = slice_get_within (grown net start n) at.place at.entry at.there in
      let chain_there = subst (λ x. IsChain net c x r) (sym at.bound) chain in
      let gives : conclusion net (grown net start n) (chain_at c at.place) ≡ Some r =
      ap (of_one (chain_of net c)) at.there ∙ chain_gives net c at.entry.bound r chain_there in
      let spent = all_spent net start n at.place (chain_at c at.place) done on here
      (has_left (map (λ d. chain_at d at.place) net.constraints) (waits_below (suc at.place) at.place) (chain_at c at.place)
      (has_chain net.constraints c has.0 at.place has.1 has.2))
      (λ M h. h) in
      covered r (spent r gives at.live)

  wait_covered : (p : ℕ) (seen b r : Bound) → Contains (live_bounds (grown net start n)) seen →
      Contains (live_bounds (grown net start n)) b → IsWait net p seen b r →
      IsCovered (live_bounds (grown net start n)) r
  wait_covered p seen b r in_seen in_b wait =
      let i = listed_live (grown net start n) seen in_seen in
      let j = listed_live (grown net start n) b in_b in
      let here_i = slice_get_within (grown net start n) i.place i.entry i.there in
      let here_j = slice_get_within (grown net start n) j.place j.entry j.there in
      let wait_i = subst (λ x. IsWait net p x b r) (sym i.bound) wait in
      let wait_there = subst (λ x. IsWait net p i.entry.bound x r) (sym j.bound) wait_i in
      let gives : conclusion net (grown net start n) (wait_at i.place j.place) ≡ Some r =
      ap (λ o. of_two (wait_of net) o (slice_get (grown net start n) j.place)) i.there
      ∙ ap (λ o. of_two (wait_of net) (Some i.entry) o) j.there
      ∙ wait_gives net p i.entry.bound j.entry.bound r wait_there in
      let live = and_from (is_live (grown net start n) i.place) (is_live (grown net start n) j.place) i.live j.live in
      elim (cases_lt j.place i.place) [
        | inr upto ↦
            let spent = all_spent net start n j.place (wait_at i.place j.place) done on here_j
            (has_right (map (λ d. chain_at d j.place) net.constraints) (waits_below (suc j.place) j.place) (wait_at i.place j.place)
            (has_waits (suc j.place) i.place j.place (omega arith)).0)
            (λ M h. (omega arith, h)) in
            covered r (spent r gives live)
        | inl below ↦
            let spent = all_spent net start n i.place (wait_at i.place j.place) done on here_i
            (has_right (map (λ d. chain_at d i.place) net.constraints) (waits_below (suc i.place) i.place) (wait_at i.place j.place)
            (has_waits (suc i.place) j.place i.place (omega arith)).1)
            (λ M h. (h, omega arith)) in
            covered r (spent r gives live)
      ]

  no_entry_refutes : (k : ℕ) (L : List Entry) (e : Entry) → is_refuted net L ≡ false → slice_get L k ≡ Some e → Refutes net e.bound → ⊥
  no_entry_refutes k [] e h there r = cc
  no_entry_refutes zero (x ∷ xs) e h there r =
      let same : e ≡ x = cc in
      let t = refutes_true net x.bound (subst (λ y. Refutes net y.bound) same r) in
      false≢true (sym h ∙ or_left (refutes net x.bound) (is_refuted net xs) t)
  no_entry_refutes (suc k) (x ∷ xs) e h there r =
      no_entry_refutes k xs e (or_parts (refutes net x.bound) (is_refuted net xs) h).1 there r

  pub closes_from : IsClosed net (live_bounds (grown net start n))
  closes_from = record {
    observed = λ b has.
        let at = listed_live (grown net start n) b has in
        let g = good_at net (grown net start n) at.place at.entry good at.there in
        (subst (λ x. MarksObserved net x) at.bound g).observed;
    nodes = λ b has.
        let at = listed_live (grown net start n) b has in
        let g = good_at net (grown net start n) at.place at.entry good at.there in
        (subst (λ x. MarksObserved net x) at.bound g).node;
    base = base_covered;
    chain = chain_covered;
    wait = wait_covered;
    none_refutes = λ b has r.
        let at = listed_live (grown net start n) b has in
        no_entry_refutes at.place (grown net start n) at.entry on at.there
        (subst (λ x. Refutes net x) (sym at.bound) r);
  }
