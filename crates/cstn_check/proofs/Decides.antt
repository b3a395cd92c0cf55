-- The log decides whether there is a strategy.
use Rattle.std.proofs.Common.{ℕ, suc, ◌≡◌, ◌+◌, ◌-◌, inl, inr, ◌<◌, ◌≤◌, true, false, ◌&&◌, List, [], ◌∷◌, length, Some, ltb, arith, refl, subst}
use Rattle.std.specs.Prelude.{pos, int_lt, slice_get, ◌↔◌}
use Rattle.std.proofs.lemmas.Bool.{cases_Bool, cases_lt, false≢true, or_cases, and_parts, ltb-true, not-true, not_from_false, both_ways}
use Rattle.std.proofs.lemmas.Option.{slice_get_within}
use Rattle.cstn_facts.proofs.Integers.{int_lt-true}
use Rattle.cstn_label.specs.Marks.{is_plain}
use Rattle.cstn_label.specs.Labels.{Scenario}
use Rattle.cstn_net.specs.Networks.{Network, IsNetwork, IsWellFormed, count, limit}
use Rattle.cstn_net.specs.Strategies.{Table, IsStrategy, IsConsistent, IsLeast}
use Rattle.cstn_label.specs.Bounds.{Bound}
use Rattle.cstn_rules.specs.Rules.{Refutes}
use Rattle.cstn_net.specs.Bounds.{HoldsIn}
use Rattle.cstn_rules.proofs.Sound.{refuting_fails}
use Rattle.cstn_rules.specs.Derivations.{Entry, IsDerivation}
use Rattle.cstn_rules.proofs.Derived.{each_holds}
use Rattle.cstn_rules.specs.Closed.{IsClosed}
use Rattle.cstn_check.specs.Kept.{IsKeptList}
use Rattle.cstn_check.specs.Turns.{IsRefutedLast, LastRefutes}
use Rattle.cstn_plan.specs.Asked.{AllSound, asked}
use Rattle.cstn_plan.proofs.Strategies.{asked_strategy, asked_least}
use Rattle.cstn_rules.specs.Tests.{refutes}
use Rattle.cstn_check.specs.Verdicts.{is_consistent}
use Rattle.cstn_check.specs.Growth.{is_refuted, live_bounds, log_of, load_of, grown, grow, most_entries}
use Rattle.cstn_log.specs.Entries.{bases}
use Rattle.cstn_label.proofs.PlainLabels.{true_plain}
use Rattle.cstn_check.proofs.Decided.{HasLetters}
use Rattle.cstn_check.proofs.Lists.{listed_live}
use Rattle.cstn_check.proofs.GoodLemmas.{good_at, good_small}
use Rattle.cstn_check.proofs.Derives.{grown_derived}
use Rattle.cstn_check.proofs.Closes.{closes_from}
use Rattle.cstn_check.proofs.Bounded.{bases_kept, grown_kept, grown_short}
use Rattle.cstn_check.proofs.Last.{grown_last, only_refuted_last, last_refuted}
use Rattle.cstn_check.proofs.Starts.{GoesOn, bases_go_on}
use Rattle.cstn_label.specs.OnLetters.{IsOnLetters}
use Rattle.cstn_check.specs.Relations.{AreOnLetters}

pub true_refutes : (net : Network) (b : Bound) → IsOnLetters b.label → refutes net b ≡ true → Refutes net b
true_refutes net b small h =
    let one = and_parts (ltb b.node (count net)) (is_plain b.label && int_lt (pos (limit net b.node)) b.least) h in
    let two = and_parts (is_plain b.label) (int_lt (pos (limit net b.node)) b.least) one.1 in
    record {
      node = ltb-true b.node (count net) one.0;
      plain = true_plain b.label small two.0;
      above = int_lt-true (pos (limit net b.node)) b.least two.1;
    }

pub record RefutedAt (net : Network) (L : List Entry) : Type 0 where
  pub place : ℕ
  pub entry : Entry
  pub there : slice_get L place ≡ Some entry
  pub refutes : Refutes net entry.bound

pub refuted_at : (net : Network) (L : List Entry) → AreOnLetters L → is_refuted net L ≡ true → RefutedAt net L
refuted_at net [] small h = absurd (false≢true h)
refuted_at net (x ∷ xs) small h = elim (or_cases (refutes net x.bound) (is_refuted net xs) h) [
  | inl head ↦ record { place = 0; entry = x; there = refl; refutes = true_refutes net x.bound (small 0 x refl) head }
  | inr tail ↦
      let r = refuted_at net xs (λ k e there. small (suc k) e there) tail in
      record { place = suc r.place; entry = r.entry; there = r.there; refutes = r.refutes }
]

-- where an entry refutes and none but the last may, the last does
pub refuted_by_last : (net : Network) (L : List Entry) → AreOnLetters L → IsRefutedLast net L → is_refuted net L ≡ true → LastRefutes net L
refuted_by_last net L small last over =
    let r = refuted_at net L small over in
    elim (cases_lt (r.place + 1) (length L)) [
      | inl before ↦ absurd (last.before r.place r.entry r.there before r.refutes)
      | inr past ↦
          let inside = slice_get_within L r.place r.entry r.there in
          let place : r.place ≡ length L - 1 = omega arith in
          record {
            last = r.entry;
            is_last = subst (λ k. slice_get L k ≡ Some r.entry) place r.there;
            refutes = r.refutes;
          }
    ]

-- where no entry but perhaps the last refutes, and the last doesn't, none does
pub unrefuted : (net : Network) (L : List Entry) (e : Entry) → AreOnLetters L → IsRefutedLast net L → slice_get L (length L - 1) ≡ Some e →
    ¬ Refutes net e.bound → is_refuted net L ≡ false
unrefuted net L e small last there not = elim (cases_Bool (is_refuted net L)) [
  | inr on ↦ on
  | inl over ↦
      let l = refuted_by_last net L small last over in
      let at = l.is_last in
      let same : l.last ≡ e = cc in
      absurd (not (subst (λ (x : Entry). Refutes net x.bound) same l.refutes))
]

stands_false : (net : Network) (b : Bound) → IsOnLetters b.label → ¬ Refutes net b → refutes net b ≡ false
stands_false net b small not = elim (cases_Bool (refutes net b)) [
  | inl h ↦ absurd (not (true_refutes net b small h))
  | inr h ↦ h
]

-- after growth again no entry but perhaps the last refutes
pub grown_refuted_last : (net : Network) (L : List Entry) (n : ℕ) → AreOnLetters L → IsRefutedLast net L → IsRefutedLast net (grown net L n)
grown_refuted_last net L n small last =
    only_refuted_last net (grown net L n)
    (grown_last net L n (λ k e there before. stands_false net e.bound (small k e there) (last.before k e there (omega arith))))

pub kept_small : (net : Network) (L : List Entry) → HasLetters net → IsKeptList net L → AreOnLetters L
kept_small net L letters kept k e there = good_small net e.bound letters (good_at net L k e kept.good there)

-- ---- the list that is grown from one that growth can go on from

module _ (net : Network) (start : List Entry) (wf : IsNetwork net) (letters : HasLetters net) (on : GoesOn net start) where
  grown_small : AreOnLetters (grow net start)
  grown_small = kept_small net (grow net start) letters (grown_kept net wf letters start (length start + most_entries net) on.kept)

  pub grown_derivation : IsDerivation net (grow net start)
  grown_derivation = grown_derived net wf letters start (length start + most_entries net) on.kept.good on.derivation

  -- no entry but perhaps the last refutes
  pub grown_by_last : IsRefutedLast net (grow net start)
  grown_by_last = grown_refuted_last net start (length start + most_entries net) (kept_small net start letters on.kept) on.last

  pub grown_last_refutes : is_refuted net (grow net start) ≡ true → LastRefutes net (grow net start)
  grown_last_refutes = refuted_by_last net (grow net start) grown_small grown_by_last

  -- each entry of it holds in every strategy
  grown_sound : (table : Table) → IsStrategy net table → (k : ℕ) (e : Entry) → slice_get (grow net start) k ≡ Some e →
      HoldsIn net table e.bound
  grown_sound table strategy k e there = each_holds net table (grow net start) wf strategy grown_derivation k e there

  pub grown_closed : is_refuted net (grow net start) ≡ false → IsClosed net (live_bounds (grow net start))
  grown_closed stands = closes_from net start (length start + most_entries net) wf letters on.kept.good on.kept.based
      (let s = grown_short net wf letters start (length start + most_entries net) on.kept in omega arith) stands

  pub grown_live_sound : AllSound net (live_bounds (grow net start))
  grown_live_sound table strategy b has =
      let at = listed_live (grow net start) b has in
      subst (λ x. HoldsIn net table x) at.bound (grown_sound table strategy at.place at.entry at.there)

  consistent_on : IsConsistent net → is_refuted net (grow net start) ≡ false
  consistent_on c = elim (cases_Bool (is_refuted net (grow net start))) [
    | inr stands ↦ stands
    | inl over ↦
        let l = grown_last_refutes over in
        absurd (refuting_fails net c.0 l.last.bound c.1 l.refutes (grown_sound c.0 c.1 (length (grow net start) - 1) l.last l.is_last))
  ]

  pub grown_decides : IsConsistent net ↔ (is_refuted net (grow net start) ≡ false)
  grown_decides = (
    consistent_on,
    λ stands. (asked net (live_bounds (grow net start)), asked_strategy net (live_bounds (grow net start)) wf (grown_closed stands)),
  )

  pub grown_least : IsConsistent net →
      (table : Table) × IsStrategy net table × ((s : Scenario) (x : ℕ) → x < count net → IsLeast net s x (table s x))
  grown_least c =
      let closed = grown_closed (consistent_on c) in (
        asked net (live_bounds (grow net start)),
        asked_strategy net (live_bounds (grow net start)) wf closed,
        asked_least net (live_bounds (grow net start)) wf closed grown_live_sound,
      )

-- ---- the log, which is grown from the base bounds

pub log_decides : (net : Network) → IsNetwork net → HasLetters net → IsConsistent net ↔ (is_refuted net (log_of net) ≡ false)
log_decides net wf letters = grown_decides net (bases (count net)) wf letters (bases_go_on net wf letters)

pub decided : (net : Network) → IsWellFormed net → (is_consistent net ≡ true) ↔ IsConsistent net
decided net good =
    let decides = log_decides net good.network good.letters in
    (λ t. decides.1 (not-true (is_refuted net (log_of net)) t), λ consistent. not_from_false (is_refuted net (log_of net)) (decides.0 consistent))

pub not_consistent : (net : Network) → IsWellFormed net → is_consistent net ≡ false → IsConsistent net → ⊥
not_consistent net good f consistent = both_ways (is_consistent net) f ((decided net good).1 consistent)

pub least_exists : (net : Network) → IsNetwork net → HasLetters net → IsConsistent net →
    (table : Table) × IsStrategy net table × ((s : Scenario) (x : ℕ) → x < count net → IsLeast net s x (table s x))
least_exists net wf letters = grown_least net (bases (count net)) wf letters (bases_go_on net wf letters)

module _ (net : Network) (wf : IsNetwork net) (letters : HasLetters net) where
  pub log_derived : IsDerivation net (log_of net)
  log_derived = grown_derivation net (bases (count net)) wf letters (bases_go_on net wf letters)

  log_short : length (log_of net) ≤ most_entries net
  log_short = grown_short net wf letters (bases (count net)) (length (bases (count net)) + most_entries net) (bases_kept net wf letters)

  pub log_closed : is_refuted net (log_of net) ≡ false → IsClosed net (live_bounds (log_of net))
  log_closed = grown_closed net (bases (count net)) wf letters (bases_go_on net wf letters)

  pub log_sound : AllSound net (live_bounds (log_of net))
  log_sound = grown_live_sound net (bases (count net)) wf letters (bases_go_on net wf letters)

  pub log_last_refutes : is_refuted net (log_of net) ≡ true → LastRefutes net (log_of net)
  log_last_refutes = grown_last_refutes net (bases (count net)) wf letters (bases_go_on net wf letters)

  pub log_last : (e : Entry) → slice_get (log_of net) (length (log_of net) - 1) ≡ Some e →
      Refutes net e.bound ↔ (is_refuted net (log_of net) ≡ true)
  log_last e there = (
    λ r. last_refuted net (log_of net) (record { last = e; is_last = there; refutes = r }),
    λ over.
        let l = log_last_refutes over in
        let at = l.is_last in
        let same : l.last ≡ e = cc in
        subst (λ (x : Entry). Refutes net x.bound) same l.refutes,
  )

pub load_bounded : (net : Network) → IsWellFormed net → load_of net ≤ most_entries net
load_bounded net good = log_short net good.network good.letters
