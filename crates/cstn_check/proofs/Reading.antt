-- The tests on the entries of a log.
use Rattle.std.proofs.Common.{ℕ, zero, suc, ◌≡◌, ◌<◌, inl, inr, Bool, true, false, not, List, [], ◌∷◌, length, Some, arith, refl, sym, subst, ap, ◌∙◌}
use Rattle.std.specs.Prelude.{slice_get, IsTrue, ◌↔◌}
use Rattle.std.proofs.lemmas.Bool.{cases_Bool, false≢true}
use Rattle.cstn_label.specs.declared.bounds.Bound.{Bound}
use Rattle.cstn_label.specs.Bounds.{Dominates}
use Rattle.cstn_label.specs.Read.{the_bound}
use Rattle.cstn_label.proofs.ReadLemmas.{unmarked_above}
use Rattle.cstn_net.specs.Networks.{Network}
use Rattle.cstn_rules.specs.declared.entries.Entry.{Entry}
use Rattle.cstn_rules.specs.Derivations.{Entry as TheEntry}
use Rattle.cstn_rules.specs.Rules.{Refutes}
use Rattle.cstn_rules.specs.Read.{the_entry}
use Rattle.cstn_log.specs.Entries.{the_entries, IsCoveredBy, IsLive}
use Rattle.cstn_facts.proofs.Places.{get_map}
use Rattle.cstn_rules.specs.Tests.{refutes}
use Rattle.cstn_check.specs.Growth.{is_covered, is_live}
use Rattle.cstn_check.proofs.Decided.{refutes_true}
use Rattle.cstn_check.proofs.Lists.{covered_by}
use Rattle.cstn_check.proofs.Bounded.{covered_at}
use Rattle.cstn_check.proofs.Decides.{true_refutes}
use Rattle.cstn_label.specs.OnLetters.{IsOnLetters}
use Rattle.cstn_log.proofs.StepLemmas.{entry_read}

pub small_marks : (b : Bound) → IsOnLetters (the_bound b).label
small_marks b = λ p past. unmarked_above b.label p past

pub entries_small : (L : List Entry) (k : ℕ) (e : TheEntry) → slice_get (the_entries L) k ≡ Some e → IsOnLetters e.bound.label
entries_small L k e there =
    let got = get_map the_entry L k e there in
    subst (λ (z : TheEntry). IsOnLetters z.bound.label) got.2 (small_marks got.0.bound)

pub covered_true : (L : List Entry) (b : Bound) → IsCoveredBy L b → is_covered (the_entries L) (the_bound b) ≡ true
covered_true L b c = covered_at (the_entries L) c.0 (the_entry c.1) (the_bound b) (entry_read L c.0 c.1 c.2) c.3

pub true_covered : (L : List Entry) (b : Bound) → is_covered (the_entries L) (the_bound b) ≡ true → IsCoveredBy L b
true_covered L b h =
    let d = covered_by (the_entries L) (the_bound b) (entries_small L) h in
    let got = get_map the_entry L d.place d.entry d.there in
    (d.place, got.0, got.1, subst (λ (z : TheEntry). Dominates z.bound (the_bound b)) (sym got.2) d.dominates)

pub uncovered_false : (L : List Entry) (b : Bound) → ¬ IsCoveredBy L b → is_covered (the_entries L) (the_bound b) ≡ false
uncovered_false L b free = elim (cases_Bool (is_covered (the_entries L) (the_bound b))) [
  | inl h ↦ absurd (free (true_covered L b h))
  | inr h ↦ h
]

pub live_true : (L : List Entry) (k : ℕ) → k < length L → IsLive L k → is_live (the_entries L) k ≡ true
live_true [] k h live = absurd (omega arith)
live_true (x ∷ xs) zero h live =
    ap not (uncovered_false xs x.bound (λ c. live.none_over (suc c.0) x c.1 (omega arith) refl c.2 c.3))
live_true (x ∷ xs) (suc k) h live =
    live_true xs k (omega arith) (record { none_over = λ j e f lt at_k at_j over. live.none_over (suc j) e f (omega arith) at_k at_j over })

pub true_live : (L : List Entry) (k : ℕ) → is_live (the_entries L) k ≡ true → IsLive L k
true_live [] k h = absurd (false≢true h)
true_live (x ∷ xs) zero h = record { none_over = λ j e f lt at_k at_j over. first j e f lt at_k at_j over }
  where
    first : (j : ℕ) (e f : Entry) → 0 < j → slice_get (x ∷ xs) 0 ≡ Some e → slice_get (x ∷ xs) j ≡ Some f →
        Dominates (the_bound f.bound) (the_bound e.bound) → ⊥
    first zero e f lt at_k at_j over = absurd (omega arith)
    first (suc j) e f lt at_k at_j over =
        let same : x ≡ e = cc in
        let c = covered_true xs x.bound (j, f, at_j, subst (λ (z : Entry). Dominates (the_bound f.bound) (the_bound z.bound)) (sym same) over) in
        false≢true (sym (ap not c) ∙ h)
true_live (x ∷ xs) (suc k) h =
    let tail = true_live xs k h in
    record { none_over = λ j e f lt at_k at_j over. later tail j e f lt at_k at_j over }
  where
    later : IsLive xs k → (j : ℕ) (e f : Entry) → suc k < j → slice_get (x ∷ xs) (suc k) ≡ Some e →
        slice_get (x ∷ xs) j ≡ Some f → Dominates (the_bound f.bound) (the_bound e.bound) → ⊥
    later tail zero e f lt at_k at_j over = absurd (omega arith)
    later tail (suc j) e f lt at_k at_j over = tail.none_over j e f (omega arith) at_k at_j over

pub dead_false : (L : List Entry) (k : ℕ) → ¬ IsLive L k → is_live (the_entries L) k ≡ false
dead_false L k dead = elim (cases_Bool (is_live (the_entries L) k)) [
  | inl h ↦ absurd (dead (true_live L k h))
  | inr h ↦ h
]

-- the answer whether a bound refutes is the test's
pub refutes_is : (net : Network) (b : Bound) (r : Bool) → (IsTrue r ↔ Refutes net (the_bound b)) → r ≡ refutes net (the_bound b)
refutes_is net b r iff = elim (cases_Bool (refutes net (the_bound b))) [
  | inl h ↦ iff.1 (true_refutes net (the_bound b) (small_marks b) h) ∙ sym h
  | inr h ↦ elim (cases_Bool r) [
    | inl t ↦ absurd (false≢true (sym h ∙ refutes_true net (the_bound b) (iff.0 t)))
    | inr f ↦ f ∙ sym h
  ]
]
