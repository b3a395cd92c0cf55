-- Growth stops at the first entry that refutes, which is then the last, or once all turns are done.
use Rattle.std.proofs.Common.{ℕ, zero, suc, ◌≡◌, inl, inr, ◌+◌, ◌-◌, ◌<◌, true, false, ◌&&◌, List, [], ◌∷◌, length, Some, ltb, arith, refl, sym, subst, ap, ◌∙◌, length-append}
use Rattle.std.specs.Prelude.{pos, int_lt, slice_get}
use Rattle.std.proofs.lemmas.Int.{ints}
use Rattle.std.proofs.lemmas.Bool.{cases_lt, false≢true, or_parts, or_left, or_right, and_right, cond-true}
use Rattle.cstn_label.specs.Marks.{is_plain}
use Rattle.cstn_label.specs.Labels.{empty}
use Rattle.cstn_net.specs.Networks.{Network, count, limit}
use Rattle.cstn_label.specs.Bounds.{Bound}
use Rattle.cstn_rules.specs.Derivations.{Entry}
use Rattle.cstn_rules.specs.declared.entries.Why.TheVariants.{Base}
use Rattle.cstn_rules.specs.Tests.{refutes}
use Rattle.cstn_check.specs.Growth.{Instance, why_of, is_covered, is_refuted, conclusion, step, tried, turn, grown}
use Rattle.cstn_check.specs.Turns.{IsRefutedLast, LastRefutes}
use Rattle.cstn_log.specs.Entries.{bases}
use Rattle.cstn_check.proofs.Decided.{refutes_true}
use Rattle.cstn_check.proofs.Lists.{get_kept}
use Rattle.cstn_check.proofs.Derives.{OfNetwork, with_entry, grown_keeps, get_last}

refutes_false : (net : Network) (L : List Entry) (k : ℕ) (e : Entry) → is_refuted net L ≡ false → slice_get L k ≡ Some e →
    refutes net e.bound ≡ false
refutes_false net [] k e h there = let f : ⊥ = cc in absurd f
refutes_false net (x ∷ xs) zero e h there =
    let same : x ≡ e = cc in
    subst (λ y. refutes net y.bound ≡ false) same (or_parts (refutes net x.bound) (is_refuted net xs) h).0
refutes_false net (x ∷ xs) (suc k) e h there =
    refutes_false net xs k e (or_parts (refutes net x.bound) (is_refuted net xs) h).1 there

-- no entry but perhaps the last refutes
abbrev pub LastOnly : Network → List Entry → Type 0
LastOnly net L = (k : ℕ) (e : Entry) → slice_get L k ≡ Some e → suc k < length L → refutes net e.bound ≡ false

last_more : (net : Network) (L : List Entry) (i : Instance) (r : Bound) → OfNetwork net i → LastOnly net L →
    conclusion net L i ≡ Some r → is_covered L r ≡ false → is_refuted net L ≡ false → LastOnly net (with_entry L i r)
last_more net L i r of h e free on k x there before =
    let long = length-append L (record { bound = r; why = why_of i } ∷ []) in
    let here : k < length L = omega arith in
    refutes_false net L k x on (sym (get_kept L (with_entry L i r) k (record { more = _; is = refl }) here) ∙ there)

base_stands : (net : Network) (x : ℕ) → refutes net (record { node = x; least = pos 0; label = empty }) ≡ false
base_stands net x =
    and_right (ltb x (count net)) (is_plain empty && int_lt (pos (limit net x)) (pos 0))
    (and_right (is_plain empty) (int_lt (pos (limit net x)) (pos 0)) (not_below (limit net x)))
  where
    not_below : (n : ℕ) → int_lt (pos n) (pos 0) ≡ false
    not_below n = grind (arith, ints)

bases_last : (net : Network) (n : ℕ) → LastOnly net (bases n)
bases_last net zero k e there before = let f : ⊥ = cc in absurd f
bases_last net (suc n) k e there before =
    elim (cases_lt k (length (bases n))) [
      | inl early ↦ base_at n k e (sym (get_kept (bases n) (bases (suc n)) k (record { more = _; is = refl }) early) ∙ there)
      | inr past ↦
          let long = length-append (bases n) (record { bound = record { node = n; least = pos 0; label = empty }; why = Base } ∷ []) in
          absurd (omega arith)
    ]
  where
    base_at : (m k : ℕ) (e : Entry) → slice_get (bases m) k ≡ Some e → refutes net e.bound ≡ false
    base_at zero k e h = let f : ⊥ = cc in absurd f
    base_at (suc m) k e h = elim (cases_lt k (length (bases m))) [
      | inl early ↦ base_at m k e (sym (get_kept (bases m) (bases (suc m)) k (record { more = _; is = refl }) early) ∙ h)
      | inr past ↦
          let last = get_last (bases m) _ e k h past in
          subst (λ y. refutes net y.bound ≡ false) last.1 (base_stands net m)
    ]

pub grown_last : (net : Network) (L : List Entry) (n : ℕ) → LastOnly net L → LastOnly net (grown net L n)
grown_last net L n only = grown_keeps net (LastOnly net) (last_more net) L n only

pub only_refuted_last : (net : Network) (L : List Entry) → LastOnly net L → IsRefutedLast net L
only_refuted_last net L only = record {
  before = λ k e there inside r. false≢true (sym (only k e there (omega arith)) ∙ refutes_true net e.bound r);
}

-- the base bounds refute nothing
pub bases_stand : (net : Network) → IsRefutedLast net (bases (count net))
bases_stand net = only_refuted_last net (bases (count net)) (bases_last net (count net))

pub refuted_from_last : (net : Network) (L : List Entry) (k : ℕ) (e : Entry) → slice_get L k ≡ Some e → refutes net e.bound ≡ true →
    is_refuted net L ≡ true
refuted_from_last net [] k e there r = let f : ⊥ = cc in absurd f
refuted_from_last net (x ∷ xs) zero e there r =
    let same : e ≡ x = cc in
    or_left (refutes net x.bound) (is_refuted net xs) (subst (λ y. refutes net y.bound ≡ true) same r)
refuted_from_last net (x ∷ xs) (suc k) e there r =
    or_right (refutes net x.bound) (is_refuted net xs) (refuted_from_last net xs k e there r)

pub last_refuted : (net : Network) (L : List Entry) → LastRefutes net L → is_refuted net L ≡ true
last_refuted net L l =
    refuted_from_last net L (length L - 1) l.last l.is_last (refutes_true net l.last.bound l.refutes)

-- a list that is refuted doesn't grow
pub refuted_idle : (net : Network) (is : List Instance) (L : List Entry) → is_refuted net L ≡ true → tried net L is ≡ L
unfolding step
refuted_idle net [] L over = refl
refuted_idle net (i ∷ is) L over =
    let same = step_over i in
    ap (λ l. tried net l is) same ∙ refuted_idle net is L over
  where
    step_over : (i : Instance) → step net L i ≡ L
    step_over i = cond-true _ _ _ over

pub refuted_stays : (net : Network) (L : List Entry) (n k : ℕ) → is_refuted net (grown net L n) ≡ true →
    grown net L (k + n) ≡ grown net L n
refuted_stays net L n zero over = ap (grown net L) (omega arith)
refuted_stays net L n (suc k) over =
    let before = refuted_stays net L n k over in
    let next : grown net L (suc (k + n)) ≡ grown net L (k + n) = refuted_idle net (turn net (k + n)) (grown net L (k + n))
    (ap (is_refuted net) before ∙ over) in
    ap (grown net L) (let e : suc k + n ≡ suc (k + n) = omega arith in e) ∙ next ∙ before
