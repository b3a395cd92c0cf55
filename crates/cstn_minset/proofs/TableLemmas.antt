use Rattle.std.proofs.Common.{◌≡◌, ◌≢◌, ◌⊎◌, inl, inr, ℕ, zero, suc, ◌<◌, ◌^◌, [], ◌∷◌, length, get_or, set, replicate, nat_eq, true, refl, ap, sym, ◌∙◌, subst, arith}
use Rattle.std.specs.Prelude.{Option, None, Some, IsTrue}
use Rattle.std.proofs.lemmas.List.{get_or-set_other, get_or-set_same}
use Rattle.std.proofs.lemmas.Bool.{cases_eq}
use Rattle.std.proofs.lemmas.Option.{none-some, same_Some}
use Rattle.cstn_label.specs.declared.bounds.Bound.{Bound}
use Rattle.cstn_minset.specs.Sets.{Entries, IsPlaced, IsBoundOver, IsCoveredInSet, AllBornBefore, IsMinimal}

abbrev some_entry : ℕ → Bound → Option (ℕ × Bound)
some_entry n b = Some (n, b)

-- what stands in the table after a slot was filled
pub placed_more : (T : Entries) (slot u : ℕ) (x e : ℕ × Bound) → slot < length T → IsPlaced (set T slot (Some x)) u e → ((u ≡ slot) × (x ≡ e)) ⊎ ((u ≢ slot) × IsPlaced T u e)
placed_more T slot u x e inside is = elim (cases_eq u slot) [
  | inl same ↦ inl (same, same_Some x e (sym (get_or-set_same T slot (Some x) None inside) ∙ rw same at is))
  | inr other ↦ inr (other, sym (get_or-set_other T slot u (Some x) None other) ∙ is)
]

none_set : (T : Entries) (slot : ℕ) (e : ℕ × Bound) → get_or (set T slot None) slot None ≡ Some e → ⊥
none_set [] slot e is = cc
none_set (x ∷ T) zero e is = cc
none_set (x ∷ T) (suc slot) e is = none_set T slot e is

-- what stands in the table after a slot was emptied
pub placed_less : (T : Entries) (slot u : ℕ) (e : ℕ × Bound) → IsPlaced (set T slot None) u e → (u ≢ slot) × IsPlaced T u e
placed_less T slot u e is = elim (cases_eq u slot) [
  | inl same ↦ absurd (none_set T slot e (rw same at is))
  | inr other ↦ (other, sym (get_or-set_other T slot u None None other) ∙ is)
]

pub less_placed : (T : Entries) (slot u : ℕ) (e : ℕ × Bound) → u ≢ slot → IsPlaced T u e → IsPlaced (set T slot None) u e
less_placed T slot u e other is = get_or-set_other T slot u None None other ∙ is

pub minimal_less : (nodes slot : ℕ) (T : Entries) → IsMinimal nodes T → IsMinimal nodes (set T slot None)
minimal_less nodes slot T is = record {
  minimal = λ s t e f p q other. is.minimal s t e f (placed_less T slot s e p).1 (placed_less T slot t f q).1 other;
  apart = λ s t e f p q same. is.apart s t e f (placed_less T slot s e p).1 (placed_less T slot t f q).1 same;
  in_range = λ s e p. is.in_range s e (placed_less T slot s e p).1;
}

pub minimal_more : (nodes slot birth : ℕ) (b : Bound) (T : Entries) → slot < length T → b.node.0 < nodes → birth < 2 ^ 64 → ¬ IsCoveredInSet T b → ((u : ℕ) (e : ℕ × Bound) → IsPlaced T u e → ¬ IsBoundOver b e.1) → AllBornBefore T birth → IsMinimal nodes T → IsMinimal nodes (set T slot (Some (birth, b)))
minimal_more nodes slot birth b T inside node small uncovered least births is = record {
  minimal = λ s t e f p q other over.
      elim (placed_more T slot s (birth, b) e inside p) [
        | inl x ↦ elim (placed_more T slot t (birth, b) f inside q) [ inl y ↦ other (x.0 ∙ sym y.0) | inr y ↦ least t f y.1 (subst (λ (z : ℕ × Bound). IsBoundOver z.1 f.1) (sym x.1) over) ]
        | inr x ↦ elim (placed_more T slot t (birth, b) f inside q) [ inl y ↦ uncovered (s, e, x.1, subst (λ (z : ℕ × Bound). IsBoundOver e.1 z.1) (sym y.1) over) | inr y ↦ is.minimal s t e f x.1 y.1 other over ]
      ];
  apart = λ s t e f p q same.
      elim (placed_more T slot s (birth, b) e inside p) [
        | inl x ↦ elim (placed_more T slot t (birth, b) f inside q) [ inl y ↦ x.0 ∙ sym y.0 | inr y ↦ absurd (omega (arith, births t f y.1, same, ap (λ z. z.0) x.1)) ]
        | inr x ↦ elim (placed_more T slot t (birth, b) f inside q) [ inl y ↦ absurd (omega (arith, births s e x.1, same, ap (λ z. z.0) y.1)) | inr y ↦ is.apart s t e f x.1 y.1 same ]
      ];
  in_range = λ s e p.
      elim (placed_more T slot s (birth, b) e inside p) [ inl x ↦ subst (λ (z : ℕ × Bound). (z.1.node.0 < nodes) × (z.0 < 2 ^ 64)) x.1 (node, small) | inr x ↦ is.in_range s e x.1 ];
}

-- a slot that holds an entry is one of the table
pub placed_within : (T : Entries) (s : ℕ) (e : ℕ × Bound) → IsPlaced T s e → s < length T
placed_within [] s e is = absurd (none-some e is)
placed_within (x ∷ T) zero e is = omega arith
placed_within (x ∷ T) (suc s) e is = let rest = placed_within T s e is in omega arith

none_at : (n u : ℕ) (e : ℕ × Bound) → IsPlaced (replicate n None) u e → ⊥
none_at zero u e is = cc
none_at (suc n) zero e is = cc
none_at (suc n) (suc u) e is = none_at n u e is

pub minimal_none : (nodes n : ℕ) → IsMinimal nodes (replicate n None)
minimal_none nodes n = record {
  minimal = λ s t e f p q other. absurd (none_at n s e p);
  apart = λ s t e f p q same. absurd (none_at n s e p);
  in_range = λ s e p. absurd (none_at n s e p);
}

-- a slot holds a bound with the birth that is asked for exactly where its own birth is that one
pub holds_there : (T : Entries) (slot birth asked : ℕ) (b : Bound) → IsPlaced T slot (birth, b) → (IsTrue (nat_eq birth asked) → (x : Bound) × IsPlaced T slot (asked, x)) × ((x : Bound) × IsPlaced T slot (asked, x) → IsTrue (nat_eq birth asked))
holds_there T slot birth asked b here =
    (λ same. (b, here ∙ ap (λ (n : ℕ). some_entry n b) (equal birth asked same)), λ there. alike birth asked (ap (λ z. z.0) (same_Some (birth, b) (asked, there.0) (sym here ∙ there.1))))
  where
    equal : (m n : ℕ) → nat_eq m n ≡ true → m ≡ n
    equal m n is = grind arith

    alike : (m n : ℕ) → m ≡ n → nat_eq m n ≡ true
    alike m n is = grind arith

-- a new table holds nothing
pub none_of : (n u : ℕ) → get_or (replicate {A = Option (ℕ × Bound)} n None) u None ≡ None
none_of zero u = refl
none_of (suc n) zero = refl
none_of (suc n) (suc u) = none_of n u
