-- The labels that a text of values writes consist of literals.
use Rattle.std.proofs.Common.{◌≡◌, ◌<◌, ℕ, zero, suc, Bool, true, false, List, [], ◌∷◌, ◌++◌, take, drop, refl, ap, subst, Option, Some, None, cond, inl, inr}
use Rattle.std.specs.Prelude.{codes, ◌==◌, ℤ}
use Rattle.std.specs.List.{All}
use Rattle.std.proofs.lemmas.List.Elements.{All-nil, All-push}
use Rattle.cstn_label.specs.declared.marks.Mark.{Mark}
use Rattle.cstn_label.specs.Labels.{Label, empty, IsMarkPlain}
use Rattle.cstn_label.specs.Letters.{prop_of}
use Rattle.cstn_markup.specs.Bytes.{is_white}
use Rattle.cstn_markup.specs.Bytes.{◌>>=◌, when, past}
use Rattle.cstn_markup.proofs.Rests.{bind_some, when_some, some_is, which}
use Rattle.cstn_element.specs.WhiteSpace.{trimmed}
use Rattle.cstn_element.specs.NumberTexts.{integer_text}
use Rattle.cstn_element.specs.LabelTexts.{Literal, Expects, after_byte, mark_said_by, with_literal, label_after, is_of_empty, label_of_text, IsOfLiterals}
use Rattle.cstn_element.specs.LabelTexts.Expects.{literal, second_byte, letter}
use Rattle.cstn_element.specs.ValueTexts.{Pair, is_separator, part_len, pair_of, paired, pair_at, pairs_by, pairs_after, values_of}
use Rattle.cstn_label.proofs.LetterLemmas.{prop_small, with_small}

mark_by : (b : Bool) (m k : Mark) → IsMarkPlain m → IsMarkPlain k → IsMarkPlain (cond b m k)
mark_by true m k p q = p
mark_by false m k p q = q

said_plain : (negated : Bool) → IsMarkPlain (mark_said_by negated)
said_plain true = tt
said_plain false = tt

-- the literal, if there is one, is of a proposition that has a letter
abbrev IsLettered : Option Literal → Type 0
IsLettered (Some l) = l.prop < 52
IsLettered None = Unit {0}

abbrev Found : Type 0
Found = Option Literal × Expects

byte_lettered : (expects : Expects) (b : ℕ) (f : Found) → after_byte expects b ≡ Some f → IsLettered f.0
byte_lettered literal b f e =
    elim (which (is_white b) _ _ _ e) [
      | inl h ↦ subst (λ (f : Found). IsLettered f.0) (some_is h.1) tt
      | inr h ↦ elim (which (b == 33) _ _ _ h.1) [
        | inl k ↦ subst (λ (f : Found). IsLettered f.0) (some_is k.1) tt
        | inr k ↦ elim (which (b == 194) _ _ _ k.1) [
          | inl m ↦ subst (λ (f : Found). IsLettered f.0) (some_is m.1) tt
          | inr m ↦
              let p = bind_some (prop_of b) _ f m.1 in
              subst (λ (f : Found). IsLettered f.0) (some_is p.2) (prop_small b p.0 p.1)
        ]
      ]
    ]
byte_lettered second_byte b f e = subst (λ (f : Found). IsLettered f.0) (when_some _ _ f e) tt
byte_lettered letter b f e =
    elim (which (is_white b) _ _ _ e) [
      | inl h ↦ subst (λ (f : Found). IsLettered f.0) (some_is h.1) tt
      | inr h ↦
          let p = bind_some (prop_of b) _ f h.1 in
          subst (λ (f : Found). IsLettered f.0) (some_is p.2) (prop_small b p.0 p.1)
    ]

literal_kept : (a b : Label) (l : Option Literal) → IsOfLiterals a → IsLettered l → with_literal a l ≡ Some b → IsOfLiterals b
literal_kept a b None h small e = subst IsOfLiterals (some_is e) h
literal_kept a b (Some l) h small e = subst IsOfLiterals (when_some _ _ b e) (record {
  plain = λ q. mark_by (q == l.prop) (mark_said_by l.negated) (a q) (said_plain l.negated) (h.plain q);
  letters = λ q high. with_small q l.prop (mark_said_by l.negated) (a q) small high (h.letters q high);
})

byte_kept : (found : Option Found) (a b : Label) (bytes : List ℕ) → IsOfLiterals a → ((f : Found) → found ≡ Some f → IsLettered f.0)
    → ((next : Expects) (c : Label) → IsOfLiterals c → label_after next c bytes ≡ Some b → IsOfLiterals b)
    → (found >>= λ f. with_literal a f.0 >>= λ more. label_after f.1 more bytes) ≡ Some b → IsOfLiterals b
byte_kept found a b bytes h small later e =
    let f = bind_some found (λ f. with_literal a f.0 >>= λ more. label_after f.1 more bytes) b e in
    let m = bind_some (with_literal a f.0.0) (λ more. label_after f.0.1 more bytes) b f.2 in
    later f.0.1 m.0 (literal_kept a m.0 f.0.0 h (small f.0 f.1) m.1) m.2

after_kept : (expects : Expects) (a b : Label) (bytes : List ℕ) → IsOfLiterals a → label_after expects a bytes ≡ Some b → IsOfLiterals b
unfolding label_after
after_kept literal a b [] h e = subst IsOfLiterals (some_is e) h
after_kept second_byte a b [] h e = absurd (cc)
after_kept letter a b [] h e = absurd (cc)
after_kept literal a b (x ∷ bytes) h e = byte_kept (after_byte literal x) a b bytes h (byte_lettered literal x) (λ next c k is. after_kept next c b bytes k is) e
after_kept second_byte a b (x ∷ bytes) h e = byte_kept (after_byte second_byte x) a b bytes h (byte_lettered second_byte x) (λ next c k is. after_kept next c b bytes k is) e
after_kept letter a b (x ∷ bytes) h e = byte_kept (after_byte letter x) a b bytes h (byte_lettered letter x) (λ next c k is. after_kept next c b bytes k is) e

pub empty_of_literals : IsOfLiterals empty
empty_of_literals = record { plain = λ p. tt; letters = λ p high. refl }

-- the label of a label text consists of literals
pub label_of_literals : (bytes : List ℕ) (a : Label) → label_of_text bytes ≡ Some a → IsOfLiterals a
label_of_literals bytes a e =
    elim (which (is_of_empty bytes) _ _ _ e) [
      | inl h ↦ subst IsOfLiterals (some_is h.1) empty_of_literals
      | inr h ↦ after_kept literal empty a bytes empty_of_literals h.1
    ]

-- the label of a pair consists of literals, where the pair has a label
abbrev pub HasLiterals : Pair → Type 0
HasLiterals pair = (a : Label) → pair.label ≡ Some a → IsOfLiterals a

pair_kept : (first second : List ℕ) (m n : Option ℤ) (pair : Pair) → pair_of first second m n ≡ Some pair → HasLiterals pair
pair_kept first second (Some m) None pair e = subst HasLiterals (some_is e) (λ a h. label_of_literals second a h)
pair_kept first second None (Some n) pair e = subst HasLiterals (some_is e) (λ a h. label_of_literals first a h)
pair_kept first second (Some m) (Some n) pair e = absurd (cc)
pair_kept first second None None pair e = absurd (cc)

pair_at_kept : (bytes : List ℕ) (x : Pair × ℕ) → pair_at bytes ≡ Some x → HasLiterals x.0
pair_at_kept bytes x e =
    let a = bind_some (past (codes ",") (drop (part_len bytes) bytes)) _ x e in
    let b = bind_some (past (codes ")") (drop (part_len a.0) a.0)) _ x a.2 in
    let first : List ℕ = trimmed (take (part_len bytes) bytes) in
    let second : List ℕ = trimmed (take (part_len a.0) a.0) in
    let c = bind_some (paired first second) _ x b.2 in
    subst HasLiterals (ap (λ p. p.0) (some_is c.2)) (pair_kept first second (integer_text first) (integer_text second) c.0 c.1)

pairs_by_kept : (separates : Bool) (b : ℕ) (bytes : List ℕ) (found pairs : List Pair) → All HasLiterals found
    → ((skip : ℕ) (more : List Pair) → All HasLiterals more → pairs_after skip more bytes ≡ Some pairs → All HasLiterals pairs)
    → pairs_by separates b bytes found (λ skip more. pairs_after skip more bytes) ≡ Some pairs → All HasLiterals pairs
pairs_by_kept true b bytes found pairs h later e = later 0 found h e
pairs_by_kept false b bytes found pairs h later e =
    elim (which (b == 125) _ _ _ e) [
      | inl k ↦ subst (All HasLiterals) (when_some _ _ _ k.1) h
      | inr k ↦
          let a = bind_some (when (b == 40) bytes) _ pairs k.1 in
          let p = bind_some (pair_at a.0) _ pairs a.2 in
          later p.0.1 (found ++ (p.0.0 ∷ [])) (All-push HasLiterals found p.0.0 h (pair_at_kept a.0 p.0 p.1)) p.2
    ]

pairs_kept : (skip : ℕ) (found : List Pair) (bytes : List ℕ) (pairs : List Pair) → All HasLiterals found → pairs_after skip found bytes ≡ Some pairs → All HasLiterals pairs
unfolding pairs_after
pairs_kept zero found [] pairs h e = absurd (cc)
pairs_kept (suc skip) found [] pairs h e = absurd (cc)
pairs_kept zero found (b ∷ bytes) pairs h e = pairs_by_kept (is_separator b) b bytes found pairs h (λ skip more p k. pairs_kept skip more bytes pairs p k) e
pairs_kept (suc skip) found (b ∷ bytes) pairs h e = pairs_kept skip found bytes pairs h e

-- the labels of the pairs of a text of values consist of literals
pub values_of_literals : (bytes : List ℕ) (pairs : List Pair) → values_of bytes ≡ Some pairs → All HasLiterals pairs
values_of_literals [] pairs e = subst (All HasLiterals) (some_is e) (All-nil HasLiterals)
values_of_literals (b ∷ bytes) pairs e =
    let a = bind_some (when (b == 123) bytes) (λ inside. pairs_after 0 [] inside) pairs e in
    pairs_kept 0 [] a.0 pairs (All-nil HasLiterals) a.2
