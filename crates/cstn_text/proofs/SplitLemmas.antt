-- Texts split at a byte.
use Rattle.std.proofs.Common.{ℕ, zero, suc, add-one, ◌≡◌, ◌≢◌, ◌+◌, ◌<◌, ◌≤◌, Bool, true, false, List, [], ◌∷◌, length, get_or, take, drop, arith, refl, sym, subst, ap, ◌∙◌}
use Rattle.std.specs.Prelude.{◌==◌, Option, None, Some, position, if◌then◌else◌}
use Rattle.std.specs.List.{All, position_or_len}
use Rattle.std.specs.Option.{option_map}
use Rattle.std.proofs.lemmas.List.Elements.{All-nil, All-cons, All-head, All-tail}
use Rattle.std.proofs.lemmas.List.Quantifiers.{position-Some}
use Rattle.std.proofs.lemmas.List.Sums.{fails_before_first}
use Rattle.std.proofs.lemmas.Grind.{common_steps}
use Rattle.cstn_text.specs.Cuts.{cut_at}
use Rattle.cstn_text.specs.Parts.{SplitText, with_first_byte, parts_at, joined}

cut_parts : (end : ℕ) (bs : List ℕ) (i : ℕ) → i < length bs → (get_or bs i 0 == end) ≡ true →
    ((k : ℕ) → k < i → (get_or bs k 0 == end) ≡ false) →
    parts_at end bs ≡ (take i bs ∷ (parts_at end (drop (i + 1) bs)).0, (parts_at end (drop (i + 1) bs)).1)
unfolding parts_at
cut_parts end [] i inside ends before = absurd (omega arith)
cut_parts end (b ∷ bs) zero inside ends before =
    ap {B = SplitText} (λ t. if t then ([] ∷ (parts_at end bs).0, (parts_at end bs).1) else with_first_byte b (parts_at end bs).0 (parts_at end bs).1) ends
cut_parts end (b ∷ bs) (suc i) inside ends before =
    let more = cut_parts end bs i (omega arith) ends (λ k h. before (suc k) (omega arith)) in
    rw (before 0 (omega arith), more, add-one (suc i), add-one i) refl

open_parts : (end : ℕ) (bs : List ℕ) → ((k : ℕ) → k < length bs → (get_or bs k 0 == end) ≡ false) → parts_at end bs ≡ ([], bs)
unfolding parts_at
open_parts end [] none = refl
open_parts end (b ∷ bs) none =
    let more = open_parts end bs (λ k h. none (suc k) (omega arith)) in
    rw (none 0 (omega arith), more) refl

module _ (end : ℕ) (bytes : List ℕ) where
  -- the parts of a text that is cut at its first byte `end` are the one before it and those of the rest
  pub parts_cut : (part rest : List ℕ) → cut_at end bytes ≡ Some (part, rest) →
      parts_at end bytes ≡ (part ∷ (parts_at end rest).0, (parts_at end rest).1)
  parts_cut part rest is = at (position (λ b. b == end) bytes) refl is
    where
      pair : (a b : List ℕ × List ℕ) → Some a ≡ Some b → a ≡ b
      pair a b e = cc

      at : (place : Option ℕ) → place ≡ position (λ b. b == end) bytes →
          option_map {U = List ℕ × List ℕ} (λ i. (take i bytes, drop (i + 1) bytes)) place ≡ Some (part, rest) →
          parts_at end bytes ≡ (part ∷ (parts_at end rest).0, (parts_at end rest).1)
      at None from e = absurd (cc)
      at (Some i) from e =
          let its = position-Some (λ b. b == end) bytes i 0 (sym from) in
          subst (λ (parts : List ℕ × List ℕ). parts_at end bytes ≡ (parts.0 ∷ (parts_at end parts.1).0, (parts_at end parts.1).1)) (pair _ _ e)
          (cut_parts end bytes i its.0 its.1 its.2)

  -- a text without the byte `end` has no part that ends with it
  pub parts_open : cut_at end bytes ≡ None → parts_at end bytes ≡ ([], bytes)
  parts_open is = at (position (λ b. b == end) bytes) refl is
    where
      at : (place : Option ℕ) → place ≡ position (λ b. b == end) bytes →
          option_map {U = List ℕ × List ℕ} (λ i. (take i bytes, drop (i + 1) bytes)) place ≡ None → parts_at end bytes ≡ ([], bytes)
      at (Some i) from e = absurd (cc)
      at None from e =
          let all : length bytes ≤ position_or_len (λ b. b == end) bytes = grind (arith, common_steps) in
          open_parts end bytes (λ k h. fails_before_first (λ b. b == end) bytes k 0 (omega arith))

  pub cut_shorter : (part rest : List ℕ) → cut_at end bytes ≡ Some (part, rest) → length rest < length bytes
  cut_shorter part rest is = at (position (λ b. b == end) bytes) refl is
    where
      pair : (a b : List ℕ × List ℕ) → Some a ≡ Some b → a ≡ b
      pair a b e = cc

      at : (place : Option ℕ) → place ≡ position (λ b. b == end) bytes →
          option_map {U = List ℕ × List ℕ} (λ i. (take i bytes, drop (i + 1) bytes)) place ≡ Some (part, rest) → length rest < length bytes
      at None from e = absurd (cc)
      at (Some i) from e =
          let its = position-Some (λ b. b == end) bytes i 0 (sym from) in
          let inside = its.0 in
          subst (λ (parts : List ℕ × List ℕ). length parts.1 < length bytes) (pair _ _ e) (grind (arith, common_steps))

begun_joined : (end b : ℕ) (parts : List (List ℕ)) (tail : List ℕ) → joined end (with_first_byte b parts tail).0 (with_first_byte b parts tail).1 ≡ b ∷ joined end parts tail
unfolding joined
begun_joined end b [] tail = refl
begun_joined end b (part ∷ parts) tail = refl

byte_joined : (end b : ℕ) (ends : Bool) (text : SplitText) → (b == end) ≡ ends →
    let parts : SplitText = if ends then ([] ∷ text.0, text.1) else with_first_byte b text.0 text.1 in joined end parts.0 parts.1 ≡ b ∷ joined end text.0 text.1
unfolding joined
byte_joined end b true text is = let same : end ≡ b = grind arith in ap (λ n. n ∷ joined end text.0 text.1) same
byte_joined end b false text is = begun_joined end b text.0 text.1

-- a split text is joined again
pub parts_joined : (end : ℕ) (bytes : List ℕ) → joined end (parts_at end bytes).0 (parts_at end bytes).1 ≡ bytes
unfolding parts_at joined
parts_joined end [] = refl
parts_joined end (b ∷ bytes) = byte_joined end b (b == end) (parts_at end bytes) refl ∙ ap (λ (t : List ℕ). b ∷ t) (parts_joined end bytes)

-- ---- parts have no byte that ends them

abbrev pub AreFree : ℕ → List (List ℕ) → Type 0
AreFree end parts = All (λ part. All (λ b. b ≢ end) part) parts

begun_free : (end b : ℕ) (parts : List (List ℕ)) (tail : List ℕ) → b ≢ end → AreFree end parts → AreFree end (with_first_byte b parts tail).0
begun_free end b [] tail other free = free
begun_free end b (part ∷ parts) tail other free =
    All-cons (λ part. All (λ b. b ≢ end) part) (b ∷ part) parts
    (All-cons (λ b. b ≢ end) b part other (All-head (λ part. All (λ b. b ≢ end) part) part parts free)) (All-tail (λ part. All (λ b. b ≢ end) part) part parts free)

byte_free : (end b : ℕ) (ends : Bool) (text : SplitText) → (b == end) ≡ ends → AreFree end text.0 →
    let parts : SplitText = if ends then ([] ∷ text.0, text.1) else with_first_byte b text.0 text.1 in AreFree end parts.0
byte_free end b true text is free = All-cons (λ part. All (λ b. b ≢ end) part) [] text.0 (All-nil (λ b. b ≢ end)) free
byte_free end b false text is free = begun_free end b text.0 text.1 (λ same. let f : ⊥ = grind (arith, is, same) in f) free

pub parts_free : (end : ℕ) (bytes : List ℕ) → AreFree end (parts_at end bytes).0
unfolding parts_at
parts_free end [] = All-nil (λ part. All (λ b. b ≢ end) part)
parts_free end (b ∷ bytes) = byte_free end b (b == end) (parts_at end bytes) refl (parts_free end bytes)
