-- Replacing references by their characters makes UTF-8 of UTF-8, and changes nothing where there is no reference.
use Rattle.std.proofs.Common.{◌≡◌, ℕ, zero, suc, ◌+◌, ◌<◌, ◌≤◌, ◌≢◌, ◌⊎◌, inl, inr, true, false, not, List, [], ◌∷◌, ◌++◌, length, take, drop, get_or, refl, ap, sym, ◌∙◌, subst, arith, Some, None, append_assoc, length-drop, IsSome}
use Rattle.std.specs.Prelude.{codes, ◌==◌, nat_lt, nat_le, ◌&&◌}
use Rattle.std.specs.List.{prefix_len, list_all}
use Rattle.std.specs.Str.{IsUtf8}
use Rattle.std.specs.Char.{IsScalar, encode_utf8}
use Rattle.std.proofs.Math.Seq.{drop-cons, drop-append_seam, take-append_seam, get_or-append_seam}
use Rattle.std.proofs.lemmas.Bool.{and_parts, eqb-true, ltb-true, false≢true}
use Rattle.std.proofs.lemmas.List.{length-append}
use Rattle.std.proofs.lemmas.List.Sums.{prefix_len_stops}
use Rattle.std.proofs.lemmas.Str.{IsUtf8-take, IsUtf8-drop, IsUtf8-append, IsUtf8-encode, IsCharBoundary-before_ascii}
use Rattle.cstn_markup.specs.Bytes.{◌>>=◌, when, is_same, begins, is_character, scalar_of, number_after, character_of, reference_at, piece_at, resolved, resolved_after}
use Rattle.cstn_markup.proofs.Utf8.{past_ascii, from_run_end}
use Rattle.cstn_markup.proofs.Rests.{bind_some, when_some, when_true, some_is, which}
use Rattle.cstn_markup.proofs.Skips.{resolved_skip}

-- a reference names a character

character_is_scalar : (n : ℕ) → is_character n ≡ true → IsScalar n
character_is_scalar n e = grind arith

scalar_found : (radix : ℕ) (digits : List ℕ) (c : ℕ) → scalar_of radix digits ≡ Some c → IsScalar c
scalar_found radix digits c e =
    let a = bind_some (when (nat_lt 0 (length digits) && nat_le (length digits) 8) digits) _ c e in
    let b = bind_some (number_after radix 0 a.0) _ c a.2 in
    subst IsScalar (when_some _ _ c b.2) (character_is_scalar b.0 (when_true _ _ c b.2))

known : (n c : ℕ) → IsScalar n → Some n ≡ Some c → IsScalar c
known n c h e = subst IsScalar (some_is e) h

character_found : (name : List ℕ) (c : ℕ) → character_of name ≡ Some c → IsScalar c
character_found name c e =
    elim (which (is_same name (codes "lt")) _ _ _ e) [
      | inl h ↦ known 60 c refl h.1
      | inr f ↦ elim (which (is_same name (codes "gt")) _ _ _ f.1) [
        | inl h ↦ known 62 c refl h.1
        | inr g ↦ elim (which (is_same name (codes "amp")) _ _ _ g.1) [
          | inl h ↦ known 38 c refl h.1
          | inr h ↦ elim (which (is_same name (codes "quot")) _ _ _ h.1) [
            | inl k ↦ known 34 c refl k.1
            | inr k ↦ elim (which (is_same name (codes "apos")) _ _ _ k.1) [
              | inl l ↦ known 39 c refl l.1
              | inr l ↦ elim (which (begins (codes "#x") name) _ _ _ l.1) [
                | inl m ↦ scalar_found 16 (drop 2 name) c m.1
                | inr m ↦ elim (which (begins (codes "#") name) _ _ _ m.1) [
                  | inl o ↦ scalar_found 10 (drop 1 name) c o.1
                  | inr o ↦ absurd (let q : None ≡ Some c = o.1 in cc)
                ]
              ]
            ]
          ]
        ]
      ]
    ]

semicolon_low : (b : ℕ) → not (b == 59) ≡ false → b < 128
semicolon_low b e = grind arith

-- a reference that was read stands for a character, and what follows it is UTF-8
pub record IsReference (bytes : List ℕ) (c n : ℕ) : Type 0 where
  pub scalar : IsScalar c
  pub keeps : IsUtf8 bytes → IsUtf8 (drop n bytes)

pub reference_found : (bytes : List ℕ) (c n : ℕ) → reference_at bytes ≡ Some (c, n) → IsReference bytes c n
reference_found bytes c n e =
    let m : ℕ = prefix_len (λ b. not (b == 59)) bytes in
    let a = bind_some (when (nat_lt m (length bytes)) (take m bytes)) _ (c, n) e in
    let b = bind_some (character_of a.0) _ (c, n) a.2 in
    let pair = some_is b.2 in
    let inside : m < length bytes = ltb-true _ _ (when_true _ _ _ a.1) in
    let here : drop m bytes ≡ get_or bytes m 0 ∷ drop (suc m) bytes = drop-cons bytes m 0 inside in
    let low : get_or bytes m 0 < 128 = semicolon_low _ (prefix_len_stops (λ b. not (b == 59)) bytes 0 inside) in
    let past : m + 1 ≡ n = ap (λ p. p.1) pair in
    let next : suc m ≡ n = omega arith in
    record {
      scalar = subst IsScalar (ap (λ p. p.0) pair) (character_found a.0 b.0 b.1);
      keeps = λ u. subst (λ k. IsUtf8 (drop k bytes)) next (past_ascii _ _ low (subst IsUtf8 here (from_run_end (λ b. not (b == 59)) bytes semicolon_low u)));
    }

-- a piece is a reference or a byte
pub record IsPiece (b : ℕ) (bytes piece : List ℕ) (n : ℕ) : Type 0 where
  pub case : ((b ≡ 38) × (c : ℕ) × (reference_at bytes ≡ Some (c, n)) × (piece ≡ encode_utf8 c)) ⊎ ((b ≢ 38) × (n ≡ 0) × (piece ≡ b ∷ []))

piece_found : (b : ℕ) (bytes piece : List ℕ) (n : ℕ) → piece_at b bytes ≡ Some (piece, n) → IsPiece b bytes piece n
unfolding piece_at
piece_found b bytes piece n e =
    elim (which (b == 38) _ _ _ e) [
      | inl h ↦
          let a = bind_some (reference_at bytes) _ (piece, n) h.1 in
          let pair = some_is a.2 in
          record { case = inl (eqb-true b 38 h.0, a.0.0, a.1 ∙ ap (λ k. Some (a.0.0, k)) (ap (λ p. p.1) pair), sym (ap (λ p. p.0) pair)) }
      | inr h ↦
          let pair = some_is h.1 in
          record { case = inr (grind arith, sym (ap (λ p. p.1) pair), sym (ap (λ p. p.0) pair)) }
    ]

-- UTF-8 that is cut before an ASCII byte gives UTF-8 on both sides
pub cut : (head bytes : List ℕ) (b : ℕ) → b < 128 → IsUtf8 (head ++ (b ∷ bytes)) → IsUtf8 head × IsUtf8 (b ∷ bytes)
cut head bytes b low u =
    let first : get_or (head ++ (b ∷ bytes)) (length head) 0 ≡ b = get_or-append_seam head b bytes 0 in
    let at = IsCharBoundary-before_ascii (head ++ (b ∷ bytes)) (length head) (omega (arith, length-append head (b ∷ bytes))) (omega (arith, first)) in (
      subst IsUtf8 (take-append_seam head (b ∷ bytes)) (IsUtf8-take (head ++ (b ∷ bytes)) (length head) u at),
      subst IsUtf8 (drop-append_seam head (b ∷ bytes)) (IsUtf8-drop (head ++ (b ∷ bytes)) (length head) u at),
    )

after_reference : (bytes head more : List ℕ) (b c n : ℕ) → b ≡ 38 → reference_at bytes ≡ Some (c, n) → IsUtf8 (head ++ (b ∷ bytes))
    → ((front : List ℕ) → IsUtf8 (front ++ drop n bytes) → IsUtf8 (front ++ more)) → IsUtf8 (head ++ (encode_utf8 c ++ more))
after_reference bytes head more b c n is e u next =
    let r = reference_found bytes c n e in
    let parts = cut head bytes b (omega arith) u in
    let later : IsUtf8 more = next [] (r.keeps (past_ascii b bytes (omega arith) parts.1)) in
    IsUtf8-append head (encode_utf8 c ++ more) parts.0 (IsUtf8-append (encode_utf8 c) more (IsUtf8-encode c r.scalar) later)

after_byte : (bytes head more : List ℕ) (b n : ℕ) → n ≡ 0 → IsUtf8 (head ++ (b ∷ bytes))
    → ((front : List ℕ) → IsUtf8 (front ++ drop n bytes) → IsUtf8 (front ++ more)) → IsUtf8 (head ++ ((b ∷ []) ++ more))
after_byte bytes head more b n is u next =
    let here : IsUtf8 ((head ++ (b ∷ [])) ++ drop n bytes) = rw is (subst IsUtf8 (sym (append_assoc head (b ∷ []) bytes)) u) in
    subst IsUtf8 (append_assoc head (b ∷ []) more) (next (head ++ (b ∷ [])) here)

after_piece : (b : ℕ) (bytes head piece more : List ℕ) (n : ℕ) → IsPiece b bytes piece n → IsUtf8 (head ++ (b ∷ bytes))
    → ((front : List ℕ) → IsUtf8 (front ++ drop n bytes) → IsUtf8 (front ++ more)) → IsUtf8 (head ++ (piece ++ more))
after_piece b bytes head piece more n p u next =
    elim p.case [
      | inl h ↦ subst (λ x. IsUtf8 (head ++ (x ++ more))) (sym h.3) (after_reference bytes head more b h.1 n h.0 h.2 u next)
      | inr h ↦ subst (λ x. IsUtf8 (head ++ (x ++ more))) (sym h.2) (after_byte bytes head more b n h.1 u next)
    ]

-- where head and the raw bytes behind it are UTF-8 together, so are head and the resolved bytes behind it
resolved_by : (left : ℕ) (raw v head : List ℕ) → length raw ≤ left → IsUtf8 (head ++ raw) → resolved_after 0 raw ≡ Some v → IsUtf8 (head ++ v)
unfolding resolved_after
resolved_by left [] v head h u e = subst (λ w. IsUtf8 (head ++ w)) (some_is e) u
resolved_by zero (b ∷ bytes) v head h u e = absurd (omega arith)
resolved_by (suc left) (b ∷ bytes) v head h u e =
    let p = bind_some (piece_at b bytes) _ v e in
    let m = bind_some (resolved_after p.0.1 bytes) _ v p.2 in
    let later : resolved_after 0 (drop p.0.1 bytes) ≡ Some m.0 = sym (resolved_skip p.0.1 bytes) ∙ m.1 in
    subst (λ w. IsUtf8 (head ++ w)) (some_is m.2)
    (after_piece b bytes head p.0.0 m.0 p.0.1 (piece_found b bytes p.0.0 p.0.1 p.1) u
    (λ front w. resolved_by left (drop p.0.1 bytes) m.0 front (omega (arith, length-drop p.0.1 bytes)) w later))

pub resolved_utf8 : (raw v : List ℕ) → IsUtf8 raw → resolved raw ≡ Some v → IsUtf8 v
resolved_utf8 raw v u e = resolved_by (length raw) raw v [] (omega arith) u e

plain_piece : (b : ℕ) (bytes : List ℕ) → not (b == 38) ≡ true → piece_at b bytes ≡ Some (b ∷ [], 0)
unfolding piece_at
plain_piece b bytes h = grind arith

-- bytes without `&` are resolved to themselves
pub resolved_plain : (raw : List ℕ) → list_all (λ b. not (b == 38)) raw ≡ true → resolved raw ≡ Some raw
unfolding resolved_after
resolved_plain [] h = refl
resolved_plain (b ∷ raw) h =
    let p = and_parts _ (list_all (λ b. not (b == 38)) raw) h in
    rw (plain_piece b raw p.0, resolved_plain raw p.1) refl

-- where no reference is left, the whole is resolved to the bytes put so far and the rest
pub all_put : (raw rest put done : List ℕ) → list_all (λ b. not (b == 38)) rest ≡ true → done ≡ put ++ rest → resolved_after 0 raw ≡ (resolved_after 0 rest >>= λ more. Some (put ++ more)) → resolved raw ≡ Some done
all_put raw rest put done h d e = e ∙ rw (resolved_plain rest h, d) refl

-- where the whole can be resolved, what is left of it can
pub none_left : (raw rest put : List ℕ) → resolved_after 0 rest ≡ None → resolved_after 0 raw ≡ (resolved_after 0 rest >>= λ more. Some (put ++ more)) → IsSome (resolved raw) → ⊥
none_left raw rest put e so some =
    let none : resolved raw ≡ None = so ∙ rw e refl in
    false≢true (subst IsSome none some)
