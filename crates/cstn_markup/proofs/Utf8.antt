-- UTF-8 may be cut beside an ASCII byte.
use Rattle.std.proofs.Common.{◌≡◌, ℕ, suc, ◌+◌, ◌<◌, ◌≤◌, Bool, true, false, cond, List, [], ◌∷◌, length, drop, get_or, refl, ap, sym, ◌∙◌, subst, arith, inl, inr, ◌⊎◌}
use Rattle.std.specs.List.{prefix_len, list_all}
use Rattle.std.specs.Str.{IsUtf8, IsCharBoundary}
use Rattle.std.specs.Char.{is_ascii}
use Rattle.std.proofs.lemmas.Bool.{and_parts, eqb-true, ltb-true, cases_lt, false≢true}
use Rattle.std.proofs.lemmas.List.{get_or-drop}
use Rattle.std.proofs.lemmas.List.Sums.{prefix_len-le-length, prefix_len_stops}
use Rattle.std.proofs.lemmas.Str.{IsUtf8-drop, IsCharBoundary-after_ascii, IsCharBoundary-before_ascii, IsCharBoundary-end}
use Rattle.cstn_markup.specs.Bytes.{begins}

pub past_ascii : (b : ℕ) (bytes : List ℕ) → b < 128 → IsUtf8 (b ∷ bytes) → IsUtf8 bytes
past_ascii b bytes h u = IsUtf8-drop (b ∷ bytes) 1 u (IsCharBoundary-after_ascii (b ∷ bytes) 0 u (omega arith) h)

-- what follows a run of ASCII is UTF-8
run_by : (t : Bool) (n b : ℕ) (bytes : List ℕ) → (t ≡ true → IsUtf8 (drop n bytes)) → IsUtf8 (b ∷ bytes) → IsUtf8 (drop (cond t (1 + n) 0) (b ∷ bytes))
run_by true n b bytes h u = let is : suc n ≡ 1 + n = omega arith in subst (λ k. IsUtf8 (drop k (b ∷ bytes))) is (h refl)
run_by false n b bytes h u = u

pub past_run : (p : ℕ → Bool) (bytes : List ℕ) → ((b : ℕ) → p b ≡ true → b < 128) → IsUtf8 bytes → IsUtf8 (drop (prefix_len p bytes) bytes)
past_run p [] h u = u
past_run p (b ∷ bytes) h u = run_by (p b) (prefix_len p bytes) b bytes (λ e. past_run p bytes h (past_ascii b bytes (h b e) u)) u

-- a run that ends before an ASCII byte, or at the end of the bytes, ends at the bound of a character
pub before_run_end : (p : ℕ → Bool) (bytes : List ℕ) → ((b : ℕ) → p b ≡ false → b < 128) → IsCharBoundary bytes (prefix_len p bytes)
before_run_end p bytes h = by (cases_lt (prefix_len p bytes) (length bytes))
  where
    by : (prefix_len p bytes < length bytes) ⊎ (length bytes ≤ prefix_len p bytes) → IsCharBoundary bytes (prefix_len p bytes)
    by (inl lt) = IsCharBoundary-before_ascii bytes (prefix_len p bytes) lt (h _ (prefix_len_stops p bytes 0 lt))
    by (inr le) =
        let short : prefix_len p bytes ≤ length bytes = prefix_len-le-length p bytes in
        let is : length bytes ≡ prefix_len p bytes = omega arith in
        subst (IsCharBoundary bytes) is (IsCharBoundary-end bytes)

pub from_run_end : (p : ℕ → Bool) (bytes : List ℕ) → ((b : ℕ) → p b ≡ false → b < 128) → IsUtf8 bytes → IsUtf8 (drop (prefix_len p bytes) bytes)
from_run_end p bytes h u = IsUtf8-drop bytes (prefix_len p bytes) u (before_run_end p bytes h)

-- what follows a front of ASCII is UTF-8
pub past_front : (front bytes : List ℕ) → list_all is_ascii front ≡ true → begins front bytes ≡ true → IsUtf8 bytes → IsUtf8 (drop (length front) bytes)
past_front [] bytes h e u = u
past_front (f ∷ front) [] h e u = absurd (false≢true e)
past_front (f ∷ front) (b ∷ bytes) h e u =
    let low = and_parts (is_ascii f) (list_all is_ascii front) h in
    let same = and_parts _ (begins front bytes) e in
    let is : b ≡ f = eqb-true b f same.0 in
    past_front front bytes low.1 same.1 (past_ascii b bytes (omega (arith, ltb-true f 128 low.0)) u)

-- what begins with an ASCII byte is UTF-8
pub from_ascii : (whole bytes : List ℕ) (n b : ℕ) → drop n whole ≡ b ∷ bytes → n < length whole → b < 128 → IsUtf8 whole → IsUtf8 (b ∷ bytes)
from_ascii whole bytes n b e inside low u =
    let at : get_or (drop n whole) 0 0 ≡ get_or whole (n + 0) 0 = get_or-drop n whole 0 0 in
    let first : get_or (drop n whole) 0 0 ≡ b = ap (λ w. get_or w 0 0) e in
    let here : n + 0 ≡ n = omega arith in
    let is : get_or whole n 0 ≡ b = ap (λ i. get_or whole i 0) (sym here) ∙ sym at ∙ first in
    subst IsUtf8 e (IsUtf8-drop whole n u (IsCharBoundary-before_ascii whole n inside (omega (arith, is))))
