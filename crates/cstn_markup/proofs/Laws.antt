-- The tokens of a text stand in it in order.
use Rattle.std.proofs.Common.{◌≡◌, ℕ, zero, suc, ◌+◌, ◌-◌, ◌<◌, ◌≤◌, Bool, true, false, cond, List, [], ◌∷◌, ◌++◌, length, length-drop, take, drop, refl, ap, sym, ◌∙◌, subst, arith, Option, Some, None, inl, inr}
use Rattle.std.specs.Prelude.{codes}
use Rattle.std.specs.List.{AllByRecursion}
use Rattle.std.specs.Str.{IsUtf8}
use Rattle.std.specs.Char.{encode_utf8}
use Rattle.std.proofs.lemmas.Bool.{cases_lt, and_parts, eqb-true, false≢true}
use Rattle.std.proofs.lemmas.List.{drop-drop, length-append}
use Rattle.std.proofs.lemmas.Str.{IsUtf8-past_char, length-encode}
use Rattle.cstn_markup.specs.Bytes.{begins, past_first}
use Rattle.cstn_markup.specs.Tokens.{Token, Kind, tokens, tokens_after, tokens_behind, piece_at, mark_len, declaration_len}
use Rattle.cstn_markup.specs.Spans.{LiesBetween, spans, AreInPlace}
use Rattle.cstn_markup.proofs.Rests.{IsRest, bind_some, some_is, which, begun_rest, first_rest, no_longer, rest_is, then_rest}
use Rattle.cstn_markup.proofs.Places.{all_by, loosen, shift, piece_spans}
use Rattle.cstn_markup.proofs.Skips.{take_rest}
use Rattle.cstn_markup.proofs.Stepping.{piece_of, token_told, comment_told, wrong_told, finish_told, started}

-- the first token stands at a place or behind it
abbrev pub Begins : ℕ → List Token → Type 0
Begins from [] = ⊥
Begins from (t ∷ later) = from ≤ t.at

abbrev pub Follow : List ℕ → ℕ → List Token → Type 0
Follow text from ts = Begins from ts × AreInPlace text ts

later_begins : (low high : ℕ) (ts : List Token) → low ≤ high → Begins high ts → Begins low ts
later_begins low high [] h b = b
later_begins low high (t ∷ ts) h b = omega arith

-- a token put before others that are in place is in place, where its spans end at the place of the next one or before it
token_first : (text : List ℕ) (t : Token) (to : ℕ) (later : List Token) → t.at < to → AllByRecursion (LiesBetween text t.at to) (spans t.kind) → Follow text to later → AreInPlace text (t ∷ later)
token_first text t to [] h s f = absurd f.0
token_first text t to (next ∷ later) h s f = (omega (arith, f.0), all_by (spans t.kind) (λ x. loosen text x t.at to t.at next.at (omega arith) f.0) s, f.1)

-- the spans of the piece at a place lie between that place and the end of the piece
spans_at : (text rest : List ℕ) (at : ℕ) (k : Kind) → at < length text → piece_at (drop at text) ≡ Some (Some k, rest) → IsUtf8 (drop at text) → AllByRecursion (LiesBetween text at (length text - length rest)) (spans k)
spans_at text rest at k h e u =
    let p = piece_of text at (Some k, rest) h e in
    let short = no_longer _ _ p.behind.rests in
    all_by (spans k) (λ x. shift text (drop at text) rest x at refl (omega arith) short) (piece_spans (drop at text) k rest e u)

-- what follows the piece at a place is UTF-8
pub next_utf8 : (text : List ℕ) (at : ℕ) (x : Option Kind × List ℕ) → at < length text → piece_at (drop at text) ≡ Some x → IsUtf8 (drop at text) → IsUtf8 (drop (length text - length x.1) text)
next_utf8 text at x h e u =
    let p = piece_of text at x h e in
    let len = length-drop at text in
    let short = no_longer _ _ p.behind.rests in
    let whole : IsRest text (drop at text) = record { count = at; is = refl; keeps = λ _. u } in
    subst IsUtf8 (sym (rest_is text x.1 (then_rest text (drop at text) x.1 whole p.behind.rests))) (p.behind.rests.keeps u)

abbrev Later : List ℕ → ℕ → Type 0
Later text at = (next : ℕ) → at < next → next ≤ length text → IsUtf8 (drop next text) → Follow text next (tokens_after 0 next (drop next text))

by_piece : (text : List ℕ) (at : ℕ) (o : Option (Option Kind × List ℕ)) → at < length text → piece_at (drop at text) ≡ o → IsUtf8 (drop at text) → Later text at → Follow text at (tokens_after 0 at (drop at text))
by_piece text at None h e u later = rw (wrong_told text at h e) (omega arith, (omega arith, refl))
by_piece text at (Some (None, rest)) h e u later =
    let p = piece_of text at (None, rest) h e in
    let next : at < length text - length rest = omega (arith, p.place) in
    let f = later (length text - length rest) next (omega arith) (next_utf8 text at (None, rest) h e u) in
    rw (comment_told text rest at h e) (later_begins at (length text - length rest) _ (omega arith) f.0, f.1)
by_piece text at (Some (Some k, rest)) h e u later =
    let p = piece_of text at (Some k, rest) h e in
    let next : at < length text - length rest = omega (arith, p.place) in
    let f = later (length text - length rest) next (omega arith) (next_utf8 text at (Some k, rest) h e u) in
    rw (token_told text rest at k h e)
    (omega arith, token_first text (record { at = at; kind = k }) (length text - length rest) _ next (spans_at text rest at k h e u) f)

at_end : (text : List ℕ) (at : ℕ) → length text ≤ at → at ≤ length text → Follow text at (tokens_after 0 at (drop at text))
at_end text at h k = rw (finish_told text at h) (omega arith, (k, refl))

by_place : (left : ℕ) (text : List ℕ) (at : ℕ) → length text ≤ at + left → at ≤ length text → IsUtf8 (drop at text) → Follow text at (tokens_after 0 at (drop at text))
by_place zero text at h k u = at_end text at (omega arith) k
by_place (suc left) text at h k u =
    elim (cases_lt at (length text)) [
      | inl lt ↦ by_piece text at (piece_at (drop at text)) lt refl u (λ next m n v. by_place left text next (omega arith) n v)
      | inr le ↦ at_end text at le k
    ]

pub tokens_follow : (text : List ℕ) (at : ℕ) → at ≤ length text → IsUtf8 (drop at text) → Follow text at (tokens_after 0 at (drop at text))
tokens_follow text at h u = by_place (length text) text at (omega arith) h u

-- the start: behind a byte order mark and a declaration

begun_is : (front bytes : List ℕ) → begins front bytes ≡ true → bytes ≡ front ++ drop (length front) bytes
begun_is [] bytes e = refl
begun_is (f ∷ front) [] e = absurd (false≢true e)
begun_is (f ∷ front) (b ∷ bytes) e =
    let same = and_parts _ (begins front bytes) e in
    let is : b ≡ f = eqb-true b f same.0 in
    ap (λ x. x ∷ bytes) is ∙ ap (λ xs. f ∷ xs) (begun_is front bytes same.1)

mark_by : (b : Bool) (text : List ℕ) → begins (239 ∷ 187 ∷ 191 ∷ []) text ≡ b → IsUtf8 text → (cond b 3 0 ≤ length text) × IsUtf8 (drop (cond b 3 0) text)
unfolding encode_utf8
mark_by true text e u =
    let is : text ≡ encode_utf8 65279 ++ drop 3 text = begun_is (239 ∷ 187 ∷ 191 ∷ []) text e in
    let long : 3 ≤ length text = omega (arith, ap length is, length-append (encode_utf8 65279) (drop 3 text), length-encode 65279) in
    (long, IsUtf8-past_char text (drop 3 text) 65279 u is)
mark_by false text e u = (omega arith, u)

pub mark_utf8 : (text : List ℕ) → IsUtf8 text → (mark_len text ≤ length text) × IsUtf8 (drop (mark_len text) text)
mark_utf8 text u = mark_by _ text refl u

pub declaration_utf8 : (bytes : List ℕ) (n : ℕ) → declaration_len bytes ≡ Some n → IsUtf8 bytes → (n ≤ length bytes) × IsUtf8 (drop n bytes)
declaration_utf8 bytes n e u =
    elim (which (begins (codes "<?xml") bytes) _ _ _ e) [
      | inl h ↦
          let a = bind_some (past_first (codes "?>") (drop 5 bytes)) _ n h.1 in
          let rests : IsRest bytes a.0 = then_rest bytes _ _ (begun_rest (codes "<?xml") bytes refl h.0) (first_rest 63 (codes ">") _ a.0 refl a.1) in
          let is : length bytes - length a.0 ≡ n = some_is a.2 in
          (omega arith, subst (λ k. IsUtf8 (drop k bytes)) is (subst IsUtf8 (sym (rest_is bytes a.0 rests)) (rests.keeps u)))
      | inr h ↦ subst (λ k. (k ≤ length bytes) × IsUtf8 (drop k bytes)) (some_is h.1) (omega arith, u)
    ]

-- what follows a byte order mark and a declaration is UTF-8
pub started_utf8 : (text : List ℕ) (mark n : ℕ) → mark ≡ mark_len text → declaration_len (drop mark text) ≡ Some n → IsUtf8 text → (mark + n ≤ length text) × IsUtf8 (drop (mark + n) text)
started_utf8 text mark n is e u =
    let m = mark_utf8 text u in
    let v : IsUtf8 (drop mark text) = subst (λ k. IsUtf8 (drop k text)) (sym is) m.1 in
    let d = declaration_utf8 (drop mark text) n e v in
    let len : length (drop mark text) ≡ length text - mark = length-drop mark text in
    let inside : mark ≤ length text = omega (arith, is, m.0) in
    (omega (arith, d.0), subst IsUtf8 (drop-drop n mark text) d.1)

start_by : (text : List ℕ) (mark : ℕ) (o : Option ℕ) → mark ≡ mark_len text → declaration_len (drop mark text) ≡ o → IsUtf8 text → AreInPlace text (tokens_behind mark text o)
start_by text mark None is e u = (omega (arith, is, (mark_utf8 text u).0), refl)
start_by text mark (Some n) is e u =
    let s = started_utf8 text mark n is e u in
    subst (AreInPlace text) (started text mark n s.0) (tokens_follow text (mark + n) s.0 s.1).1

pub tokens_in_place : (text : List ℕ) → IsUtf8 text → AreInPlace text (tokens text)
tokens_in_place text u = start_by text (mark_len text) _ refl refl u

few_by : (text : List ℕ) (t : Token) (later : List Token) → AreInPlace text (t ∷ later) → t.at + length (t ∷ later) ≤ length text + 1
few_by text t [] h = omega (arith, h.0)
few_by text t (next ∷ later) h = let k = few_by text next later h.2 in omega (arith, h.0, k)

few : (text : List ℕ) (ts : List Token) → AreInPlace text ts → length ts ≤ length text + 1
few text [] h = omega arith
few text (t ∷ later) h = omega (arith, few_by text t later h)

pub tokens_few : (text : List ℕ) → IsUtf8 text → length (tokens text) ≤ length text + 1
tokens_few text u = few text (tokens text) (tokens_in_place text u)

pub mark_start : (text : List ℕ) (mark : ℕ) → mark ≡ mark_len text → IsUtf8 text → (mark ≤ length text) × IsUtf8 (drop mark text)
mark_start text mark is u = rw is (mark_utf8 text u)

-- what follows a byte order mark and a declaration is UTF-8, also where the declaration is read from a slice
pub started_slice : (text : List ℕ) (mark n : ℕ) → mark ≡ mark_len text → Some n ≡ declaration_len (take (length text - mark) (drop mark text)) → IsUtf8 text → (mark + n ≤ length text) × IsUtf8 (drop (mark + n) text)
started_slice text mark n is e u = started_utf8 text mark n is (sym (e ∙ ap declaration_len (take_rest mark text))) u

-- the tokens with which a scanner starts are in place, and number at most one more than the bytes
pub told_so : (text : List ℕ) (ts : List Token) → IsUtf8 text → ts ≡ tokens text → (AreInPlace text ts × (length ts ≤ length text + 1))
told_so text ts u e = rw e (tokens_in_place text u, tokens_few text u)
