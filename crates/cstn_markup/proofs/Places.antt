-- The spans of a piece are slices of its bytes, cut at the bounds of characters.
use Rattle.std.proofs.Common.{◌≡◌, ℕ, zero, suc, ◌+◌, ◌-◌, ◌≤◌, Bool, not, List, [], ◌∷◌, length, length-drop, take, drop, refl, ap, sym, ◌∙◌, subst, arith, Option, Some, None}
use Rattle.std.specs.Prelude.{codes, ◌==◌, ◌||◌}
use Rattle.std.specs.List.{prefix_len, AllByRecursion}
use Rattle.std.specs.Str.{IsUtf8, IsCharBoundary}
use Rattle.std.proofs.lemmas.List.{drop-drop}
use Rattle.std.proofs.lemmas.List.Sums.{prefix_len-le-length}
use Rattle.std.proofs.lemmas.Str.{IsCharBoundary-start, IsCharBoundary-from_drop, IsCharBoundary-from_rest, IsUtf8-between}
use Rattle.cstn_markup.specs.Bytes.{◌>>=◌, past, is_of_name, past_white}
use Rattle.cstn_markup.specs.Tokens.{Attribute, Tail, Kind, name_at, attribute_value_at, attribute_at, tag_end_at, tail_at, attributes_of, attributes_at, with_front, ended_or, start_tag_at, end_tag_at, text_at, piece_at}
use Rattle.cstn_markup.specs.Spans.{LiesBetween, spans, attribute_spans}
use Rattle.cstn_markup.proofs.Rests.{IsRest, bind_some, when_some, some_is, then_rest, white_rest, past_rest, name_rest, value_rest, attribute_rest, tail_rest, start_tag_rest, end_tag_rest, text_rest, value_parts, attribute_parts, begun_rest, no_longer, rest_is}
use Rattle.cstn_markup.proofs.Given.{given_by}

pub all_by : {X : Type 0} {P Q : X → Type 0} (xs : List X) → ((x : X) → P x → Q x) → AllByRecursion P xs → AllByRecursion Q xs
all_by [] f h = tt
all_by (x ∷ xs) f h = (f x h.0, all_by xs f h.1)

pub loosen : (text span : List ℕ) (from to low high : ℕ) → low ≤ from → to ≤ high → LiesBetween text from to span → LiesBetween text low high span
loosen text span from to low high h k s =
    record { begin = s.begin; end = s.end; after = omega (arith, s.after); ordered = s.ordered; before = omega (arith, s.before); is = s.is; begins = s.begins; ends = s.ends }

-- a span of the bytes behind the first n is a span of the whole, n bytes later
pub shift : (whole mid rest span : List ℕ) (n : ℕ) → drop n whole ≡ mid → n ≤ length whole → length rest ≤ length mid → LiesBetween mid 0 (length mid - length rest) span → LiesBetween whole n (length whole - length rest) span
shift whole mid rest span n e inside short s =
    let len : length mid ≡ length whole - n = ap length (sym e) ∙ length-drop n whole in
    let same : s.end - s.begin ≡ n + s.end - (n + s.begin) = omega arith in
    let at : drop s.begin mid ≡ drop (n + s.begin) whole = ap (drop s.begin) (sym e) ∙ drop-drop s.begin n whole in
    record {
      begin = n + s.begin;
      end = n + s.end;
      after = omega arith;
      ordered = omega (arith, s.ordered);
      before = omega (arith, s.before, len);
      is = s.is ∙ ap (λ k. take k (drop s.begin mid)) same ∙ ap (take (n + s.end - (n + s.begin))) at;
      begins = IsCharBoundary-from_rest whole n s.begin inside (subst (λ w. IsCharBoundary w s.begin) (sym e) s.begins);
      ends = IsCharBoundary-from_rest whole n s.end inside (subst (λ w. IsCharBoundary w s.end) (sym e) s.ends);
    }

-- a span of a rest is a span of the whole
pub within : (whole mid rest last span : List ℕ) → IsRest whole mid → length rest ≤ length mid → length last ≤ length rest → LiesBetween mid 0 (length mid - length rest) span → LiesBetween whole 0 (length whole - length last) span
within whole mid rest last span h short le s =
    let len = no_longer whole mid h in
    loosen whole span (length whole - length mid) (length whole - length rest) 0 (length whole - length last) (omega arith) (omega arith)
    (shift whole mid rest span (length whole - length mid) (rest_is whole mid h) (omega arith) short s)

-- the first n bytes are a span, where what follows them is UTF-8
front_span : (bytes rest span : List ℕ) (n : ℕ) → n ≤ length bytes → span ≡ take n bytes → rest ≡ drop n bytes → IsUtf8 bytes → IsUtf8 rest → LiesBetween bytes 0 (length bytes - length rest) span
front_span bytes rest span n h e f u v =
    let len : length rest ≡ length bytes - n = ap length f ∙ length-drop n bytes in
    let same : n ≡ n - 0 = omega arith in
    record {
      begin = 0;
      end = n;
      after = omega arith;
      ordered = omega arith;
      before = omega (arith, len);
      is = e ∙ ap (λ k. take k bytes) same;
      begins = IsCharBoundary-start bytes u;
      ends = IsCharBoundary-from_drop bytes n h (subst IsUtf8 f v);
    }

name_span : (bytes : List ℕ) (x : List ℕ × List ℕ) → name_at bytes ≡ Some x → IsUtf8 bytes → LiesBetween bytes 0 (length bytes - length x.1) x.0
name_span bytes x e u =
    let pair = when_some _ _ x e in
    front_span bytes x.1 x.0 (prefix_len is_of_name bytes) (prefix_len-le-length is_of_name bytes) (sym (ap (λ p. p.0) pair)) (sym (ap (λ p. p.1) pair)) u ((name_rest bytes x e).keeps u)

value_span : (bytes : List ℕ) (x : List ℕ × List ℕ) → attribute_value_at bytes ≡ Some x → IsUtf8 bytes → LiesBetween bytes 0 (length bytes - length x.1) x.0
value_span [] x e u = absurd (cc)
value_span (quote ∷ bytes) x e u =
    let v = value_parts quote bytes x e in
    let n : ℕ = prefix_len (λ b. not (b == quote || b == 60)) bytes in
    within (quote ∷ bytes) bytes (drop n bytes) x.1 x.0 v.opened (no_longer _ _ v.ended) (no_longer _ _ v.closed)
    (front_span bytes (drop n bytes) x.0 n (prefix_len-le-length _ bytes) v.value refl (v.opened.keeps u) (v.ended.keeps (v.opened.keeps u)))

-- the name and the value of an attribute lie in the bytes before the rest
abbrev Holds : List ℕ → List ℕ → Attribute → Type 0
Holds bytes rest a = LiesBetween bytes 0 (length bytes - length rest) a.name × LiesBetween bytes 0 (length bytes - length rest) a.raw

attribute_span : (bytes : List ℕ) (x : Attribute × List ℕ) → attribute_at bytes ≡ Some x → IsUtf8 bytes → Holds bytes x.1 x.0
attribute_span bytes x e u =
    let p = attribute_parts bytes x e in
    let named = name_rest p.spaced p.name p.named in
    let equals : IsRest bytes p.equals = then_rest bytes _ _ (then_rest bytes _ _ p.white named) p.sign in
    let front : IsRest bytes (past_white p.equals) = then_rest bytes _ _ equals (white_rest p.equals) in
    let valued = value_rest (past_white p.equals) p.value p.valued in
    let behind : IsRest p.name.1 p.value.1 = then_rest _ _ _ p.sign (then_rest _ _ _ (white_rest p.equals) valued) in
    subst (λ (y : Attribute × List ℕ). Holds bytes y.1 y.0) p.is (
      within bytes p.spaced p.name.1 p.value.1 p.name.0 p.white (no_longer _ _ named) (no_longer _ _ behind) (name_span p.spaced p.name p.named (p.white.keeps u)),
      within bytes (past_white p.equals) p.value.1 p.value.1 p.value.0 front (no_longer _ _ valued) (omega arith) (value_span (past_white p.equals) p.value p.valued (front.keeps u)),
    )

abbrev AllHold : List ℕ → Tail → Type 0
AllHold bytes tail = AllByRecursion (LiesBetween bytes 0 (length bytes - length tail.rest)) (attribute_spans tail.attributes)

ended_spans : (ended : Option (Bool × List ℕ)) (more : Option Tail) (bytes : List ℕ) (tail : Tail) → (more ≡ Some tail → AllHold bytes tail) → ended_or ended more ≡ Some tail → AllHold bytes tail
ended_spans (Some x) more bytes tail k e = subst (λ (t : Tail). AllHold bytes t) (some_is e) tt
ended_spans None more bytes tail k e = k e

tail_spans : (room : ℕ) (bytes : List ℕ) (tail : Tail) → tail_at room bytes ≡ Some tail → IsUtf8 bytes → AllHold bytes tail
unfolding tail_at
tail_spans zero bytes tail e u = ended_spans (tag_end_at (past_white bytes)) None bytes tail (λ h. absurd (cc)) e
tail_spans (suc room) bytes tail e u =
    ended_spans (tag_end_at (past_white bytes)) (attribute_at bytes >>= λ found. tail_at room found.1 >>= λ t. with_front found.0 t) bytes tail
    (λ h.
    let a = bind_some (attribute_at bytes) _ tail h in
    let b = bind_some (tail_at room a.0.1) _ tail a.2 in
    let rests = attribute_rest bytes a.0 a.1 in
    let short = no_longer _ _ (tail_rest room a.0.1 b.0 b.1) in
    let own = attribute_span bytes a.0 a.1 u in
    let wide : length bytes - length a.0.1 ≤ length bytes - length b.0.rest = omega arith in
    subst (λ (w : Tail). AllHold bytes w) (when_some _ _ tail b.2) (
      loosen bytes a.0.0.name 0 _ 0 _ (omega arith) wide own.0,
      (
        loosen bytes a.0.0.raw 0 _ 0 _ (omega arith) wide own.1,
        all_by (attribute_spans b.0.attributes) (λ s. within bytes a.0.1 b.0.rest b.0.rest s rests short (omega arith)) (tail_spans room a.0.1 b.0 b.1 (rests.keeps u)),
      ),
    ))
    e

-- the spans of a token lie in the bytes before the rest
abbrev pub Spans : List ℕ → Kind → List ℕ → Type 0
Spans bytes k rest = AllByRecursion (LiesBetween bytes 0 (length bytes - length rest)) (spans k)

start_spans : (bytes : List ℕ) (x : Kind × List ℕ) → start_tag_at bytes ≡ Some x → IsUtf8 bytes → Spans bytes x.0 x.1
start_spans bytes x e u =
    let a = bind_some (name_at bytes) _ x e in
    let b = bind_some (tail_at 32 a.0.1) _ x a.2 in
    let named = name_rest bytes a.0 a.1 in
    let short = no_longer _ _ (tail_rest 32 a.0.1 b.0 b.1) in
    let len = no_longer _ _ named in
    subst (λ (y : Kind × List ℕ). Spans bytes y.0 y.1) (some_is b.2) (
      loosen bytes a.0.0 0 _ 0 _ (omega arith) (omega arith) (name_span bytes a.0 a.1 u),
      all_by (attribute_spans b.0.attributes) (λ s. within bytes a.0.1 b.0.rest b.0.rest s named short (omega arith)) (tail_spans 32 a.0.1 b.0 b.1 (named.keeps u)),
    )

end_spans : (bytes : List ℕ) (x : Kind × List ℕ) → end_tag_at bytes ≡ Some x → IsUtf8 bytes → Spans bytes x.0 x.1
end_spans bytes x e u =
    let a = bind_some (name_at bytes) _ x e in
    let b = bind_some (past (codes ">") (past_white a.0.1)) _ x a.2 in
    let short = no_longer _ _ (then_rest _ _ _ (white_rest a.0.1) (past_rest (codes ">") _ _ refl b.1)) in
    let len = no_longer _ _ (name_rest bytes a.0 a.1) in
    subst (λ (y : Kind × List ℕ). Spans bytes y.0 y.1) (some_is b.2)
    (loosen bytes a.0.0 0 _ 0 _ (omega arith) (omega arith) (name_span bytes a.0 a.1 u), tt)

text_spans : (bytes : List ℕ) (x : Kind × List ℕ) → text_at bytes ≡ Some x → IsUtf8 bytes → Spans bytes x.0 x.1
text_spans bytes x e u =
    let n : ℕ = prefix_len (λ b. not (b == 60)) bytes in
    subst (λ (y : Kind × List ℕ). Spans bytes y.0 y.1) (when_some _ _ x e)
    (front_span bytes (drop n bytes) (take n bytes) n (prefix_len-le-length _ bytes) refl refl u (subst IsUtf8 (sym (ap (λ p. p.1) (when_some _ _ x e))) ((text_rest bytes x e).keeps u)), tt)

-- spans that lie behind the bytes which begin a tag lie in the whole tag
tag_spans : (front bytes : List ℕ) (x : Kind × List ℕ) → IsRest bytes front → length x.1 ≤ length front → Spans front x.0 x.1 → Spans bytes x.0 x.1
tag_spans front bytes x h short s = all_by (spans x.0) (λ w. within bytes front x.1 x.1 w h short (omega arith)) s

pub piece_spans : (bytes : List ℕ) (k : Kind) (rest : List ℕ) → piece_at bytes ≡ Some (Some k, rest) → IsUtf8 bytes → Spans bytes k rest
piece_spans bytes k rest e u =
    given_by (λ k rest. Spans bytes k rest) bytes
    (λ h x g. let r = begun_rest (codes "</") bytes refl h in tag_spans (drop 2 bytes) bytes x r (no_longer _ _ (end_tag_rest _ x g)) (end_spans (drop 2 bytes) x g (r.keeps u)))
    (λ h x g. let r = begun_rest (codes "<") bytes refl h in tag_spans (drop 1 bytes) bytes x r (no_longer _ _ (start_tag_rest _ x g)) (start_spans (drop 1 bytes) x g (r.keeps u)))
    (λ x g. text_spans bytes x g u) k rest e

-- a span of UTF-8 is UTF-8
pub span_utf8 : (text span : List ℕ) (from to : ℕ) → IsUtf8 text → LiesBetween text from to span → IsUtf8 span
span_utf8 text span from to u s = subst IsUtf8 (sym s.is) (IsUtf8-between text s.begin s.end u s.ordered s.begins s.ends)

-- the spans of UTF-8 are UTF-8
pub spans_utf8 : (text : List ℕ) (from to : ℕ) (xs : List (List ℕ)) → IsUtf8 text → AllByRecursion (LiesBetween text from to) xs → AllByRecursion IsUtf8 xs
spans_utf8 text from to xs u h = all_by xs (λ x s. span_utf8 text x from to u s) h

raws_utf8 : (attributes : List Attribute) → AllByRecursion IsUtf8 (attribute_spans attributes) → AllByRecursion (λ a. IsUtf8 a.raw) attributes
raws_utf8 [] h = tt
raws_utf8 (a ∷ attributes) h = (h.1.0, raws_utf8 attributes h.1.1)

tail_utf8 : (room : ℕ) (bytes : List ℕ) (o : Option Tail) → tail_at room bytes ≡ o → IsUtf8 bytes → AllByRecursion (λ a. IsUtf8 a.raw) (attributes_of o)
tail_utf8 room bytes None e u = tt
tail_utf8 room bytes (Some tail) e u = raws_utf8 tail.attributes (spans_utf8 bytes 0 _ (attribute_spans tail.attributes) u (tail_spans room bytes tail e u))

pub attributes_utf8 : (room : ℕ) (bytes : List ℕ) → IsUtf8 bytes → AllByRecursion (λ a. IsUtf8 a.raw) (attributes_at room bytes)
attributes_utf8 room bytes u = tail_utf8 room bytes (tail_at room bytes) refl u
