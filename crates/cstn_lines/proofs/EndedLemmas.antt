-- The lines of some bytes, where a last one that lacks its LF is heard as an empty one.
use Rattle.std.proofs.Common.{◌≡◌, ◌≢◌, ℕ, ◌+◌, ◌<◌, ◌≤◌, List, [], ◌∷◌, ◌++◌, length, take, drop, refl, arith, zero, suc, add-one, sym, ap, ◌∙◌, append-nil, length-append}
use Rattle.std.specs.Prelude.{Bool, true, false, nat_lt, ◌==◌, if◌then◌else◌}
use Rattle.std.proofs.lemmas.Bool.{ne_eqb, eq-eqb, eqb-true, false≢true}
use Rattle.cstn_text.specs.Parts.{SplitText, with_first_byte, parts_at}
use Rattle.cstn_lines.specs.Pieces.{IsCut, HasNoEnd, unended, with_unended, ended_lines}

-- a line is heard first, whatever comes after it
line_first : (line : List ℕ) (lines : List (List ℕ)) (tail : List ℕ) → with_unended (line ∷ lines) tail ≡ line ∷ with_unended lines tail
line_first line lines [] = refl
line_first line lines (b ∷ tail) = refl

pub none_ended : ended_lines [] ≡ []
unfolding parts_at
none_ended = refl

-- an LF at the front ends an empty first line, and another byte begins one
ends_parts : (b : ℕ) (bs : List ℕ) → b ≡ 10 → parts_at 10 (b ∷ bs) ≡ ([] ∷ (parts_at 10 bs).0, (parts_at 10 bs).1)
unfolding parts_at
ends_parts b bs is = rw (eq-eqb b 10 is) refl

goes_parts : (b : ℕ) (bs : List ℕ) → b ≢ 10 → parts_at 10 (b ∷ bs) ≡ with_first_byte b (parts_at 10 bs).0 (parts_at 10 bs).1
unfolding parts_at
goes_parts b bs isnt = rw (ne_eqb b 10 isnt) refl

cut_parts : (bs rest : List ℕ) (i : ℕ) → IsCut bs i →
    parts_at 10 (bs ++ rest) ≡ (take i bs ∷ (parts_at 10 (drop (i + 1) bs ++ rest)).0, (parts_at 10 (drop (i + 1) bs ++ rest)).1)
cut_parts [] rest i cut = absurd (omega (arith, cut.inside))
cut_parts (b ∷ bs) rest zero cut = ends_parts b (bs ++ rest) cut.ends
cut_parts (b ∷ bs) rest (suc i) cut =
    let isnt : b ≢ 10 = cut.before 0 (omega arith) in
    let more = cut_parts bs rest i (record { inside = omega (arith, cut.inside); ends = cut.ends; before = λ k h. cut.before (suc k) (omega arith) }) in
    rw (goes_parts b (bs ++ rest) isnt, more, add-one (suc i), add-one i) refl

pub cut_ended : (bs rest : List ℕ) (i : ℕ) → IsCut bs i → ended_lines (bs ++ rest) ≡ take i bs ∷ ended_lines (drop (i + 1) bs ++ rest)
cut_ended bs rest i cut =
    ap {A = SplitText} (λ p. with_unended p.0 p.1) (cut_parts bs rest i cut)
    ∙ line_first (take i bs) (parts_at 10 (drop (i + 1) bs ++ rest)).0 (parts_at 10 (drop (i + 1) bs ++ rest)).1

open_parts : (bs : List ℕ) → HasNoEnd bs → parts_at 10 bs ≡ ([], bs)
unfolding parts_at
open_parts [] none = refl
open_parts (b ∷ bs) none =
    let more = open_parts bs (λ k h. none (suc k) (omega arith)) in
    rw (ne_eqb b 10 (none 0 (omega arith)), more) refl

is_short : (xs : List ℕ) → length xs ≤ 4096 → unended xs ≡ []
is_short xs few = let e : nat_lt 4096 (length xs) ≡ false = grind arith in ap (λ (t : Bool). if t then xs else []) e

is_long : (xs : List ℕ) → 4096 < length xs → unended xs ≡ xs
is_long xs many = let e : nat_lt 4096 (length xs) ≡ true = grind arith in ap (λ (t : Bool). if t then xs else []) e

-- bytes without an LF are heard as one empty line
pub last_ended : (bs : List ℕ) → 0 < length bs → HasNoEnd bs → length bs ≤ 4096 → ended_lines (bs ++ []) ≡ [] ∷ ended_lines ([] ++ [])
unfolding parts_at
last_ended [] some none few = absurd (omega arith)
last_ended (b ∷ bs) some none few =
    ap ended_lines (append-nil (b ∷ bs))
    ∙ ap {A = SplitText} (λ p. with_unended p.0 p.1) (open_parts (b ∷ bs) none)
    ∙ ap (λ (line : List ℕ). line ∷ []) (is_short (b ∷ bs) few)

-- the first line that is heard of bytes without an LF, which are too many, and of what follows begins with all of those bytes
pub long_ended : (bs rest : List ℕ) → HasNoEnd bs → 4096 < length bs → (more : List ℕ) × (lines : List (List ℕ)) × (ended_lines (bs ++ rest) ≡ (bs ++ more) ∷ lines)
long_ended bs rest none many = at (parts_at 10 rest).0 (parts_at 10 rest).1 (all_begun bs none)
  where
    -- the parts behind bytes without an LF
    behind : List ℕ → List (List ℕ) → List ℕ → SplitText
    behind [] parts tail = (parts, tail)
    behind (b ∷ xs) parts tail = with_first_byte b (behind xs parts tail).0 (behind xs parts tail).1

    all_begun : (xs : List ℕ) → HasNoEnd xs → parts_at 10 (xs ++ rest) ≡ behind xs (parts_at 10 rest).0 (parts_at 10 rest).1
    all_begun [] none = refl
    all_begun (b ∷ xs) none = goes_parts b (xs ++ rest) (none 0 (omega arith)) ∙ ap {A = SplitText} (λ p. with_first_byte b p.0 p.1) (all_begun xs (λ k h. none (suc k) (omega arith)))

    tail_grows : (xs tail : List ℕ) → behind xs [] tail ≡ ([], xs ++ tail)
    tail_grows [] tail = refl
    tail_grows (b ∷ xs) tail = ap {A = SplitText} (λ p. with_first_byte b p.0 p.1) (tail_grows xs tail)

    line_grows : (xs part : List ℕ) (parts : List (List ℕ)) (tail : List ℕ) → behind xs (part ∷ parts) tail ≡ ((xs ++ part) ∷ parts, tail)
    line_grows [] part parts tail = refl
    line_grows (b ∷ xs) part parts tail = ap {A = SplitText} (λ p. with_first_byte b p.0 p.1) (line_grows xs part parts tail)

    alone : (xs : List ℕ) → 4096 < length xs → with_unended [] xs ≡ xs ∷ []
    alone [] long = absurd (omega arith)
    alone (b ∷ xs) long = ap (λ (line : List ℕ). line ∷ []) (is_long (b ∷ xs) long)

    at : (parts : List (List ℕ)) (tail : List ℕ) → parts_at 10 (bs ++ rest) ≡ behind bs parts tail → (more : List ℕ) × (lines : List (List ℕ)) × (ended_lines (bs ++ rest) ≡ (bs ++ more) ∷ lines)
    at [] tail is =
        (tail, [], ap {A = SplitText} (λ p. with_unended p.0 p.1) (is ∙ tail_grows bs tail) ∙ alone (bs ++ tail) (omega (arith, length-append bs tail)))
    at (part ∷ parts) tail is =
        (part, with_unended parts tail, ap {A = SplitText} (λ p. with_unended p.0 p.1) (is ∙ line_grows bs part parts tail) ∙ line_first (bs ++ part) parts tail)

-- bytes that are not empty have a first line that is heard
pub some_ended : (bs : List ℕ) → 0 < length bs → (line : List ℕ) × (lines : List (List ℕ)) × (ended_lines bs ≡ line ∷ lines)
some_ended [] some = absurd (omega arith)
some_ended (b ∷ bs) some = at (b == 10) refl (parts_at 10 bs).0 (parts_at 10 bs).1 refl
  where
    found : (parts : List (List ℕ)) (tail : List ℕ) → 0 < length tail → (line : List ℕ) × (lines : List (List ℕ)) × (with_unended parts tail ≡ line ∷ lines)
    found parts [] h = absurd (omega arith)
    found [] (c ∷ tail) h = (unended (c ∷ tail), [], refl)
    found (part ∷ parts) (c ∷ tail) h = (part, parts ++ unended (c ∷ tail) ∷ [], refl)

    more : (parts : List (List ℕ)) (tail : List ℕ) → let p : SplitText = with_first_byte b parts tail in (line : List ℕ) × (lines : List (List ℕ)) × (with_unended p.0 p.1 ≡ line ∷ lines)
    more [] tail = found [] (b ∷ tail) (omega arith)
    more (part ∷ parts) tail = (b ∷ part, with_unended parts tail, line_first (b ∷ part) parts tail)

    at : (end : Bool) → (b == 10) ≡ end → (parts : List (List ℕ)) (tail : List ℕ) → parts_at 10 bs ≡ (parts, tail) → (line : List ℕ) × (lines : List (List ℕ)) × (ended_lines (b ∷ bs) ≡ line ∷ lines)
    at true is parts tail same =
        ([], with_unended parts tail, ap {A = SplitText} (λ p. with_unended p.0 p.1) (ends_parts b bs (eqb-true b 10 is) ∙ ap {A = SplitText} (λ p. ([] ∷ p.0, p.1)) same) ∙ line_first [] parts tail)
    at false is parts tail same =
        let it = more parts tail in
        (it.0, it.1, ap {A = SplitText} (λ p. with_unended p.0 p.1) (goes_parts b bs (λ e. false≢true (sym is ∙ eq-eqb b 10 e)) ∙ ap {A = SplitText} (λ p. with_first_byte b p.0 p.1) same) ∙ it.2)
