-- What a listing says, line by line, and which texts are listings.
use Rattle.std.proofs.Common.{ℕ, ◌≡◌, ◌+◌, ◌<◌, ◌≤◌, ◌^◌, Bool, true, false, List, [], ◌∷◌, ◌++◌, length, map, arith, refl, sym, ap, ◌∙◌, subst, append_assoc, append-nil, length-append}
use Rattle.std.specs.Prelude.{if◌then◌else◌, bytes_eq, Option, Some, None}
use Rattle.std.specs.Option.{option_and_then, option_map}
use Rattle.std.proofs.lemmas.List.{map-append, length-map}
use Rattle.std.proofs.lemmas.List.Elements.{All-head, All-tail}
use Rattle.std.proofs.lemmas.Slice.Eq.{bytes_eq-Decides}
use Rattle.cstn_facts.proofs.Options.{then_read, map_read, if_read}
use Rattle.cstn_facts.proofs.Booleans.{bytes_same}
use Rattle.cstn_text.specs.Cuts.{cut_at}
use Rattle.cstn_text.specs.Numbers.{number_within, printed_number}
use Rattle.cstn_text.specs.Parts.{IsOnePart, SplitText, part, parts_at, joined}
use Rattle.cstn_text.specs.Listings.{Told, tells, wrong, ListingKind, load_read, start_read, at_end, is_some_listed, or_wrong, told_after, told, AreLines, IsTextOf}
use Rattle.cstn_text.proofs.CutLemmas.{cut_back, cut_joined}
use Rattle.cstn_text.proofs.SplitLemmas.{AreFree, parts_cut, parts_open, parts_joined, parts_free}
use Rattle.cstn_text.proofs.ReadingLemmas.{within_said, part_said, part_back, within_back, IsFree, free, spaced, number_free}

-- ---- the first line

load_said : (word : List ℕ) (most : ℕ) (line : List ℕ) (load : ℕ) → load_read word most line ≡ Some load → (1 ≤ load) × (load ≤ most) × (line ≡ word ++ 32 ∷ printed_number load)
load_said word most line load e =
    let found = then_read (part line) (λ found. if bytes_eq found.0 word then number_within 1 most found.1 else None) load e in
    let number = if_read (bytes_eq found.0.0 word) (number_within 1 most found.0.1) load found.2 in
    let range = within_said 1 most found.0.1 load number.1 in (
      range.0,
      range.1,
      part_said line found.0 found.1
          ∙ ap (λ (t : List ℕ). t ++ 32 ∷ found.0.1) ((bytes_eq-Decides found.0.0 word).0 number.0)
          ∙ ap (λ (t : List ℕ). word ++ 32 ∷ t) range.2,
    )

load_back : (word : List ℕ) (most load : ℕ) → IsOnePart word → 1 ≤ load → load ≤ most → most < 2 ^ 64 → load_read word most (word ++ 32 ∷ printed_number load) ≡ Some load
load_back word most load is low high small =
    ap (λ (o : Option (List ℕ × List ℕ)). option_and_then (λ found. if bytes_eq found.0 word then number_within 1 most found.1 else None) o)
    (part_back word (printed_number load) is)
    ∙ ap (λ (b : Bool). if b then number_within 1 most (printed_number load) else None) (bytes_same word)
    ∙ within_back 1 most load low high small

-- the first line that is read, with its range, and what stands after it
start_said : (word : List ℕ) (most : ℕ) (bytes : List ℕ) (start : ℕ × List ℕ) → start_read word most bytes ≡ Some start →
    (1 ≤ start.0) × (start.0 ≤ most) × (bytes ≡ word ++ 32 ∷ printed_number start.0 ++ 10 ∷ start.1)
start_said word most bytes start e =
    let cut = then_read (cut_at 10 bytes) _ start e in
    let load = map_read (load_read word most cut.0.0) _ start cut.2 in
    let range = load_said word most cut.0.0 load.0 load.1 in
    let P : ℕ × List ℕ → Type 0 = λ (s : ℕ × List ℕ). (1 ≤ s.0) × (s.0 ≤ most) × (bytes ≡ word ++ 32 ∷ printed_number s.0 ++ 10 ∷ s.1) in
    subst P load.2 (range.0, range.1, cut_joined 10 bytes cut.0.0 cut.0.1 cut.1 ∙ ap (λ (t : List ℕ). t ++ 10 ∷ cut.0.1) range.2)

-- a space and an LF stand before what is left
pub start_shorter : (word : List ℕ) (most : ℕ) (bytes : List ℕ) (load : ℕ) (rest : List ℕ) → start_read word most bytes ≡ Some (load, rest) → length rest + 2 ≤ length bytes
start_shorter word most bytes load rest e =
    let said = start_said word most bytes (load, rest) e in
    let front = length-append (word ++ 32 ∷ printed_number load) (10 ∷ rest) in
    let line = length-append word (32 ∷ printed_number load) in
    omega (arith, ap length said.2, front, line)

start_back : (word : List ℕ) (most load : ℕ) (rest : List ℕ) → IsOnePart word → 1 ≤ load → load ≤ most → most < 2 ^ 64 →
    start_read word most (word ++ 32 ∷ printed_number load ++ 10 ∷ rest) ≡ Some (load, rest)
start_back word most load rest is low high small =
    let line = word ++ 32 ∷ printed_number load in
    let line_free = spaced word (printed_number load) (free word is) (number_free load (omega arith)) in
    ap (λ (o : Option (List ℕ × List ℕ)). option_and_then (λ (cut : List ℕ × List ℕ). option_map {U = ℕ × List ℕ} (λ n. (n, cut.1)) (load_read word most cut.0)) o)
    (cut_back 10 line rest line_free)
    ∙ ap (option_map {U = ℕ × List ℕ} (λ (n : ℕ). (n, rest))) (load_back word most load is low high small)

module _ {A : Type 0} (kind : ListingKind A) where
  -- ---- what is said, by the first of the lines

  pub told_next : (load : ℕ) (listed : List A) (left line rest : List ℕ) → cut_at 10 left ≡ Some (line, rest) →
      told_after kind load listed (parts_at 10 left).0 (parts_at 10 left).1 ≡
      or_wrong (kind.line_read listed line) (length listed + 2) (λ x. told_after kind load (listed ++ x ∷ []) (parts_at 10 rest).0 (parts_at 10 rest).1)
  unfolding told_after
  told_next load listed left line rest is = ap {A = SplitText} (λ p. told_after kind load listed p.0 p.1) (parts_cut 10 left line rest is)

  -- what is told stays where the next line is read
  pub told_on : (load : ℕ) (listed : List A) (left line rest : List ℕ) (x : A) (t : Told A) → cut_at 10 left ≡ Some (line, rest) → kind.line_read listed line ≡ Some x →
      told_after kind load listed (parts_at 10 left).0 (parts_at 10 left).1 ≡ t → told_after kind load (listed ++ x ∷ []) (parts_at 10 rest).0 (parts_at 10 rest).1 ≡ t
  told_on load listed left line rest x t is read before =
      sym (told_next load listed left line rest is
      ∙ ap (λ o. or_wrong o (length listed + 2) (λ y. told_after kind load (listed ++ y ∷ []) (parts_at 10 rest).0 (parts_at 10 rest).1)) read)
      ∙ before

  -- the same of the things that a program's values stand for
  pub told_viewed : {B : Type 0} (view : B → A) (load : ℕ) (items : List B) (left line rest : List ℕ) (x : B) (t : Told A) → cut_at 10 left ≡ Some (line, rest) →
      kind.line_read (map view items) line ≡ Some (view x) → told_after kind load (map view items) (parts_at 10 left).0 (parts_at 10 left).1 ≡ t →
      told_after kind load (map view (items ++ x ∷ [])) (parts_at 10 rest).0 (parts_at 10 rest).1 ≡ t
  told_viewed view load items left line rest x t is read before =
      ap (λ l. told_after kind load l (parts_at 10 rest).0 (parts_at 10 rest).1) (map-append view items (x ∷ []))
      ∙ told_on load (map view items) left line rest (view x) t is read before

  -- what the lines say where none is left
  pub told_last : (load : ℕ) (listed : List A) (left : List ℕ) → cut_at 10 left ≡ None →
      told_after kind load listed (parts_at 10 left).0 (parts_at 10 left).1 ≡ at_end kind.may_end load listed left
  unfolding told_after
  told_last load listed left is = ap {A = SplitText} (λ p. told_after kind load listed p.0 p.1) (parts_open 10 left is)

  -- the line is wrong where nothing is read of it, after the things that a program's values stand for
  pub wrong_viewed : {B : Type 0} (view : B → A) (load : ℕ) (items : List B) (left line rest : List ℕ) (t : Told A) → cut_at 10 left ≡ Some (line, rest) →
      kind.line_read (map view items) line ≡ None → told_after kind load (map view items) (parts_at 10 left).0 (parts_at 10 left).1 ≡ t → t ≡ wrong (length items + 2)
  wrong_viewed view load items left line rest t is read before =
      let line_wrong : ℕ → Told A = λ n. wrong (n + 2) in
      sym before ∙ told_next load (map view items) left line rest is
      ∙ ap (λ o. or_wrong o (length (map view items) + 2) (λ y. told_after kind load (map view items ++ y ∷ []) (parts_at 10 rest).0 (parts_at 10 rest).1)) read
      ∙ ap line_wrong (length-map items view)

  -- what the lines say after the first one
  abbrev after_start : ℕ × List ℕ → Told A
  after_start start = told_after kind start.0 [] (parts_at 10 start.1).0 (parts_at 10 start.1).1

  -- what a text says, by its first line
  pub told_first : (bytes : List ℕ) (load : ℕ) (rest : List ℕ) → start_read kind.word kind.most bytes ≡ Some (load, rest) →
      told kind bytes ≡ told_after kind load [] (parts_at 10 rest).0 (parts_at 10 rest).1
  told_first bytes load rest read = ap (λ (o : Option (ℕ × List ℕ)). or_wrong o 1 after_start) read

  pub first_wrong : (bytes : List ℕ) → start_read kind.word kind.most bytes ≡ None → told kind bytes ≡ wrong 1
  first_wrong bytes read = ap (λ (o : Option (ℕ × List ℕ)). or_wrong o 1 after_start) read

  -- ---- what a text says is what it lists

  not_wrong : (line load : ℕ) (listed : List A) → wrong line ≡ tells load listed → ⊥
  not_wrong line load listed e = cc

  tells_both : (one other : ℕ) (xs ys : List A) → tells one xs ≡ tells other ys → (one ≡ other) × (xs ≡ ys)
  tells_both one other xs ys e = (cc, cc)

  read_or_wrong : {B : Type 0} (o : Option B) (line : ℕ) (next : B → Told A) (load : ℕ) (listed : List A) → or_wrong o line next ≡ tells load listed →
      (x : B) × (o ≡ Some x) × (next x ≡ tells load listed)
  read_or_wrong None line next load listed e = absurd (not_wrong line load listed e)
  read_or_wrong (Some x) line next load listed e = (x, refl, e)

  ended : (b : Bool) (one other line : ℕ) (xs ys : List A) → (if b then tells one xs else wrong line) ≡ tells other ys → (b ≡ true) × (one ≡ other) × (xs ≡ ys)
  ended true one other line xs ys e = let both = tells_both one other xs ys e in (refl, both.0, both.1)
  ended false one other line xs ys e = absurd (not_wrong line other ys e)

  -- the text is the lines of further things, which with those before make all
  record AreMore (load other : ℕ) (before all : List A) (bytes : List ℕ) : Type 0 where
    same : load ≡ other
    ends : kind.may_end all ≡ true
    more : List A
    whole : all ≡ before ++ more
    lines : AreLines kind before more bytes

  end_said : (load other : ℕ) (before all : List A) (tail : List ℕ) → at_end kind.may_end load before tail ≡ tells other all → AreMore load other before all tail
  end_said load other before all [] e =
      let is = ended (kind.may_end before) load other (length before + 2) before all e in
      record { same = is.1; ends = subst (λ l. kind.may_end l ≡ true) is.2 is.0; more = []; whole = sym is.2 ∙ sym (append-nil before); lines = refl }
  end_said load other before all (b ∷ tail) e = absurd (not_wrong (length before + 2) other all e)

  after_said : (load other : ℕ) (before : List A) (lines : List (List ℕ)) (tail : List ℕ) (all : List A) → AreFree 10 lines →
      told_after kind load before lines tail ≡ tells other all → AreMore load other before all (joined 10 lines tail)
  unfolding told_after joined
  after_said load other before [] tail all frees e = end_said load other before all tail e
  after_said load other before (line ∷ lines) tail all frees e =
      let next = read_or_wrong (kind.line_read before line) (length before + 2) (λ x. told_after kind load (before ++ x ∷ []) lines tail) other all e in
      let after = after_said load other (before ++ next.0 ∷ []) lines tail all (All-tail IsFree line lines frees) next.2 in
      record {
        same = after.same;
        ends = after.ends;
        more = next.0 ∷ after.more;
        whole = after.whole ∙ append_assoc before (next.0 ∷ []) after.more;
        lines = (line, joined 10 lines tail, next.1, All-head IsFree line lines frees, refl, after.lines);
      }

  -- a text that says a load and things is a text of these
  pub text_said : (bytes : List ℕ) (load : ℕ) (listed : List A) → told kind bytes ≡ tells load listed → IsTextOf kind load listed bytes
  text_said bytes load listed e =
      let start = read_or_wrong (start_read kind.word kind.most bytes) 1 after_start load listed e in
      let rest = start.0.1 in
      let range = start_said kind.word kind.most bytes start.0 start.1 in
      let after = after_said start.0.0 load [] (parts_at 10 rest).0 (parts_at 10 rest).1 listed (parts_free 10 rest) start.2 in
      record {
        low = subst (λ n. 1 ≤ n) after.same range.0;
        high = subst (λ n. n ≤ kind.most) after.same range.1;
        ends = after.ends;
        lines = rest;
        text = range.2 ∙ ap (λ n. kind.word ++ 32 ∷ printed_number n ++ 10 ∷ rest) after.same;
        each = subst (AreLines kind [] listed) (parts_joined 10 rest) (subst (λ l. AreLines kind [] l (joined 10 (parts_at 10 rest).0 (parts_at 10 rest).1)) (sym after.whole) after.lines);
      }

  -- ---- what is listed is what the text says

  lines_back : (load : ℕ) (before more : List A) (text : List ℕ) → AreLines kind before more text →
      told_after kind load before (parts_at 10 text).0 (parts_at 10 text).1 ≡ at_end kind.may_end load (before ++ more) []
  lines_back load before [] text lines =
      ap (λ (t : List ℕ). told_after kind load before (parts_at 10 t).0 (parts_at 10 t).1) lines ∙ told_last load before [] refl
      ∙ ap (λ l. at_end kind.may_end load l []) (sym (append-nil before))
  lines_back load before (x ∷ more) text (line, rest, read, none, whole, lines) =
      ap (λ (t : List ℕ). told_after kind load before (parts_at 10 t).0 (parts_at 10 t).1) whole
      ∙ told_next load before (line ++ 10 ∷ rest) line rest (cut_back 10 line rest none)
      ∙ ap (λ o. or_wrong o (length before + 2) (λ y. told_after kind load (before ++ y ∷ []) (parts_at 10 rest).0 (parts_at 10 rest).1)) read
      ∙ lines_back load (before ++ x ∷ []) more rest lines
      ∙ ap (λ l. at_end kind.may_end load l []) (append_assoc before (x ∷ []) more)

  -- a text of a load and things says these
  pub text_back : IsOnePart kind.word → kind.most < 2 ^ 64 → (bytes : List ℕ) (load : ℕ) (listed : List A) → IsTextOf kind load listed bytes → told kind bytes ≡ tells load listed
  text_back word small bytes load listed is =
      ap (told kind) is.text
      ∙ told_first (kind.word ++ 32 ∷ printed_number load ++ 10 ∷ is.lines) load is.lines (start_back kind.word kind.most load is.lines word is.low is.high small)
      ∙ lines_back load [] listed is.lines is.each
      ∙ ap (λ (b : Bool). if b then tells load listed else wrong (length listed + 2)) is.ends

-- a listing ends where something is listed
pub ends_some : {A : Type 0} (listed : List A) → 1 ≤ length listed → is_some_listed listed ≡ true
ends_some [] some = absurd (omega (arith, some))
ends_some (x ∷ xs) some = refl

pub some_ends : {A : Type 0} (listed : List A) → is_some_listed listed ≡ true → 1 ≤ length listed
some_ends [] e = absurd (cc)
some_ends (x ∷ xs) e = omega arith
