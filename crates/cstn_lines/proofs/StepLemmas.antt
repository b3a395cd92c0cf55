use Rattle.std.proofs.Common.{◌≡◌, ℕ, ◌+◌, ◌-◌, ◌^◌, ◌<◌, ◌≤◌, List, [], ◌∷◌, ◌++◌, length, take, drop, refl, ap, sym, ◌∙◌, subst, arith, append_assoc, append-nil, length-append, length-take}
use Rattle.std.specs.Prelude.{Bool, true, false, Option, None, Some}
use Rattle.std.proofs.lemmas.Bool.{false≢true}
use Rattle.std.proofs.lemmas.List.{take-take, take-append-le}
use Rattle.std.proofs.Math.Seq.{take-append-add}
use Rattle.std.proofs.lemmas.Grind.{common_steps}
use Rattle.cstn_io.specs.Contents.{after_bytes}
use Rattle.cstn_lines.specs.Pieces.{lines_of, whole_lines, heard_lines, IsCut, HasNoEnd, is_past, between}
use Rattle.cstn_lines.specs.Steps.{LinesState, heard_line, HandsOut, IsOver, HasWrongLine, IsBroken, IsPast, LineSteps, ReadsOn}
use Rattle.cstn_lines.specs.declared.lines.Next.{Next}
use Rattle.cstn_lines.proofs.PieceLemmas.{cut_lines, cut_whole, open_whole, last_line, long_line, some_line, take_between, drop_between, between_none}
use Rattle.cstn_lines.proofs.EndedLemmas.{none_ended, cut_ended, last_ended, long_ended, some_ended}

not_past : (n : ℕ) (line : List ℕ) → n ≤ 2 ^ 24 → length line ≤ 4096 → is_past n line ≡ false
not_past n line h k = grind arith

past_late : (n : ℕ) (line : List ℕ) → 2 ^ 24 < n → is_past n line ≡ true
past_late n line h = grind arith

past_long : (n : ℕ) (line : List ℕ) → 4096 < length line → is_past n line ≡ true
past_long n line h = grind arith

pub hand_cut : (kept bytes : List ℕ) (start stop i count n : ℕ) (after : LinesState) → IsCut kept i → kept ≡ between start stop bytes → stop ≤ 4097 → count < 2 ^ 24 → after.line ≡ between start (start + i) bytes → after.whole ≡ true → after.kept ≡ between (start + i + 1) stop bytes → after.count ≡ count + 1 → n ≡ count + 1 → HandsOut kept count after n
hand_cut kept bytes start stop i count n after cut is short below line had rest counts number =
    let long : length kept ≤ stop - start = omega (arith, ap length is, length-take (stop - start) (drop start bytes)) in
    let its : after.line ≡ take i kept = line ∙ sym (take_between i start stop bytes (omega (arith, cut.inside))) ∙ ap (take i) (sym is) in
    let more : after.kept ≡ drop (i + 1) kept = rest ∙ ap (λ k. between k stop bytes) (omega arith) ∙ sym (drop_between (i + 1) start stop bytes (omega (arith, cut.inside))) ∙ ap (drop (i + 1)) (sym is) in
    record {
      is_number = number;
      counts = counts;
      lines = λ ends r e. heard_cut ends r its more;
      whole = λ r e. rw (its, more) (cut_whole kept r i cut);
      going = λ e. had;
      short = λ ends. short_heard ends (not_past n after.line (omega arith) (rw its (omega (arith, cut.inside, length-take i kept))));
    }
  where
    heard_cut : (ends : Bool) (r : List ℕ) → after.line ≡ take i kept → after.kept ≡ drop (i + 1) kept → heard_lines ends (kept ++ r) ≡ heard_line ends after ∷ heard_lines ends (after.kept ++ r)
    heard_cut false r its more = rw (its, more) (cut_lines kept r i cut)
    heard_cut true r its more = rw (had, its, more) (cut_ended kept r i cut)

    short_heard : (ends : Bool) → is_past n after.line ≡ false → is_past n (heard_line ends after) ≡ false
    short_heard false e = e
    short_heard true e = rw had e

-- the first line that is heard of the kept bytes and of those that follow is too long or too late
abbrev FindsPast : List ℕ → ℕ → Type 0
FindsPast kept n = (ends : Bool) (rest : List ℕ) → (line : List ℕ) × (lines : List (List ℕ)) × (heard_lines ends (kept ++ rest) ≡ line ∷ lines) × (is_past n line ≡ true)

-- where a first line is too long or too late whatever follows, and stays kept, the step found it wrong and would do so again
refused : (kept : List ℕ) (count n : ℕ) (after : LinesState) → n ≡ count + 1 → FindsPast kept n → after.kept ≡ kept → after.count ≡ count → HasWrongLine kept count after n
refused kept count n after number next stays same =
    let now = next false [] in
    let all : lines_of after.kept ≡ now.0 ∷ now.1 = ap lines_of (stays ∙ sym (append-nil kept)) ∙ now.2 in
    record {
      is_number = number;
      next = next;
      kept = stays;
      counts = same;
      stays = (now.0, now.1, all, subst (λ (k : ℕ). is_past k now.0 ≡ true) (number ∙ ap (λ k. k + 1) (sym same)) now.3);
    }

late_first : (kept : List ℕ) (n : ℕ) → 0 < length kept → 2 ^ 24 < n → FindsPast kept n
late_first kept n some late false r = let found = some_line (kept ++ r) (omega (arith, length-append kept r)) in (found.0, found.1, found.2, past_late n found.0 late)
late_first kept n some late true r = let found = some_ended (kept ++ r) (omega (arith, length-append kept r)) in (found.0, found.1, found.2, past_late n found.0 late)

long_first : (kept : List ℕ) (n : ℕ) → HasNoEnd kept → 4096 < length kept → FindsPast kept n
long_first kept n none long false r = let found = long_line kept r none (omega arith) in (kept ++ found.0, found.1, found.2, past_long n (kept ++ found.0) (omega (arith, length-append kept found.0)))
long_first kept n none long true r = let found = long_ended kept r none long in (kept ++ found.0, found.1, found.2, past_long n (kept ++ found.0) (omega (arith, length-append kept found.0)))

pub refuse_late : (kept : List ℕ) (count n : ℕ) (after : LinesState) → 0 < length kept → count ≡ 2 ^ 24 → n ≡ count + 1 → after.kept ≡ kept → after.count ≡ count → HasWrongLine kept count after n
refuse_late kept count n after some at number stays counts = refused kept count n after number (late_first kept n some (omega arith)) stays counts

pub refuse_long : (kept : List ℕ) (count n : ℕ) (after : LinesState) → HasNoEnd kept → 4096 < length kept → n ≡ count + 1 → after.kept ≡ kept → after.count ≡ count → HasWrongLine kept count after n
refuse_long kept count n after none long number stays counts = refused kept count n after number (long_first kept n none long) stays counts

-- bytes have one first line, which can't both fit and be too long or too late
one_first : (kept line other : List ℕ) (lines others : List (List ℕ)) (n : ℕ) → lines_of kept ≡ line ∷ lines → lines_of kept ≡ other ∷ others → is_past n other ≡ false → is_past n line ≡ true → ⊥
one_first kept line other lines others n is its fits past =
    let same : line ≡ other = heads line other lines others (sym is ∙ its) in
    false≢true (sym fits ∙ subst (λ (x : List ℕ). is_past n x ≡ true) same past)
  where
    heads : (x y : List ℕ) (xs ys : List (List ℕ)) → x ∷ xs ≡ y ∷ ys → x ≡ y
    heads x y xs ys e = cc

-- a next line that is kept whole is neither too long nor too late, where few bytes are kept and few lines came before it
pub whole_not_past : (state : LinesState) (i : ℕ) → IsCut state.kept i → length state.kept ≤ 4097 → state.count < 2 ^ 24 → IsPast state → ⊥
whole_not_past state i cut short few past =
    let first : lines_of state.kept ≡ take i state.kept ∷ lines_of (drop (i + 1) state.kept ++ []) = ap lines_of (sym (append-nil state.kept)) ∙ cut_lines state.kept [] i cut in
    one_first state.kept past.0 (take i state.kept) past.1 _ (state.count + 1) past.2 first (not_past (state.count + 1) (take i state.kept) (omega arith) (omega (arith, cut.inside, length-take i state.kept))) past.3

-- a next line that is kept without its LF is neither too long nor too late, where few bytes are kept and few lines came before
pub open_not_past : (state : LinesState) (kept : List ℕ) → kept ≡ state.kept → HasNoEnd kept → length kept ≤ 4096 → state.count < 2 ^ 24 → IsPast state → ⊥
open_not_past state [] same none short few past = absurd (let e : lines_of [] ≡ past.0 ∷ past.1 = ap lines_of same ∙ past.2 in cc)
open_not_past state (b ∷ bs) same none short few past =
    let first : lines_of state.kept ≡ (b ∷ bs) ∷ [] = ap lines_of (sym same) ∙ last_line b bs none in
    one_first state.kept past.0 (b ∷ bs) past.1 [] (state.count + 1) past.2 first (not_past (state.count + 1) (b ∷ bs) (omega arith) short) past.3

-- the last line is handed out, which lacks its LF
pub hand_last : (kept bytes : List ℕ) (stop count n : ℕ) (after : LinesState) → 0 < length kept → HasNoEnd kept → length kept ≤ 4096 → (0 < length kept → count < 2 ^ 24) → after.line ≡ kept → after.whole ≡ false → after.kept ≡ between stop stop bytes → after.count ≡ count + 1 → n ≡ count + 1 → after.ended ≡ true → HandsOut kept count after n
hand_last kept bytes stop count n after some none short below its had rest counts number ended =
    let few : count < 2 ^ 24 = below some in
    let more : after.kept ≡ [] = rest ∙ between_none stop bytes in
    record {
      is_number = number;
      counts = counts;
      lines = λ ends r e. heard_last ends r more (e ended);
      whole = λ r e. absurd (cc);
      going = λ e. absurd (cc);
      short = λ ends. short_heard ends few;
    }
  where
    only : (xs : List ℕ) → 0 < length xs → HasNoEnd xs → lines_of (xs ++ []) ≡ xs ∷ lines_of ([] ++ [])
    only [] h none = absurd (omega arith)
    only (x ∷ xs) h none = let e : (x ∷ xs) ++ [] ≡ x ∷ xs = grind (arith, common_steps) in subst (λ (y : List ℕ). lines_of y ≡ (x ∷ xs) ∷ []) (sym e) (last_line x xs none)

    heard_last : (ends : Bool) (r : List ℕ) → after.kept ≡ [] → r ≡ [] → heard_lines ends (kept ++ r) ≡ heard_line ends after ∷ heard_lines ends (after.kept ++ r)
    heard_last false r more e = rw (its, more, e) (only kept some none)
    heard_last true r more e = rw (had, more, e) (last_ended kept some none short)

    short_heard : (ends : Bool) → count < 2 ^ 24 → is_past n (heard_line ends after) ≡ false
    short_heard false few = not_past n after.line (omega arith) (rw its short)
    short_heard true few = rw had (not_past n [] (omega arith) (omega arith))

-- no line is left where no byte is
pub over : (kept : List ℕ) (count : ℕ) (after : LinesState) → kept ≡ [] → after.kept ≡ [] → after.count ≡ count → after.ended ≡ true → IsOver kept count after
over kept count after none stays counts ended = record { none = none; lines = λ ends. ap (heard_lines ends) none ∙ none_heard ends; kept = stays; counts = counts; ended = ended }
  where
    none_heard : (ends : Bool) → heard_lines ends [] ≡ []
    none_heard false = refl
    none_heard true = none_ended

pub no_bytes : (told : Option (List ℕ)) → told ≡ after_bytes [] told
no_bytes None = refl
no_bytes (Some xs) = refl

pub more_bytes : (told mid now : Option (List ℕ)) (before taken : List ℕ) → told ≡ after_bytes before mid → mid ≡ after_bytes taken now → told ≡ after_bytes (before ++ taken) now
more_bytes told mid None before taken is then = rw (is, then) refl
more_bytes told mid (Some xs) before taken is then = rw (is, then, append_assoc) refl

-- bytes that were taken, and then more, were taken together
pub more_taken : (bytes kept after taken more : List ℕ) (told mid now : Option (List ℕ)) → kept ≡ bytes ++ taken → told ≡ after_bytes taken mid → after ≡ kept ++ more → mid ≡ after_bytes more now → (after ≡ bytes ++ (taken ++ more)) × (told ≡ after_bytes (taken ++ more) now)
more_taken bytes kept after taken more told mid now is read goes reads = (goes ∙ ap (λ x. x ++ more) is ∙ append_assoc bytes taken more, more_bytes told mid now taken more read reads)

-- the last read, after reads that each took a byte
pub reads_on : (bytes kept first last : List ℕ) (count n before mid after : ℕ) → kept ≡ bytes ++ first → HasNoEnd kept → length kept ≤ 4096 → (0 < length kept → n < 2 ^ 24) → n ≡ count → mid ≤ before + length first → after ≤ mid + 1 → ReadsOn bytes count (first ++ last) before after
reads_on bytes kept first last count n before mid after is none short early same few one =
    let late : 0 < length kept → count < 2 ^ 24 = λ some. subst (λ (k : ℕ). k < 2 ^ 24) same (early some) in
    record {
      first = first;
      last = last;
      parts = refl;
      open_line = subst (λ (x : List ℕ). HasNoEnd x) is none;
      short = subst (λ (x : List ℕ). length x ≤ 4096) is short;
      early = subst (λ (x : List ℕ). 0 < length x → count < 2 ^ 24) is late;
      few = omega (arith, few, one);
    }

-- the bytes that a read took stand behind those that were kept
pub filled : (kept xs piece post rest : List ℕ) (told now : Option (List ℕ)) (f n len : ℕ) → f ≤ length xs → n ≤ length piece → f + n ≤ len → take f xs ≡ kept → told ≡ after_bytes (take n piece) now → (taken : List ℕ) × (between 0 (f + n) (take len ((take f xs ++ (piece ++ post)) ++ rest)) ≡ kept ++ taken) × (told ≡ after_bytes taken now) × (n ≡ length taken)
filled kept xs piece post rest told now f n len inside some fits is step =
    let front : length (take f xs) ≡ f = omega (arith, length-take f xs) in
    let more : take n ((piece ++ post) ++ rest) ≡ take n piece = take-append-le n (piece ++ post) rest (omega (arith, length-append piece post)) ∙ take-append-le n piece post some in
    let size : f + n - 0 ≡ f + n = omega arith in
    let all : between 0 (f + n) (take len ((take f xs ++ (piece ++ post)) ++ rest)) ≡ kept ++ take n piece =
    ap (λ k. take k (take len ((take f xs ++ (piece ++ post)) ++ rest))) size
    ∙ take-take (f + n) len ((take f xs ++ (piece ++ post)) ++ rest) fits
    ∙ ap (take (f + n)) (append_assoc (take f xs) (piece ++ post) rest)
    ∙ ap (λ k. take (k + n) (take f xs ++ ((piece ++ post) ++ rest))) (sym front)
    ∙ take-append-add (take f xs) ((piece ++ post) ++ rest) n
    ∙ ap (λ ys. take f xs ++ ys) more
    ∙ ap (λ ys. ys ++ take n piece) is in
    (take n piece, all, step, omega (arith, length-take n piece))

pub steps_from : (bytes kept : List ℕ) (count n : ℕ) (after : LinesState) (next : Next) → kept ≡ bytes → n ≡ count → LineSteps kept n after next → LineSteps bytes count after next
steps_from bytes kept count n after next is at steps = subst (λ (x : List ℕ). LineSteps x count after next) is (subst (λ (k : ℕ). LineSteps kept k after next) at steps)

-- a step that took no byte is one over what was kept
pub steps_kept : (kept : List ℕ) (count : ℕ) (after : LinesState) (next : Next) → LineSteps kept count after next → LineSteps (kept ++ []) count after next
steps_kept kept count after next steps = subst (λ (x : List ℕ). LineSteps x count after next) (sym (append-nil kept)) steps

-- a failed read takes nothing, and what is kept has no LF
pub broken : (bytes kept more all : List ℕ) (count n : ℕ) (after : LinesState) → HasNoEnd kept → after.kept ≡ kept ++ more → more ≡ [] → after.kept ≡ bytes ++ all → n ≡ count → after.count ≡ n → after.ended ≡ false → IsBroken (bytes ++ all) count after
broken bytes kept more all count n after none goes empty is at same going =
    let e : kept ≡ after.kept = sym (goes ∙ ap (λ m. kept ++ m) empty ∙ append-nil kept) in
    record {
      kept = is;
      none = subst (λ (x : List ℕ). whole_lines x ≡ []) (e ∙ is) (open_whole kept none);
      counts = same ∙ at;
      ended = going;
    }
