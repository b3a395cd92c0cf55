-- Steps are read from their lines.
use Rattle.std.proofs.Common.{length, length-append, ◌≡◌, ℕ, ◌<◌, ◌≤◌, Bool, true, false, List, [], ◌∷◌, ◌++◌, refl, ap, ◌∙◌, arith, Option, Some, None}
use Rattle.std.specs.Prelude.{nat_lt, nat_le, ◌&&◌, ◌==◌, All, slice_index_or, codes, Result, Ok, if◌then◌else◌, pos}
use Rattle.std.specs.Option.{option_map}
use Rattle.cstn_markup.specs.Bytes.{when}
use Rattle.std.proofs.lemmas.List.Elements.{All-append}
use Rattle.cstn_label.specs.Labels.{Label}
use Rattle.cstn_label.specs.Letters.{letter_of}
use Rattle.cstn_net.specs.Limits.{most_reaction}
use Rattle.cstn_net.specs.Networks.{IsWellFormed}
use Rattle.cstn_lift.specs.Labelled.{Labelled, label_in}
use Rattle.cstn_text.specs.Names.{IsName}
use Rattle.cstn_sentences.specs.Limits.{most_ticks}
use Rattle.cstn_sentences.specs.Results.{◌>>?◌}
use Rattle.cstn_sentences.specs.declared.lines.Span.{Span}
use Rattle.cstn_sentences.specs.declared.lines.Literal.{Literal}
use Rattle.cstn_sentences.specs.declared.lines.Observed.{Observed}
use Rattle.cstn_sentences.specs.declared.lines.Expects.TheVariants.{If}
use Rattle.cstn_sentences.specs.Judged.{is_sized, is_timely}
use Rattle.cstn_sentences.specs.Lines.{PlanStep, step, deadline}
use Rattle.cstn_sentences.specs.Spelling.{name_spelled, spelling, is_letter_word}
use Rattle.cstn_sentences.specs.Spans.{span_of_ticks, time_read}
use Rattle.cstn_sentences.specs.Grammar.{Words, Rest, Read, past_keyword, begins_by, one, rest_begun, rest_read, reaction_read, letter_read, letter_or_word, observed_prop_read, with_reaction_read, observed_read, step_rest_read, plan_line_read}
use Rattle.cstn_sentences.specs.Printed.{spaced_words, span_word, label_words, reaction_words, observed_words, step_words, deadline_words}
use Rattle.cstn_sentences.specs.WrittenWords.{IsWrittenWord, IsReadAsLine}
use Rattle.cstn_sentences.specs.Sentences.{ticks, literals_of_label, observed_after, observed_of, step_observed, step_of}
use Rattle.cstn_sentences.proofs.SpelledNames.{name_back}
use Rattle.cstn_sentences.proofs.WrittenNumbers.{time_back, span_few}
use Rattle.cstn_sentences.proofs.WrittenRests.{IsLiteral, label_alone}
use Rattle.cstn_sentences.proofs.WrittenLines.{label_literals, no_after, one_read, deadline_line}
use Rattle.cstn_sentences.proofs.SpelledWords.{spelled_is_written, written_back}
use Rattle.cstn_sentences.proofs.LineWords.{plain_word, span_is_word, AreWords, one_more, no_words}
use Rattle.cstn_sentences.proofs.LineLengths.{spaced_both, words_few, label_few}
use Rattle.cstn_sentences.proofs.RuleWords.{label_is, observed_are}

-- ---- what is observed

pub is_letter_of : (p : ℕ) → p < 52 → is_letter_word (letter_of p ∷ []) ≡ true
is_letter_of p small = grind arith

letter_back : (p : ℕ) → p < 52 → letter_read (letter_of p ∷ []) ≡ Some (letter_of p)
letter_back p small = ap (λ (b : Bool). when b (letter_of p)) (is_letter_of p small)

reaction_back : (n : ℕ) (ls : List Literal) → n ≤ most_ticks → reaction_read (reaction_words (ticks (pos n)) ++ label_words ls) ≡ Ok (ticks (pos n), label_words ls)
reaction_back n ls few = at (n == 1) refl
  where
    at : (lone : Bool) → (n == 1) ≡ lone
        → reaction_read ((if lone then [] else codes "after" ∷ span_word (ticks (pos n)) ∷ []) ++ label_words ls) ≡ Ok (ticks (pos n), label_words ls)
    at true e =
        let is : 1 ≡ n = grind arith in
        ap (λ (b : Bool). if b then (past_keyword (codes "after") (label_words ls) >>? one time_read) else Ok (span_of_ticks false 1, label_words ls))
        (no_after ls)
        ∙ ap (λ (k : ℕ). Ok (span_of_ticks false k, label_words ls)) is
    at false e = one_read time_read (span_word (ticks (pos n))) (label_words ls) (ticks (pos n)) (time_back n few)

no_observes : (ls : List Literal) → begins_by (codes "observes") (label_words ls) ≡ false
no_observes [] = refl
no_observes (l ∷ ls) = refl

abbrev IsObservedBack : Option Observed → List Literal → Type 0
IsObservedBack observed ls = observed_read (observed_words observed ++ label_words ls) ≡ Ok (observed, label_words ls)

nothing_observed : (ls : List Literal) → IsObservedBack None ls
nothing_observed ls =
    ap (λ (b : Bool). if b then (past_keyword (codes "observes") (label_words ls) >>? observed_prop_read >>? with_reaction_read)
    else Ok (None, label_words ls)) (no_observes ls)

observed_back : (n p : ℕ) (ls : List Literal) → n ≤ most_ticks → p < 52 → IsObservedBack (Some (observed_after n p)) ls
observed_back n p ls few small =
    let letter : List ℕ = letter_of p ∷ [] in
    let words : Words = reaction_words (ticks (pos n)) ++ label_words ls in
    ap (λ (o : Option ℕ). letter_or_word letter words o >>? with_reaction_read) (letter_back p small)
    ∙ ap (λ (o : Read Span). o >>? λ r. Ok (Some (record { word = None; letter = letter_of p; reaction = r.0 }), r.1)) (reaction_back n ls few)

-- ---- steps

step_back : (name : List ℕ) (observed : Option Observed) (ls : List Literal) → IsObservedBack observed ls → All IsLiteral ls
    → step_rest_read name (observed_words observed ++ label_words ls) ≡ Ok (record { name = name; observed = observed; label = ls })
step_back name observed ls back all =
    ap (λ (o : Read (Option Observed)). o >>? λ p. rest_read (rest_begun If) p.1 >>? λ rest. Ok (record { name = name; observed = p.0; label = rest.label })) back
    ∙ ap (λ (r : Result Rest ℕ). r >>? λ rest. Ok (record { name = name; observed = observed; label = rest.label })) (label_alone ls all)

step_line : (name : List ℕ) (observed : Option Observed) (ls : List Literal) → IsName name → IsObservedBack observed ls → All IsLiteral ls
    → plan_line_read (step_words (record { name = name; observed = observed; label = ls }))
    ≡ Ok (step (record { name = name; observed = observed; label = ls }))
step_line name observed ls ok back all =
    ap (λ (o : Read (List ℕ)). o >>? λ r. step_rest_read r.0 r.1 >>? λ s. Ok (step s))
    (one_read name_spelled (spelling name) (observed_words observed ++ label_words ls) name (name_back name ok))
    ∙ ap (λ (r : Result PlanStep ℕ). r >>? λ s. Ok (step s)) (step_back name observed ls back all)

few_ticks : (n : ℕ) → n ≤ most_reaction → n ≤ most_ticks
few_ticks n h = omega (arith, h)

-- what is observed is read back, and is written in words
record IsObservedRead (observed : Option Observed) (ls : List Literal) : Type 0 where
  back : IsObservedBack observed ls
  words : AreWords (observed_words observed)
  count : length (observed_words observed) ≤ 4
  timely : is_timely observed ≡ true

small_sized : (n : ℕ) → n ≤ most_reaction → is_sized (pos n) ≡ true
small_sized n h = grind arith

observed_count : (n p : ℕ) → length (observed_words (Some (observed_after n p))) ≤ 4
observed_count n p = at (n == 1)
  where
    at : (lone : Bool) → length (codes "observes" ∷ (letter_of p ∷ []) ∷ (if lone then [] else codes "after" ∷ span_word (ticks (pos n)) ∷ [])) ≤ 4
    at true = omega arith
    at false = omega arith

reaction_timely : (n : ℕ) → 0 < n → n ≤ most_reaction → (nat_lt 0 n && nat_le n most_reaction) ≡ true
reaction_timely n some few = grind arith

at_point : (reaction : ℕ → ℕ) (o : Option ℕ) (ls : List Literal) → ((p : ℕ) → o ≡ Some p → (p < 52) × (reaction p ≤ most_reaction) × (0 < reaction p)) → IsObservedRead (option_map (observed_of reaction) o) ls
at_point reaction None ls fits = record { back = nothing_observed ls; words = no_words; count = omega arith; timely = refl }
at_point reaction (Some p) ls fits =
    let small : p < 52 = (fits p refl).0 in
    let few : reaction p ≤ most_reaction = (fits p refl).1 in
    record { back = observed_back (reaction p) p ls (few_ticks (reaction p) few) small; words = observed_are (reaction p) p (small_sized (reaction p) few) small; count = observed_count (reaction p) p; timely = reaction_timely (reaction p) (fits p refl).2 few }

-- the step of a time-point is read back
pub point_back : (m : Labelled) (names : List (List ℕ)) (x : ℕ) → IsWellFormed m.base → IsName (slice_index_or names x [])
    → IsReadAsLine (step_words (step_of m names x)) (step (step_of m names x))
point_back m names x well named =
    let name : List ℕ = slice_index_or names x [] in
    let observed : Option Observed = step_observed m.base x in
    let label : Label = label_in m.labels x in
    let seen : IsObservedRead observed (literals_of_label label) =
    at_point m.base.reaction (slice_index_or m.base.observes x None) (literals_of_label label) (λ p e. (well.letters x p (record { what = e }), well.soon x p (record { what = e }), well.network.reacts x p (record { what = e }))) in
    let behind : Words = observed_words observed ++ label_words (literals_of_label label) in
    let words : AreWords behind = All-append IsWrittenWord (observed_words observed) (label_words (literals_of_label label)) seen.words (label_is label) in
    let first : IsWrittenWord (codes "step") = plain_word (codes "step") (omega arith) (omega arith) refl refl refl in
    let later : AreWords (spelling name ∷ behind) = one_more (spelling name) behind (spelled_is_written name named) words in
    record {
      written = one_more (codes "step") (spelling name ∷ behind) first later;
      short = omega (
        arith,
        length-append (spelling name) (spaced_words behind),
        (spelled_is_written name named).few,
        spaced_both (observed_words observed) (label_words (literals_of_label label)),
        words_few (observed_words observed) seen.words,
        seen.count,
        label_few label,
      );
      cut = written_back (codes "step") (spelling name ∷ behind) first later;
      numbered = seen.timely;
      read = step_line name observed (literals_of_label label) named seen.back (label_literals label);
    }

-- the line of the deadline is read back
pub deadline_back : (n : ℕ) → is_sized (pos n) ≡ true → IsReadAsLine (deadline_words (ticks (pos n))) (deadline (ticks (pos n)))
deadline_back n sized =
    let number : List ℕ = span_word (ticks (pos n)) in
    let first : IsWrittenWord (codes "deadline") = plain_word (codes "deadline") (omega arith) (omega arith) refl refl refl in
    let later : AreWords (number ∷ []) = one_more number [] (span_is_word (pos n) sized) no_words in
    record {
      written = one_more (codes "deadline") (number ∷ []) first later;
      short = omega (arith, length-append number [], span_few (pos n) sized);
      cut = written_back (codes "deadline") (number ∷ []) first later;
      numbered = sized;
      read = deadline_line n sized;
    }
