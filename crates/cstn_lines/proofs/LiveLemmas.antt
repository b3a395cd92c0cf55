-- The text of a live line is read back as that line, and no other text is.
use Rattle.std.proofs.Common.{◌≡◌, ◌≢◌, ℕ, ◌<◌, ◌^◌, List, [], ◌∷◌, ◌++◌, get_or, refl, ap, sym, ◌∙◌, arith, subst, Bool, true, false, not}
use Rattle.std.specs.Prelude.{◌==◌, nat_lt, Option, Some, None, if◌then◌else◌, codes, bytes_eq}
use Rattle.std.specs.List.{All, list_all}
use Rattle.std.specs.Option.{option_map, option_and_then}
use Rattle.std.proofs.lemmas.Slice.Eq.{bytes_eq-Decides}
use Rattle.std.proofs.lemmas.List.Sums.{AllPass-from_list_all}
use Rattle.cstn_label.specs.Letters.{letter_of, prop_of}
use Rattle.cstn_text.specs.Numbers.{number_read, printed_number}
use Rattle.cstn_text.proofs.CutLemmas.{cut_back, cut_joined}
use Rattle.cstn_text.proofs.NumberLemmas.{number_back, number_printed}
use Rattle.cstn_lines.specs.LiveLines.{Live, moment_at, seen, due_now, cut_at_space, moment_read, prop_read, truth_read, seen_read, operands_read, live_read, IsLiveLine, printed_truth, printed_live}
use Rattle.cstn_label.proofs.LetterLemmas.{letter_back}

-- a word without a space, then a space and more bytes, are cut at that space
pub joined_cut : (word rest : List ℕ) → list_all (λ b. not (b == 32)) word ≡ true → cut_at_space (word ++ 32 ∷ rest) ≡ Some (word, rest)
joined_cut word rest none = cut_back 32 word rest (no_space word none)
  where
    other : (b : ℕ) → not (b == 32) ≡ true → b ≢ 32
    other b is = grind arith

    no_space : (word : List ℕ) → list_all (λ b. not (b == 32)) word ≡ true → All (λ b. b ≢ 32) word
    no_space word none k d inside = other (get_or word k d) (AllPass-from_list_all (λ b. not (b == 32)) word none k d inside)

chosen : (t : ℕ) → t < 2 ^ 32 → (if nat_lt t (2 ^ 32) then Some (moment_at t) else None) ≡ Some (moment_at t)
chosen t small = grind arith

pub letter_is_part : (p : ℕ) → list_all (λ b. not (b == 32)) (letter_of p ∷ []) ≡ true
letter_is_part p = grind arith

pub truth_back : (value : Bool) → truth_read (printed_truth value) ≡ Some value
truth_back true = refl
truth_back false = refl

word_back : (word rest : List ℕ) → bytes_eq (word ++ 32 ∷ rest) (codes "due") ≡ false → list_all (λ b. not (b == 32)) word ≡ true → live_read (word ++ 32 ∷ rest) ≡ operands_read (word, rest)
word_back word rest other part = ap (λ due. if due then Some due_now else option_and_then operands_read (cut_at_space (word ++ 32 ∷ rest))) other ∙ ap (option_and_then operands_read) (joined_cut word rest part)

moment_back : (t : ℕ) → t < 2 ^ 32 → moment_read (printed_number t) ≡ Some (moment_at t)
moment_back t small = ap (option_and_then (λ t. if nat_lt t (2 ^ 32) then Some (moment_at t) else None)) (number_back t (omega arith)) ∙ chosen t small

abbrev seen_parts : List ℕ × List ℕ → Option Live
seen_parts parts = option_and_then (λ p. option_map (seen p) (truth_read parts.1)) (prop_read parts.0)

seen_back : (p : ℕ) (value : Bool) → p < 52 → seen_read (letter_of p ∷ 32 ∷ printed_truth value) ≡ Some (seen p value)
seen_back p value small =
    ap (option_and_then seen_parts) (joined_cut (letter_of p ∷ []) (printed_truth value) (letter_is_part p))
    ∙ ap (option_and_then (λ q. option_map (seen q) (truth_read (printed_truth value)))) (letter_back p small)
    ∙ ap (option_map (seen p)) (truth_back value)

pub live_back : (line : Live) → IsLiveLine line → live_read (printed_live line) ≡ Some line
live_back (moment_at t) small = word_back (codes "moment") (printed_number t) refl refl ∙ moment_back t small
live_back (seen p value) small = word_back (codes "see") (letter_of p ∷ 32 ∷ printed_truth value) refl refl ∙ seen_back p value small
live_back due_now is = refl

-- the text is the one of the line, which is one that a text can say
abbrev IsText : Live → List ℕ → Type 0
IsText line text = (printed_live line ≡ text) × IsLiveLine line

same_line : (a b : Live) (text : List ℕ) → Some a ≡ Some b → IsText a text → IsText b text
same_line a b text e is = subst (λ (line : Live). IsText line text) (just a b e) is
  where
    just : (a b : Live) → Some a ≡ Some b → a ≡ b
    just a b e = cc

is_below : (t : ℕ) → true ≡ nat_lt t (2 ^ 32) → t < 2 ^ 32
is_below t e = grind arith

moment_only : (rest : List ℕ) (line : Live) → moment_read rest ≡ Some line → IsText line (codes "moment" ++ 32 ∷ rest)
moment_only rest line is = at (number_read rest) refl is
  where
    fits : (t : ℕ) (below : Bool) → below ≡ nat_lt t (2 ^ 32) → (if below then Some (moment_at t) else None) ≡ Some line → printed_number t ≡ rest → IsText line (codes "moment" ++ 32 ∷ rest)
    fits t false from e text = absurd (cc)
    fits t true from e text = same_line (moment_at t) line _ e (ap (λ bs. codes "moment" ++ 32 ∷ bs) text, is_below t from)

    at : (number : Option ℕ) → number ≡ number_read rest → option_and_then (λ t. if nat_lt t (2 ^ 32) then Some (moment_at t) else None) number ≡ Some line → IsText line (codes "moment" ++ 32 ∷ rest)
    at None from e = absurd (cc)
    at (Some t) from e = fits t (nat_lt t (2 ^ 32)) refl e (number_printed rest t (sym from)).0

letter_only : (letter p : ℕ) → prop_of letter ≡ Some p → (letter_of p ≡ letter) × (p < 52)
letter_only letter p is = grind arith

pub prop_only : (text : List ℕ) (p : ℕ) → prop_read text ≡ Some p → (letter_of p ∷ [] ≡ text) × (p < 52)
prop_only [] p is = absurd (cc)
prop_only (b ∷ []) p is = let its = letter_only b p is in (ap (λ c. c ∷ []) its.0, its.1)
prop_only (b ∷ c ∷ bytes) p is = absurd (cc)

pub truth_only : (text : List ℕ) (value : Bool) → truth_read text ≡ Some value → printed_truth value ≡ text
truth_only text value is = at (bytes_eq text (codes "true")) (bytes_eq text (codes "false")) refl refl is
  where
    just : (a b : Bool) → Some a ≡ Some b → a ≡ b
    just a b e = cc

    at : (yea nay : Bool) → yea ≡ bytes_eq text (codes "true") → nay ≡ bytes_eq text (codes "false") → (if yea then Some true else if nay then Some false else None) ≡ Some value → printed_truth value ≡ text
    at true nay is isnt e = subst (λ v. printed_truth v ≡ text) (just _ _ e) (sym ((bytes_eq-Decides text (codes "true")).0 (sym is)))
    at false true is isnt e = subst (λ v. printed_truth v ≡ text) (just _ _ e) (sym ((bytes_eq-Decides text (codes "false")).0 (sym isnt)))
    at false false is isnt e = absurd (cc)

seen_only : (rest : List ℕ) (line : Live) → seen_read rest ≡ Some line → IsText line (codes "see" ++ 32 ∷ rest)
seen_only rest line is = at (cut_at_space rest) refl is
  where
    valued : (p : ℕ) (left right : List ℕ) (value : Option Bool) → value ≡ truth_read right → rest ≡ left ++ 32 ∷ right → (letter_of p ∷ [] ≡ left) × (p < 52) → option_map (seen p) value ≡ Some line → IsText line (codes "see" ++ 32 ∷ rest)
    valued p left right None from text letter e = absurd (cc)
    valued p left right (Some value) from text letter e =
        let whole : letter_of p ∷ 32 ∷ printed_truth value ≡ rest = ap (λ bs. letter_of p ∷ 32 ∷ bs) (truth_only right value (sym from)) ∙ ap (λ bs. bs ++ 32 ∷ right) letter.0 ∙ sym text in
        same_line (seen p value) line _ e (ap (λ bs. codes "see" ++ 32 ∷ bs) whole, letter.1)

    lettered : (left right : List ℕ) (prop : Option ℕ) → prop ≡ prop_read left → rest ≡ left ++ 32 ∷ right → option_and_then (λ p. option_map (seen p) (truth_read right)) prop ≡ Some line → IsText line (codes "see" ++ 32 ∷ rest)
    lettered left right None from text e = absurd (cc)
    lettered left right (Some p) from text e = valued p left right (truth_read right) refl text (prop_only left p (sym from)) e

    at : (parts : Option (List ℕ × List ℕ)) → parts ≡ cut_at_space rest → option_and_then seen_parts parts ≡ Some line → IsText line (codes "see" ++ 32 ∷ rest)
    at None from e = absurd (cc)
    at (Some parts) from e = lettered parts.0 parts.1 (prop_read parts.0) refl (cut_joined 32 rest parts.0 parts.1 (sym from)) e

operands_only : (word rest : List ℕ) (line : Live) → operands_read (word, rest) ≡ Some line → IsText line (word ++ 32 ∷ rest)
operands_only word rest line is = at (bytes_eq word (codes "moment")) (bytes_eq word (codes "see")) refl refl is
  where
    at : (moment see : Bool) → moment ≡ bytes_eq word (codes "moment") → see ≡ bytes_eq word (codes "see") → (if moment then moment_read rest else if see then seen_read rest else None) ≡ Some line → IsText line (word ++ 32 ∷ rest)
    at true see is isnt e = subst (λ (w : List ℕ). IsText line (w ++ 32 ∷ rest)) (sym ((bytes_eq-Decides word (codes "moment")).0 (sym is))) (moment_only rest line e)
    at false true is isnt e = subst (λ (w : List ℕ). IsText line (w ++ 32 ∷ rest)) (sym ((bytes_eq-Decides word (codes "see")).0 (sym isnt))) (seen_only rest line e)
    at false false is isnt e = absurd (cc)

pub live_only : (text : List ℕ) (line : Live) → live_read text ≡ Some line → (printed_live line ≡ text) × IsLiveLine line
live_only text line is = at (bytes_eq text (codes "due")) refl is
  where
    apart : (parts : Option (List ℕ × List ℕ)) → parts ≡ cut_at_space text → option_and_then operands_read parts ≡ Some line → IsText line text
    apart None from e = absurd (cc)
    apart (Some parts) from e = subst (λ (x : List ℕ). IsText line x) (sym (cut_joined 32 text parts.0 parts.1 (sym from))) (operands_only parts.0 parts.1 line e)

    at : (due : Bool) → due ≡ bytes_eq text (codes "due") → (if due then Some due_now else option_and_then operands_read (cut_at_space text)) ≡ Some line → IsText line text
    at true due e = same_line due_now line text e (sym ((bytes_eq-Decides text (codes "due")).0 (sym due)), tt)
    at false due e = apart (cut_at_space text) refl e

pub live_is : (text : List ℕ) (line : Live) → live_read text ≡ Some line → IsLiveLine line
live_is text line is = (live_only text line is).1
