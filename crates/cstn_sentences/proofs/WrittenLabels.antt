-- What is written of a label grows by a literal at a time.
use Rattle.std.proofs.Common.{ℕ, ◌+◌, ◌≡◌, Bool, List, [], ◌∷◌, ◌++◌, ◌∙◌, ap, sym, refl, append-nil, append_assoc, add-one, Some, None}
use Rattle.std.specs.Prelude.{codes, flat_map}
use Rattle.std.proofs.lemmas.Grind.{flat_map-append}
use Rattle.cstn_label.specs.Labels.{Label}
use Rattle.cstn_label.specs.Letters.{letter_of}
use Rattle.cstn_sentences.specs.declared.lines.Literal.{Literal}
use Rattle.cstn_sentences.specs.Grammar.{Words}
use Rattle.cstn_sentences.specs.Printed.{spaced_words, said_words, literal_words, label_words}
use Rattle.cstn_sentences.specs.Sentences.{asserted, literals_below}

-- the word before the literal that comes after these
abbrev pub joint_after : List Literal → List ℕ
joint_after [] = codes "if"
joint_after (l ∷ later) = codes "and"

pub spaced_append : (words more : Words) → spaced_words (words ++ more) ≡ spaced_words words ++ spaced_words more
spaced_append words more = flat_map-append (λ w. 32 ∷ w) words more

-- one literal more
label_words_more : (ls : List Literal) (l : Literal) → label_words (ls ++ (l ∷ [])) ≡ label_words ls ++ (joint_after ls ∷ literal_words l)
label_words_more [] l = ap (λ (ws : Words). codes "if" ∷ ws) (append-nil (literal_words l))
label_words_more (first ∷ ls) l =
    let more : flat_map (λ y. codes "and" ∷ literal_words y) (ls ++ (l ∷ [])) ≡ flat_map (λ y. codes "and" ∷ literal_words y) ls ++ (codes "and" ∷ literal_words l) =
    flat_map-append (λ y. codes "and" ∷ literal_words y) ls (l ∷ [])
    ∙ ap (λ (ws : Words). flat_map (λ y. codes "and" ∷ literal_words y) ls ++ ws) (append-nil (codes "and" ∷ literal_words l)) in
    ap (λ (ws : Words). codes "if" ∷ (literal_words first ++ ws)) more
    ∙ ap (λ (ws : Words). codes "if" ∷ ws) (sym (append_assoc (literal_words first) (flat_map (λ y. codes "and" ∷ literal_words y) ls) (codes "and" ∷ literal_words l)))

joint_more : (ls : List Literal) (l : Literal) → codes "and" ≡ joint_after (ls ++ (l ∷ []))
joint_more [] l = refl
joint_more (first ∷ ls) l = refl

pub label_none : (a : Label) (old : List ℕ) → old ≡ old ++ spaced_words (label_words (literals_below a 0))
unfolding literals_below
label_none a old = sym (append-nil old)

pub joint_none : (a : Label) → codes "if" ≡ joint_after (literals_below a 0)
unfolding literals_below
joint_none a = refl

literals_more : (a : Label) (n : ℕ) (holds : Bool) → asserted (a n) ≡ Some holds
    → literals_below a (n + 1) ≡ literals_below a n ++ (record { prop = letter_of n ∷ []; holds = holds } ∷ [])
unfolding literals_below
literals_more a n holds e = rw (add-one, e) refl

literals_same : (a : Label) (n : ℕ) → asserted (a n) ≡ None → literals_below a (n + 1) ≡ literals_below a n
unfolding literals_below
literals_same a n e = rw (add-one, e) (append-nil (literals_below a n))

pub label_more : (a : Label) (n : ℕ) (holds : Bool) (old text new joint : List ℕ) → asserted (a n) ≡ Some holds
    → text ≡ old ++ spaced_words (label_words (literals_below a n)) → joint ≡ joint_after (literals_below a n)
    → new ≡ text ++ spaced_words (joint ∷ said_words holds (letter_of n ∷ [])) → new ≡ old ++ spaced_words (label_words (literals_below a (n + 1)))
label_more a n holds old text new joint e so_far is put =
    let l : Literal = record { prop = letter_of n ∷ []; holds = holds } in
    let words : label_words (literals_below a (n + 1)) ≡ label_words (literals_below a n) ++ (joint ∷ literal_words l) =
    ap label_words (literals_more a n holds e) ∙ label_words_more (literals_below a n) l
    ∙ ap (λ (j : List ℕ). label_words (literals_below a n) ++ (j ∷ literal_words l)) (sym is) in
    put ∙ ap (λ (t : List ℕ). t ++ spaced_words (joint ∷ literal_words l)) so_far
    ∙ append_assoc old (spaced_words (label_words (literals_below a n))) (spaced_words (joint ∷ literal_words l))
    ∙ ap (λ (t : List ℕ). old ++ t) (sym (spaced_append (label_words (literals_below a n)) (joint ∷ literal_words l)))
    ∙ ap (λ (ws : Words). old ++ spaced_words ws) (sym words)

pub joint_next : (a : Label) (n : ℕ) (holds : Bool) → asserted (a n) ≡ Some holds → codes "and" ≡ joint_after (literals_below a (n + 1))
joint_next a n holds e = joint_more (literals_below a n) (record { prop = letter_of n ∷ []; holds = holds }) ∙ ap joint_after (sym (literals_more a n holds e))

pub label_same : (a : Label) (n : ℕ) (old text : List ℕ) → asserted (a n) ≡ None → text ≡ old ++ spaced_words (label_words (literals_below a n))
    → text ≡ old ++ spaced_words (label_words (literals_below a (n + 1)))
label_same a n old text e so_far = so_far ∙ ap (λ (ls : List Literal). old ++ spaced_words (label_words ls)) (sym (literals_same a n e))

pub joint_same : (a : Label) (n : ℕ) (joint : List ℕ) → asserted (a n) ≡ None → joint ≡ joint_after (literals_below a n)
    → joint ≡ joint_after (literals_below a (n + 1))
joint_same a n joint e is = is ∙ ap joint_after (sym (literals_same a n e))
