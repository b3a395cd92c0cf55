-- The words of a line, one after the other.
use Rattle.std.proofs.Common.{◌≡◌, ℕ, zero, suc, ◌+◌, ◌-◌, ◌≤◌, ◌==◌, List, [], ◌∷◌, ◌++◌, length, drop, take, refl, ap, sym, ◌∙◌, arith, length-drop, Bool, true, false}
use Rattle.std.proofs.lemmas.List.{drop_all, take_all}
use Rattle.std.specs.List.{prefix_len}
use Rattle.cstn_markup.specs.Bytes.{is_white, past_white}
use Rattle.cstn_sentences.specs.Words.{word_len, word_at, passed_bytes, words_after, words_of}

-- the words behind the bytes that are passed over
pub words_skip : (n : ℕ) (bytes : List ℕ) → words_after n bytes ≡ words_of (drop n bytes)
unfolding words_after
words_skip zero bytes = refl
words_skip (suc n) [] = refl
words_skip (suc n) (b ∷ bytes) = words_skip n bytes

-- a byte of white space says nothing
white_passed : (b : ℕ) (bytes : List ℕ) → is_white b ≡ true → words_of (b ∷ bytes) ≡ words_of bytes
unfolding words_after
white_passed b bytes e = rw e refl

one_more : (n : ℕ) → 1 + n ≡ suc n
one_more n = omega arith

past_one : (b : ℕ) (bytes : List ℕ) → is_white b ≡ true → past_white (b ∷ bytes) ≡ past_white bytes
past_one b bytes e = rw e (ap (λ k. drop k (b ∷ bytes)) (one_more (prefix_len is_white bytes)))

past_none : (b : ℕ) (bytes : List ℕ) → is_white b ≡ false → past_white (b ∷ bytes) ≡ b ∷ bytes
past_none b bytes e = rw e refl

-- white space says nothing
pub words_past_white : (bytes : List ℕ) → words_of (past_white bytes) ≡ words_of bytes
words_past_white [] = refl
words_past_white (b ∷ bytes) = at (is_white b) refl (words_past_white bytes)
  where
    at : (white : Bool) → is_white b ≡ white → words_of (past_white bytes) ≡ words_of bytes → words_of (past_white (b ∷ bytes)) ≡ words_of (b ∷ bytes)
    at true e later = ap words_of (past_one b bytes e) ∙ later ∙ sym (white_passed b bytes e)
    at false e later = ap words_of (past_none b bytes e)

same_first : (a b : ℕ) (xs ys : List ℕ) → a ∷ xs ≡ b ∷ ys → a ≡ b
same_first a b xs ys e = grind arith

-- what stands behind white space isn't white
pub first_is_black : (bytes : List ℕ) (b : ℕ) (rest : List ℕ) → past_white bytes ≡ b ∷ rest → is_white b ≡ false
first_is_black [] b rest e = absurd (omega (arith, ap length e))
first_is_black (a ∷ bytes) b rest e = at (is_white a) refl (first_is_black bytes b rest)
  where
    at : (white : Bool) → is_white a ≡ white → (past_white bytes ≡ b ∷ rest → is_white b ≡ false) → is_white b ≡ false
    at true w later = later (sym (past_one a bytes w) ∙ e)
    at false w later = ap is_white (sym (same_first a b bytes rest (sym (past_none a bytes w) ∙ e))) ∙ w

pub nothing : words_of [] ≡ []
unfolding words_after
nothing = refl

-- where nothing is left, no word is
pub nothing_left : (bytes : List ℕ) → length (past_white bytes) ≡ 0 → words_of bytes ≡ []
nothing_left bytes e = sym (words_past_white bytes) ∙ at (past_white bytes) e
  where
    at : (left : List ℕ) → length left ≡ 0 → words_of left ≡ []
    at [] none = nothing
    at (b ∷ left) none = absurd (omega (arith, none))

all_dropped : (xs : List ℕ) → drop (length xs) xs ≡ []
all_dropped xs = drop_all (length xs) xs (omega arith)

-- a comment has no words
comment : (b : ℕ) (rest : List ℕ) → is_white b ≡ false → (b == 35) ≡ true → words_of (b ∷ rest) ≡ []
unfolding words_after
comment b rest w hash = rw w (rw hash (words_skip (length rest) rest ∙ ap words_of (all_dropped rest)))

is_hash : (b : ℕ) → b ≡ 35 → (b == 35) ≡ true
is_hash b e = grind arith

no_hash : (b : ℕ) → (b ≡ 35 → ⊥) → (b == 35) ≡ false
no_hash b e = grind arith

pub commented : (bytes : List ℕ) (b : ℕ) (rest : List ℕ) → past_white bytes ≡ b ∷ rest → b ≡ 35 → words_of bytes ≡ []
commented bytes b rest e hash = sym (words_past_white bytes) ∙ ap words_of e ∙ comment b rest (first_is_black bytes b rest e) (is_hash b hash)

-- a word has a byte
word_some : (b : ℕ) (rest : List ℕ) → is_white b ≡ false → 1 ≤ word_len (b ∷ rest)
word_some b rest w = at (b == 34) refl
  where
    at : (quote : Bool) → (b == 34) ≡ quote → 1 ≤ word_len (b ∷ rest)
    at true q = rw q (omega arith)
    at false q = rw q (rw w (omega arith))

here : (b : ℕ) (rest : List ℕ) → is_white b ≡ false → (b == 35) ≡ false → word_at (b ∷ rest) ≡ take (word_len (b ∷ rest)) (b ∷ rest) ∷ []
here b rest w hash = rw w (rw hash refl)

behind : (b : ℕ) (rest : List ℕ) → is_white b ≡ false → (b == 35) ≡ false → passed_bytes (b ∷ rest) ≡ word_len (b ∷ rest) - 1
behind b rest w hash = rw w (rw hash refl)

opened : (b : ℕ) (rest : List ℕ) → words_of (b ∷ rest) ≡ word_at (b ∷ rest) ++ words_after (passed_bytes (b ∷ rest)) rest
unfolding words_after
opened b rest = refl

-- the word of the first n + 1 bytes, and the words behind it
told : (b : ℕ) (rest : List ℕ) (n : ℕ) → word_at (b ∷ rest) ≡ take (suc n) (b ∷ rest) ∷ [] → passed_bytes (b ∷ rest) ≡ n
    → words_of (b ∷ rest) ≡ take (suc n) (b ∷ rest) ∷ words_of (drop (suc n) (b ∷ rest))
told b rest n word skip =
    opened b rest
    ∙ ap (λ ws. ws ++ words_after (passed_bytes (b ∷ rest)) rest) word
    ∙ ap (λ k. (take (suc n) (b ∷ rest) ∷ []) ++ words_after k rest) skip
    ∙ ap (λ ws. take (suc n) (b ∷ rest) ∷ ws) (words_skip n rest)

pub first_of : (b : ℕ) (rest : List ℕ) → is_white b ≡ false → (b == 35) ≡ false
    → words_of (b ∷ rest) ≡ take (word_len (b ∷ rest)) (b ∷ rest) ∷ words_of (drop (word_len (b ∷ rest)) (b ∷ rest))
first_of b rest w hash = at (word_len (b ∷ rest)) (word_some b rest w) (here b rest w hash) (behind b rest w hash)
  where
    at : (n : ℕ) → 1 ≤ n → word_at (b ∷ rest) ≡ take n (b ∷ rest) ∷ [] → passed_bytes (b ∷ rest) ≡ n - 1
        → words_of (b ∷ rest) ≡ take n (b ∷ rest) ∷ words_of (drop n (b ∷ rest))
    at zero some word skip = absurd (omega (arith, some))
    at (suc n) some word skip = told b rest n word (skip ∙ (let h : suc n - 1 ≡ n = omega arith in h))

rest_is : (n : ℕ) (left : List ℕ) → n ≤ length left → take (length left - n) (drop n left) ≡ drop n left
rest_is n left h = take_all (length left - n) (drop n left) (rw (length-drop n left) (omega arith))

-- the first word, and those behind it
pub first_word : (bytes : List ℕ) (b : ℕ) (rest left : List ℕ) (n : ℕ) → left ≡ past_white bytes → left ≡ b ∷ rest → (b ≡ 35 → ⊥)
    → n ≡ word_len left → n ≤ length left → words_of bytes ≡ take n left ∷ words_of (take (length left - n) (drop n left))
first_word bytes b rest left n e is hash len inside =
    sym (words_past_white bytes) ∙ ap words_of (sym e ∙ is) ∙ first_of b rest (first_is_black bytes b rest (sym e ∙ is)) (no_hash b hash)
    ∙ ap (λ xs. take (word_len xs) xs ∷ words_of (drop (word_len xs) xs)) (sym is)
    ∙ ap (λ k. take k left ∷ words_of (drop k left)) (sym len)
    ∙ ap (λ xs. take n left ∷ words_of xs) (sym (rest_is n left inside))
