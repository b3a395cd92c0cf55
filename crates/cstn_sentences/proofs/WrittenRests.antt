-- What a rule counts from and its label are read from what is written of them.
use Rattle.std.proofs.Common.{◌≡◌, ℕ, Bool, true, false, List, [], ◌∷◌, ◌++◌, length, refl, ap, sym, ◌∙◌, arith, append-nil, append_assoc, Option, Some}
use Rattle.std.specs.Prelude.{◌||◌, All, codes, flat_map, Ok, Err, if◌then◌else◌}
use Rattle.std.specs.Option.{option_map}
use Rattle.std.proofs.lemmas.List.Elements.{All-head, All-tail}
use Rattle.cstn_markup.specs.Bytes.{when}
use Rattle.cstn_text.specs.Names.{IsName}
use Rattle.cstn_sentences.specs.Results.{◌>>?◌, some_or}
use Rattle.cstn_sentences.specs.declared.lines.Side.TheVariants.{Alone}
use Rattle.cstn_sentences.specs.declared.lines.Reference.{Reference}
use Rattle.cstn_sentences.specs.declared.lines.Reference.TheVariants.{Moment}
use Rattle.cstn_sentences.specs.declared.lines.Literal.{Literal}
use Rattle.cstn_sentences.specs.declared.lines.Expects.{Expects}
use Rattle.cstn_sentences.specs.declared.lines.Expects.TheVariants.{Since, AndOrIf, If, Asserted, Negated, And}
use Rattle.cstn_sentences.specs.Spelling.{begins_line, is_of_rule, is_between, needs_quotes, spelling, name_spelled, is_prop_word}
use Rattle.cstn_sentences.specs.Grammar.{Words, Rest, is, expecting, with_reference, with_literal_read, after_word, may_end, rest_read}
use Rattle.cstn_sentences.specs.Printed.{said_words, literal_words, label_words}
use Rattle.cstn_sentences.proofs.SpelledNames.{name_back, needs_parts, bare_parts, spelled_other}

-- the rest of a line as far as it was read
abbrev pub read_so_far : List Reference → List Literal → Expects → Rest
read_so_far since label expects = record { since = since; label = label; expects = expects }

-- a literal by a proposition that isn't the word `not`
pub record IsLiteral (l : Literal) : Type 0 where
  pub prop : is_prop_word l.prop ≡ true
  pub other : is (codes "not") l.prop ≡ false

rest_step : (rest more : Rest) (word : List ℕ) (words : Words) → after_word rest.expects word rest ≡ Some more → rest_read rest (word ∷ words) ≡ rest_read more words
unfolding rest_read
rest_step rest more word words e = ap (λ (o : Option Rest). some_or o (length (word ∷ words)) >>? λ next. rest_read next words) e

rest_ends : (rest : Rest) → may_end rest.expects ≡ true → rest_read rest [] ≡ Ok rest
unfolding rest_read
rest_ends rest e = ap (λ (b : Bool). if b then Ok rest else Err 0) e

-- ---- labels

said_step : (since : List Reference) (done : List Literal) (holds : Bool) (prop : List ℕ) (words : Words) → is_prop_word prop ≡ true
    → is (codes "not") prop ≡ false
    → rest_read (read_so_far since done Asserted) (said_words holds prop ++ words)
    ≡ rest_read (read_so_far since (done ++ (record { prop = prop; holds = holds } ∷ [])) And) words
said_step since done true prop words p other =
    let seen : Rest = read_so_far since done Asserted in
    rest_step seen (with_literal_read true prop seen) prop words
    (ap (λ (b : Bool). if b then Some (expecting Negated seen) else when (is_prop_word prop) (with_literal_read true prop seen)) other
    ∙ ap (λ (b : Bool). when b (with_literal_read true prop seen)) p)
said_step since done false prop words p other =
    let seen : Rest = read_so_far since done Negated in
    rest_step (read_so_far since done Asserted) seen (codes "not") (prop ∷ words) refl
    ∙ rest_step seen (with_literal_read false prop seen) prop words (ap (λ (b : Bool). when b (with_literal_read false prop seen)) p)

literal_step : (since : List Reference) (done : List Literal) (l : Literal) (words : Words) → IsLiteral l
    → rest_read (read_so_far since done Asserted) (literal_words l ++ words) ≡ rest_read (read_so_far since (done ++ (l ∷ [])) And) words
literal_step since done l words ok = said_step since done l.holds l.prop words ok.prop ok.other

abbrev pub later_words : List Literal → Words
later_words ls = flat_map (λ y. codes "and" ∷ literal_words y) ls

later_back : (since : List Reference) (done ls : List Literal) → All IsLiteral ls
    → rest_read (read_so_far since done And) (later_words ls) ≡ Ok (read_so_far since (done ++ ls) And)
later_back since done [] all =
    rest_ends (read_so_far since done And) refl ∙ ap (λ (d : List Literal). Ok (read_so_far since d And)) (sym (append-nil done))
later_back since done (l ∷ ls) all =
    rest_step (read_so_far since done And) (read_so_far since done Asserted) (codes "and") (literal_words l ++ later_words ls) refl
    ∙ literal_step since done l (later_words ls) (All-head IsLiteral l ls all)
    ∙ later_back since (done ++ (l ∷ [])) ls (All-tail IsLiteral l ls all)
    ∙ ap (λ (d : List Literal). Ok (read_so_far since d And)) (append_assoc done (l ∷ []) ls)

-- what may stand behind a label, where no label stands behind what was read
abbrev ends : Expects → List Literal → Expects
ends expects [] = expects
ends expects (l ∷ ls) = And

-- a label is read from its words, where it may stand or be left out
pub label_back : (since : List Reference) (ls : List Literal) (expects : Expects) → may_end expects ≡ true
    → after_word expects (codes "if") (read_so_far since [] expects) ≡ Some (read_so_far since [] Asserted) → All IsLiteral ls
    → rest_read (read_so_far since [] expects) (label_words ls) ≡ Ok (read_so_far since ls (ends expects ls))
label_back since [] expects may begins all = rest_ends (read_so_far since [] expects) may
label_back since (l ∷ ls) expects may begins all =
    rest_step (read_so_far since [] expects) (read_so_far since [] Asserted) (codes "if") (literal_words l ++ later_words ls) begins
    ∙ literal_step since [] l (later_words ls) (All-head IsLiteral l ls all)
    ∙ later_back since (l ∷ []) ls (All-tail IsLiteral l ls all)

pub label_alone : (ls : List Literal) → All IsLiteral ls → rest_read (read_so_far [] [] If) (label_words ls) ≡ Ok (read_so_far [] ls (ends If ls))
label_alone ls all = label_back [] ls If refl refl all

-- ---- what a rule counts from

five_false : (a b c d e : Bool) → (a || b || c || d || e) ≡ false → (a ≡ false) × (b ≡ false) × (c ≡ false) × (d ≡ false) × (e ≡ false)
five_false a b c d e h = grind arith

six_of : (a b c d e f g : Bool) → (a || b || c || d || e || f || g) ≡ false → f ≡ false
six_of a b c d e f g h = grind arith

-- a name that is spelled as it is printed is none of the words that a line begins with, and isn't `result`
pub record IsNoKeyword (name : List ℕ) : Type 0 where
  pub deadline : is (codes "deadline") name ≡ false
  pub start : is (codes "start") name ≡ false
  pub step : is (codes "step") name ≡ false
  pub task : is (codes "task") name ≡ false
  pub end : is (codes "end") name ≡ false
  pub result : is (codes "result") name ≡ false

bare_no_keyword : (name : List ℕ) → needs_quotes name ≡ false → IsNoKeyword name
bare_no_keyword name bare =
    let parts = needs_parts (begins_line name) (is_of_rule name) (is_between name) (bare_parts name bare).2 in
    let first = five_false (is (codes "deadline") name) (is (codes "start") name) (is (codes "step") name) (is (codes "task") name) (is (codes "end") name) parts.0 in
    record {
      deadline = first.0;
      start = first.1;
      step = first.2;
      task = first.3;
      end = first.4;
      result = six_of (is (codes "observes") name) (is (codes "as") name) (is (codes "if") name) (is (codes "and") name) (is (codes "not") name) (is (codes "result") name) (is (codes "of") name) parts.2;
    }

-- nor is the spelling of any name
pub no_keyword : (name : List ℕ) → IsNoKeyword (spelling name)
no_keyword name = record {
  deadline = spelled_other name (codes "deadline") refl refl (λ e. (bare_no_keyword name e).deadline);
  start = spelled_other name (codes "start") refl refl (λ e. (bare_no_keyword name e).start);
  step = spelled_other name (codes "step") refl refl (λ e. (bare_no_keyword name e).step);
  task = spelled_other name (codes "task") refl refl (λ e. (bare_no_keyword name e).task);
  end = spelled_other name (codes "end") refl refl (λ e. (bare_no_keyword name e).end);
  result = spelled_other name (codes "result") refl refl (λ e. (bare_no_keyword name e).result);
}

-- the time-point of this name
abbrev pub moment_of : List ℕ → Reference
moment_of name = Moment (record { name = name; side = Alone })

name_step : (word name : List ℕ) → is (codes "end") word ≡ false → is (codes "start") word ≡ false → is (codes "result") word ≡ false
    → name_spelled word ≡ Some name
    → after_word Since word (read_so_far [] [] Since) ≡ Some (read_so_far (moment_of name ∷ []) [] AndOrIf)
name_step word name end start result named =
    rw (end, start, result) (ap (option_map (λ n. with_reference (moment_of n) (read_so_far [] [] Since))) named)

-- a time-point and a label behind `after` are read from their words
pub since_back : (name : List ℕ) (ls : List Literal) → IsName name → All IsLiteral ls
    → rest_read (read_so_far [] [] Since) (spelling name ∷ label_words ls) ≡ Ok (read_so_far (moment_of name ∷ []) ls (ends AndOrIf ls))
since_back name ls ok all =
    let no = no_keyword name in
    rest_step (read_so_far [] [] Since) (read_so_far (moment_of name ∷ []) [] AndOrIf) (spelling name) (label_words ls)
    (name_step (spelling name) name no.end no.start no.result (name_back name ok))
    ∙ label_back (moment_of name ∷ []) ls AndOrIf refl refl all
