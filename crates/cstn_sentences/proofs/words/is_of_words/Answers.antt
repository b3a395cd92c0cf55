use Rattle.std.proofs.Common.{◌≡◌, ◌≤◌, ℕ, length, ◌∙◌, arith, Bool, true, false, ◌&&◌}
use Rattle.std.specs.Prelude.{nat_le}
use Rattle.std.specs.Str.{is_utf8}
use Rattle.std.proofs.lemmas.Str.{IsUtf8-from_is_utf8, is_utf8-from_IsUtf8}
use Rattle.std.specs.List.{list_all}
use Rattle.cstn_sentences.specs.Words.{is_closed, words_of}
use Rattle.cstn_sentences.proofs.words.is_of_words.Goals as goal

not_text : (short utf8 closed : Bool) → (utf8 ≡ true → ⊥) → false ≡ ((short && utf8) && closed)
not_text short utf8 closed wrong = grind arith

is_text : (short utf8 closed : Bool) → short ≡ true → utf8 ≡ true → closed ≡ ((short && utf8) && closed)
is_text short utf8 closed few is = grind arith

short_is : (n : ℕ) → n ≤ 4096 → nat_le n 4096 ≡ true
short_is n h = grind arith

pub returns-in_default : goal.returns-in_default
returns-in_default c =
    not_text (nat_le (length c.args.line.now) 4096) (is_utf8 c.args.line.now) (list_all is_closed (words_of c.args.line.now))
    (λ is. c.in_default.ensures.cases.0 (IsUtf8-from_is_utf8 c.args.line.now is))

pub returns : goal.returns
returns c =
    c.are_closed.ensures
    ∙ is_text (nat_le (length c.args.line.now) 4096) (is_utf8 c.args.line.now) (list_all is_closed (words_of c.args.line.now))
    (short_is (length c.args.line.now) c.if-line-gt-MAX_LINE.false) (is_utf8-from_IsUtf8 c.args.line.now c.in-Ok.ensures.cases.1)
