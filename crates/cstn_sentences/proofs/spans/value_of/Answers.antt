use Rattle.std.proofs.Common.{◌≡◌, ◌<◌, ◌≤◌, ◌^◌, ℕ, length, arith, min}
use Rattle.std.specs.Prelude.{Result, Ok, Err}
use Rattle.std.specs.Result.{OkIff}
use Rattle.std.specs.Str.Parse.{digits_value}
use Rattle.std.proofs.lemmas.Str.{IsUtf8-from_ascii}
use Rattle.std.proofs.lemmas.Str.Parse.{parse_digits}
use Rattle.std.proofs.lemmas.Fmt.{IsAscii-from_digits}
use Rattle.cstn_text.proofs.NumberLemmas.{digits}
use Rattle.cstn_sentences.proofs.spans.value_of.Goals as goal

pub returns-in_default : goal.returns-in_default
returns-in_default c = absurd (c.in_default.ensures.cases.0 (IsUtf8-from_ascii c.args.digits.now (IsAscii-from_digits c.args.digits.now (digits.to c.args.digits.now c.requires.digits))))

too_many : (v : ℕ) → (v < 2 ^ 64 → ⊥) → 1000000001 ≡ min v 1000000001
too_many v h = omega arith

value_is : {E : Type 0} (r : Result ℕ E) (x n v : ℕ) → r ≡ Ok x → OkIff r ((0 < n) × (v < 2 ^ 64)) v → x ≡ v
value_is r x n v e says = (rw e at says).1

beyond : {E : Type 0} (r : Result ℕ E) (y : E) (n v : ℕ) → r ≡ Err y → 0 < n → OkIff r ((0 < n) × (v < 2 ^ 64)) v → 1000000001 ≡ min v 1000000001
beyond r y n v e some says = too_many v (λ small. (rw e at says) (some, small))

pub returns-in_default-parse : goal.returns-in_default-parse
returns-in_default-parse c =
    let same = c.in-Ok.ensures.cases.0 in
    beyond c.parse.result c.in_default-parse.field-0 (length c.args.digits.now) (digits_value 10 c.args.digits.now) c.in_default-parse.is c.requires.some
    (parse_digits digits 64 c.args.digits.now c.parse.result (rw same at c.parse.ensures.value.0) c.requires.digits)

small : (x v : ℕ) → x ≡ v → x ≤ 1000000001 → x ≡ min v 1000000001
small x v e h = omega arith

large : (x v : ℕ) → x ≡ v → 1000000001 < x → 1000000001 ≡ min v 1000000001
large x v e h = omega arith

pub returns-then-value : goal.returns-then-value
returns-then-value c =
    let same = c.in-Ok.ensures.cases.0 in
    large c.in-Ok-parse.value (digits_value 10 c.args.digits.now) (value_is c.parse.result c.in-Ok-parse.value (length c.args.digits.now) (digits_value 10 c.args.digits.now) c.in-Ok-parse.is
    (parse_digits digits 64 c.args.digits.now c.parse.result (rw same at c.parse.ensures.value.0) c.requires.digits)) c.if-value.true

pub returns : goal.returns
returns c =
    let same = c.in-Ok.ensures.cases.0 in
    small c.in-Ok-parse.value (digits_value 10 c.args.digits.now) (value_is c.parse.result c.in-Ok-parse.value (length c.args.digits.now) (digits_value 10 c.args.digits.now) c.in-Ok-parse.is
    (parse_digits digits 64 c.args.digits.now c.parse.result (rw same at c.parse.ensures.value.0) c.requires.digits)) c.if-value.false
