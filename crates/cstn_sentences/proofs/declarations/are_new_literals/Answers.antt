use Rattle.std.proofs.Common.{◌≡◌, ℕ, zero, suc, ◌+◌, ◌≤◌, List, [], ◌∷◌, ◌++◌, length, length-append, length-take, take, refl, ap, sym, ◌∙◌, arith, append_assoc, true, false}
use Rattle.std.specs.Prelude.{Err, bytes_eq}
use Rattle.std.specs.List.{list_any}
use Rattle.cstn_sentences.specs.declared.lines.Literal.{Literal}
use Rattle.cstn_sentences.specs.Refusals.{stands_twice}
use Rattle.cstn_sentences.specs.Declarations.{are_new_literals}
use Rattle.cstn_sentences.proofs.declarations.are_new_literals.Goals as goal

tails : (x y : Literal) (xs ys : List Literal) → x ∷ xs ≡ y ∷ ys → xs ≡ ys
tails x y xs ys e = grind arith

one_longer : (k : ℕ) (xs : List Literal) (l : Literal) (rest : List Literal) → xs ≡ take k xs ++ (l ∷ rest) → take (suc k) xs ≡ take k xs ++ (l ∷ [])
one_longer zero xs l rest e = ap (λ ys. take 1 ys) e
one_longer (suc k) [] l rest e = absurd (omega (arith, ap length e))
one_longer (suc k) (x ∷ xs) l rest e = ap (λ ys. x ∷ ys) (one_longer k xs l rest (tails x x xs (take k xs ++ (l ∷ rest)) e))

longer : (k : ℕ) (xs left : List Literal) (l : Literal) (rest : List Literal) → xs ≡ take k xs ++ left → left ≡ l ∷ rest → take (k + 1) xs ≡ take k xs ++ (l ∷ [])
longer k xs left l rest e is =
    let next : k + 1 ≡ suc k = omega arith in
    ap (λ n. take n xs) next ∙ one_longer k xs l rest (e ∙ ap (λ t. take k xs ++ t) is)

split : (k : ℕ) (xs left : List Literal) (l : Literal) (rest : List Literal) → xs ≡ take k xs ++ left → left ≡ l ∷ rest → xs ≡ take (k + 1) xs ++ rest
split k xs left l rest e is =
    e ∙ ap (λ t. take k xs ++ t) is ∙ sym (append_assoc (take k xs) (l ∷ []) rest) ∙ ap (λ t. t ++ rest) (sym (longer k xs left l rest e is))

below : (k : ℕ) (xs left : List Literal) (l : Literal) (rest : List Literal) → xs ≡ take k xs ++ left → left ≡ l ∷ rest → k ≤ length xs → k + 1 ≤ length xs
below k xs left l rest e is h =
    omega (arith, ap length e ∙ length-append (take k xs) left, ap length is, length-take k xs)

new_on : (n : ℕ) (seen rest : List Literal) (l : Literal) → list_any (λ s. bytes_eq s.prop l.prop) seen ≡ false → are_new_literals n seen (l ∷ rest) ≡ are_new_literals n (seen ++ (l ∷ [])) rest
new_on n seen rest l e = rw e refl

new_not : (n : ℕ) (seen rest : List Literal) (l : Literal) → list_any (λ s. bytes_eq s.prop l.prop) seen ≡ true → are_new_literals n seen (l ∷ rest) ≡ Err (stands_twice n l.prop)
new_not n seen rest l e = rw e refl

pub loop-literal-preserved : goal.loop-literal-preserved
loop-literal-preserved c =
    let is = c.in-Some.ensures.cases.0 in
    let kept = c.loop-literal.invariant in
    let seen = take c.loop-literal.seen c.args.label.now in
    let absent = ap (λ w. list_any (λ s. bytes_eq s.prop w) seen) (sym c.as_bytes.ensures.bytes) ∙ sym c.stands_in.ensures ∙ c.if-stands_in.false in
    let more = longer c.loop-literal.seen c.args.label.now c.loop-literal.left.now c.in-Some.literal.now c.in-Some.rest.now kept.1 is in (
      kept.0 ∙ ap (λ t. are_new_literals c.args.n seen t) is ∙ new_on c.args.n seen c.in-Some.rest.now c.in-Some.literal.now absent ∙ ap (λ s. are_new_literals c.args.n s c.in-Some.rest.now) (sym more),
      split c.loop-literal.seen c.args.label.now c.loop-literal.left.now c.in-Some.literal.now c.in-Some.rest.now kept.1 is,
      below c.loop-literal.seen c.args.label.now c.loop-literal.left.now c.in-Some.literal.now c.in-Some.rest.now kept.1 is kept.2,
    )

pub returns-then-stands_in : goal.returns-then-stands_in
returns-then-stands_in c =
    let is = c.in-Some.ensures.cases.0 in
    let kept = c.loop-literal.invariant in
    let seen = take c.loop-literal.seen c.args.label.now in
    let there = ap (λ w. list_any (λ s. bytes_eq s.prop w) seen) (sym c.as_bytes.ensures.bytes) ∙ sym c.stands_in.ensures ∙ c.if-stands_in.true in
    kept.0 ∙ ap (λ t. are_new_literals c.args.n seen t) is ∙ new_not c.args.n seen c.in-Some.rest.now c.in-Some.literal.now there
    ∙ ap (λ w. Err (stands_twice c.args.n w)) (sym (c.in_ok-new.ensures.word ∙ c.as_bytes-then-stands_in.ensures.bytes))
