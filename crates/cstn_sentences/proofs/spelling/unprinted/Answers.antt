use Rattle.std.proofs.Common.{◌≡◌, ℕ, List, [], ◌∷◌, ◌++◌, drop, refl, sym, ◌∙◌, ap, arith, append-nil, append_assoc, ◌==◌, true, false, if◌then◌else◌, length}
use Rattle.cstn_text.specs.PrintedNames.{unprinted, unprinted_after, unescaped_byte}
use Rattle.cstn_text.proofs.PrintedNameLemmas.{unprinted_skip}
use Rattle.cstn_sentences.proofs.spelling.unprinted.Goals as goal

opened : (b : ℕ) (rest : List ℕ) → unprinted (b ∷ rest) ≡ (if b == 37 then unescaped_byte rest else b) ∷ unprinted (drop (if b == 37 then 2 else 0) rest)
unfolding unprinted_after
opened b rest = ap (λ t. (if b == 37 then unescaped_byte rest else b) ∷ t) (unprinted_skip (if b == 37 then 2 else 0) rest)

is_escape : (b : ℕ) → b ≡ 37 → (b == 37) ≡ true
is_escape b e = grind arith

is_plain : (b : ℕ) → (b ≡ 37 → ⊥) → (b == 37) ≡ false
is_plain b e = grind arith

escaped : (bytes text left rest : List ℕ) (b : ℕ) → unprinted bytes ≡ text ++ unprinted left → left ≡ b ∷ rest → b ≡ 37
    → unprinted bytes ≡ (text ++ (unescaped_byte rest ∷ [])) ++ unprinted (drop 2 rest)
escaped bytes text left rest b e is k = e ∙ ap (λ l. text ++ unprinted l) is ∙ ap (λ t. text ++ t) (opened b rest ∙ rw (is_escape b k) refl) ∙ sym (append_assoc text (unescaped_byte rest ∷ []) (unprinted (drop 2 rest)))

plain : (bytes text left rest : List ℕ) (b : ℕ) → unprinted bytes ≡ text ++ unprinted left → left ≡ b ∷ rest → (b ≡ 37 → ⊥)
    → unprinted bytes ≡ (text ++ (b ∷ [])) ++ unprinted rest
plain bytes text left rest b e is k = e ∙ ap (λ l. text ++ unprinted l) is ∙ ap (λ t. text ++ t) (opened b rest ∙ rw (is_plain b k) refl) ∙ sym (append_assoc text (b ∷ []) (unprinted rest))

none_left : (bytes text left : List ℕ) → unprinted bytes ≡ text ++ unprinted left → length left ≡ 0 → text ≡ unprinted bytes
unfolding unprinted_after
none_left bytes text [] e none = sym (e ∙ append-nil text)
none_left bytes text (b ∷ left) e none = absurd (omega (arith, none))

pub loop-b-preserved-then-b-eq37 : goal.loop-b-preserved-then-b-eq37
loop-b-preserved-then-b-eq37 c =
    let is = c.in-Some.ensures.cases in
    escaped c.args.bytes.now c.loop-b.text.items c.loop-b.left.now c.in-Some.rest.now c.in-Some.b.now c.loop-b.invariant is.0 c.if-b-eq37.true
    ∙ ap (λ t. (c.loop-b.text.items ++ (t ∷ [])) ++ unprinted (drop 2 c.in-Some.rest.now)) (sym c.escaped_byte.ensures)
    ∙ ap (λ t. t ++ unprinted (drop 2 c.in-Some.rest.now)) (sym c.in_ok-push.ensures.items)
    ∙ ap (λ r. c.push.new.self.items ++ unprinted r) (sym c.past_two-left.ensures)

pub loop-b-preserved : goal.loop-b-preserved
loop-b-preserved c =
    let is = c.in-Some.ensures.cases in
    plain c.args.bytes.now c.loop-b.text.items c.loop-b.left.now c.in-Some.rest.now c.in-Some.b.now c.loop-b.invariant is.0 c.if-b-eq37.false
    ∙ ap (λ t. t ++ unprinted c.in-Some.rest.now) (sym c.in_ok-push-2.ensures.items)

pub returns : goal.returns
returns c = none_left c.args.bytes.now c.loop-b.text.items c.loop-b.left.now c.loop-b.invariant c.in_default.ensures.cases
