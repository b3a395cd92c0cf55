use Rattle.std.proofs.Common.{◌≡◌, ◌-◌, ap, sym, ◌∙◌, [], ◌∷◌, true, length, take, drop, arith}
use Rattle.std.specs.Prelude.{◌==◌, option_map}
use Rattle.std.proofs.lemmas.Bool.{ne_eqb}
use Rattle.std.proofs.lemmas.Grind.{common_steps}
use Rattle.cstn_element.specs.ValueTexts.{pairs_after}
use Rattle.cstn_element.specs.TextsSeen.{pair_seen}
use Rattle.cstn_element.proofs.PairTexts.{pair_first}
use Rattle.cstn_element.proofs.value_texts.begun_by.Goals as goal

pub returns-clause-value : goal.returns-clause-value
returns-clause-value c =
    let n = c.in-Some.n in
    let bytes = c.args.bytes.now in
    let same : take (length bytes - n) (drop n bytes) ≡ drop n bytes = grind (arith, common_steps) in
    let opens : (c.args.b == 40) ≡ true = ap (λ b. b == 40) c.if-b-ne40.false in
    ap (λ rest. option_map (λ pairs. pair_seen c.in-Some.pair ∷ pairs) (pairs_after 0 [] rest)) same
    ∙ pair_first c.args.b n bytes (pair_seen c.in-Some.pair) (ne_eqb _ _ c.if-b-eq125.false) opens (sym c.in-Some.ensures.value)
