-- A reaction that was read is from 1 to 1,000 ticks.
use Rattle.std.proofs.Common.{◌≡◌, ◌+◌, ℕ, ◌<◌, List, [], ◌∷◌, Some, subst, arith}
use Rattle.std.specs.Prelude.{nat_lt, nat_le, length, ◌&&◌}
use Rattle.std.proofs.lemmas.Bool.{ltb-true}
use Rattle.cstn_net.specs.Limits.{most_reaction}
use Rattle.cstn_markup.specs.Bytes.{◌>>=◌, when, number_after}
use Rattle.cstn_markup.proofs.Rests.{bind_some, when_some, when_true, some_is}
use Rattle.cstn_element.specs.NumberTexts.{short_number, few_ticks, reaction_in}
use Rattle.cstn_element.specs.NumberTexts.{IsReaction}

below : (limit n : ℕ) (digits : List ℕ) → short_number limit digits ≡ Some n → n < limit
below limit n digits e =
    let few = bind_some (when (nat_lt 0 (length digits) && nat_le (length digits) 10) digits) (λ few. number_after 10 0 few >>= λ m. when (nat_lt m limit) m) n e in
    let number = bind_some (number_after 10 0 few.0) (λ m. when (nat_lt m limit) m) n few.2 in
    subst (λ m. m < limit) (when_some _ number.0 n number.2) (ltb-true number.0 limit (when_true _ number.0 n number.2))

few_in_reach : (digits : List ℕ) (n : ℕ) → few_ticks digits ≡ Some n → IsReaction n
few_in_reach digits n e =
    let few = bind_some (when (nat_le (length digits) 4) digits) (λ few. short_number (most_reaction + 1) few >>= λ m. when (nat_lt 0 m) m) n e in
    let number = bind_some (short_number (most_reaction + 1) few.0) (λ m. when (nat_lt 0 m) m) n few.2 in
    let low = below (most_reaction + 1) number.0 few.0 number.1 in
    subst IsReaction (when_some _ number.0 n number.2) (ltb-true 0 number.0 (when_true _ number.0 n number.2), omega (arith, low))

pub reaction_in_reach : (bytes : List ℕ) (n : ℕ) → reaction_in bytes ≡ Some n → IsReaction n
reaction_in_reach [] n e = subst IsReaction (some_is e) (omega arith, omega arith)
reaction_in_reach (b ∷ bytes) n e = few_in_reach (b ∷ bytes) n e
