use Rattle.std.proofs.Common.{rules, List, Some, ℕ, ap, sym, ◌∙◌}
use Rattle.cstn_lines.specs.FollowLines.{names_read}
use Rattle.cstn_lines.proofs.FollowLemmas.{after_names, names_on_read, names_wrong, names_last, names_last_wrong}
use Rattle.cstn_lines.proofs.follow.read_names.Goals as goal

pub returns-in_default-2 : goal.returns-in_default-2
returns-in_default-2 c =
    sym (names_wrong c.loop-name.names.items c.loop-name.left.now c.in-Some.name.now c.in-Some.rest.now (sym c.in-Some.ensures) (search rules)) ∙ c.loop-name.invariant

pub loop-name-preserved : goal.loop-name-preserved
loop-name-preserved c =
    ap (λ (xs : List (List ℕ)). after_names xs (names_read c.in-Some.rest.now)) c.in_ok-push.ensures.items
    ∙ sym (names_on_read c.loop-name.names.items c.loop-name.left.now c.in-Some.name.now c.in-Some.rest.now _ (sym c.in-Some.ensures) (search rules))
    ∙ c.loop-name.invariant

pub returns-in_default-3 : goal.returns-in_default-3
returns-in_default-3 c =
    sym (names_last_wrong c.loop-name.names.items c.loop-name.left.now (search rules) (search rules)) ∙ c.loop-name.invariant

pub returns : goal.returns
returns c =
    ap (λ (xs : List (List ℕ)). Some xs) c.in_ok-push-2.ensures.items
    ∙ sym (names_last c.loop-name.names.items c.loop-name.left.now _ (search rules) (search rules))
    ∙ c.loop-name.invariant
