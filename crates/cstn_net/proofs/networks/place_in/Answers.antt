use Rattle.std.proofs.Common.{ℕ, ◌≡◌, ◌≢◌, ◌<◌, length, rules, subst}
use Rattle.std.specs.Prelude.{MatchResult, Result}
use Rattle.std.specs.List.{All, HoldsAt}
use Rattle.std.proofs.lemmas.List.Sorted.{answers_always}
use Rattle.cstn_net.proofs.ChangeLemmas.{searched}
use Rattle.cstn_net.proofs.networks.place_in.Goals as goal

pub returns-in-Ok : goal.returns-in-Ok
returns-in-Ok c =
    let cs = c.args.constraints.now in
    let facts = c.binary_search_by_key.ensures in
    let by_id = facts.position (λ c. c.id) (answers_always _ _ _ (λ f a r g called. search rules)) in
    subst (λ (r : Result ℕ ℕ). MatchResult r (λ k. (k < length cs) × HoldsAt (λ d. d.id ≡ c.args.id) cs k) (λ _. All (λ d. d.id ≢ c.args.id) cs)) c.in-Ok.is
    (searched c.args.id cs c.requires c.binary_search_by_key.result facts.bound by_id)

pub returns-in-Err : goal.returns-in-Err
returns-in-Err c =
    let cs = c.args.constraints.now in
    let facts = c.binary_search_by_key.ensures in
    let by_id = facts.position (λ c. c.id) (answers_always _ _ _ (λ f a r g called. search rules)) in
    subst (λ (r : Result ℕ ℕ). MatchResult r (λ k. (k < length cs) × HoldsAt (λ d. d.id ≡ c.args.id) cs k) (λ _. All (λ d. d.id ≢ c.args.id) cs)) c.in-Err.is
    (searched c.args.id cs c.requires c.binary_search_by_key.result facts.bound by_id)
