use Rattle.std.proofs.Common.{rules, subst, ap, ◌∙◌, Err}
use Rattle.std.specs.List.Sorted.{IsBinarySearchResult}
use Rattle.std.specs.Ordering.{nat_cmp}
use Rattle.std.proofs.lemmas.List.Sorted.{answers_always}
use Rattle.cstn_net.specs.declared.constraints.Constraint.{Constraint}
use Rattle.cstn_replay.proofs.IdLemmas.{found_at, none_found, ascending_ids}
use Rattle.cstn_replay.proofs.steps.constraint_of.Goals as goal

pub returns-in-Ok-clause-id : goal.returns-in-Ok-clause-id
returns-in-Ok-clause-id c =
    let list = c.constraints-constraints.result.now in
    let searched = c.binary_search_by_key.ensures.position (λ d. d.id) (answers_always _ _ _ (λ f a r g called. search rules)) in
    let found = subst (λ r. IsBinarySearchResult (λ d. nat_cmp d.id c.args.id) list r) c.in-Ok.is searched in
    ap {A = Constraint} (λ d. d.id) c.index-constraints-at.is ∙ found_at list c.args.id c.in-Ok.at found c.index-constraints-at.result

pub returns-in-Err-clause-none : goal.returns-in-Err-clause-none
returns-in-Err-clause-none c =
    let list = c.args.net.now.constraints in
    let searched = c.binary_search_by_key.ensures.position (λ d. d.id) (answers_always _ _ _ (λ f a r g called. search rules)) in
    let found = subst (λ r. IsBinarySearchResult (λ d. nat_cmp d.id c.args.id) c.constraints-constraints.result.now r) c.in-Err.is searched in
    let there = subst (λ l. IsBinarySearchResult (λ d. nat_cmp d.id c.args.id) l (Err c.in-Err.field-0)) c.constraints-constraints.ensures.constraints found in
    none_found list (ascending_ids list c.constraints-constraints.ensures.well_formed.ascending) c.args.id c.in-Err.field-0 there
