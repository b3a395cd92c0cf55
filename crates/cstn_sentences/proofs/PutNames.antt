-- A name that a line puts in has the number behind those before it.
use Rattle.std.proofs.Common.{◌≡◌, ℕ, ◌+◌, ◌<◌, Bool, true, false, List, [], ◌∷◌, ◌++◌, length, get_or, refl, ap, sym, ◌∙◌, subst, arith, Some, None, Result, Ok}
use Rattle.std.specs.Prelude.{◌&&◌, not, nat_le, bytes_eq}
use Rattle.std.specs.List.{Contains}
use Rattle.std.proofs.lemmas.List.{length-append, append_assoc, get_or_append_left}
use Rattle.std.proofs.lemmas.Bool.{not-true}
use Rattle.std.proofs.lemmas.List.Elements.{All-contains_itself}
use Rattle.std.proofs.lemmas.Slice.Eq.{bytes_eq-Decides}
use Rattle.cstn_facts.proofs.Filters.{position_at}
use Rattle.cstn_text.specs.Names.{number_of}
use Rattle.cstn_sentences.specs.declared.declarations.Meant.{Meant}
use Rattle.cstn_sentences.specs.Limits.{most_task}
use Rattle.cstn_sentences.specs.Results.{◌>>?◌, holds_or}
use Rattle.cstn_sentences.specs.Refusals.{PlanRefusal, stands_twice, no_name}
use Rattle.cstn_sentences.specs.Lines.{PlanStep}
use Rattle.cstn_sentences.specs.Declarations.{Declared, is_declared, is_origin, end_name, step_observation, words_with, with_point, is_task, declare_task}
use Rattle.cstn_sentences.proofs.Accepted.{bind_ok, demanded}
use Rattle.cstn_sentences.proofs.NamesLemmas.{unknown, undeclared, still_unknown, end_differs, end_is_no_origin}

differs_at : (names : List (List ℕ)) (name : List ℕ) (k : ℕ) (d : List ℕ) → number_of names name ≡ None → k < length names
    → bytes_eq name (get_or names k d) ≡ false
differs_at names name k d new inside = at (bytes_eq name (get_or names k d)) refl
  where
    at : (b : Bool) → bytes_eq name (get_or names k d) ≡ b → bytes_eq name (get_or names k d) ≡ false
    at true e =
        let same : name ≡ get_or names k d = (bytes_eq-Decides name (get_or names k d)).0 e in
        absurd (unknown names name new (subst (Contains names) (sym same) (All-contains_itself names k d inside)))
    at false e = e

put_at : (names : List (List ℕ)) (name : List ℕ) (rest : List (List ℕ)) → get_or (names ++ (name ∷ rest)) (length names) [] ≡ name
put_at [] name rest = refl
put_at (x ∷ names) name rest = put_at names name rest

pub number_put : (names : List (List ℕ)) (name : List ℕ) (rest : List (List ℕ)) → number_of names name ≡ None
    → number_of (names ++ (name ∷ rest)) name ≡ Some (length names)
number_put names name rest new =
    position_at (bytes_eq name) (names ++ (name ∷ rest)) (length names) [] (omega (arith, length-append names (name ∷ rest)))
    (λ k inside. ap (bytes_eq name) (get_or_append_left names (name ∷ rest) [] k inside) ∙ differs_at names name k [] new inside)
    (ap (bytes_eq name) (put_at names name rest) ∙ (bytes_eq-Decides name name).1 refl)

-- two names, of which the second is another
two_put : (names : List (List ℕ)) (name last : List ℕ) (more all : List (List ℕ)) → number_of names name ≡ None → number_of names last ≡ None
    → bytes_eq last name ≡ false → all ≡ ((names ++ (name ∷ [])) ++ (last ∷ [])) ++ more
    → (number_of all name ≡ Some (length names)) × (number_of all last ≡ Some (length names + 1))
two_put names name last more all new new_last other is =
    let both : all ≡ (names ++ (name ∷ [])) ++ (last ∷ more) = is ∙ append_assoc (names ++ (name ∷ [])) (last ∷ []) more in
    let first : all ≡ names ++ (name ∷ (last ∷ more)) = both ∙ append_assoc names (name ∷ []) (last ∷ more) in
    let next : length (names ++ (name ∷ [])) ≡ length names + 1 = length-append names (name ∷ []) in (
      ap (λ (ns : List (List ℕ)). number_of ns name) first ∙ number_put names name (last ∷ more) new,
      ap (λ (ns : List (List ℕ)). number_of ns last) both ∙ number_put (names ++ (name ∷ [])) last more (still_unknown names last name new_last other) ∙ ap Some next,
    )

-- ---- steps and tasks

first_isnt : (a b : Bool) → (not a && b) ≡ true → a ≡ false
first_isnt true b e = absurd (cc)
first_isnt false b e = refl

-- a task has the number behind the names before it, and its end the next
pub task_numbers : (n : ℕ) (s : PlanStep) (b a : Declared) (more all : List (List ℕ)) → declare_task n s b ≡ Ok a
    → all ≡ ((b.names ++ (s.name ∷ [])) ++ (end_name s.name ∷ [])) ++ more
    → (number_of all s.name ≡ Some (length b.names)) × (number_of all (end_name s.name) ≡ Some (length b.names + 1))
task_numbers n s b a more all e is =
    let name : List ℕ = s.name in
    let fits : Result (Unit {0}) PlanRefusal = holds_or (not (is_origin name) && nat_le (length name) most_task) (no_name n name) in
    let done : List Meant → Result Declared PlanRefusal =
    λ words. Ok (with_point (end_name name) false (step_observation s.observed) (with_point name true None (record b { words = words }))) in
    let t = bind_ok (is_task n name b) (λ named. words_with n s b.words >>? done) a e in
    let p =
    bind_ok (holds_or (not (is_declared name b)) (stands_twice n name))
    (λ new. holds_or (not (is_declared (end_name name) b)) (stands_twice n (end_name name)) >>? λ ends. fits) t.0 t.1 in
    let q = bind_ok (holds_or (not (is_declared (end_name name) b)) (stands_twice n (end_name name))) (λ ends. fits) t.0 p.2 in
    let new : is_declared name b ≡ false = not-true (is_declared name b) (demanded (not (is_declared name b)) (stands_twice n name) p.0 p.1) in
    let new_end : is_declared (end_name name) b ≡ false =
    not-true (is_declared (end_name name) b) (demanded (not (is_declared (end_name name) b)) (stands_twice n (end_name name)) q.0 q.1) in
    let other : is_origin name ≡ false =
    first_isnt (is_origin name) (nat_le (length name) most_task)
    (demanded (not (is_origin name) && nat_le (length name) most_task) (no_name n name) t.0 q.2) in
    two_put b.names name (end_name name) more all (undeclared name b new other)
    (undeclared (end_name name) b new_end (end_is_no_origin name)) (end_differs name) is
