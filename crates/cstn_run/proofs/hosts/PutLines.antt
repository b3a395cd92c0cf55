-- Lines that were put.
use Rattle.std.proofs.Common.{◌≡◌, ℕ, List, [], ◌∷◌, ◌++◌, ap, sym, ◌∙◌, arith, append_assoc}
use Rattle.std.specs.Prelude.{decimal}
use Rattle.std.proofs.lemmas.Grind.{common_steps}
use Rattle.cstn_reply.specs.Texts.{line}
use Rattle.cstn_run.specs.hosted.Sessions.{with_id}

pub nothing_after : (xs : List ℕ) → xs ++ [] ≡ xs
nothing_after xs = grind (arith, common_steps)

-- a line after an id, where a text stands before it
pub more_line : (text with_it new : List ℕ) (id : ℕ) (x : List ℕ) → with_it ≡ text ++ (decimal id ++ 32 ∷ []) → new ≡ with_it ++ line x → new ≡ text ++ with_id id x
more_line text with_it new id x id_is is =
    is ∙ ap (λ (xs : List ℕ). xs ++ line x) id_is
    ∙ append_assoc text (decimal id ++ 32 ∷ []) (line x)
    ∙ ap (λ (xs : List ℕ). text ++ xs) (append_assoc (decimal id) (32 ∷ []) (line x) ∙ sym (append_assoc (decimal id) (32 ∷ x) (10 ∷ [])))

-- a line after an id, where the text before it is empty
pub first_line : (text with_it new : List ℕ) (id : ℕ) (x : List ℕ) → text ≡ [] → with_it ≡ text ++ (decimal id ++ 32 ∷ []) → new ≡ with_it ++ line x → new ≡ with_id id x
first_line text with_it new id x empty id_is is =
    more_line text with_it new id x id_is is ∙ ap (λ (xs : List ℕ). xs ++ with_id id x) empty

-- a line that was put into an empty text
pub only_line : (text new x : List ℕ) → text ≡ [] → new ≡ text ++ line x → new ≡ line x
only_line text new x empty is = is ∙ ap (λ (xs : List ℕ). xs ++ line x) empty
