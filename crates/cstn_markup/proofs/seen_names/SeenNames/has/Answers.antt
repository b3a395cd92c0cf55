use Rattle.std.proofs.Common.{◌≡◌, ℕ, Bool, List, [], ◌∷◌, take, map, refl, ap, ◌∙◌, Bor}
use Rattle.std.specs.Prelude.{◌||◌}
use Rattle.std.specs.List.{list_any}
use Rattle.cstn_markup.specs.Bytes.{is_same}
use Rattle.cstn_markup.proofs.seen_names.SeenNames.has.Goals as goal

any_of_lent : (p : List ℕ → Bool) (names : List (Bor (List ℕ))) → list_any (λ x. p x.now) names ≡ list_any p (map (λ x. x.now) names)
any_of_lent p [] = refl
any_of_lent p (x ∷ names) = ap (λ b. p x.now || b) (any_of_lent p names)

pub returns : goal.returns
returns c =
    let run : c.contains.result ≡ list_any (λ (x : Bor (List ℕ)). is_same x.now c.args.name.now) (take c.self.inside.len c.self.inside.names) = c.contains.ensures.value in
    run ∙ any_of_lent (λ x. is_same x c.args.name.now) (take c.self.inside.len c.self.inside.names) ∙ ap (list_any (λ x. is_same x c.args.name.now)) c.self.view_is
