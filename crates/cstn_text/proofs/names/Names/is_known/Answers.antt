use Rattle.std.proofs.Common.{ℕ, List, sym, ◌∙◌, subst, Contains}
use Rattle.cstn_text.proofs.NameLemmas.{known}
use Rattle.cstn_text.proofs.names.Names.is_known.Goals as goal

pub returns : goal.returns
returns c =
    let is = known c.self.inside.set.keys c.args.name.now in (
      (λ found. subst (λ (names : List (List ℕ)). Contains names c.args.name.now) c.self.view_is (is.0 (sym c.contains.ensures ∙ found))),
      (λ there. c.contains.ensures ∙ is.1 (subst (λ (names : List (List ℕ)). Contains names c.args.name.now) (sym c.self.view_is) there)),
    )
