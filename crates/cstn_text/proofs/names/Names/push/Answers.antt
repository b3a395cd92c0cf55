use Rattle.std.proofs.Common.{◌≡◌, ◌<◌, ◌^◌, ◌+◌, ℕ, List, [], ◌∷◌, ◌++◌, ◌∙◌, sym, subst, map, string_bytes, length, arith, ap, Contains}
use Rattle.std.proofs.lemmas.Bool.{false≢true}
use Rattle.cstn_text.specs.Names.{AreNames}
use Rattle.cstn_text.proofs.NameLemmas.{pushed, names_more, shaped}
use Rattle.cstn_text.proofs.names.Names.push.Goals as goal

-- the texts after the push
texts : (c : goal.In-Ok-insert) → map string_bytes c.insert.new.self.keys ≡ map string_bytes c.self.inside.set.keys ++ c.args.name.now ∷ []
texts c =
    pushed c.self.inside.set.keys c.insert.new.self.keys c.in-Ok.owned c.args.name.now c.in-Ok.ensures.ok
    (λ there. false≢true (sym c.if-is_known.false ∙ c.is_known.ensures.1 (subst (λ (names : List (List ℕ)). Contains names c.args.name.now) c.self.view_is there)))
    c.in-Ok-insert.ensures.keys

pub invariant_of-self-2 : goal.invariant_of-self-2
invariant_of-self-2 c =
    let names = map string_bytes c.self.inside.set.keys in
    let few : length names + 1 < 2 ^ 32 = rw c.self.view_is (omega arith) in
    subst AreNames (sym (texts c)) (names_more names c.args.name.now c.self.invariant
    (shaped c.args.name.now (sym c.has_shape.ensures ∙ c.if-not-has_shape.false) c.utf8.name)
    (λ there. false≢true (sym c.if-is_known.false ∙ c.is_known.ensures.1 (subst (λ (names : List (List ℕ)). Contains names c.args.name.now) c.self.view_is there)))
    few)

pub returns-clause-pushed : goal.returns-clause-pushed
returns-clause-pushed c = (c.count-number.ensures.count, texts c ∙ ap (λ (names : List (List ℕ)). names ++ c.args.name.now ∷ []) c.self.view_is)
