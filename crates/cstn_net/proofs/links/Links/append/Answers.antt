use Rattle.std.proofs.Common.{◌≡◌, ◌++◌, ◌∷◌, [], None, Some, set, subst, sym, ◌∙◌, get_or, arith}
use Rattle.std.proofs.lemmas.List.{get_or_default}
use Rattle.cstn_net.specs.Links.{AreLinked}
use Rattle.cstn_net.proofs.LinkLemmas.{chain_grown}
use Rattle.cstn_net.proofs.links.Links.append.Goals as goal

pub returns-in-Some-clause-linked : goal.returns-in-Some-clause-linked
returns-in-Some-clause-linked c = λ xs linked.
    let s = c.args.self.now in
    let y = c.args.to.0 in
    let chain = c.in-Some.chain in
    let place = c.len-place.result in
    let long = linked.long in
    let len = s.nexts.ok.0 in
    let counted = c.len-place.ensures in
    let inside = c.requires.inside in
    let read = subst (λ n. c.index-2.result.now ≡ get_or s.chains.items n c.index-2.result.now) c.index.ensures.index c.index-2.ensures in
    let there : get_or s.chains.items y None ≡ Some chain = get_or_default s.chains.items y None c.index-2.result.now inside ∙ sym read ∙ c.in-Some.is in
    let grown = chain_grown xs s.chains.items s.nexts.items y inside linked place chain (omega arith) there in
    subst (λ n. AreLinked (xs ++ y ∷ []) (set s.chains.items n (Some (record { first = chain.first; last = place }))) (set c.push_reserved.new.self.items chain.last (Some place)))
    (sym c.index-in-Some.ensures.index)
    (subst (λ items. AreLinked (xs ++ y ∷ []) (set s.chains.items y (Some (record { first = chain.first; last = place }))) (set items chain.last (Some place)))
    (sym c.push_reserved.ensures.items) grown)
