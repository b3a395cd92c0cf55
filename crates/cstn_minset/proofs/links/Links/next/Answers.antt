use Rattle.std.proofs.Common.{refl, subst, sym}
use Rattle.cstn_minset.specs.Links.{Ring, IsLinked}
use Rattle.cstn_minset.proofs.LinkLemmas.{next_answers}
use Rattle.cstn_minset.proofs.links.Links.next.Goals as goal

pub returns-then-next-self : goal.returns-then-next-self
returns-then-next-self c = λ T h k linked there.
    let is = subst (λ (v : Ring). IsLinked v.slots v.heads T v.next v.prev) (sym c.self.view_is) linked in
    (next_answers T c.self.inside.slots c.self.inside.heads h c.args.slot k c.self.inside.slots c.at-next.result _ _ is there refl c.at-next.ensures).0 c.if-next-self.true

pub returns-else-next-self : goal.returns-else-next-self
returns-else-next-self c = λ T h k linked there.
    let is = subst (λ (v : Ring). IsLinked v.slots v.heads T v.next v.prev) (sym c.self.view_is) linked in
    (next_answers T c.self.inside.slots c.self.inside.heads h c.args.slot k c.self.inside.slots c.at-next.result _ _ is there refl c.at-next.ensures).1 c.if-next-self.false
