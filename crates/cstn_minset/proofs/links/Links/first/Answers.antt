use Rattle.std.proofs.Common.{refl, arith, subst, sym}
use Rattle.cstn_minset.specs.Links.{Ring, IsLinked}
use Rattle.cstn_minset.proofs.LinkLemmas.{first_answers, no_chain}
use Rattle.cstn_minset.proofs.links.Links.first.Goals as goal

pub returns-then-self-head : goal.returns-then-self-head
returns-then-self-head c = λ T linked.
    let is = subst (λ (v : Ring). IsLinked v.slots v.heads T v.next v.prev) (sym c.self.view_is) linked in
    no_chain T c.self.inside.slots c.self.inside.heads c.args.head _ _ is c.if-self-head.true

pub returns-then-slot-self : goal.returns-then-slot-self
returns-then-slot-self c = λ T linked.
    let is = subst (λ (v : Ring). IsLinked v.slots v.heads T v.next v.prev) (sym c.self.view_is) linked in
    (first_answers T c.self.inside.slots c.self.inside.heads c.args.head c.self.inside.slots c.at-slot.result _ _ is (omega (arith, c.if-self-head.false)) refl c.at-slot.ensures).0 c.if-slot-self.true

pub returns-else-slot-self : goal.returns-else-slot-self
returns-else-slot-self c = λ T linked.
    let is = subst (λ (v : Ring). IsLinked v.slots v.heads T v.next v.prev) (sym c.self.view_is) linked in
    (first_answers T c.self.inside.slots c.self.inside.heads c.args.head c.self.inside.slots c.at-slot.result _ _ is (omega (arith, c.if-self-head.false)) refl c.at-slot.ensures).1 c.if-slot-self.false
