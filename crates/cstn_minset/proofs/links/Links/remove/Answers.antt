use Rattle.std.proofs.Common.{◌≡◌, ap, set, subst, sym}
use Rattle.cstn_minset.specs.Links.{Ring, AreLinks}
use Rattle.cstn_minset.proofs.LinkLemmas.{removed}
use Rattle.cstn_minset.proofs.links.Links.remove.Goals as goal

pub returns-clause-linked : goal.returns-clause-linked
returns-clause-linked c = λ T head key linked there.
    let is = subst (λ (v : Ring). AreLinks v T) (sym c.self.view_is) linked in
    let both = rw (← c.at-before.ensures, ← c.at-after.ensures) at (removed T c.self.inside.slots c.self.inside.heads c.args.slot head key c.self.inside.next.places c.self.inside.prev.places is there) in
    let next_new : c.set.new.self.places ≡ set c.self.inside.next.places c.at-before.result c.at-after.result = ap (λ v. v.places) c.set.ensures in
    let prev_new : c.set-2.new.self.places ≡ set c.self.inside.prev.places c.at-after.result c.at-before.result = ap (λ v. v.places) c.set-2.ensures in
    rw (next_new, prev_new) both
