use Rattle.std.proofs.Common.{◌≡◌, ◌<◌, ◌∙◌, ap, set, subst, sym}
use Rattle.cstn_minset.specs.Links.{Ring, AreLinks, IsPrev}
use Rattle.cstn_minset.proofs.LinkLemmas.{inserted}
use Rattle.cstn_minset.proofs.links.Links.insert.Goals as goal

pub returns-clause-linked : goal.returns-clause-linked
returns-clause-linked c = λ T head key linked in_heads small free new prev.
    let back = sym c.self.view_is in
    let is = subst (λ (v : Ring). AreLinks v T) back linked in
    let inside = subst (λ (v : Ring). c.args.slot < v.slots) back c.requires.slot in
    let below = subst (λ (v : Ring). head < v.heads) back in_heads in
    let prev_is = subst (λ (v : Ring). IsPrev T v.slots v.heads head key c.args.before) back prev in
    let next_new : c.set-2.new.self.places ≡ set (set c.self.inside.next.places c.args.slot c.at-after.result) c.args.before c.args.slot = ap (λ v. v.places) c.set-2.ensures ∙ ap (λ v. set v.places c.args.before c.args.slot) c.set.ensures in
    let prev_new : c.set-4.new.self.places ≡ set (set c.self.inside.prev.places c.args.slot c.args.before) c.at-after.result c.args.slot = ap (λ v. v.places) c.set-4.ensures ∙ ap (λ v. set v.places c.at-after.result c.args.slot) c.set-3.ensures in
    rw (next_new, prev_new) (inserted T c.self.inside.slots c.self.inside.heads c.args.slot head key c.args.before c.at-after.result c.self.inside.next.places c.self.inside.prev.places is inside below small free new prev_is c.at-after.ensures)
