use Rattle.std.proofs.Common.{◌<◌, length, arith, ap, sym, subst, ◌∙◌}
use Rattle.std.proofs.lemmas.Option.{slice_get_past}
use Rattle.cstn_label.specs.Labels.{IsWithin, Label}
use Rattle.cstn_label.specs.Read.{marks}
use Rattle.cstn_minset.specs.Columns.{ColumnsParts, mark_on}
use Rattle.cstn_minset.proofs.ColumnLemmas.{columns_pushed}
use Rattle.cstn_minset.proofs.columns.Columns.push.Goals as goal

pub replace-requires-clause-small : goal.replace-requires-clause-small
replace-requires-clause-small c =
    let room = subst (λ (v : ColumnsParts). length v.items < 64) (sym c.self.view_is) c.requires.room in
    omega (arith, room, c.len-place.ensures.value)

pub replace-requires-clause-before : goal.replace-requires-clause-before
replace-requires-clause-before c = λ p small.
    c.self.invariant.told p c.len-place.result small
    ∙ ap (λ o. mark_on o p) (slice_get_past c.self.inside.records.items c.len-place.result (omega (arith, c.len-place.ensures.value)))
    ∙ sym (ap (λ (f : Label). f p) c.empty.ensures.empty)

pub invariant_of-self : goal.invariant_of-self
invariant_of-self c =
    let room = subst (λ (v : ColumnsParts). length v.items < 64) (sym c.self.view_is) c.requires.room in
    let law = c.joined_is_the_least_above.ensures in
    let joined = c.join-self-inside.ensures.join in
    rw c.push.ensures.items (columns_pushed c.self.inside.records.items c.self.inside.sheet c.replace.new.self c.self.inside.used c.join-self-inside.result c.args.added c.self.invariant room
    (rw c.len-place.ensures.value at c.replace.ensures.after) (rw c.len-place.ensures.value at c.replace.ensures.others)
    (subst (λ (f : Label). IsWithin (marks c.self.inside.used) f) (sym joined) (law.left (marks c.self.inside.used) (marks c.args.added.label)))
    (subst (λ (f : Label). IsWithin (marks c.args.added.label) f) (sym joined) (law.right (marks c.self.inside.used) (marks c.args.added.label))))
