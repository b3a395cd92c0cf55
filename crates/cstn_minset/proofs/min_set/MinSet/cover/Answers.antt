use Rattle.std.proofs.Common.{ℕ, refl, sym, subst}
use Rattle.cstn_minset.specs.Sets.{Places, IsPlaced, HasItsRecord, IsRecordOver, entries_of}
use Rattle.cstn_minset.proofs.SetLemmas.{held_at, none_placed, record_over_or_not, over_from}
use Rattle.cstn_minset.proofs.min_set.MinSet.cover.Goals as goal

pub returns-in-Some-clause-cover : goal.returns-in-Some-clause-cover
returns-in-Some-clause-cover c =
    let found = c.in-Some.ensures.some in
    let listed = held_at (HasItsRecord (entries_of c.self.inside.births c.self.inside.rows)) c.self.inside.rows.pages c.args.b.now.node.0 found.0 found.1 found.2 c.self.invariant.0.listed found.3 in
    let placed = subst (λ (s : ℕ). IsPlaced c.args.self.now.table s (listed.0, listed.1)) found.4 (subst (λ (v : Places). IsPlaced v.table found.2.slot (listed.0, listed.1)) c.self.view_is listed.2) in
    (listed.1, rw (c.id.ensures.slot, c.id.ensures.birth (listed.0, listed.1) placed) placed, over_from listed.1 c.args.b.now found.2.slot c.args.b.now.node.0 found.2 listed.3 refl found.5)

pub returns-in-None-clause-none : goal.returns-in-None-clause-none
returns-in-None-clause-none c = λ covered.
    let placed = subst (λ (v : Places). IsPlaced v.table covered.0 covered.1) (sym c.self.view_is) covered.2 in
    none_placed c.self.inside.rows c.self.inside.nodes (entries_of c.self.inside.births c.self.inside.rows) c.args.b.now.node.0 covered.0 covered.1 (IsRecordOver c.args.b.now) c.self.invariant.0 (record_over_or_not c.labels_are_their_marks.ensures.above c.args.b.now) c.in-None.ensures.none placed covered.3.node (covered.3.least, covered.3.label)
