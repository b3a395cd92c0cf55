use Rattle.std.proofs.Common.{◌≡◌, None, set, refl, ap, sym, ◌∙◌, subst}
use Rattle.std.proofs.lemmas.Option.{get_or_from_slice_get}
use Rattle.cstn_minset.specs.Sets.{Places, IsPlaced, HasItsRecord, IsRecordUnder, entries_of}
use Rattle.cstn_minset.proofs.TableLemmas.{placed_within}
use Rattle.cstn_minset.proofs.SetLemmas.{held_at, none_placed, record_under_or_not, under_from, places}
use Rattle.cstn_minset.proofs.StoredLemmas.{stored_less, determined, stored_as_told}
use Rattle.cstn_minset.proofs.min_set.MinSet.take_under.Goals as goal

pub set-requires : goal.set-requires
set-requires c =
    let found = c.in-Some.ensures.some in
    let at = found.1 in
    let kept = c.take-kept.ensures.value at.0 at.1 ∙ get_or_from_slice_get at.0.records.items c.in-Some.index found.0 c.take-kept.result at.3 in
    let listed = held_at (HasItsRecord (entries_of c.self.inside.births c.self.inside.rows)) c.self.inside.rows.pages c.args.b.now.node.0 c.in-Some.page c.in-Some.index found.0 c.self.invariant.0.listed at in
    rw (kept, c.self.invariant.1.size) (placed_within (entries_of c.self.inside.births c.self.inside.rows) found.0.slot (listed.0, listed.1) listed.2)

pub invariant_of-self : goal.invariant_of-self
invariant_of-self c =
    let at = c.in-Some.ensures.some.1 in
    let stored = stored_less c.self.inside.births c.self.inside.rows c.take-kept.new.self c.self.inside.nodes at.0.head c.take-kept.result (entries_of c.self.inside.births c.self.inside.rows) c.self.invariant c.take-kept.ensures.size (c.take-kept.ensures.taken at.0 at.1) in
    rw c.set.ensures (stored_as_told _ _ _ _ stored)

pub returns-in-Some-clause-taken : goal.returns-in-Some-clause-taken
returns-in-Some-clause-taken c = λ y.
    let found = c.in-Some.ensures.some in
    let at = found.1 in
    let kept = c.take-kept.ensures.value at.0 at.1 ∙ get_or_from_slice_get at.0.records.items c.in-Some.index found.0 c.take-kept.result at.3 in
    let listed = held_at (HasItsRecord (entries_of c.self.inside.births c.self.inside.rows)) c.self.inside.rows.pages c.args.b.now.node.0 c.in-Some.page c.in-Some.index found.0 c.self.invariant.0.listed at in
    let placed = subst (λ (v : Places). IsPlaced v.table found.0.slot (listed.0, listed.1)) c.self.view_is listed.2 in
    let slot : c.take-kept.result.slot ≡ found.0.slot = ap (λ r. r.slot) kept in
    let stored = stored_less c.self.inside.births c.self.inside.rows c.take-kept.new.self c.self.inside.nodes at.0.head c.take-kept.result (entries_of c.self.inside.births c.self.inside.rows) c.self.invariant c.take-kept.ensures.size (c.take-kept.ensures.taken at.0 at.1) in
    let out = subst (λ (v : Places). places c.self.inside.nodes (entries_of c.set.new.self c.take-kept.new.self) ≡ places v.nodes (set v.table c.take-kept.result.slot None)) c.self.view_is
    (ap (places c.self.inside.nodes) (rw c.set.ensures (determined _ _ _ _ stored))) in
    (c.take-kept.result.slot, (listed.0, listed.1), rw slot placed, under_from listed.1 c.args.b.now found.0.slot c.args.b.now.node.0 found.0 listed.3 refl found.2, out)

pub returns-in-None-clause-none : goal.returns-in-None-clause-none
returns-in-None-clause-none c = λ y. (
  refl,
  λ s e there over.
      let placed = subst (λ (v : Places). IsPlaced v.table s e) (sym c.self.view_is) there in
      none_placed c.self.inside.rows c.self.inside.nodes (entries_of c.self.inside.births c.self.inside.rows) c.args.b.now.node.0 s e (IsRecordUnder c.args.b.now) c.self.invariant.0 (record_under_or_not c.labels_are_their_marks.ensures.above c.args.b.now) c.in-None.ensures.none placed (sym over.node) (over.least, over.label),
)
