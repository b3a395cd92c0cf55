use Rattle.std.proofs.Common.{ℕ, ◌≡◌, ◌<◌, length, set, None, Some, ap, sym, subst, arith, rules, SFits, w32}
use Rattle.std.proofs.lemmas.Int.{to_z-of_z}
use Rattle.cstn_label.specs.declared.bounds.Bound.{Bound}
use Rattle.cstn_minset.specs.Sets.{Places, entry_at, IsPlaced, IsBoundOver, IsCoveredInSet, AllBornBefore, entries_of}
use Rattle.cstn_minset.proofs.TableLemmas.{minimal_more}
use Rattle.cstn_minset.proofs.SetLemmas.{held_count, records_less, places}
use Rattle.cstn_minset.proofs.StoredLemmas.{stored_more, determined, stored_as_told}
use Rattle.cstn_minset.proofs.min_set.MinSet.put.Goals as goal

pub put-requires-clause-room : goal.put-requires-clause-room
put-requires-clause-room c =
    let back = sym c.self.view_is in
    let table = entries_of c.self.inside.births c.self.inside.rows in
    let inside = subst (λ (v : Places). c.args.slot < length v.table) back c.requires.slot in
    let free = subst (λ (v : Places). entry_at v.table c.args.slot ≡ None) back c.requires.free in
    let less = records_less 0 c.args.slot table inside free in
    omega (arith, less, held_count c.self.inside.rows c.self.inside.nodes table c.self.invariant.0, c.self.invariant.0.room)

pub set-requires : goal.set-requires
set-requires c =
    let inside = subst (λ (v : Places). c.args.slot < length v.table) (sym c.self.view_is) c.requires.slot in
    omega (arith, inside, c.self.invariant.1.size)

pub invariant_of-self : goal.invariant_of-self
invariant_of-self c =
    let back = sym c.self.view_is in
    let table = entries_of c.self.inside.births c.self.inside.rows in
    let inside = subst (λ (v : Places). c.args.slot < length v.table) back c.requires.slot in
    let free = subst (λ (v : Places). entry_at v.table c.args.slot ≡ None) back c.requires.free in
    let node = subst (λ (v : Places). c.args.b.node.0 < v.nodes) back c.requires.node in
    let uncovered = subst (λ (v : Places). ¬ IsCoveredInSet v.table c.args.b) back c.requires.uncovered in
    let none_under = subst (λ (v : Places). (u : ℕ) (e : ℕ × Bound) → IsPlaced v.table u e → ¬ IsBoundOver c.args.b e.1) back c.requires.none_under in
    let births = subst (λ (v : Places). AllBornBefore v.table c.args.birth) back c.requires.birth in
    let fits : SFits w32 c.args.b.least = search rules in
    let step = rw (to_z-of_z w32 c.args.b.least fits) at c.put.ensures.put in
    let stored = stored_more c.self.inside.births c.self.inside.rows c.put.new.self c.self.inside.nodes c.args.slot c.args.birth c.args.b table c.self.invariant c.put.ensures.size step inside free
    (minimal_more c.self.inside.nodes c.args.slot c.args.birth c.args.b table inside node c.ranges.birth.fits uncovered none_under births c.self.invariant.0.minimal) in
    rw c.set.ensures (stored_as_told _ _ _ _ stored)

pub returns : goal.returns
returns c =
    let back = sym c.self.view_is in
    let table = entries_of c.self.inside.births c.self.inside.rows in
    let inside = subst (λ (v : Places). c.args.slot < length v.table) back c.requires.slot in
    let free = subst (λ (v : Places). entry_at v.table c.args.slot ≡ None) back c.requires.free in
    let node = subst (λ (v : Places). c.args.b.node.0 < v.nodes) back c.requires.node in
    let uncovered = subst (λ (v : Places). ¬ IsCoveredInSet v.table c.args.b) back c.requires.uncovered in
    let none_under = subst (λ (v : Places). (u : ℕ) (e : ℕ × Bound) → IsPlaced v.table u e → ¬ IsBoundOver c.args.b e.1) back c.requires.none_under in
    let births = subst (λ (v : Places). AllBornBefore v.table c.args.birth) back c.requires.birth in
    let fits : SFits w32 c.args.b.least = search rules in
    let step = rw (to_z-of_z w32 c.args.b.least fits) at c.put.ensures.put in
    let stored = stored_more c.self.inside.births c.self.inside.rows c.put.new.self c.self.inside.nodes c.args.slot c.args.birth c.args.b table c.self.invariant c.put.ensures.size step inside free
    (minimal_more c.self.inside.nodes c.args.slot c.args.birth c.args.b table inside node c.ranges.birth.fits uncovered none_under births c.self.invariant.0.minimal) in
    subst (λ (v : Places). places c.self.inside.nodes (entries_of c.set.new.self c.put.new.self) ≡ places v.nodes (set v.table c.args.slot (Some (c.args.birth, c.args.b)))) c.self.view_is
    (ap (places c.self.inside.nodes) (rw c.set.ensures (determined _ _ _ _ stored)))
