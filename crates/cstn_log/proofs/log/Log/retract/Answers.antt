use Rattle.std.proofs.Common.{◌≡◌, ◌+◌, ◌-◌, ◌∙◌, ℕ, [], List, length, map, Some, false, arith, sym, subst, ap}
use Rattle.std.specs.Prelude.{slice_get}
use Rattle.std.proofs.lemmas.List.{length-map, length-replicate}
use Rattle.std.proofs.lemmas.Option.{slice_get_within}
use Rattle.cstn_pool.specs.declared.slot_id.SlotId.{SlotId}
use Rattle.cstn_rules.specs.Derivations.{Entry as TheEntry, IsDerivation}
use Rattle.cstn_rules.specs.Read.{the_entry}
use Rattle.cstn_log.specs.Entries.{State, HasId, the_entries}
use Rattle.cstn_log.specs.Kept.{AreLeft, IsPooled, renewed}
use Rattle.cstn_log.specs.Cuts.{is_place_marked, rank, chosen, cut, marked_staying, dropped}
use Rattle.cstn_log.proofs.ChoiceLemmas.{rank_upto, length_chosen, chosen_all, all_marked}
use Rattle.cstn_log.proofs.CutLemmas.{cut_all}
use Rattle.cstn_log.proofs.LeftLemmas.{clash, left_pooled, none_gone, renewed_cut, length_left}
use Rattle.cstn_log.proofs.MarkLemmas.{dropped_derivation, staying_closed}
use Rattle.cstn_log.proofs.PutLemmas.{cut_new, cut_inside}
use Rattle.cstn_log.proofs.log.Log.retract.Goals as goal

pub returns-then-staying-before-clause-dropped : goal.returns-then-staying-before-clause-dropped
returns-then-staying-before-clause-dropped c =
    let E = c.self.inside.list.entries in
    let I = c.self.inside.list.ids in
    let M = c.mark_staying.new.marks.items in
    let marks : M ≡ marked_staying c.args.constraint [] (the_entries E) = c.mark_staying.ensures.marked in
    let size : length M ≡ length E = c.mark_staying.ensures.size in
    let staying : c.count_marked-staying.result ≡ rank M (length E) = (rw c.deref.ensures.value at c.count_marked-staying.ensures) ∙ ap (rank M) size in
    let before : c.len-before.result ≡ length E = c.len-before.ensures.len in
    let all : rank M (length E) ≡ length E = omega (arith, staying, before, c.if-staying-before.true) in
    let long : length (the_entries E) ≡ length E = length-map E the_entry in
    let whole : rank M (length (the_entries E)) ≡ length (the_entries E) = rw long all in
    let same : cut M (the_entries E) ≡ the_entries E = cut_all M (the_entries E) c.len-before.ensures.earlier whole in
    let still : dropped (the_entries E) c.args.constraint ≡ the_entries E = ap (λ m. cut m (the_entries E)) (sym marks) ∙ same in
    subst (λ (v : State). the_entries E ≡ dropped (the_entries v.entries) c.args.constraint) c.self.view_is (sym still)

pub returns-then-staying-before-clause-ids : goal.returns-then-staying-before-clause-ids
returns-then-staying-before-clause-ids c =
    let E = c.self.inside.list.entries in
    let I = c.self.inside.list.ids in
    let M = c.mark_staying.new.marks.items in
    let marks : M ≡ marked_staying c.args.constraint [] (the_entries E) = c.mark_staying.ensures.marked in
    let size : length M ≡ length E = c.mark_staying.ensures.size in
    let staying : c.count_marked-staying.result ≡ rank M (length E) = (rw c.deref.ensures.value at c.count_marked-staying.ensures) ∙ ap (rank M) size in
    let before : c.len-before.result ≡ length E = c.len-before.ensures.len in
    let all : rank M (length E) ≡ length E = omega (arith, staying, before, c.if-staying-before.true) in
    let ids : chosen M I ≡ I = chosen_all M I (rw (← c.self.invariant.kept.size) all) in
    subst (λ (v : State). I ≡ chosen (marked_staying c.args.constraint [] (the_entries v.entries)) v.ids) c.self.view_is (sym (ap (λ m. chosen m I) (sym marks) ∙ ids))

pub returns-then-staying-before-clause-gone : goal.returns-then-staying-before-clause-gone
returns-then-staying-before-clause-gone c =
    let E = c.self.inside.list.entries in
    let I = c.self.inside.list.ids in
    let M = c.mark_staying.new.marks.items in
    let marks : M ≡ marked_staying c.args.constraint [] (the_entries E) = c.mark_staying.ensures.marked in
    let size : length M ≡ length E = c.mark_staying.ensures.size in
    let staying : c.count_marked-staying.result ≡ rank M (length E) = (rw c.deref.ensures.value at c.count_marked-staying.ensures) ∙ ap (rank M) size in
    let before : c.len-before.result ≡ length E = c.len-before.ensures.len in
    let all : rank M (length E) ≡ length E = omega (arith, staying, before, c.if-staying-before.true) in
    subst (λ (v : State). (k : ℕ) (id : SlotId) → slice_get v.ids k ≡ Some id → is_place_marked (marked_staying c.args.constraint [] (the_entries v.entries)) k ≡ false → ¬ HasId I id) c.self.view_is
    (λ k id there unmarked has.
    let marked = all_marked M (length E) k all (omega (arith, slice_get_within I k id there, c.self.invariant.kept.size)) in
    clash marked (rw (← marks) at unmarked))

pub returns-then-staying-before-clause-derivation : goal.returns-then-staying-before-clause-derivation
returns-then-staying-before-clause-derivation c = λ net constraints others derivation.
    let E = c.self.inside.list.entries in
    let I = c.self.inside.list.ids in
    let M = c.mark_staying.new.marks.items in
    let marks : M ≡ marked_staying c.args.constraint [] (the_entries E) = c.mark_staying.ensures.marked in
    let size : length M ≡ length E = c.mark_staying.ensures.size in
    let staying : c.count_marked-staying.result ≡ rank M (length E) = (rw c.deref.ensures.value at c.count_marked-staying.ensures) ∙ ap (rank M) size in
    let before : c.len-before.result ≡ length E = c.len-before.ensures.len in
    let all : rank M (length E) ≡ length E = omega (arith, staying, before, c.if-staying-before.true) in
    let long : length (the_entries E) ≡ length E = length-map E the_entry in
    let whole : rank M (length (the_entries E)) ≡ length (the_entries E) = rw long all in
    let same : cut M (the_entries E) ≡ the_entries E = cut_all M (the_entries E) c.len-before.ensures.earlier whole in
    let still : dropped (the_entries E) c.args.constraint ≡ the_entries E = ap (λ m. cut m (the_entries E)) (sym marks) ∙ same in
    let was : IsDerivation net (the_entries E) = subst (λ (v : State). IsDerivation net (the_entries v.entries)) (sym c.self.view_is) derivation in
    subst (λ (es : List TheEntry). IsDerivation (record net { constraints = constraints }) es) still (dropped_derivation net constraints (the_entries E) c.args.constraint others was)

pub keep-requires-clause-closed : goal.keep-requires-clause-closed
keep-requires-clause-closed c =
    rw (c.deref-2.ensures.value, c.mark_staying.ensures.marked) (staying_closed (the_entries c.self.inside.list.entries) c.args.constraint c.len-before.ensures.earlier)

pub place_all-requires-clause-pooled : goal.place_all-requires-clause-pooled
place_all-requires-clause-pooled c =
    let E = c.self.inside.list.entries in
    let I = c.self.inside.list.ids in
    let M = c.mark_staying.new.marks.items in
    let chose : c.keep.new.self.ids ≡ chosen M I = ap (λ v. v.ids) (rw c.deref-2.ensures.value at c.keep.ensures.kept) in
    let kept : c.keep.new.self.entries ≡ chosen M (map (renewed M) E) = ap (λ v. v.entries) (rw c.deref-2.ensures.value at c.keep.ensures.kept) in
    let left : AreLeft M I (length I) c.self.inside.list.pool.slots c.keep.new.self.pool.slots = rw c.deref-2.ensures.value at c.keep.ensures.left in
    let pooled : IsPooled c.keep.new.self.pool.slots c.self.inside.list.pool.births (chosen M (map (renewed M) E)) (chosen M I) = left_pooled M c.self.inside.list.pool.births E I c.self.inside.list.pool.slots c.keep.new.self.pool.slots c.self.invariant.kept.pooled c.self.invariant.kept.size left in
    let cleared : length c.clear-2.new.self.table ≡ length c.self.inside.minimal.table = ap (λ v. length v.table) c.clear-2.ensures ∙ length-replicate _ _ in
    (c.keep.new.self.pool.slots, c.self.inside.list.pool.births, rw (kept, chose) pooled, omega (arith, left.size, cleared, c.self.invariant.kept.room))

pub place_all-requires-clause-new : goal.place_all-requires-clause-new
place_all-requires-clause-new c =
    let E = c.self.inside.list.entries in
    let I = c.self.inside.list.ids in
    let M = c.mark_staying.new.marks.items in
    let kept : c.keep.new.self.entries ≡ chosen M (map (renewed M) E) = ap (λ v. v.entries) (rw c.deref-2.ensures.value at c.keep.ensures.kept) in
    let cut_is : the_entries c.keep.new.self.entries ≡ cut M (the_entries E) = ap the_entries kept ∙ renewed_cut M E in
    (cut_new M E c.keep.new.self.entries cut_is c.self.invariant.kept.fresh)

pub place_all-requires-clause-nodes : goal.place_all-requires-clause-nodes
place_all-requires-clause-nodes c =
    let E = c.self.inside.list.entries in
    let I = c.self.inside.list.ids in
    let M = c.mark_staying.new.marks.items in
    let kept : c.keep.new.self.entries ≡ chosen M (map (renewed M) E) = ap (λ v. v.entries) (rw c.deref-2.ensures.value at c.keep.ensures.kept) in
    let cut_is : the_entries c.keep.new.self.entries ≡ cut M (the_entries E) = ap the_entries kept ∙ renewed_cut M E in
    rw (ap (λ v. v.nodes) c.clear-2.ensures) (cut_inside M E c.keep.new.self.entries c.self.inside.minimal.nodes cut_is c.self.invariant.kept.inside)

pub overflow_sub-result : goal.overflow_sub-result
overflow_sub-result c =
    let E = c.self.inside.list.entries in
    let I = c.self.inside.list.ids in
    let M = c.mark_staying.new.marks.items in
    let size : length M ≡ length E = c.mark_staying.ensures.size in
    let staying : c.count_marked-staying.result ≡ rank M (length E) = (rw c.deref.ensures.value at c.count_marked-staying.ensures) ∙ ap (rank M) size in
    let before : c.len-before.result ≡ length E = c.len-before.ensures.len in
    omega (arith, staying, before, rank_upto M (length E))

pub invariant_of-self-2 : goal.invariant_of-self-2
invariant_of-self-2 c =
    let E = c.self.inside.list.entries in
    let I = c.self.inside.list.ids in
    let M = c.mark_staying.new.marks.items in
    let marks : M ≡ marked_staying c.args.constraint [] (the_entries E) = c.mark_staying.ensures.marked in
    let chose : c.keep.new.self.ids ≡ chosen M I = ap (λ v. v.ids) (rw c.deref-2.ensures.value at c.keep.ensures.kept) in
    let kept : c.keep.new.self.entries ≡ chosen M (map (renewed M) E) = ap (λ v. v.entries) (rw c.deref-2.ensures.value at c.keep.ensures.kept) in
    let cut_is : the_entries c.keep.new.self.entries ≡ cut M (the_entries E) = ap the_entries kept ∙ renewed_cut M E in
    let left : AreLeft M I (length I) c.self.inside.list.pool.slots c.keep.new.self.pool.slots = rw c.deref-2.ensures.value at c.keep.ensures.left in
    let pooled : IsPooled c.keep.new.self.pool.slots c.self.inside.list.pool.births (chosen M (map (renewed M) E)) (chosen M I) = left_pooled M c.self.inside.list.pool.births E I c.self.inside.list.pool.slots c.keep.new.self.pool.slots c.self.invariant.kept.pooled c.self.invariant.kept.size left in
    let cleared : length c.clear-2.new.self.table ≡ length c.self.inside.minimal.table = ap (λ v. length v.table) c.clear-2.ensures ∙ length-replicate _ _ in
    let whole : the_entries c.keep.new.self.entries ≡ dropped (the_entries E) c.args.constraint = cut_is ∙ ap (λ m. cut m (the_entries E)) marks in
    let room = c.self.invariant.room in
    let size = left.size in
    let same : c.place_all.new.minimal.nodes ≡ c.self.inside.minimal.nodes = c.place_all.ensures.size.1 ∙ ap (λ v. v.nodes) c.clear-2.ensures in
    record {
      kept = record {
        pooled = rw (c.keep.ensures.births, kept, chose) pooled;
        tabled = c.place_all.ensures.tabled;
        room = omega (arith, c.place_all.ensures.size.0, cleared, c.self.invariant.kept.room, size);
        size = omega (arith, ap length kept, ap length chose, length_left M E, length_chosen M I, ap (rank M) c.self.invariant.kept.size);
        fresh = cut_new M E c.keep.new.self.entries cut_is c.self.invariant.kept.fresh;
        inside = rw same (cut_inside M E c.keep.new.self.entries c.self.inside.minimal.nodes cut_is c.self.invariant.kept.inside);
      };
      room = record {
        size = ap (λ v. v.cap) c.keep.ensures.kept ∙ room.size ∙ sym size;
        for_marks = omega (arith, size, room.for_marks, c.mark_staying.ensures.room, c.clear.ensures.capacity);
        for_slots = omega (arith, size, room.for_slots);
        for_places = omega (arith, size, room.for_places);
        few = omega (arith, size, room.few);
      };
    }

pub returns-clause-dropped : goal.returns-clause-dropped
returns-clause-dropped c =
    let E = c.self.inside.list.entries in
    let I = c.self.inside.list.ids in
    let M = c.mark_staying.new.marks.items in
    let marks : M ≡ marked_staying c.args.constraint [] (the_entries E) = c.mark_staying.ensures.marked in
    let kept : c.keep.new.self.entries ≡ chosen M (map (renewed M) E) = ap (λ v. v.entries) (rw c.deref-2.ensures.value at c.keep.ensures.kept) in
    let cut_is : the_entries c.keep.new.self.entries ≡ cut M (the_entries E) = ap the_entries kept ∙ renewed_cut M E in
    subst (λ (v : State). the_entries c.keep.new.self.entries ≡ dropped (the_entries v.entries) c.args.constraint) c.self.view_is (cut_is ∙ ap (λ m. cut m (the_entries E)) marks)

pub returns-clause-ids : goal.returns-clause-ids
returns-clause-ids c =
    let E = c.self.inside.list.entries in
    let I = c.self.inside.list.ids in
    let M = c.mark_staying.new.marks.items in
    let marks : M ≡ marked_staying c.args.constraint [] (the_entries E) = c.mark_staying.ensures.marked in
    let chose : c.keep.new.self.ids ≡ chosen M I = ap (λ v. v.ids) (rw c.deref-2.ensures.value at c.keep.ensures.kept) in
    subst (λ (v : State). c.keep.new.self.ids ≡ chosen (marked_staying c.args.constraint [] (the_entries v.entries)) v.ids) c.self.view_is (chose ∙ ap (λ m. chosen m I) marks)

pub returns-clause-gone : goal.returns-clause-gone
returns-clause-gone c =
    let E = c.self.inside.list.entries in
    let I = c.self.inside.list.ids in
    let M = c.mark_staying.new.marks.items in
    let marks : M ≡ marked_staying c.args.constraint [] (the_entries E) = c.mark_staying.ensures.marked in
    let chose : c.keep.new.self.ids ≡ chosen M I = ap (λ v. v.ids) (rw c.deref-2.ensures.value at c.keep.ensures.kept) in
    subst (λ (v : State). (k : ℕ) (id : SlotId) → slice_get v.ids k ≡ Some id → is_place_marked (marked_staying c.args.constraint [] (the_entries v.entries)) k ≡ false → ¬ HasId c.keep.new.self.ids id) c.self.view_is
    (λ k id there unmarked has. none_gone M c.self.inside.list.pool.slots c.self.inside.list.pool.births E I k id c.self.invariant.kept.pooled there (rw (← marks) at unmarked) (rw chose at has))

pub returns-clause-answer : goal.returns-clause-answer
returns-clause-answer c =
    let E = c.self.inside.list.entries in
    let I = c.self.inside.list.ids in
    let M = c.mark_staying.new.marks.items in
    let size : length M ≡ length E = c.mark_staying.ensures.size in
    let staying : c.count_marked-staying.result ≡ rank M (length E) = (rw c.deref.ensures.value at c.count_marked-staying.ensures) ∙ ap (rank M) size in
    let before : c.len-before.result ≡ length E = c.len-before.ensures.len in
    let kept : c.keep.new.self.entries ≡ chosen M (map (renewed M) E) = ap (λ v. v.entries) (rw c.deref-2.ensures.value at c.keep.ensures.kept) in
    subst (λ (v : State). c.len-before.result - c.count_marked-staying.result + length c.keep.new.self.entries ≡ length v.entries) c.self.view_is
    (omega (arith, staying, before, ap length kept, length_left M E, rank_upto M (length E)))

pub returns-clause-unchanged : goal.returns-clause-unchanged
returns-clause-unchanged c = λ none.
    let E = c.self.inside.list.entries in
    let I = c.self.inside.list.ids in
    let M = c.mark_staying.new.marks.items in
    let size : length M ≡ length E = c.mark_staying.ensures.size in
    let staying : c.count_marked-staying.result ≡ rank M (length E) = (rw c.deref.ensures.value at c.count_marked-staying.ensures) ∙ ap (rank M) size in
    let before : c.len-before.result ≡ length E = c.len-before.ensures.len in
    absurd (omega (arith, none, staying, before, rank_upto M (length E), c.if-staying-before.false))

pub returns-clause-derivation : goal.returns-clause-derivation
returns-clause-derivation c = λ net constraints others derivation.
    let E = c.self.inside.list.entries in
    let I = c.self.inside.list.ids in
    let M = c.mark_staying.new.marks.items in
    let marks : M ≡ marked_staying c.args.constraint [] (the_entries E) = c.mark_staying.ensures.marked in
    let kept : c.keep.new.self.entries ≡ chosen M (map (renewed M) E) = ap (λ v. v.entries) (rw c.deref-2.ensures.value at c.keep.ensures.kept) in
    let cut_is : the_entries c.keep.new.self.entries ≡ cut M (the_entries E) = ap the_entries kept ∙ renewed_cut M E in
    let whole : the_entries c.keep.new.self.entries ≡ dropped (the_entries E) c.args.constraint = cut_is ∙ ap (λ m. cut m (the_entries E)) marks in
    let was : IsDerivation net (the_entries E) = subst (λ (v : State). IsDerivation net (the_entries v.entries)) (sym c.self.view_is) derivation in
    rw whole (dropped_derivation net constraints (the_entries E) c.args.constraint others was)
