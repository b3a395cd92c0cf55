-- Lists put in again after they were cut.
use Rattle.std.proofs.Common.{ℕ, ◌≡◌, ◌≢◌, inl, inr, ◌+◌, ◌<◌, Bool, true, Option, Some, None, List, length, take, get_or, set, arith, refl, sym, subst, ◌∙◌, ap}
use Rattle.std.specs.Prelude.{slice_get}
use Rattle.std.proofs.lemmas.Bool.{cases_lt}
use Rattle.std.proofs.lemmas.Option.{slice_get_within}
use Rattle.cstn_label.specs.declared.bounds.Bound.{Bound}
use Rattle.cstn_label.specs.Bounds.{Bound as TheBound, Dominates}
use Rattle.cstn_label.specs.Read.{the_bound}
use Rattle.cstn_rules.specs.declared.entries.Entry.{Entry}
use Rattle.cstn_rules.specs.declared.entries.Why.{Why}
use Rattle.cstn_rules.specs.declared.entries.Why.TheVariants.{Base, Chain, Wait}
use Rattle.cstn_rules.specs.Derivations.{Entry as TheEntry}
use Rattle.cstn_rules.specs.Read.{the_entry}
use Rattle.cstn_pool.specs.declared.slot_id.SlotId.{SlotId}
use Rattle.cstn_minset.specs.Sets.{Entries, IsCoveredInSet, IsCleared}
use Rattle.cstn_log.specs.Kept.{IsPooled, IsTabled}
use Rattle.cstn_log.specs.Entries.{the_entries, IsCoveredBy, AllNew}
use Rattle.cstn_log.specs.Cuts.{PremisesBelow, PremisesMarked, AllEarlier, IsClosedUnder, is_place_marked, rank, renumbered, cut, moved_premises}
use Rattle.cstn_facts.proofs.Places.{get_map, get_taken, take_step, length_taken}
use Rattle.cstn_log.proofs.KeptLemmas.{same_slot, slot_inside, unplaced, uncovered_there, born_before}
use Rattle.cstn_log.proofs.PushLemmas.{IsThrough, tabled_more}
use Rattle.cstn_log.proofs.ChoiceLemmas.{rank_grows, rank_less}
use Rattle.cstn_log.proofs.CutLemmas.{comes}
use Rattle.cstn_log.proofs.StepLemmas.{entry_read}

-- an entry of a list in which none is dominated by an earlier one isn't covered by those before it
pub first_uncovered : (steps L : List Entry) (k : ℕ) (e : Entry) → AllNew steps → slice_get steps k ≡ Some e → L ≡ take k steps → ¬ IsCoveredBy L e.bound
first_uncovered steps L k e all there is covered =
    let at = rw is at covered.2 in
    let from = get_taken steps k covered.0 covered.1 at in
    all.none_over covered.0 k covered.1 e from.0 from.1 there covered.3

-- where an entry of the cut list comes from
abbrev pub IsFrom : List Bool → List Entry → ℕ → Entry → Type 0
IsFrom marks L d f = (i : ℕ) × (e : Entry) × (slice_get L i ≡ Some e) × (is_place_marked marks i ≡ true) × (rank marks i ≡ d) × (the_bound f.bound ≡ the_bound e.bound) × (f.why ≡ renumbered marks e.why)

pub from_list : (marks : List Bool) (L steps : List Entry) (d : ℕ) (f : Entry) → the_entries steps ≡ cut marks (the_entries L) → slice_get steps d ≡ Some f → IsFrom marks L d f
from_list marks L steps d f is there =
    let c = comes marks (the_entries L) d (the_entry f) (rw is at (entry_read steps d f there)) in
    let got = get_map the_entry L c.0 c.1 c.2 in
    let same : the_entry f ≡ moved_premises marks (the_entry got.0) = c.5 ∙ ap (moved_premises marks) (sym got.2) in
    (c.0, got.0, got.1, c.3, c.4, ap (λ y. y.bound) same, ap (λ y. y.why) same)

-- a cut list has no entry that an earlier one dominates
pub cut_new : (marks : List Bool) (L steps : List Entry) → the_entries steps ≡ cut marks (the_entries L) → AllNew L → AllNew steps
cut_new marks L steps is all = record {
  none_over = λ j k e f less one other over.
      let a = from_list marks L steps j e is one in
      let b = from_list marks L steps k f is other in
      elim (cases_lt a.0 b.0) [
        | inl before ↦
            all.none_over a.0 b.0 a.1 b.1 before a.2 b.2
            (subst (λ (z : TheBound). Dominates z (the_bound b.1.bound)) a.5 (subst (λ (z : TheBound). Dominates (the_bound e.bound) z) b.5 over))
        | inr after ↦ absurd (omega (arith, rank_grows marks b.0 a.0 after, a.4, b.4, less))
      ];
}

-- the entries of a cut list are at time-points below the same number
pub cut_inside : (marks : List Bool) (L steps : List Entry) (nodes : ℕ) → the_entries steps ≡ cut marks (the_entries L) → ((k : ℕ) (e : Entry) → slice_get L k ≡ Some e → e.bound.node.0 < nodes) →
    (k : ℕ) (e : Entry) → slice_get steps k ≡ Some e → e.bound.node.0 < nodes
cut_inside marks L steps nodes is all k e there =
    let a = from_list marks L steps k e is there in
    let node : e.bound.node.0 ≡ a.1.bound.node.0 = ap (λ (z : TheBound). z.node) a.5 in
    omega (arith, node, all a.0 a.1 a.2)

-- premises are earlier in a list that is cut to entries whose premises are kept
pub cut_earlier : (marks : List Bool) (steps : List TheEntry) → AllEarlier steps → IsClosedUnder marks steps → AllEarlier (cut marks steps)
cut_earlier marks steps all closed = record {
  below = λ d f at.
      let c = comes marks steps d f at in
      let low = renumbered_below marks c.0 c.1.why (closed c.0 c.1 c.2 c.3) (all.below c.0 c.1 c.2) in
      subst (λ w. PremisesBelow d w) (sym (ap (λ y. y.why) c.5)) (subst (λ n. PremisesBelow n (renumbered marks c.1.why)) c.4 low);
}
  where
    renumbered_below : (marks : List Bool) (k : ℕ) (why : Why) → PremisesMarked marks why → PremisesBelow k why → PremisesBelow (rank marks k) (renumbered marks why)
    renumbered_below marks k Base kept low = tt
    renumbered_below marks k (Chain id i) kept low = rank_less marks i k kept low
    renumbered_below marks k (Wait i j) kept low = (rank_less marks i k kept.0 low.0, rank_less marks j k kept.1 low.1)

-- the bounds of the first k entries are placed, each under its id
module _ (slots : List (Option (ℕ × Entry))) (births : ℕ) (entries : List Entry) (ids : List SlotId) (table : Entries) (k : ℕ) (id : SlotId) (is : IsPooled slots births entries ids) (tabled : IsTabled table (take k entries) (take k ids)) (there : slice_get ids k ≡ Some id) where
  other_taken : (j : ℕ) (jd : SlotId) → slice_get (take k ids) j ≡ Some jd → jd.slot ≢ id.slot
  other_taken j jd at e =
      let t = get_taken ids k j jd at in
      let same = same_slot slots births entries ids j k jd id is t.1 there e in
      omega (arith, same, t.0)

  pub place_free : get_or table id.slot None ≡ None
  place_free = unplaced table (take k entries) (take k ids) id.slot tabled other_taken

  pub place_inside : id.slot < length slots
  place_inside = let h = is.held k id there in slot_inside slots id.slot (id.birth, h.1) h.3

  pub place_birth : (s : ℕ) (b : ℕ × Bound) → get_or table s None ≡ Some b → b.0 < id.birth
  place_birth = born_before table (take k entries) (take k ids) id.birth tabled (λ j jd at. let t = get_taken ids k j jd at in is.ascending j k jd id t.0 t.1 there)

  pub place_uncovered : (e : Entry) → AllNew entries → slice_get entries k ≡ Some e → ¬ IsCoveredInSet table e.bound
  place_uncovered e all at = uncovered_there table (take k entries) (take k ids) e.bound tabled (first_uncovered entries (take k entries) k e all at refl)

  pub place_step : IsThrough → (e : Entry) (cleared : Entries) → slice_get entries k ≡ Some e → length slots ≡ length table → IsCleared e.bound table cleared → IsTabled (set cleared id.slot (Some (id.birth, e.bound))) (take (k + 1) entries) (take (k + 1) ids)
  place_step through e cleared at room clear =
      let size : length (take k entries) ≡ length (take k ids) = length_taken entries k (omega (arith, slice_get_within entries k e at)) ∙ sym (length_taken ids k (omega (arith, slice_get_within ids k id there))) in
      rw (take_step entries k e at, take_step ids k id there) (tabled_more through table cleared (take k entries) (take k ids) id e tabled size other_taken (omega (arith, place_inside, room)) clear)
