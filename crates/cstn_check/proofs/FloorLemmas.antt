-- Least values up to which the conclusions of wait are dominated.
use Rattle.std.proofs.Common.{ℕ, zero, suc, arith, ◌≡◌, ◌⊎◌, inl, inr, ◌+◌, ◌<◌, ◌≤◌, true, false, Option, Some, None, refl, sym, subst, ap, ◌∙◌}
use Rattle.std.specs.Prelude.{ℤ, pos, ◌+ℤ◌, ◌≤ℤ◌, ◌<ℤ◌, ◌==◌, int_lt, slice_get, slice_index_or}
use Rattle.std.specs.Int.{int_min}
use Rattle.std.proofs.lemmas.Int.{ints, clamps}
use Rattle.std.proofs.lemmas.Bool.{cases_Bool, cond-false, and_parts, eqb-true, false≢true}
use Rattle.cstn_facts.proofs.Integers.{int_lt-true, int_lt-false}
use Rattle.cstn_label.specs.declared.marks.Mark.{Mark}
use Rattle.cstn_label.specs.declared.marks.Mark.TheVariants.{Absent, Yes, No, Unknown}
use Rattle.cstn_label.specs.Labels.{Label, IsMarkWithin, IsWithin, joined, joined_mark, without}
use Rattle.cstn_label.specs.Bounds.{Bound}
use Rattle.cstn_label.specs.Read.{the_bound, marks}
use Rattle.cstn_net.specs.Limits.{most_deadline}
use Rattle.cstn_net.specs.Networks.{Network, Observes, IsWellFormed, count, limit}
use Rattle.cstn_rules.specs.declared.entries.Entry.{Entry}
use Rattle.cstn_rules.specs.Read.{the_entry}
use Rattle.cstn_rules.specs.Rules.{IsWait, base, without_own}
use Rattle.cstn_rules.specs.Tests.{wait_of}
use Rattle.cstn_log.specs.Entries.{State, the_entries}
use Rattle.cstn_check.specs.Growth.{is_covered, is_live, conclusion, of_two}
use Rattle.cstn_check.specs.Growth.Instance.{wait_at}
use Rattle.cstn_check.specs.Turns.{IsOpen}
use Rattle.cstn_check.specs.Waits.{IsSpentWait}
use Rattle.cstn_check.specs.Floors.{IsFloor}
use Rattle.cstn_check.proofs.Lists.{covered_by}
use Rattle.cstn_check.proofs.Bounded.{covered_at}
use Rattle.cstn_check.proofs.Derives.{wait_is}
use Rattle.cstn_check.proofs.Reading.{entries_small}
use Rattle.cstn_check.proofs.TryLemmas.{own_follows}
use Rattle.cstn_label.proofs.BoundLemmas.{dominates_through}
use Rattle.cstn_log.proofs.StepLemmas.{entry_read}

-- an entry of the list doesn't mark what its time-point observes
pub own_absent : (net : Network) (s : State) (k : ℕ) (e : Entry) → IsOpen net s → slice_get s.entries k ≡ Some e → (q : ℕ) →
    slice_index_or net.observes e.bound.node.0 None ≡ Some q → marks e.bound.label q ≡ Absent
own_absent net s k e ready there q own =
    own_follows net (the_entries s.entries) k (the_entry e).why (the_bound e.bound) q (ready.derivation k (the_entry e) (entry_read s.entries k e there)) own

-- ---- labels

-- a label is within a joined one without its own mark, where it is within the joined one and doesn't have that mark
within_own : (o : Option ℕ) (d s c : Label) → ((q : ℕ) → IsMarkWithin (d q) (joined_mark (s q) (c q))) → ((q : ℕ) → o ≡ Some q → d q ≡ Absent) →
    IsWithin d (without_own o (joined s c))
within_own None d s c h clean = h
within_own (Some p) d s c h clean = λ q. elim (cases_Bool (q == p)) [
  | inl same ↦
      subst (λ m. IsMarkWithin m (without_own (Some p) (joined s c) q)) (sym (clean q (ap Some (sym (eqb-true q p same))))) tt
  | inr other ↦
      subst (λ m. IsMarkWithin (d q) m) (sym (cond-false (q == p) Absent (joined_mark (s q) (c q)) other)) (h q)
]

within_left : (m n o : Mark) → IsMarkWithin m n → IsMarkWithin m (joined_mark n o)
within_left m n o h = grind arith

within_right : (m n o : Mark) → IsMarkWithin m o → IsMarkWithin m (joined_mark n o)
within_right m n o h = grind arith

-- ---- what a floor covers

-- a bound up to a floor is covered, where its label has each label below that of the floor, but for the own mark
pub under_floor : (net : Network) (s : State) (x : ℕ) (label : Label) (floor : ℤ) (r : Bound) → IsOpen net s → x < count net →
    IsFloor s.entries x label floor → r.node ≡ x → r.least ≤ℤ floor →
    ((d : Label) → IsWithin d label → ((q : ℕ) → slice_index_or net.observes x None ≡ Some q → d q ≡ Absent) → IsWithin d r.label) →
    is_covered (the_entries s.entries) r ≡ true
under_floor net s x label floor r ready inside (inl ground) at low wide =
    let L = the_entries s.entries in
    let d = covered_by L (base x) (entries_small s.entries) (ready.kept.based x inside) in
    covered_at L d.place d.entry r d.there
    (dominates_through d.entry.bound (base x) r d.dominates (record { node = sym at; least = subst (λ z. r.least ≤ℤ z) ground low; label = λ q. tt }))
under_floor net s x label floor r ready inside (inr (k, e, there, node, within, least)) at low wide =
    covered_at (the_entries s.entries) k (the_entry e) r (entry_read s.entries k e there)
    (record {
      node = node ∙ sym at;
      least = subst (λ z. r.least ≤ℤ z) (sym least) low;
      label = wide (marks e.bound.label) within
          (λ q own. own_absent net s k e ready there q (ap (λ n. slice_index_or net.observes n None) node ∙ own));
    })

least_seen : (a b c : ℤ) → int_min (int_min a b) c ≤ℤ a
least_seen a b c = omega (arith, ints, clamps)

least_other : (a b c : ℤ) → int_min (int_min a b) c ≤ℤ b
least_other a b c = omega (arith, ints, clamps)

-- ---- waits that are spent

-- wait of two entries is spent where each conclusion is covered
wait_spent : (net : Network) (s : State) (i j : ℕ) (e f : Entry) → slice_get s.entries i ≡ Some e → slice_get s.entries j ≡ Some f →
    ((p : ℕ) (r : Bound) → IsWait net p (the_bound e.bound) (the_bound f.bound) r → is_covered (the_entries s.entries) r ≡ true) → IsSpentWait net s i j
wait_spent net s i j e f at_i at_j each = λ r gives live.
    let L = the_entries s.entries in
    let is : conclusion net L (wait_at i j) ≡ wait_of net (the_bound e.bound) (the_bound f.bound) =
    ap (λ o. of_two (wait_of net) o (slice_get L j)) (entry_read s.entries i e at_i)
    ∙ ap (λ o. of_two (wait_of net) (Some (the_entry e)) o) (entry_read s.entries j f at_j) in
    let w = wait_is net (slice_index_or net.observes e.bound.node.0 None) (the_bound e.bound) (the_bound f.bound) r refl (sym is ∙ gives) in
    each w.0 r w.1

-- wait of a dead entry is spent
pub dead_spent : (net : Network) (s : State) (i j : ℕ) → (is_live (the_entries s.entries) i ≡ false) ⊎ (is_live (the_entries s.entries) j ≡ false) → IsSpentWait net s i j
dead_spent net s i j (inl dead) = λ r gives live.
    absurd (false≢true (sym dead ∙ (and_parts (is_live (the_entries s.entries) i) (is_live (the_entries s.entries) j) live).0))
dead_spent net s i j (inr dead) = λ r gives live.
    absurd (false≢true (sym dead ∙ (and_parts (is_live (the_entries s.entries) i) (is_live (the_entries s.entries) j) live).1))

-- wait of two entries is spent where the second doesn't mark what the first observes
pub unmarked_spent : (net : Network) (s : State) (i j : ℕ) (e f : Entry) → slice_get s.entries i ≡ Some e → slice_get s.entries j ≡ Some f →
    ((p : ℕ) → Observes net e.bound.node.0 p → marks f.bound.label p ≡ Absent) → IsSpentWait net s i j
unmarked_spent net s i j e f at_i at_j none =
    wait_spent net s i j e f at_i at_j (λ p r w. absurd (w.marked (none p w.observes)))

-- wait of an entry at the observer is spent, where its least value and the reaction are up to a floor of the other's label without
-- the proposition
pub seen_spent : (net : Network) (s : State) (i j p : ℕ) (e f : Entry) (floor : ℤ) → IsOpen net s → f.bound.node.0 < count net →
    slice_get s.entries i ≡ Some e → slice_get s.entries j ≡ Some f → Observes net e.bound.node.0 p →
    IsFloor s.entries f.bound.node.0 (without (marks f.bound.label) p) floor → (e.bound.least +ℤ pos (net.reaction p)) ≤ℤ floor → IsSpentWait net s i j
seen_spent net s i j p e f floor ready inside at_i at_j observes is low =
    wait_spent net s i j e f at_i at_j (λ q r w.
    let same : q ≡ p = (let a = w.observes.what in let b = observes.what in cc) in
    let x = f.bound.node.0 in
    let c = without (marks f.bound.label) q in
    let low_q : (e.bound.least +ℤ pos (net.reaction q)) ≤ℤ floor = subst (λ n. (e.bound.least +ℤ pos (net.reaction n)) ≤ℤ floor) (sym same) low in
    let least = least_seen (e.bound.least +ℤ pos (net.reaction q)) f.bound.least (pos (limit net x + 1)) in
    let upto : int_min (int_min (e.bound.least +ℤ pos (net.reaction q)) f.bound.least) (pos (limit net x + 1)) ≤ℤ floor = omega (arith, ints, least, low_q) in
    under_floor net s x c floor r ready inside (subst (λ n. IsFloor s.entries x (without (marks f.bound.label) n) floor) (sym same) is)
    (ap (λ (z : Bound). z.node) w.gives)
    (subst (λ (z : Bound). z.least ≤ℤ floor) (sym w.gives) upto)
    (λ d within clean. subst (λ (z : Bound). IsWithin d z.label) (sym w.gives)
    (within_own (slice_index_or net.observes x None) d (marks e.bound.label) c (λ m. within_right (d m) (marks e.bound.label m) (c m) (within m)) clean)))

-- wait of an entry at the observer and another is spent, where the other's least value, or its own with the reaction, is up to a
-- floor of its own label at the other's time-point
pub marking_spent : (net : Network) (s : State) (i j p : ℕ) (e f : Entry) (floor : ℤ) → IsOpen net s → f.bound.node.0 < count net →
    slice_get s.entries i ≡ Some e → slice_get s.entries j ≡ Some f → Observes net e.bound.node.0 p →
    IsFloor s.entries f.bound.node.0 (marks e.bound.label) floor →
    ((e.bound.least +ℤ pos (net.reaction p)) ≤ℤ floor) ⊎ (f.bound.least ≤ℤ floor) → IsSpentWait net s i j
marking_spent net s i j p e f floor ready inside at_i at_j observes is low =
    wait_spent net s i j e f at_i at_j (λ q r w.
    let same : q ≡ p = (let a = w.observes.what in let b = observes.what in cc) in
    let x = f.bound.node.0 in
    let c = without (marks f.bound.label) q in
    let a = e.bound.least +ℤ pos (net.reaction q) in
    let upto : int_min (int_min a f.bound.least) (pos (limit net x + 1)) ≤ℤ floor = elim low [
      | inl own ↦
          let own_q : (e.bound.least +ℤ pos (net.reaction q)) ≤ℤ floor = subst (λ n. (e.bound.least +ℤ pos (net.reaction n)) ≤ℤ floor) (sym same) own in
          let least = least_seen (e.bound.least +ℤ pos (net.reaction q)) f.bound.least (pos (limit net x + 1)) in
          omega (arith, ints, least, own_q)
      | inr other ↦
          let least = least_other (e.bound.least +ℤ pos (net.reaction q)) f.bound.least (pos (limit net x + 1)) in
          omega (arith, ints, least, other)
    ] in
    under_floor net s x (marks e.bound.label) floor r ready inside is
    (ap (λ (z : Bound). z.node) w.gives)
    (subst (λ (z : Bound). z.least ≤ℤ floor) (sym w.gives) upto)
    (λ d within clean. subst (λ (z : Bound). IsWithin d z.label) (sym w.gives)
    (within_own (slice_index_or net.observes x None) d (marks e.bound.label) c (λ m. within_left (d m) (marks e.bound.label m) (c m) (within m)) clean)))

-- ---- ranges

pub limit_in_time : (net : Network) → IsWellFormed net → (x : ℕ) → limit net x ≤ most_deadline
limit_in_time net good zero = omega arith
limit_in_time net good (suc x) = good.in_time

-- a floor is from 0 to the largest limit + 1
pub floor_ranged : (net : Network) (s : State) (x : ℕ) (label : Label) (floor : ℤ) → IsWellFormed net → IsOpen net s → IsFloor s.entries x label floor →
    (pos 0 ≤ℤ floor) × (floor ≤ℤ pos (most_deadline + 1))
floor_ranged net s x label floor good ready (inl ground) = (omega (arith, ints, ground), omega (arith, ints, ground))
floor_ranged net s x label floor good ready (inr (k, e, there, node, within, least)) =
    let r = ready.kept.ranged k (the_entry e) (entry_read s.entries k e there) in
    let most = limit_in_time net good e.bound.node.0 in
    (omega (arith, ints, least, r.low), omega (arith, ints, least, r.high, most))

-- ---- cases

-- an integer is above another, or up to it
pub cases_above : (a b : ℤ) → (a <ℤ b) ⊎ (b ≤ℤ a)
cases_above a b = elim (cases_Bool (int_lt a b)) [
  | inl yes' ↦ inl (int_lt-true a b yes')
  | inr no' ↦ inr (int_lt-false a b no')
]

-- a label marks a proposition, or it doesn't
pub cases_marked : (m : Mark) → (m ≡ Absent → ⊥) ⊎ (m ≡ Absent)
cases_marked Absent = inr refl
cases_marked Yes = inl (λ e. let f : ⊥ = cc in f)
cases_marked No = inl (λ e. let f : ⊥ = cc in f)
cases_marked Unknown = inl (λ e. let f : ⊥ = cc in f)
