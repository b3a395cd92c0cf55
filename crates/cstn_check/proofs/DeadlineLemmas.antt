-- Growth at two deadlines: the list at the lower one is that at the higher one up to the first late entry.
use Rattle.std.proofs.Common.{ℕ, zero, suc, ◌≡◌, ◌⊎◌, inl, inr, ◌+◌, ◌<◌, ◌≤◌, Bool, true, false, not, cond, ◌&&◌, ◌||◌, List, [], ◌∷◌, ◌++◌, length, take, Option, Some, None, eqb, ltb, arith, refl, sym, subst, ap, ◌∙◌, append_assoc}
use Rattle.std.specs.Prelude.{ℤ, pos, ◌≤ℤ◌, ◌<ℤ◌, int_lt, slice_get, slice_index_or, ◌↔◌}
use Rattle.std.specs.Int.{int_min}
use Rattle.std.proofs.lemmas.Int.{ints, clamps}
use Rattle.std.proofs.lemmas.Bool.{cases_Bool, and_parts, and_from, and_right, cond-true, cond-false, lt-ltb, or_left, or_right, or_parts, both_ways, eqb-true, not-true, or_from}
use Rattle.std.proofs.lemmas.List.Elements.{All-contains}
use Rattle.std.proofs.lemmas.List.Folds.{list_any-append}
use Rattle.cstn_facts.proofs.Integers.{int_lt-true, int_lt-false, le-int_lt, lt-int_lt}
use Rattle.cstn_label.specs.declared.marks.Mark.TheVariants.{Absent}
use Rattle.cstn_label.specs.Marks.{is_absent, is_mark_plain, is_plain, each_below}
use Rattle.cstn_label.specs.Labels.{Label, joined, without}
use Rattle.cstn_label.specs.Bounds.{Bound}
use Rattle.cstn_net.specs.Networks.{Network, IsNetwork, IsConstraint, IsWellFormed, Constraint, count, limit}
use Rattle.cstn_net.specs.Strategies.{IsConsistent}
use Rattle.cstn_net.proofs.WellFormed.{well_formed_by}
use Rattle.cstn_rules.specs.Rules.{finished, carried, awaited, without_own}
use Rattle.cstn_rules.specs.declared.entries.Why.{Why}
use Rattle.cstn_rules.specs.Derivations.{Entry}
use Rattle.cstn_log.specs.Entries.{bases}
use Rattle.cstn_rules.specs.Tests.{refutes, chain_of, wait_for as wait_by, wait_of}
use Rattle.cstn_label.specs.Tests.{dominates, is_within}
use Rattle.cstn_check.specs.Growth.{Instance, why_of, is_covered, is_refuted, premises_live, of_one, of_two, conclusion, with_conclusion, step, tried, turn, grown, log_of, load_of}
use Rattle.cstn_check.specs.Growth.Instance.{chain_at, wait_at}
use Rattle.cstn_check.specs.Kept.{AllGood, MarksObserved}
use Rattle.cstn_check.specs.Deadlines.{is_late, is_any_late, past_limit, upto_late}
use Rattle.cstn_check.proofs.Grows.{Each, each_turn, step_extends}
use Rattle.cstn_check.proofs.GoodLemmas.{GoodInstance, good_more, bases_good, conclusion_good}
use Rattle.cstn_check.proofs.Decides.{log_decides}
use Rattle.cstn_check.proofs.Ends.{log_after}

-- no entry is late
abbrev pub AllEarly : Network → List Entry → Type 0
AllEarly net [] = Unit {0}
AllEarly net (e ∷ es) = (is_late net e.bound ≡ false) × AllEarly net es

early_more : (net : Network) (L M : List Entry) → AllEarly net L → AllEarly net M → AllEarly net (L ++ M)
early_more net [] M h k = k
early_more net (x ∷ xs) M h k = (h.0, early_more net xs M h.1 k)

pub early_at : (net : Network) (L : List Entry) (k : ℕ) (e : Entry) → AllEarly net L → slice_get L k ≡ Some e → is_late net e.bound ≡ false
early_at net [] k e h there = let f : ⊥ = cc in absurd f
early_at net (x ∷ xs) zero e h there = let same : x ≡ e = cc in subst (λ y. is_late net y.bound ≡ false) same h.0
early_at net (x ∷ xs) (suc k) e h there = early_at net xs k e h.1 there

pub early_from : (net : Network) (L : List Entry) → ((k : ℕ) (e : Entry) → slice_get L k ≡ Some e → is_late net e.bound ≡ false) → AllEarly net L
early_from net [] h = tt
early_from net (x ∷ xs) h = (h 0 x refl, early_from net xs (λ k e there. h (suc k) e there))

pub none_at : (net : Network) (L : List Entry) (k : ℕ) (e : Entry) → is_any_late net L ≡ false → slice_get L k ≡ Some e → is_late net e.bound ≡ false
none_at net [] k e none there = let f : ⊥ = cc in absurd f
none_at net (x ∷ xs) zero e none there =
    let same : x ≡ e = cc in
    subst (λ y. is_late net y.bound ≡ false) same (or_parts (is_late net x.bound) (is_any_late net xs) none).0
none_at net (x ∷ xs) (suc k) e none there = none_at net xs k e (or_parts (is_late net x.bound) (is_any_late net xs) none).1 there

-- a later deadline has no lower limits
limit_more : (net : Network) (h : ℕ) → h ≤ net.deadline → (x : ℕ) → limit (record net { deadline = h }) x ≤ limit net x
limit_more net h lower zero = omega arith
limit_more net h lower (suc x) = lower

-- a label without its mark on what is observed is plain where the label is
below_plain : (f g : ℕ → Bool) (n : ℕ) → ((p : ℕ) → f p ≡ true → g p ≡ true) → each_below f n ≡ true → each_below g n ≡ true
below_plain f g zero h e = refl
below_plain f g (suc n) h e =
    let both = and_parts (f n) (each_below f n) e in
    and_from (g n) (each_below g n) (h n both.0) (below_plain f g n h both.1)

own_plain : (o : Option ℕ) (a : Label) → is_plain a ≡ true → is_plain (without_own o a) ≡ true
own_plain None a e = e
own_plain (Some p) a e =
    below_plain (λ q. is_mark_plain (a q)) (λ q. is_mark_plain (without a p q)) 52 (λ q plain. kept q plain (eqb q p)) e
  where
    kept : (q : ℕ) → is_mark_plain (a q) ≡ true → (b : Bool) → is_mark_plain (cond b Absent (a q)) ≡ true
    kept q plain true = refl
    kept q plain false = plain

-- what a rule gives at a lower deadline: the same bound, with its least value cut to the limit there + 1; where it is late there,
-- its label is plain
record IsCutOf (low : Network) (r q : Bound) : Type 0 where
  pub cut : q ≡ record { node = r.node; least = int_min r.least (pos (limit low r.node + 1)); label = r.label }
  pub plain : is_late low r ≡ true → is_plain r.label ≡ true

abbrev Alike : Network → Option Bound → Option Bound → Type 0
Alike low None None = Unit {0}
Alike low None (Some q) = ⊥
Alike low (Some r) None = ⊥
Alike low (Some r) (Some q) = IsCutOf low r q

cut_twice : (a : ℤ) (m n : ℕ) → m ≤ n → int_min a (pos (m + 1)) ≡ int_min (int_min a (pos (n + 1))) (pos (m + 1))
cut_twice a m n upto = grind (arith, ints, clamps)

-- the network at another deadline
abbrev pub at : Network → ℕ → Network
at net h = record net { deadline = h }

module _ (net : Network) (h : ℕ) (lower : h ≤ net.deadline) where
  finished_cut : (b : Bound) →
      finished (at net h) b ≡ record { node = b.node; least = int_min (finished net b).least (pos (limit (at net h) b.node + 1)); label = (finished net b).label }
  finished_cut b = ap of_least (cut_twice b.least (limit (at net h) b.node) (limit net b.node) (limit_more net h lower b.node))
    where
      of_least : ℤ → Bound
      of_least z = record { node = b.node; least = z; label = (finished net b).label }

  chain_alike : (c : Constraint) (b : Bound) → Alike (at net h) (chain_of net c b) (chain_of (at net h) c b)
  chain_alike c b = elim (cases_Bool ((eqb b.node c.to) && (is_plain b.label && is_plain (joined b.label c.label)))) [
    | inl given ↦
        let two = and_parts (is_plain b.label) (is_plain (joined b.label c.label)) (and_parts (eqb b.node c.to) (is_plain b.label && is_plain (joined b.label c.label)) given).1 in
        let fits : IsCutOf (at net h) (finished net (carried c b)) (finished (at net h) (carried c b)) = record {
          cut = finished_cut (carried c b);
          plain = λ late. own_plain (slice_index_or net.observes c.from None) (joined b.label c.label) two.1;
        } in
        subst (λ o. Alike (at net h) o (chain_of (at net h) c b)) (sym (cond-true _ (Some (finished net (carried c b))) None given))
        (subst (λ o. Alike (at net h) (Some (finished net (carried c b))) o) (sym (cond-true _ (Some (finished (at net h) (carried c b))) None given)) fits)
    | inr none ↦
        subst (λ o. Alike (at net h) o (chain_of (at net h) c b)) (sym (cond-false _ (Some (finished net (carried c b))) None none))
        (subst (λ o. Alike (at net h) None o) (sym (cond-false _ (Some (finished (at net h) (carried c b))) None none)) tt)
  ]

  -- wait gives no late bound from one that isn't late
  wait_early : (p : ℕ) (seen b : Bound) → is_late (at net h) b ≡ false → is_late (at net h) (finished net (awaited net p seen b)) ≡ true → ⊥
  wait_early p seen b early late =
      let upto = int_lt-false (pos (limit (at net h) b.node)) b.least early in
      let above = int_lt-true (pos (limit (at net h) b.node)) (finished net (awaited net p seen b)).least late in
      omega (arith, ints, clamps)

  wait_alike : (o : Option ℕ) (seen b : Bound) → is_late (at net h) b ≡ false → Alike (at net h) (wait_by net o seen b) (wait_by (at net h) o seen b)
  wait_alike None seen b early = tt
  wait_alike (Some p) seen b early = elim (cases_Bool (is_absent (b.label p))) [
    | inr marked ↦
        let fits : IsCutOf (at net h) (finished net (awaited net p seen b)) (finished (at net h) (awaited net p seen b)) = record {
          cut = finished_cut (awaited net p seen b);
          plain = λ late. absurd (wait_early p seen b early late);
        } in
        subst (λ o. Alike (at net h) o (wait_by (at net h) (Some p) seen b)) (sym (cond-false (is_absent (b.label p)) None (Some (finished net (awaited net p seen b))) marked))
        (subst (λ o. Alike (at net h) (Some (finished net (awaited net p seen b))) o) (sym (cond-false (is_absent (b.label p)) None (Some (finished (at net h) (awaited net p seen b))) marked)) fits)
    | inl none ↦
        subst (λ o. Alike (at net h) o (wait_by (at net h) (Some p) seen b)) (sym (cond-true (is_absent (b.label p)) None (Some (finished net (awaited net p seen b))) none))
        (subst (λ o. Alike (at net h) None o) (sym (cond-true (is_absent (b.label p)) None (Some (finished (at net h) (awaited net p seen b))) none)) tt)
  ]

  one_alike : (c : Constraint) (o : Option Entry) → Alike (at net h) (of_one (chain_of net c) o) (of_one (chain_of (at net h) c) o)
  one_alike c None = tt
  one_alike c (Some x) = chain_alike c x.bound

  two_alike : (o u : Option Entry) → ((e : Entry) → u ≡ Some e → is_late (at net h) e.bound ≡ false) →
      Alike (at net h) (of_two (wait_of net) o u) (of_two (wait_of (at net h)) o u)
  two_alike None u early = tt
  two_alike (Some x) None early = tt
  two_alike (Some x) (Some y) early = wait_alike (slice_index_or net.observes x.bound.node None) x.bound y.bound (early y refl)

  conclusion_alike : (L : List Entry) (i : Instance) → AllEarly (at net h) L → Alike (at net h) (conclusion net L i) (conclusion (at net h) L i)
  conclusion_alike L (chain_at c j) early = one_alike c (slice_get L j)
  conclusion_alike L (wait_at i j) early = two_alike (slice_get L i) (slice_get L j) (λ e there. early_at (at net h) L j e early there)

module _ (low : Network) where
  not_over : (a b : Bound) → is_late low a ≡ false → is_late low b ≡ true → dominates a b ≡ false
  not_over a b early late = elim (cases_Bool (dominates a b)) [
    | inr none ↦ none
    | inl over ↦
        let one = and_parts (eqb a.node b.node) (not (int_lt a.least b.least) && is_within a.label b.label) over in
        let two = and_parts (not (int_lt a.least b.least)) (is_within a.label b.label) one.1 in
        let node = eqb-true a.node b.node one.0 in
        let same : limit low a.node ≡ limit low b.node = ap (limit low) node in
        let least = int_lt-false a.least b.least (not-true (int_lt a.least b.least) two.0) in
        let upto = int_lt-false (pos (limit low a.node)) a.least early in
        let above = int_lt-true (pos (limit low b.node)) b.least late in
        absurd (omega (arith, ints))
  ]

  uncovered : (L : List Entry) (b : Bound) → AllEarly low L → is_late low b ≡ true → is_covered L b ≡ false
  uncovered [] b early late = refl
  uncovered (x ∷ xs) b early late = or_from (dominates x.bound b) (is_covered xs b) (not_over x.bound b early.0 late) (uncovered xs b early.1 late)

  stands : (net : Network) → ((x : ℕ) → limit low x ≤ limit net x) → (L : List Entry) → AllEarly low L → is_refuted net L ≡ false
  stands net more [] early = refl
  stands net more (x ∷ xs) early =
      or_from (refutes net x.bound) (is_refuted net xs)
      (and_right (ltb x.bound.node (count net)) (is_plain x.bound.label && int_lt (pos (limit net x.bound.node)) x.bound.least)
      (and_right (is_plain x.bound.label) (int_lt (pos (limit net x.bound.node)) x.bound.least)
      (let upto = int_lt-false (pos (limit low x.bound.node)) x.bound.least early.0 in
      let up = more x.bound.node in
      le-int_lt (pos (limit net x.bound.node)) x.bound.least (omega (arith, ints)))))
      (stands net more xs early.1)

-- the list is a front with no late entry, then a late one and more; the other list is the front with the late one cut, which
-- refutes
pub record IsLonger (low : Network) (list lower : List Entry) : Type 0 where
  pub front : List Entry
  pub entry : Entry
  pub more : List Entry
  pub is : front ++ entry ∷ more ≡ list
  pub cut : front ++ past_limit low entry ∷ [] ≡ lower
  pub early : AllEarly low front
  pub late : is_late low entry.bound ≡ true
  pub over : is_refuted low lower ≡ true

-- the two lists are one without late entries
pub record IsSame (low : Network) (list lower : List Entry) : Type 0 where
  pub same : list ≡ lower
  pub early : AllEarly low list
  pub good : AllGood low list

abbrev pub IsLower : Network → List Entry → List Entry → Type 0
IsLower low list lower = IsSame low list lower ⊎ IsLonger low list lower

cut_late : (low : Network) (r q : Bound) (why : Why) → IsCutOf low r q → is_late low r ≡ true →
    past_limit low (record { bound = r; why = why }) ≡ record { bound = q; why = why }
cut_late low r q why c late =
    let above = int_lt-true (pos (limit low r.node)) r.least late in
    let least : int_min r.least (pos (limit low r.node + 1)) ≡ pos (limit low r.node + 1) = to_limit r.least (limit low r.node) above in
    ap (λ (b : Bound). of_why b) (ap (λ (z : ℤ). of_least z) (sym least) ∙ sym c.cut)
  where
    of_why : Bound → Entry
    of_why b = record { bound = b; why = why }

    of_least : ℤ → Bound
    of_least z = record { node = r.node; least = z; label = r.label }

    to_limit : (a : ℤ) (n : ℕ) → pos n <ℤ a → int_min a (pos (n + 1)) ≡ pos (n + 1)
    to_limit a n above = grind (arith, ints, clamps)

cut_early : (low : Network) (r q : Bound) → IsCutOf low r q → is_late low r ≡ false → r ≡ q
cut_early low r q c early =
    let upto = int_lt-false (pos (limit low r.node)) r.least early in
    ap (λ (z : ℤ). of_least z) (sym (at_limit r.least (limit low r.node) upto)) ∙ sym c.cut
  where
    of_least : ℤ → Bound
    of_least z = record { node = r.node; least = z; label = r.label }

    at_limit : (a : ℤ) (n : ℕ) → a ≤ℤ pos n → int_min a (pos (n + 1)) ≡ a
    at_limit a n upto = grind (arith, ints, clamps)

-- a late bound that is cut is still late, and refutes where its label is plain
cut_is_late : (low : Network) (r q : Bound) → IsCutOf low r q → is_late low r ≡ true → is_late low q ≡ true
cut_is_late low r q c late =
    let above = int_lt-true (pos (limit low r.node)) r.least late in
    subst (λ b. is_late low b ≡ true) (sym c.cut) (lt-int_lt (pos (limit low r.node)) (int_min r.least (pos (limit low r.node + 1))) (omega (arith, ints, clamps)))

cut_refutes : (low : Network) (r q : Bound) → IsCutOf low r q → is_late low r ≡ true → q.node < count low → refutes low q ≡ true
cut_refutes low r q c late here =
    let plain : is_plain q.label ≡ true = subst (λ (b : Bound). is_plain b.label ≡ true) (sym c.cut) (c.plain late) in
    and_from (ltb q.node (count low)) (is_plain q.label && int_lt (pos (limit low q.node)) q.least) (lt-ltb q.node (count low) here)
    (and_from (is_plain q.label) (int_lt (pos (limit low q.node)) q.least) plain (cut_is_late low r q c late))

refuted_more : (low : Network) (L : List Entry) (e : Entry) → refutes low e.bound ≡ true → is_refuted low (L ++ e ∷ []) ≡ true
refuted_more low L e r =
    list_any-append (λ x. refutes low x.bound) L (e ∷ [])
    ∙ or_right (is_refuted low L) (refutes low e.bound || false) (or_left (refutes low e.bound) false r)

module _ (low : Network) (L : List Entry) (i : Instance) (early : AllEarly low L) (good : AllGood low L) where
  -- what the two conclusions make of the list
  with_lower : (o u : Option Bound) → Alike low o u → ((q : Bound) → u ≡ Some q → MarksObserved low q) →
      IsLower low (with_conclusion L i o) (with_conclusion L i u)
  with_lower None None a of = inl (record { same = refl; early = early; good = good })
  with_lower None (Some q) a of = absurd a
  with_lower (Some r) None a of = absurd a
  with_lower (Some r) (Some q) a of = elim (cases_Bool (is_late low r)) [
    | inr on_time ↦
        let same = cut_early low r q a on_time in
        let made : IsSame low (with_conclusion L i (Some r)) (with_conclusion L i (Some r)) = elim (cases_Bool (premises_live L i && not (is_covered L r))) [
          | inl new ↦ subst (λ G. IsSame low G G) (sym (cond-true _ (L ++ record { bound = r; why = why_of i } ∷ []) L new)) (record {
            same = refl;
            early = early_more low L (record { bound = r; why = why_of i } ∷ []) early (on_time, tt);
            good = good_more low L (record { bound = r; why = why_of i } ∷ []) good (of r (ap Some (sym same)), tt);
          })
          | inr old ↦ subst (λ G. IsSame low G G) (sym (cond-false _ (L ++ record { bound = r; why = why_of i } ∷ []) L old))
              (record { same = refl; early = early; good = good })
        ] in
        inl (subst (λ b. IsSame low (with_conclusion L i (Some r)) (with_conclusion L i (Some b))) same made)
    | inl late ↦
        let free = uncovered low L r early late in
        let free_cut = uncovered low L q early (cut_is_late low r q a late) in
        elim (cases_Bool (premises_live L i)) [
          | inl live ↦
              let new = and_from (premises_live L i) (not (is_covered L r)) live (ap not free) in
              let new_cut = and_from (premises_live L i) (not (is_covered L q)) live (ap not free_cut) in
              subst (λ G. IsLower low G (with_conclusion L i (Some q))) (sym (cond-true _ (L ++ record { bound = r; why = why_of i } ∷ []) L new))
              (subst (λ G. IsLower low (L ++ record { bound = r; why = why_of i } ∷ []) G) (sym (cond-true _ (L ++ record { bound = q; why = why_of i } ∷ []) L new_cut))
              (inr (record {
                front = L;
                entry = record { bound = r; why = why_of i };
                more = [];
                is = refl;
                cut = ap (λ (e : Entry). L ++ e ∷ []) (cut_late low r q (why_of i) a late);
                early = early;
                late = late;
                over = refuted_more low L (record { bound = q; why = why_of i }) (cut_refutes low r q a late (of q refl).node);
              })))
          | inr dead ↦
              let old = and_left (premises_live L i) (not (is_covered L r)) dead in
              let old_cut = and_left (premises_live L i) (not (is_covered L q)) dead in
              subst (λ G. IsLower low G (with_conclusion L i (Some q))) (sym (cond-false _ (L ++ record { bound = r; why = why_of i } ∷ []) L old))
              (subst (λ G. IsLower low L G) (sym (cond-false _ (L ++ record { bound = q; why = why_of i } ∷ []) L old_cut))
              (inl (record { same = refl; early = early; good = good })))
        ]
  ]
    where
      and_left : (a b : Bool) → a ≡ false → (a && b) ≡ false
      and_left a b f = grind arith

module _ (net : Network) (h : ℕ) (lower : h ≤ net.deadline) where
  step_same : (L : List Entry) (i : Instance) → GoodInstance (at net h) i → AllEarly (at net h) L → AllGood (at net h) L →
      IsLower (at net h) (step net L i) (step (at net h) L i)
  unfolding step
  step_same L i of early good =
      let on = stands (at net h) net (limit_more net h lower) L early in
      let on_low = stands (at net h) (at net h) (λ x. omega arith) L early in
      subst (λ G. IsLower (at net h) G (step (at net h) L i)) (sym (cond-false _ L (with_conclusion L i (conclusion net L i)) on))
      (subst (λ G. IsLower (at net h) (with_conclusion L i (conclusion net L i)) G) (sym (cond-false _ L (with_conclusion L i (conclusion (at net h) L i)) on_low))
      (with_lower (at net h) L i early good (conclusion net L i) (conclusion (at net h) L i) (conclusion_alike net h lower L i early)
      (λ q e. conclusion_good (at net h) L i q good of e)))

  step_longer : (L M : List Entry) (i : Instance) → IsLonger (at net h) L M → IsLonger (at net h) (step net L i) (step (at net h) M i)
  unfolding step
  step_longer L M i w =
      let ext = step_extends net L i in
      subst (λ G. IsLonger (at net h) (step net L i) G) (sym (cond-true _ M (with_conclusion M i (conclusion (at net h) M i)) w.over)) (record {
        front = w.front;
        entry = w.entry;
        more = w.more ++ ext.more;
        is = sym (append_assoc w.front (w.entry ∷ w.more) ext.more) ∙ ap (λ l. l ++ ext.more) w.is ∙ ext.is;
        cut = w.cut;
        early = w.early;
        late = w.late;
        over = w.over;
      })

  step_lower : (L M : List Entry) (i : Instance) → GoodInstance (at net h) i → IsLower (at net h) L M →
      IsLower (at net h) (step net L i) (step (at net h) M i)
  step_lower L M i of w = elim w [
    | inl s ↦ subst (λ G. IsLower (at net h) (step net L i) (step (at net h) G i)) s.same (step_same L i of s.early s.good)
    | inr l ↦ inr (step_longer L M i l)
  ]

  tried_lower : (is : List Instance) (L M : List Entry) → Each (GoodInstance (at net h)) is → IsLower (at net h) L M →
      IsLower (at net h) (tried net L is) (tried (at net h) M is)
  tried_lower [] L M of w = w
  tried_lower (i ∷ is) L M of w = tried_lower is (step net L i) (step (at net h) M i) of.1 (step_lower L M i of.0 w)

  grown_lower : IsNetwork (at net h) → (L M : List Entry) (n : ℕ) → IsLower (at net h) L M → IsLower (at net h) (grown net L n) (grown (at net h) M n)
  grown_lower wf L M zero w = w
  grown_lower wf L M (suc n) w =
      tried_lower (turn net n) (grown net L n) (grown (at net h) M n)
      (each_turn (GoodInstance (at net h)) (at net h) n (λ c has. All-contains (IsConstraint (at net h)) net.constraints c wf.constraints has) (λ i. (tt, tt)))
      (grown_lower wf L M n w)

bases_early : (low : Network) (n : ℕ) → AllEarly low (bases n)
bases_early low zero = tt
bases_early low (suc n) = early_more low (bases n) _ (bases_early low n) (le-int_lt (pos (limit low n)) (pos 0) (omega (arith, ints)), tt)

-- the log at a lower deadline is that of the network up to the first late entry
pub log_lower : (net : Network) (h : ℕ) → IsWellFormed net → h ≤ net.deadline → IsLower (at net h) (log_of net) (log_of (at net h))
log_lower net h good lower =
    let in_time = good.in_time in
    let good_low = well_formed_by net h good (omega arith) in
    let n = load_of net + load_of (at net h) in
    let start : IsLower (at net h) (bases (count net)) (bases (count net)) = inl (record {
      same = refl;
      early = bases_early (at net h) (count net);
      good = bases_good (at net h) (count net) (omega arith);
    }) in
    subst (λ G. IsLower (at net h) G (log_of (at net h))) (log_after net n good (omega arith))
    (subst (λ G. IsLower (at net h) (grown net (bases (count net)) n) G) (log_after (at net h) n good_low (omega arith))
    (grown_lower net h lower good_low.network (bases (count net)) (bases (count net)) n start))

pub upto_early_list : (low : Network) (L : List Entry) → AllEarly low L → upto_late low L ≡ L
upto_early_list low [] early = refl
upto_early_list low (x ∷ xs) early =
    cond-false (is_late low x.bound) (past_limit low x ∷ []) (x ∷ upto_late low xs) early.0 ∙ ap (λ l. x ∷ l) (upto_early_list low xs early.1)

upto_longer : (low : Network) (L : List Entry) (e : Entry) (M : List Entry) → AllEarly low L → is_late low e.bound ≡ true →
    upto_late low (L ++ e ∷ M) ≡ L ++ past_limit low e ∷ []
upto_longer low [] e M early late = cond-true (is_late low e.bound) (past_limit low e ∷ []) (e ∷ upto_late low M) late
upto_longer low (x ∷ xs) e M early late =
    cond-false (is_late low x.bound) (past_limit low x ∷ []) (x ∷ upto_late low (xs ++ e ∷ M)) early.0
    ∙ ap (λ l. x ∷ l) (upto_longer low xs e M early.1 late)

pub log_upto : (net : Network) (h : ℕ) → IsWellFormed net → h ≤ net.deadline → log_of (at net h) ≡ upto_late (at net h) (log_of net)
log_upto net h good lower = elim (log_lower net h good lower) [
  | inl s ↦ sym s.same ∙ sym (upto_early_list (at net h) (log_of net) s.early)
  | inr l ↦ sym l.cut ∙ sym (upto_longer (at net h) l.front l.entry l.more l.early l.late) ∙ ap (upto_late (at net h)) l.is
]

pub none_late : (low : Network) (L : List Entry) → AllEarly low L → is_any_late low L ≡ false
none_late low [] early = refl
none_late low (x ∷ xs) early = or_from (is_late low x.bound) (is_any_late low xs) early.0 (none_late low xs early.1)

some_late : (low : Network) (L : List Entry) (e : Entry) (M : List Entry) → is_late low e.bound ≡ true → is_any_late low (L ++ e ∷ M) ≡ true
some_late low L e M late =
    list_any-append (λ x. is_late low x.bound) L (e ∷ M)
    ∙ or_right (is_any_late low L) (is_late low e.bound || is_any_late low M) (or_left (is_late low e.bound) (is_any_late low M) late)

pub late_decides : (net : Network) (h : ℕ) → IsWellFormed net → h ≤ net.deadline →
    IsConsistent (at net h) ↔ (is_any_late (at net h) (log_of net) ≡ false)
late_decides net h good lower =
    let in_time = good.in_time in
    let good_low = well_formed_by net h good (omega arith) in
    let decides = log_decides (at net h) good_low.network good_low.letters in
    elim (log_lower net h good lower) [
      | inl s ↦ (
        λ c. none_late (at net h) (log_of net) s.early,
        λ e. decides.1 (ap (is_refuted (at net h)) (sym s.same) ∙ stands (at net h) (at net h) (λ x. omega arith) (log_of net) s.early),
      )
      | inr l ↦ (
        λ c. absurd (both_ways (is_refuted (at net h) (log_of (at net h))) (decides.0 c) l.over),
        λ e. absurd (both_ways (is_any_late (at net h) (log_of net)) e (ap (is_any_late (at net h)) (sym l.is) ∙ some_late (at net h) l.front l.entry l.more l.late)),
      )
    ]

-- the entries up to the first late one are the first ones, where this one is at the limit + 1 already
pub upto_front : (low : Network) (L : List Entry) (place : ℕ) (e : Entry) → slice_get L place ≡ Some e → is_late low e.bound ≡ true →
    past_limit low e ≡ e → ((k : ℕ) (f : Entry) → k < place → slice_get L k ≡ Some f → is_late low f.bound ≡ false) →
    upto_late low L ≡ take (suc place) L
upto_front low [] place e there late same early = let f : ⊥ = cc in absurd f
upto_front low (x ∷ xs) zero e there late same early =
    let is : x ≡ e = cc in
    cond-true (is_late low x.bound) (past_limit low x ∷ []) (x ∷ upto_late low xs) (subst (λ y. is_late low y.bound ≡ true) (sym is) late)
    ∙ ap (λ y. y ∷ []) (subst (λ y. past_limit low y ≡ y) (sym is) same)
upto_front low (x ∷ xs) (suc place) e there late same early =
    cond-false (is_late low x.bound) (past_limit low x ∷ []) (x ∷ upto_late low xs) (early 0 x (omega arith) refl)
    ∙ ap (λ l. x ∷ l) (upto_front low xs place e there late same (λ k f before at_k. early (suc k) f (omega arith) at_k))

upto_short : (low : Network) (L : List Entry) → length (upto_late low L) ≤ length L
upto_short low [] = omega arith
upto_short low (x ∷ xs) = elim (cases_Bool (is_late low x.bound)) [
  | inl late ↦
      let e = ap length (cond-true (is_late low x.bound) (past_limit low x ∷ []) (x ∷ upto_late low xs) late) in
      omega arith
  | inr early ↦
      let e = ap length (cond-false (is_late low x.bound) (past_limit low x ∷ []) (x ∷ upto_late low xs) early) in
      let rest = upto_short low xs in
      omega arith
]

-- the load at a lower deadline isn't above the load
pub load_lower : (net : Network) (h : ℕ) → IsWellFormed net → h ≤ net.deadline → load_of (at net h) ≤ load_of net
load_lower net h good lower =
    let same = ap length (log_upto net h good lower) in
    let short = upto_short (at net h) (log_of net) in
    omega arith
