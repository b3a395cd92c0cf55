-- What is left, written as a document, is read back.
use Rattle.std.proofs.Common.{ℕ, zero, suc, ◌≡◌, ◌≢◌, ◌+◌, ◌<◌, Bool, true, false, not, List, [], ◌∷◌, ◌++◌, length, map, get_or, Option, Some, None, arith, refl, sym, ap, ◌∙◌, inl, inr}
use Rattle.std.specs.Prelude.{◌||◌, slice_get, slice_index_or, if◌then◌else◌, codes}
use Rattle.std.specs.Option.{is_some}
use Rattle.std.specs.List.{All, AllPairs, filter, range_with_len}
use Rattle.std.proofs.lemmas.Bool.{cases_Bool}
use Rattle.std.proofs.lemmas.List.{length-map}
use Rattle.std.proofs.lemmas.List.Elements.{All-filter, All-map, All-weaker}
use Rattle.std.proofs.lemmas.List.FromFn.{get_or-range_with_len, length-range_with_len}
use Rattle.std.proofs.lemmas.List.Filters.{length-filter_both}
use Rattle.std.proofs.lemmas.List.Kept.{AllPairs-filter}
use Rattle.std.proofs.lemmas.Option.{slice_get-get_or}
use Rattle.cstn_facts.proofs.Pairs.{pairs_map}
use Rattle.cstn_net.specs.Networks.{Constraint, Observes, count}
use Rattle.cstn_text.specs.Names.{IsName}
use Rattle.cstn_lift.specs.Labelled.{Labelled}
use Rattle.cstn_lift.specs.Completion.{full_label}
use Rattle.cstn_lift.specs.Lowered.{lowered, full_of, guards, guards_of, is_plain, numbered, observer_of}
use Rattle.cstn_lift.specs.WellFormed.{IsLabelled}
use Rattle.cstn_lift.proofs.LoweredLemmas.{observer_back, observer_found}
use Rattle.cstn_graphml.specs.Networks.{labelled_of}
use Rattle.cstn_save.specs.Canonical.{timed_observations}
use Rattle.cstn_save.specs.ReadBack.{without_its_id, parts}
use Rattle.cstn_save.specs.Names.{AreNamesOf}
use Rattle.cstn_save.proofs.SameLemmas.{labelled_back}
use Rattle.cstn_history.specs.Histories.{History, IsHistory, is_told, edited}
use Rattle.cstn_history.specs.Rest.{is_left, sight_left, left, rest, number_left, reaction_after, reaction_by}
use Rattle.cstn_history.proofs.Places.{observes_left}
use Rattle.cstn_follow.specs.Following.{name_of_point}

-- ---- without its ids

-- the labelled network with its constraints numbered from 0
abbrev pub renumbered : Labelled → Labelled
renumbered m = edited m m.base.deadline (numbered 0 m.base.constraints)

drawn_same : (k : ℕ) (cs : List Constraint) → map without_its_id (numbered k cs) ≡ map without_its_id cs
drawn_same k [] = refl
drawn_same k (c ∷ cs) = ap (λ l. without_its_id c ∷ l) (drawn_same (k + 1) cs)

parts_same : (m : Labelled) (names : List (List ℕ)) → parts (renumbered m) names ≡ parts m names
parts_same m names =
    ap (λ ds. record { deadline = m.base.deadline; names = names; observes = timed_observations m.base; labels = m.labels; constraints = ds }) (drawn_same 0 m.base.constraints)

numbered_at : (j k : ℕ) (cs : List Constraint) (d : Constraint) → k < length (numbered j cs) → (slice_index_or (numbered j cs) k d).id ≡ j + k
numbered_at j k [] d inside = absurd (omega arith)
numbered_at j zero (c ∷ cs) d inside = omega arith
numbered_at j (suc k) (c ∷ cs) d inside = let more = numbered_at (j + 1) k cs d (omega arith) in omega (arith, more)

-- where what nothing observes has a reaction of 1 tick, the document says all but the ids
pub read_back : (m : Labelled) (names : List (List ℕ)) → ((p : ℕ) → ((x : ℕ) → Observes m.base x p → ⊥) → m.base.reaction p ≡ 1) → labelled_of (parts m names) ≡ renumbered m
read_back m names unseen =
    ap labelled_of (sym (parts_same m names))
    ∙ labelled_back (renumbered m) names (λ p none. unseen p (λ x o. none x (record { what = o.what })))
    (λ k d inside. numbered_at 0 k m.base.constraints d inside ∙ (let same : 0 + k ≡ k = omega arith in same))

-- the lowered network has ids of its own
module _ (m : Labelled) where
  full_same : (k j : ℕ) (cs gs : List Constraint) → numbered k (full_of m (numbered j cs) ++ gs) ≡ numbered k (full_of m cs ++ gs)
  full_same k j [] gs = refl
  full_same k j (c ∷ cs) gs = elim (cases_Bool (is_plain (full_label m c))) [
    | inl t ↦ rw t (ap (λ l. record c { id = k; label = full_label m c } ∷ l) (full_same (k + 1) (j + 1) cs gs))
    | inr f ↦ rw f (full_same k (j + 1) cs gs)
  ]

  pub lowered_same : lowered (renumbered m) ≡ lowered m
  unfolding guards_of
  lowered_same = ap (λ cs. record m.base { constraints = cs }) (full_same 0 0 m.base.constraints (guards m))

-- ---- what is left

untold_none : (o : Option Bool) → is_some o ≡ false → o ≡ None
untold_none None e = refl
untold_none (Some v) e = absurd (cc)

module _ (m : Labelled) (h : History) (fresh : ℕ) where
  -- what nothing that is left observes has a reaction of 1 tick, where that is so of the whole
  pub left_unseen : IsLabelled m → IsHistory m h → ((p : ℕ) → ((x : ℕ) → Observes m.base x p → ⊥) → m.base.reaction p ≡ 1)
      → (p : ℕ) → ((x : ℕ) → Observes (rest m h fresh).base x p → ⊥) → (rest m h fresh).base.reaction p ≡ 1
  left_unseen good known unseen p none = by_observer (observer_of m.base p) refl
    where
      by_tests : (x : ℕ) → Observes m.base x p → (told kept : Bool) → is_told h p ≡ told → is_left m h x ≡ kept
          → (if told || not kept then 1 else reaction_after m h p x (h.done x)) ≡ 1
      by_tests x o true kept at also = refl
      by_tests x o false false at also = refl
      by_tests x o false true at also = absurd (none (number_left m h x) (observes_left m h fresh good known x p o (untold_none (h.told p) at) also))

      by_observer : (o : Option ℕ) → observer_of m.base p ≡ o → reaction_by m h p o ≡ 1
      by_observer None is = unseen p (λ x o. absurd (let found = observer_found m.base good.base.network x p o in let f : ⊥ = cc in f))
      by_observer (Some x) is = by_tests x (observer_back m.base x p is) (is_told h p) (is_left m h x) refl refl

  inside : All (λ x. x < count m.base) (left m h)
  inside = All-filter (is_left m h) (λ x. x < count m.base) (range_with_len 0 (count m.base)) (λ k d within.
      let below : k < count m.base = omega (arith, within, length-range_with_len 0 (count m.base)) in
      let at = get_or-range_with_len 0 (count m.base) k d below in
      omega (arith, at, below))

  ascending : AllPairs (λ x y. x < y) (left m h)
  ascending = AllPairs-filter (λ x y. x < y) (is_left m h) (range_with_len 0 (count m.base)) (λ i j d before within.
      let below : j < count m.base = omega (arith, within, length-range_with_len 0 (count m.base)) in
      let one = get_or-range_with_len 0 (count m.base) i d (omega (arith, before, below)) in
      let other = get_or-range_with_len 0 (count m.base) j d below in
      omega (arith, one, other, before))

  -- the names of what is left
  module _ (names : List (List ℕ)) (are : AreNamesOf m.base names) where
    named_at : (x : ℕ) → x < count m.base → IsName (name_of_point names x)
    named_at x below = are.named.each x [] (omega (arith, below, are.each))

    apart : (x y : ℕ) → x < y → y < count m.base → name_of_point names x ≢ name_of_point names y
    apart x y before below same =
        are.named.different x y [] before (omega (arith, below, are.each)) same

    first : (n : ℕ) → count m.base ≡ n → 0 < n → slice_get (map (name_of_point names) (filter (is_left m h) (range_with_len 0 n))) 0 ≡ Some (codes "Z")
    first zero is some = absurd (omega arith)
    first (suc n) is some = sym (slice_get-get_or names 0 [] (omega (arith, some, is, are.each))) ∙ are.origin

    pub names_of_left : 0 < count m.base → AreNamesOf (rest m h fresh).base (map (name_of_point names) (left m h))
    names_of_left some = record {
      named = record {
        each = All-map IsName (name_of_point names) (left m h) (All-weaker (λ x. x < count m.base) (λ x. IsName (name_of_point names x)) named_at (left m h) inside);
        different = pairs_map (λ a b. a ≢ b) (name_of_point names) (left m h) (λ i j d before within.
            apart (get_or (left m h) i d) (get_or (left m h) j d) (ascending i j d before within) (inside j d within));
        few =
            let long = length-map (left m h) (name_of_point names) in
            let both = length-filter_both (is_left m h) (λ x. not (is_left m h x)) (λ x. refl) (range_with_len 0 (count m.base)) in
            let range = length-range_with_len 0 (count m.base) in
            let few = are.named.few in
            let each = are.each in
            omega arith;
      };
      each = length-map (left m h) (name_of_point names) ∙ sym (length-map (left m h) (sight_left m h));
      origin = first (count m.base) refl some;
    }
