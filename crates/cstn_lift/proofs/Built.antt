-- What a builder holds on the way to the lowered network.
use Rattle.std.proofs.Common.{ℕ, zero, suc, ◌≡◌, inl, inr, ◌+◌, ◌-◌, ◌<◌, ◌≤◌, Bool, true, false, Option, Some, None, List, [], ◌∷◌, ◌++◌, length, take, arith, refl, sym, subst, ap, ◌∙◌}
use Rattle.std.specs.Prelude.{map, slice_index_or, if◌then◌else◌, option_map, ℤ, pos, ◌-ℤ◌}
use Rattle.std.specs.List.{All, filter_map, flat_map, cons_option, range_with_len}
use Rattle.std.proofs.lemmas.Bool.{cases_Bool}
use Rattle.std.proofs.lemmas.List.{append-nil, append_assoc, length-map, map-append, take_more, length-take-le}
use Rattle.std.proofs.lemmas.List.Elements.{All-append, All-cons, All-nil, All-head, All-tail, filter_map-append}
use Rattle.std.proofs.lemmas.Grind.{flat_map-append}
use Rattle.cstn_facts.proofs.Ranges.{range_more}
use Rattle.cstn_label.specs.declared.labels.Label.{Label as Words}
use Rattle.cstn_label.specs.declared.props.Prop.{Prop}
use Rattle.cstn_label.specs.declared.marks.Mark.TheVariants.{Absent}
use Rattle.cstn_label.specs.Labels.{Label, IsMarked, IsPlain}
use Rattle.cstn_label.specs.Read.{marks}
use Rattle.cstn_net.specs.declared.constraints.Constraint.{Constraint}
use Rattle.cstn_net.specs.declared.drafts.Draft.{Draft}
use Rattle.cstn_net.specs.declared.points.TimePoint.{TimePoint}
use Rattle.cstn_net.specs.Networks.{Network, Constraint as TheConstraint, count, is_prop}
use Rattle.cstn_net.specs.Read.{observed, reaction_of, the_constraint}
use Rattle.cstn_net.specs.Drafts.{constraint_of, constraints_from, with_reaction}
use Rattle.cstn_lift.specs.Labelled.{Labelled}
use Rattle.cstn_lift.specs.Completion.{full_label}
use Rattle.cstn_lift.specs.Lowered.{is_plain, observer_of, with_full_label, guard, guards_of, numbered}
use Rattle.cstn_lift.specs.Handed.{HasPoints, HasConstraints}
use Rattle.cstn_lift.proofs.ListLemmas.{numbered_length, numbered_append}
use Rattle.cstn_lift.proofs.LoweredLemmas.{plain_true, plain_back}
use Rattle.cstn_net.proofs.Observed.{prop_true}
use Rattle.cstn_label.proofs.MarkLemmas.{marked_true}

module _ (long : (k : ℕ) (ds : List Draft) → length (constraints_from k ds) ≡ length ds)
    (more : (k i : ℕ) (ds : List Draft) (d : Draft) → i ≡ k + length ds → constraints_from k (ds ++ d ∷ []) ≡ constraints_from k ds ++ constraint_of i d ∷ []) where
  -- a draft put behind the others puts its constraint behind theirs
  constraint_added : (cs : List TheConstraint) (ds : List Draft) (c : TheConstraint) (d : Draft) → HasConstraints cs ds →
      ((i : ℕ) → the_constraint (constraint_of i d) ≡ record c { id = i }) → HasConstraints (cs ++ c ∷ []) (ds ++ d ∷ [])
  constraint_added cs ds c d has is =
      let old = constraints_from 0 ds in
      let lens : length ds ≡ length cs = sym (long 0 ds) ∙ sym (length-map old the_constraint) ∙ ap length has ∙ numbered_length 0 cs in
      let next : length ds ≡ 0 + length cs = omega (arith, lens) in
      ap (map the_constraint) (more 0 (length ds) ds d (omega arith))
      ∙ map-append the_constraint old (constraint_of (length ds) d ∷ [])
      ∙ ap (λ es. es ++ the_constraint (constraint_of (length ds) d) ∷ []) has
      ∙ ap (λ e. numbered 0 cs ++ e ∷ []) (is (length ds))
      ∙ ap (λ n. numbered 0 cs ++ record c { id = n } ∷ []) next
      ∙ sym (numbered_append 0 cs (c ∷ []))

  -- a constraint with its full label, where that is plain, is put behind the others
  pub full_added : (m : Labelled) (c : Constraint) (cs : List TheConstraint) (ds : List Draft) (from to : ℕ) (most : ℤ) (l : Words) →
      from ≡ c.from.0 → to ≡ c.to.0 → most ≡ c.most → marks l ≡ full_label m (the_constraint c) → IsPlain (marks l) → HasConstraints cs ds →
      HasConstraints (cs ++ filter_map (with_full_label m) (the_constraint c ∷ [])) (ds ++ record { from = from; to = to; most = most; label = l } ∷ [])
  full_added m c cs ds from to most l from_is to_is most_is label_is plain has =
      let full = full_label m (the_constraint c) in
      let with_full = record (the_constraint c) { label = full } in
      let given : with_full_label m (the_constraint c) ≡ Some with_full =
      ap (λ b. if b then Some with_full else None) (plain_true full (subst IsPlain label_is plain)) in
      subst (λ (o : Option TheConstraint). HasConstraints (cs ++ cons_option o []) (ds ++ record { from = from; to = to; most = most; label = l } ∷ [])) (sym given)
      (constraint_added cs ds with_full (record { from = from; to = to; most = most; label = l }) has
      (λ i. rw (from_is, to_is, most_is, label_is) refl))

  -- the constraint by which x waits until p is known is put behind the others
  pub guard_added : (net : Network) (x j p : ℕ) (l : Words) (cs : List TheConstraint) (ds : List Draft) (from to : ℕ) (most : ℤ) →
      IsMarked (marks l) p → observer_of net p ≡ Some j → from ≡ x → to ≡ j → most ≡ pos 0 -ℤ pos (net.reaction p) → HasConstraints cs ds →
      HasConstraints (cs ++ filter_map (guard net x (marks l)) (p ∷ [])) (ds ++ record { from = from; to = to; most = most; label = l } ∷ [])
  guard_added net x j p l cs ds from to most marked found from_is to_is most_is has =
      let c : TheConstraint = record { id = 0; from = x; to = j; most = pos 0 -ℤ pos (net.reaction p); label = marks l } in
      let given : guard net x (marks l) p ≡ Some c = rw (marked_true (marks l p) marked, found) refl in
      subst (λ (o : Option TheConstraint). HasConstraints (cs ++ cons_option o []) (ds ++ record { from = from; to = to; most = most; label = l } ∷ [])) (sym given)
      (constraint_added cs ds c (record { from = from; to = to; most = most; label = l }) has (λ i. rw (from_is, to_is, most_is) refl))

-- a constraint whose full label isn't plain is left out
pub full_skipped : (m : Labelled) (c : Constraint) (cs : List TheConstraint) (ds : List Draft) (l : Words) →
    ((p : ℕ) → 52 ≤ p → marks l p ≡ Absent) → marks l ≡ full_label m (the_constraint c) → (IsPlain (marks l) → ⊥) → HasConstraints cs ds →
    HasConstraints (cs ++ filter_map (with_full_label m) (the_constraint c ∷ [])) ds
full_skipped m c cs ds l above label_is unplain has =
    let full = full_label m (the_constraint c) in
    let with_full = record (the_constraint c) { label = full } in
    elim (cases_Bool (is_plain full)) [
      | inl set ↦ absurd (unplain (subst IsPlain (sym label_is) (plain_back full (λ p past. ap (λ a. a p) (sym label_is) ∙ above p past) set)))
      | inr clear ↦
          let given : with_full_label m (the_constraint c) ≡ None = ap (λ b. if b then Some with_full else None) clear in
          subst (λ (o : Option TheConstraint). HasConstraints (cs ++ cons_option o []) ds) (sym given)
          (subst (λ es. HasConstraints es ds) (sym (append-nil cs)) has)
    ]

pub guard_skipped : (net : Network) (x p : ℕ) (l : Words) (cs : List TheConstraint) (ds : List Draft) → IsMarked (marks l) p →
    observer_of net p ≡ None → HasConstraints cs ds → HasConstraints (cs ++ filter_map (guard net x (marks l)) (p ∷ [])) ds
guard_skipped net x p l cs ds marked absent has =
    let given : guard net x (marks l) p ≡ None = rw (marked_true (marks l p) marked, absent) refl in
    subst (λ (o : Option TheConstraint). HasConstraints (cs ++ cons_option o []) ds) (sym given)
    (subst (λ es. HasConstraints es ds) (sym (append-nil cs)) has)

-- numbers of which h gives nothing add nothing at the end of a range
skipped : {Y : Type 0} → (h : ℕ → Option Y) (from k : ℕ) → ((q : ℕ) → from ≤ q → q < from + k → h q ≡ None) →
    filter_map h (range_with_len 0 (from + k)) ≡ filter_map h (range_with_len 0 from)
skipped h from zero none = let e : from + 0 ≡ from = omega arith in ap (λ n. filter_map h (range_with_len 0 n)) e
skipped {Y} h from (suc k) none =
    let e : from + suc k ≡ (from + k) + 1 = omega arith in
    let last : h (from + k) ≡ None = none (from + k) (omega arith) (omega arith) in
    ap (λ n. filter_map h (range_with_len 0 n)) e
    ∙ ap (filter_map h) (range_more 0 (from + k) (from + k) (omega arith))
    ∙ filter_map-append h (range_with_len 0 (from + k)) ((from + k) ∷ [])
    ∙ ap (λ (o : Option Y). filter_map h (range_with_len 0 (from + k)) ++ cons_option o []) last
    ∙ append-nil (filter_map h (range_with_len 0 (from + k)))
    ∙ skipped h from k (λ q low high. none q low (omega arith))

unmarked : (net : Network) (x : ℕ) (a : Label) (q : ℕ) → a q ≡ Absent → guard net x a q ≡ None
unmarked net x a q gone = rw gone refl

-- the constraints by which x waits, up to the next proposition p that the label marks
pub guards_turn : (net : Network) (x : ℕ) (a : Label) (cs : List TheConstraint) (from p : ℕ) → from ≤ p →
    ((q : ℕ) → from ≤ q → q < p → a q ≡ Absent) →
    (cs ++ filter_map (guard net x a) (range_with_len 0 from)) ++ filter_map (guard net x a) (p ∷ []) ≡ cs ++ filter_map (guard net x a) (range_with_len 0 (p + 1))
guards_turn net x a cs from p upto none =
    let h = guard net x a in
    let e : from + (p - from) ≡ p = omega arith in
    let same = sym (skipped h from (p - from) (λ q low high. unmarked net x a q (none q low (omega arith)))) ∙ ap (λ n. filter_map h (range_with_len 0 n)) e in
    append_assoc cs (filter_map h (range_with_len 0 from)) (filter_map h (p ∷ []))
    ∙ ap (λ ds. cs ++ (ds ++ filter_map h (p ∷ []))) same
    ∙ ap (λ ds. cs ++ ds) (sym (filter_map-append h (range_with_len 0 p) (p ∷ [])) ∙ ap (filter_map h) (sym (range_more 0 p p (omega arith))))

pub guards_end : (net : Network) (x : ℕ) (a : Label) (cs : List TheConstraint) (from : ℕ) → from ≤ 52 →
    ((q : ℕ) → from ≤ q → a q ≡ Absent) → cs ++ filter_map (guard net x a) (range_with_len 0 from) ≡ cs ++ guards_of net x a
unfolding guards_of
guards_end net x a cs from upto none =
    let h = guard net x a in
    let e : from + (52 - from) ≡ 52 = omega arith in
    ap (λ ds. cs ++ ds) (sym (skipped h from (52 - from) (λ q low high. unmarked net x a q (none q low))) ∙ ap (λ n. filter_map h (range_with_len 0 n)) e)

-- the constraints of the first x time-points, and those of the next one behind them
pub points_turn : (f : ℕ → List TheConstraint) (cs : List TheConstraint) (x : ℕ) →
    (cs ++ flat_map f (range_with_len 0 x)) ++ f x ≡ cs ++ flat_map f (range_with_len 0 (x + 1))
points_turn f cs x =
    append_assoc cs (flat_map f (range_with_len 0 x)) (f x)
    ∙ ap (λ ds. cs ++ (flat_map f (range_with_len 0 x) ++ ds)) (sym (append-nil (f x)))
    ∙ ap (λ ds. cs ++ ds) (sym (flat_map-append f (range_with_len 0 x) (x ∷ [])) ∙ ap (flat_map f) (sym (range_more 0 x x (omega arith))))

-- the first i constraints with their full labels, and the next one behind them
pub full_turn : (m : Labelled) (cs : List Constraint) (i : ℕ) (c : Constraint) → i < length cs → c ≡ slice_index_or cs i c →
    filter_map (with_full_label m) (map the_constraint (take i cs)) ++ filter_map (with_full_label m) (the_constraint c ∷ [])
    ≡ filter_map (with_full_label m) (map the_constraint (take (i + 1) cs))
full_turn m cs i c inside is =
    sym (filter_map-append (with_full_label m) (map the_constraint (take i cs)) (the_constraint c ∷ []))
    ∙ ap (filter_map (with_full_label m)) (sym (map-append the_constraint (take i cs) (c ∷ []))
    ∙ ap (λ d. map the_constraint (take i cs ++ d ∷ [])) is ∙ ap (map the_constraint) (sym (take_more cs i c inside)))

-- n time-points have been handed in so far
pub points_long : (net : Network) (n : ℕ) (points : List TimePoint) → n ≤ count net → HasPoints net n points → length points ≡ n
points_long net n points upto has =
    let observes = ap length has.observes in
    omega (arith, observes, length-map points observed, length-take-le n net.observes upto)

-- the next time-point is put behind the others
pub point_added : (net : Network) (n : ℕ) (points : List TimePoint) (t : TimePoint) → n < count net → HasPoints net n points →
    observed t ≡ slice_index_or net.observes n None → ((p : ℕ) → observed t ≡ Some p → t.reaction ≡ net.reaction p) →
    HasPoints net (n + 1) (points ++ t ∷ [])
point_added net n points t inside has is reacts =
    let P : TimePoint → Type 0 = λ t. (p : ℕ) → observed t ≡ Some p → t.reaction ≡ net.reaction p in
    record {
      observes = map-append observed points (t ∷ []) ∙ ap (λ os. os ++ observed t ∷ []) has.observes
          ∙ ap (λ o. take n net.observes ++ o ∷ []) is ∙ sym (take_more net.observes n None inside);
      reactions = All-append P points (t ∷ []) has.reactions (All-cons P t [] reacts (All-nil P));
    }

pub reaction_set : (points : List TimePoint) (t : TimePoint) (n ticks : ℕ) → n ≡ length points →
    with_reaction n ticks (points ++ t ∷ []) ≡ points ++ record t { reaction = ticks } ∷ []
reaction_set [] t n ticks at = rw at refl
reaction_set (u ∷ us) t zero ticks at = absurd (omega arith)
reaction_set (u ∷ us) t (suc n) ticks at = ap (λ ts. u ∷ ts) (reaction_set us t n ticks (omega arith))

-- the reactions of a builder are those of the network
reaction_if : (ts : List TimePoint) (t : TimePoint) (p : ℕ) (b : Bool) → is_prop p (observed t) ≡ b →
    reaction_of (t ∷ ts) p ≡ (if b then t.reaction else reaction_of ts p)
reaction_if ts t p b e = ap (λ b. if b then t.reaction else reaction_of ts p) e

prop_not : (p : ℕ) (o : Option ℕ) → is_prop p o ≡ false → o ≡ Some p → ⊥
prop_not p None e f = cc
prop_not p (Some q) e f = let same : q ≡ p = cc in grind arith

abbrev NoneObserves : List TimePoint → ℕ → Type 0
NoneObserves ts p = (x : ℕ) → slice_index_or (map observed ts) x None ≡ Some p → ⊥

pub reaction_told : (f : ℕ → ℕ) (ts : List TimePoint) (p : ℕ) → All (λ t. (q : ℕ) → observed t ≡ Some q → t.reaction ≡ f q) ts →
    (NoneObserves ts p → f p ≡ 1) → reaction_of ts p ≡ f p
reaction_told f [] p all tick = sym (tick (λ x e. absurd (cc)))
reaction_told f (t ∷ ts) p all tick =
    let P : TimePoint → Type 0 = λ t. (q : ℕ) → observed t ≡ Some q → t.reaction ≡ f q in
    elim (cases_Bool (is_prop p (observed t))) [
      | inl here ↦ reaction_if ts t p true here ∙ All-head P t ts all p (prop_true p (observed t) here)
      | inr later ↦ reaction_if ts t p false later ∙ reaction_told f ts p (All-tail P t ts all) (λ none. tick (λ x. nowhere (prop_not p (observed t) later) none x))
    ]
  where
    nowhere : (observed t ≡ Some p → ⊥) → NoneObserves ts p → (x : ℕ) → slice_index_or (observed t ∷ map observed ts) x None ≡ Some p → ⊥
    nowhere first rest zero e = first e
    nowhere first rest (suc x) e = rest x e

pub reaction_untold : (ts : List TimePoint) (p : ℕ) → NoneObserves ts p → reaction_of ts p ≡ 1
reaction_untold [] p none = refl
reaction_untold (t ∷ ts) p none = elim (cases_Bool (is_prop p (observed t))) [
  | inl here ↦ absurd (none 0 (prop_true p (observed t) here))
  | inr later ↦ reaction_if ts t p false later ∙ reaction_untold ts p (λ x. none (suc x))
]

-- the reaction of p, given to a time-point that observes p, is that of each proposition that it observes
pub reacts_there : (o : Option Prop) (p : Prop) (f : ℕ → ℕ) (ticks : ℕ) → o ≡ Some p → ticks ≡ f p.index → (q : ℕ) →
    option_map (λ p. p.index) o ≡ Some q → ticks ≡ f q
reacts_there o p f ticks is ticks_are q at =
    let e : Some p.index ≡ Some q = sym (ap (option_map (λ (p : Prop). p.index)) is) ∙ at in
    let same : p.index ≡ q = cc in
    ticks_are ∙ ap f same
