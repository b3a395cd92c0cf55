-- What has no lowest fault has none, and a builder without one makes a well-formed network.
use Rattle.std.proofs.Common.{◌≡◌, ◌≢◌, ℕ, zero, suc, ◌+◌, ◌<◌, ◌≤◌, List, length, map, take, get_or, refl, ◌∙◌, subst, arith, Option, None, inl, inr}
use Rattle.std.specs.Prelude.{ℤ, pos, negsuc, replicate}
use Rattle.std.specs.List.{All, HoldsAt}
use Rattle.std.proofs.lemmas.Bool.{cases_lt}
use Rattle.std.proofs.lemmas.Int.{ints}
use Rattle.std.proofs.lemmas.List.{get_or_default, take_all}
use Rattle.cstn_label.specs.declared.labels.Label.{Label as Lent}
use Rattle.cstn_label.specs.declared.marks.Mark.{Mark}
use Rattle.cstn_label.specs.declared.marks.Mark.TheVariants.{Absent, Yes, No, Unknown}
use Rattle.cstn_label.specs.declared.nodes.NodeId.{NodeId}
use Rattle.cstn_label.specs.Labels.{Label, IsPlain, IsMarkPlain}
use Rattle.cstn_label.specs.Read.{marks}
use Rattle.cstn_label.proofs.ReadLemmas.{unmarked_above}
use Rattle.cstn_net.specs.Limits.{most_time_points, most_constraints, most_deadline, most_reaction, most_value}
use Rattle.cstn_net.specs.declared.drafts.Draft.{Draft}
use Rattle.cstn_net.specs.declared.points.TimePoint.{TimePoint}
use Rattle.cstn_net.specs.declared.errors.NetError.{NetError}
use Rattle.cstn_net.specs.declared.errors.NetError.TheVariants.{TooManyNodes, NoOrigin, TooManyConstraints, DeadlineRange, ValueRange, NotObserved, TwoObservers, NotPlain, ReactionRange}
use Rattle.cstn_net.specs.Faults.{IsFirstBelow, IsFirst, IsLowestFault}
use Rattle.cstn_net.specs.Networks.{IsValue, IsWellFormed}
use Rattle.cstn_net.specs.Drafts.{BuilderParts, HasReaction, HasTwins, IsSized, IsSound, IsDraftAmong, LacksObserver, HasNetFault, IsLowestNetFault, net_number, observations, constraints_from}
use Rattle.cstn_net.specs.Observers.{KnowsObservers, noted}
use Rattle.cstn_net.specs.Read.{observed}
use Rattle.cstn_net.proofs.ObserverLemmas.{no_observers, noted_length, observers_turn}
use Rattle.cstn_net.proofs.ChangeLemmas.{net_of}
use Rattle.cstn_net.proofs.FaultLemmas.{letters_below, made_well_formed}

-- what has no lowest fault has none
pub no_faults : {E : Type 0} (HasFault : E → Type 0) (number : E → ℕ) → ((e : E) → IsLowestFault HasFault number e → ⊥) → (n : ℕ) (e : E) → number e ≤ n → HasFault e → ⊥
no_faults HasFault number none zero e low has = none e (record { has = has; lowest = λ f other. omega arith })
no_faults HasFault number none (suc n) e low has = none e (record {
  has = has;
  lowest = λ f other. elim (cases_lt (number f) (number e)) [
    | inl lower ↦ absurd (no_faults HasFault number none n f (omega arith) other)
    | inr upto ↦ upto
  ];
})

-- what holds at no first place holds nowhere
pub none_below : (n : ℕ) (P : ℕ → Type 0) → ((x : ℕ) → IsFirstBelow n P x → ⊥) → (k x : ℕ) → x < k → x < n → P x → ⊥
none_below n P none zero x below inside here = omega arith
none_below n P none (suc k) x below inside here =
    none x (record { inside = inside; here = here; before = λ y before held. none_below n P none k y (omega arith) (omega arith) held })

pub least_none : (P : ℕ → Type 0) → ((q : ℕ) → P q → ((j : ℕ) → j < q → P j → ⊥) → ⊥) → (k q : ℕ) → q < k → P q → ⊥
least_none P none zero q below here = omega arith
least_none P none (suc k) q below here = none q here (λ j before held. least_none P none k j (omega arith) held)

holds_at : {X : Type 0} (P : X → Type 0) (xs : List X) (k : ℕ) (d : X) → k < length xs → P (get_or xs k d) → HoldsAt P xs k
holds_at P xs k d inside here = λ e. subst P (get_or_default xs k d e inside) here

-- what fails at no first place holds everywhere
all_by : {X : Type 0} (P : X → Type 0) → ((x : X) → ((P x → ⊥) → ⊥) → P x) → (xs : List X) → ((k : ℕ) → IsFirst (λ x. P x → ⊥) xs k → ⊥) → All P xs
all_by P stable xs none = λ k d inside.
    stable (get_or xs k d) (λ no. none_below (length xs) (HoldsAt (λ x. P x → ⊥) xs) none (suc k) k (omega arith) inside (holds_at (λ x. P x → ⊥) xs k d inside no))

stable_value : (v : ℤ) → ((IsValue v → ⊥) → ⊥) → IsValue v
stable_value (pos n) h = elim (cases_lt most_value n) [
  | inl high ↦ absurd (h (λ is. omega (arith, ints, is.1)))
  | inr low ↦ (omega (arith, ints), omega (arith, ints))
]
stable_value (negsuc n) h = elim (cases_lt 999999999 n) [
  | inl high ↦ absurd (h (λ is. omega (arith, ints, is.0)))
  | inr low ↦ (omega (arith, ints), omega (arith, ints))
]

stable_mark : (m : Mark) → ((IsMarkPlain m → ⊥) → ⊥) → IsMarkPlain m
stable_mark Absent h = tt
stable_mark Yes h = tt
stable_mark No h = tt
stable_mark Unknown h = h (λ no. no)

pub stable_plain : (a : Label) → ((IsPlain a → ⊥) → ⊥) → IsPlain a
stable_plain a h = λ p. stable_mark (a p) (λ no. h (λ is. no (is p)))

pub stable_absent : (m : Mark) → ((m ≡ Absent → ⊥) → ⊥) → m ≡ Absent
stable_absent Absent h = refl
stable_absent Yes h = absurd (h (λ e. cc))
stable_absent No h = absurd (h (λ e. cc))
stable_absent Unknown h = absurd (h (λ e. cc))

stable_reaction : (t : TimePoint) → ((HasReaction t → ⊥) → ⊥) → HasReaction t
stable_reaction t h = λ some. elim (cases_lt 0 t.reaction) [
  | inl later ↦ elim (cases_lt most_reaction t.reaction) [
    | inl high ↦ absurd (h (λ is. let both = is some in omega (arith, both.1)))
    | inr low ↦ (later, low)
  ]
  | inr at_once ↦ absurd (h (λ is. let both = is some in omega (arith, both.0)))
]

at_most : (m n : ℕ) → (m < n → ⊥) → n ≤ m
at_most m n h = elim (cases_lt m n) [
  | inl more ↦ absurd (h more)
  | inr upto ↦ upto
]

at_least_one : (n : ℕ) → (n ≡ 0 → ⊥) → 0 < n
at_least_one zero h = absurd (h refl)
at_least_one (suc n) h = omega arith

pub letter_of_label : (a : Lent) (q : ℕ) → marks a q ≢ Absent → q < 52
letter_of_label a q named = elim (cases_lt q 52) [
  | inl below ↦ below
  | inr above ↦ absurd (named (unmarked_above a q above))
]

-- A builder without a lowest fault.
module _ (b : BuilderParts) (none : (e : NetError) → IsLowestNetFault b e → ⊥) where
  faultless : (e : NetError) → HasNetFault b e → ⊥
  faultless e has = no_faults (HasNetFault b) net_number none (net_number e) e (omega arith) has

  sized : IsSized b
  sized = record {
    few_points = at_most most_time_points (length b.points) (faultless TooManyNodes);
    origin = at_least_one (length b.points) (faultless NoOrigin);
    few_constraints = at_most most_constraints (length b.drafts) (faultless TooManyConstraints);
    in_time = at_most most_deadline b.deadline (λ late. faultless (DeadlineRange b.deadline) (refl, late));
  }

  abbrev Lacks : ℕ → Draft → Type 0
  Lacks q d = LacksObserver (observations b) (marks d.label) q

  first_lacking : (d : Draft) (place : ℕ) → IsFirst (λ x. (q : ℕ) × Lacks q x) b.drafts place → ⊥
  first_lacking d place first =
      let found = first.here d in
      least_none (λ q. Lacks q (get_or b.drafts place d))
      (λ q here before. faultless (NotObserved (record { index = q; in_range = letter_of_label (get_or b.drafts place d).label q here.named }))
      (record {
        place = place;
        first = first;
        has = holds_at (Lacks q) b.drafts place d first.inside here;
        least = λ j below. holds_at (λ x. Lacks j x → ⊥) b.drafts place d first.inside (before j below);
      }))
      (suc found.0) found.0 (omega arith) found.1

  no_twins : (n : ℕ) → HasTwins (observations b) n → ⊥
  no_twins zero t = let before = t.before in omega arith
  no_twins (suc n) t =
      let before = t.before in
      faultless (TwoObservers (record { index = t.p; in_range = letters_below b.points t.x t.p t.one }) (record { 0 = t.x }) (record { 0 = t.y }))
      (record {
        ordered = t.ordered;
        one = t.one;
        other = t.other;
        none_before = λ u. let earlier = u.before in no_twins n (record { x = u.x; y = u.y; p = u.p; ordered = u.ordered; before = omega arith; one = u.one; other = u.other });
      })

  sound : IsSound b
  sound = record {
    values = all_by (λ d. IsValue d.most) (λ d. stable_value d.most) b.drafts (λ k. faultless (ValueRange k));
    observed = λ k d inside q lacks.
        none_below (length b.drafts) (HoldsAt (λ x. (q : ℕ) × Lacks q x) b.drafts) (first_lacking d) (suc k) k (omega arith) inside
        (holds_at (λ x. (q : ℕ) × Lacks q x) b.drafts k d inside (q, lacks));
    no_twins = no_twins (length b.points);
    plain = all_by (λ d. IsPlain (marks d.label)) (λ d. stable_plain (marks d.label)) b.drafts (λ k. faultless (NotPlain k));
    timely = all_by HasReaction stable_reaction b.points (λ k. faultless (ReactionRange (record { 0 = k })));
  }

record HasTable (points : List TimePoint) : Type 0 where
  table : List (Option NodeId)
  long : length table ≡ 52
  knows : KnowsObservers (map observed points) table

-- there is a table of the observers
tables : (points : List TimePoint) (i : ℕ) → i ≤ length points → HasTable (take i points)
tables points zero within = record { table = replicate 52 None; long = refl; knows = no_observers }
tables points (suc i) within =
    let old = tables points i (omega arith) in
    let inside : i < length points = omega arith in
    let other : TimePoint = record { observes = None; reaction = 1 } in
    let t : TimePoint = get_or points i other in
    let x : NodeId = record { 0 = i } in
    let new : List (Option NodeId) = noted old.table x (observed t) in
    let long : length new ≡ 52 = noted_length old.table x (observed t) ∙ old.long in
    let one_more : i + 1 ≡ suc i = omega arith in
    record {
      table = new;
      long = long;
      knows = subst (λ n. KnowsObservers (map observed (take n points)) new) one_more
          (observers_turn points old.table new i x t inside refl (get_or_default points i other t inside) long old.knows refl);
    }

-- the network of a builder without a lowest fault is well-formed
pub made_good : (b : BuilderParts) → All (IsDraftAmong (length b.points)) b.drafts → ((e : NetError) → IsLowestNetFault b e → ⊥) → IsWellFormed (net_of b.deadline b.points (constraints_from 0 b.drafts))
made_good b among none =
    let table : HasTable b.points = subst HasTable (take_all (length b.points) b.points (omega arith)) (tables b.points (length b.points) (omega arith)) in
    made_well_formed b table.table table.knows (sized b none) (sound b none) among
