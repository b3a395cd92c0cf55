-- Faults of a builder, and the network of one that has none.
use Rattle.std.proofs.Common.{ℕ, zero, suc, ◌≡◌, ◌≢◌, inl, inr, ◌<◌, ◌≤◌, true, false, cond, Option, Some, None, List, [], ◌∷◌, length, get_or, map, refl, arith}
use Rattle.std.specs.Prelude.{IsSome, option_map}
use Rattle.std.specs.List.{All}
use Rattle.std.proofs.lemmas.Bool.{cases_lt}
use Rattle.std.proofs.lemmas.List.{length-map}
use Rattle.std.proofs.lemmas.List.Elements.{All-map, All-head, All-tail}
use Rattle.cstn_facts.proofs.Pairs.{pairs_map}
use Rattle.cstn_facts.proofs.Places.{some_within}
use Rattle.cstn_label.specs.declared.nodes.NodeId.{NodeId}
use Rattle.cstn_label.specs.declared.marks.Mark.TheVariants.{Absent}
use Rattle.cstn_label.specs.Labels.{Label, IsPlain}
use Rattle.cstn_label.specs.Read.{marks}
use Rattle.cstn_label.specs.declared.props.Prop.{Prop}
use Rattle.cstn_net.specs.Limits.{most_reaction}
use Rattle.cstn_net.specs.declared.points.TimePoint.{TimePoint}
use Rattle.cstn_net.specs.declared.errors.NetError.{NetError}
use Rattle.cstn_net.specs.declared.errors.NetError.TheVariants.{TooManyNodes, NoOrigin, TooManyConstraints, DeadlineRange, ValueRange, NotObserved, TwoObservers, NotPlain, ReactionRange, Memory}
use Rattle.cstn_net.specs.Networks.{IsConstraint, IsValue, IsWellFormed, is_prop}
use Rattle.cstn_net.specs.Read.{observed, reaction_of, the_constraint}
use Rattle.cstn_net.specs.Observers.{KnowsObservers, IsUnseen}
use Rattle.cstn_net.specs.Faults.{IsFirst}
use Rattle.cstn_net.specs.Drafts.{BuilderParts, LacksObserver, HasTwins, IsLeastOfFirst, IsDraftAmong, IsSized, IsSound, HasNetFault, HasReaction, net_number, observations, constraints_from}
use Rattle.cstn_net.proofs.ObserverLemmas.{prop_below}
use Rattle.cstn_net.proofs.ChangeLemmas.{net_of}
use Rattle.cstn_net.proofs.DraftLemmas.{constraints_length, all_constraints, ids_ascend}

-- what holds nowhere has no first place
no_first : {X : Type 0} (P : X → Type 0) (xs : List X) (k : ℕ) → IsFirst P xs k → All (λ x. P x → ⊥) xs → ⊥
no_first P [] k first none = let inside = first.inside in omega arith
no_first P (x ∷ xs) k first none = none k x first.inside (first.here x)

-- what holds everywhere fails at no first place
never_fails : {X : Type 0} (P : X → Type 0) (xs : List X) (k : ℕ) → IsFirst (λ x. P x → ⊥) xs k → All P xs → ⊥
never_fails P xs k first all = no_first (λ x. P x → ⊥) xs k first (λ i d inside fails. fails (all i d inside))

-- each fault of a builder without the faults of N1 to N4 has number k or higher, where those from N5 to below k are ruled out
pub lowest_from : (b : BuilderParts) (k : ℕ) → IsSized b → k ≤ 9 → (5 < k → All (λ d. IsValue d.most) b.drafts) →
    (6 < k → All (λ d. (q : ℕ) → LacksObserver (observations b) (marks d.label) q → ⊥) b.drafts) →
    (7 < k → HasTwins (observations b) (length b.points) → ⊥) → (8 < k → All (λ d. IsPlain (marks d.label)) b.drafts) → (f : NetError) → HasNetFault b f → k ≤ net_number f
lowest_from b k sized upto values named single plain TooManyNodes has = let few = sized.few_points in absurd (omega arith)
lowest_from b k sized upto values named single plain NoOrigin has = let origin = sized.origin in absurd (omega arith)
lowest_from b k sized upto values named single plain TooManyConstraints has =
    let few = sized.few_constraints in absurd (omega arith)
lowest_from b k sized upto values named single plain (DeadlineRange deadline) has =
    let in_time = sized.in_time in let late = has.1 in absurd (omega arith)
lowest_from b k sized upto values named single plain (ValueRange constraint) has = elim (cases_lt 5 k) [
  | inl looked ↦ absurd (never_fails (λ d. IsValue d.most) b.drafts constraint has (values looked))
  | inr below ↦ below
]
lowest_from b k sized upto values named single plain (NotObserved prop) has = elim (cases_lt 6 k) [
  | inl looked ↦ absurd (no_first (λ d. (q : ℕ) × LacksObserver (observations b) (marks d.label) q) b.drafts has.place has.first (λ i d inside h. named looked i d inside h.0 h.1))
  | inr below ↦ below
]
lowest_from b k sized upto values named single plain (TwoObservers prop first second) has = elim (cases_lt 7 k) [
  | inl looked ↦
      let within = some_within (observations b) second.0 prop.index has.other in
      let many = length-map b.points observed in
      absurd (single looked (record {
        x = first.0;
        y = second.0;
        p = prop.index;
        ordered = has.ordered;
        before = omega arith;
        one = has.one;
        other = has.other;
      }))
  | inr below ↦ below
]
lowest_from b k sized upto values named single plain (NotPlain constraint) has = elim (cases_lt 8 k) [
  | inl looked ↦ absurd (never_fails (λ d. IsPlain (marks d.label)) b.drafts constraint has (plain looked))
  | inr below ↦ below
]
lowest_from b k sized upto values named single plain (ReactionRange node) has = upto
lowest_from b k sized upto values named single plain (Memory e) has = absurd has

-- a builder that is sized and sound has no fault
pub no_fault : (b : BuilderParts) → IsSized b → IsSound b → (f : NetError) → HasNetFault b f → ⊥
no_fault b sized sound f has = go f has (lowest_from b 9 sized (omega arith) (λ h. sound.values) (λ h. sound.observed) (λ h. sound.no_twins) (λ h. sound.plain) f has)
  where
    go : (f : NetError) → HasNetFault b f → 9 ≤ net_number f → ⊥
    go (ReactionRange node) has at = never_fails HasReaction b.points node.0 has sound.timely
    go (NotPlain constraint) has at = omega arith
    go TooManyNodes has at = omega arith
    go NoOrigin has at = omega arith
    go TooManyConstraints has at = omega arith
    go (DeadlineRange deadline) has at = omega arith
    go (ValueRange constraint) has at = omega arith
    go (NotObserved prop) has at = omega arith
    go (TwoObservers prop first second) has at = omega arith
    go (Memory e) has at = omega arith

module _ (observes : List (Option ℕ)) (table : List (Option NodeId)) (h : KnowsObservers observes table) where
  pub unseen_lacks : (a : Label) (q : ℕ) → IsUnseen table a q → LacksObserver observes a q
  unseen_lacks a q u = record {
    named = u.named;
    unobserved = λ x e. let found = h.first q x e in let there = found.1 in let unseen = u.unseen in cc;
  }

  pub lacks_unseen : (a : Label) (q : ℕ) → LacksObserver observes a q → IsUnseen table a q
  lacks_unseen a q l = record { named = l.named; unseen = go (get_or table q None) refl }
    where
      go : (o : Option NodeId) → get_or table q None ≡ o → get_or table q None ≡ None
      go None e = e
      go (Some y) e = absurd (l.unobserved y.0 (h.right q y e))

  -- a proposition that a label names is observed, where the label doesn't lack an observer for it
  pub seen_or_lacks : (a : Label) (q : ℕ) → a q ≢ Absent → (LacksObserver observes a q → ⊥) →
      (x : ℕ) × (get_or observes x None ≡ Some q)
  seen_or_lacks a q named none = go (get_or table q None) refl
    where
      go : (o : Option NodeId) → get_or table q None ≡ o → (x : ℕ) × (get_or observes x None ≡ Some q)
      go None e = absurd (none (unseen_lacks a q (record { named = named; unseen = e })))
      go (Some y) e = (y.0, h.right q y e)

-- facts that imply each other have the same least number at the first place
pub least_alike : {X : Type 0} (P Q : ℕ → X → Type 0) → ((q : ℕ) (x : X) → P q x → Q q x) →
    ((q : ℕ) (x : X) → Q q x → P q x) → (xs : List X) (p : ℕ) → IsLeastOfFirst P xs p → IsLeastOfFirst Q xs p
least_alike P Q there back xs p h = record {
  place = h.place;
  first = record {
    inside = h.first.inside;
    here = λ d. let found = h.first.here d in (found.0, there found.0 _ found.1);
    before = λ k before found. h.first.before k before (λ d. let one = found d in (one.0, back one.0 _ one.1));
  };
  has = λ d. there p _ (h.has d);
  least = λ q below d found. h.least q below d (back q _ found);
}

pub letters_below : (points : List TimePoint) (x p : ℕ) → get_or (map observed points) x None ≡ Some p → p < 52
letters_below [] x p e = cc
letters_below (t ∷ ts) zero p e = prop_below t.observes p e
letters_below (t ∷ ts) (suc x) p e = letters_below ts x p e

observes_some : (o : Option Prop) (q : ℕ) → option_map (λ p. p.index) o ≡ Some q → IsSome o
observes_some None q e = cc
observes_some (Some p) q e = refl

timely_first : (t : TimePoint) (p n : ℕ) → HasReaction t → (0 < n) × (n ≤ most_reaction) → (o : Option ℕ) → observed t ≡ o →
    (0 < cond (is_prop p o) t.reaction n) × (cond (is_prop p o) t.reaction n ≤ most_reaction)
timely_first t p n timely rest None e = rest
timely_first t p n timely rest (Some q) e =
    elim (is_prop p (Some q)) as (λ b. (0 < cond b t.reaction n) × (cond b t.reaction n ≤ most_reaction)) [
      | true ↦ timely (observes_some t.observes q e)
      | false ↦ rest
    ]

-- where each time-point that observes has a reaction in range, each proposition has one in range
pub timely_reaction : (points : List TimePoint) (p : ℕ) → All HasReaction points → (0 < reaction_of points p) × (reaction_of points p ≤ most_reaction)
timely_reaction [] p all = (omega arith, omega arith)
timely_reaction (t ∷ ts) p all =
    timely_first t p (reaction_of ts p) (All-head HasReaction t ts all) (timely_reaction ts p (All-tail HasReaction t ts all)) (observed t) refl

-- the network of a builder that is sized and sound is well-formed
pub made_well_formed : (b : BuilderParts) (table : List (Option NodeId)) → KnowsObservers (observations b) table →
    IsSized b → IsSound b → All (IsDraftAmong (length b.points)) b.drafts →
    IsWellFormed (net_of b.deadline b.points (constraints_from 0 b.drafts))
made_well_formed b table h sized sound among =
    let net = net_of b.deadline b.points (constraints_from 0 b.drafts) in
    let many = length-map b.points observed in
    let long = constraints_length 0 b.drafts in
    let same = length-map (constraints_from 0 b.drafts) the_constraint in
    let few_points = sized.few_points in
    let origin = sized.origin in
    let few_constraints = sized.few_constraints in
    let within : (x p : ℕ) → get_or (observations b) x None ≡ Some p → x < length b.points = λ x p e.
    let inside = some_within (observations b) x p e in omega arith in
    let twins : (x y p : ℕ) → x < y → get_or (observations b) x None ≡ Some p → get_or (observations b) y None ≡ Some p → ⊥ =
    λ x y p lt one other. sound.no_twins (record { x = x; y = y; p = p; ordered = lt; before = within y p other; one = one; other = other }) in
    record {
      network = record {
        origin = omega arith;
        one_observer = λ x y p o q. elim (cases_lt x y) [
          | inl before ↦ absurd (twins x y p before o.what q.what)
          | inr upto ↦ elim (cases_lt y x) [
            | inl after ↦ absurd (twins y x p after q.what o.what)
            | inr downto ↦ omega arith
          ]
        ];
        reacts = λ x p o. (timely_reaction b.points p sound.timely).0;
        constraints = All-map (IsConstraint net) the_constraint (constraints_from 0 b.drafts)
            (all_constraints (λ c. IsConstraint net (the_constraint c)) 0 b.drafts (λ k d inside id.
            let ends = among k d inside in
            let from = ends.0 in
            let to = ends.1 in
            record {
              from = omega arith;
              to = omega arith;
              plain = sound.plain k d inside;
              observed = λ p named.
                  let seen = seen_or_lacks (observations b) table h (marks (get_or b.drafts k d).label) p named (sound.observed k d inside p) in
                  (seen.0, record { what = seen.1 });
            }));
      };
      few_points = omega arith;
      letters = λ x p o. letters_below b.points x p o.what;
      soon = λ x p o. (timely_reaction b.points p sound.timely).1;
      few_constraints = omega arith;
      ascending = pairs_map (λ b c. b.id < c.id) the_constraint (constraints_from 0 b.drafts) (ids_ascend 0 b.drafts);
      values = All-map (λ c. IsValue c.most) the_constraint (constraints_from 0 b.drafts)
          (all_constraints (λ c. IsValue c.most) 0 b.drafts (λ k d inside id. sound.values k d inside));
      in_time = sized.in_time;
    }
