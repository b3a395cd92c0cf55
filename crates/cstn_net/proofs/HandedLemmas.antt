-- A builder that was handed a well-formed network has no fault.
use Rattle.std.proofs.Common.{refl, Option, ◌≤◌, ℕ, ◌≡◌, ◌+◌, ◌<◌, inl, inr, Some, None, List, [], ◌∷◌, length, ap, sym, subst, arith, ◌∙◌}
use Rattle.std.specs.Prelude.{map, ℤ, slice_index_or, IsSome, option_map}
use Rattle.std.specs.List.{All}
use Rattle.std.proofs.lemmas.List.{length-map, get_or_default}
use Rattle.std.proofs.lemmas.List.Elements.{All-cons, All-nil, All-head, All-tail, All-weaker}
use Rattle.cstn_label.specs.Labels.{Label, IsPlain}
use Rattle.cstn_label.specs.Read.{marks}
use Rattle.cstn_net.specs.Limits.{most_reaction}
use Rattle.cstn_net.specs.declared.drafts.Draft.{Draft}
use Rattle.cstn_net.specs.declared.errors.NetError.{NetError}
use Rattle.cstn_net.specs.declared.errors.NetError.TheVariants.{TooManyNodes, NoOrigin, TooManyConstraints, DeadlineRange, ValueRange, NotObserved, TwoObservers, NotPlain, ReactionRange, Memory}
use Rattle.cstn_net.specs.Networks.{Network, IsConstraint, IsOnObserved, IsValue, IsWellFormed, Observes}
use Rattle.cstn_net.specs.declared.points.TimePoint.{TimePoint}
use Rattle.cstn_label.specs.declared.props.Prop.{Prop}
use Rattle.cstn_net.specs.Read.{observed, the_constraint, reaction_of}
use Rattle.cstn_net.specs.Drafts.{BuilderParts, HasNetFault, IsNetRefusal, HasReaction, LacksObserver, observations, net_number, constraints_from, constraint_of}
use Rattle.cstn_net.specs.Faults.{IsFirst}
use Rattle.cstn_net.specs.Handed.{IsHanded}
use Rattle.cstn_net.proofs.DraftLemmas.{constraints_length}
use Rattle.cstn_net.proofs.ObserverLemmas.{reaction_at, observed_at}

-- what holds of each draft's constraint holds of each draft
drafts_each : (P : ℤ → Label → Type 0) (k : ℕ) (ds : List Draft) → All (λ c. P c.most c.label) (map the_constraint (constraints_from k ds)) →
    All (λ d. P d.most (marks d.label)) ds
drafts_each P k [] all = All-nil (λ d. P d.most (marks d.label))
drafts_each P k (d ∷ ds) all =
    let rest = map the_constraint (constraints_from (k + 1) ds) in
    All-cons (λ d. P d.most (marks d.label)) d ds (All-head (λ c. P c.most c.label) (the_constraint (constraint_of k d)) rest all)
    (drafts_each P (k + 1) ds (All-tail (λ c. P c.most c.label) (the_constraint (constraint_of k d)) rest all))

-- where P holds of all drafts and excludes Q, Q holds of none of them
nowhere : (P Q : Draft → Type 0) (ds : List Draft) (k : ℕ) → k < length ds → All P ds → ((d : Draft) → P d → Q d → ⊥) →
    ((d : Draft) → Q (slice_index_or ds k d)) → ⊥
nowhere P Q [] k inside all apart fails = absurd (omega arith)
nowhere P Q (d ∷ ds) k inside all apart fails = apart (slice_index_or (d ∷ ds) k d) (all k d inside) (fails d)

observes_one : (o : Option Prop) → IsSome o → (p : ℕ) × (option_map (λ p. p.index) o ≡ Some p)
observes_one None some = cc
observes_one (Some p) some = (p.index, refl)

-- `HasReaction` can't fail at a place whose time-point has a reaction in range whenever it observes something
nowhere_timely : (points : List TimePoint) (k : ℕ) → k < length points → ((t : TimePoint) → HasReaction (slice_index_or points k t) → ⊥) →
    ((t : TimePoint) → t ≡ slice_index_or points k t → (p : ℕ) → slice_index_or (map observed points) k None ≡ Some p → (0 < t.reaction) × (t.reaction ≤ most_reaction)) → ⊥
nowhere_timely [] k inside fails timely = absurd (omega arith)
nowhere_timely (u ∷ us) k inside fails timely =
    let t = slice_index_or (u ∷ us) k u in
    let is_t : t ≡ slice_index_or (u ∷ us) k t = get_or_default (u ∷ us) k u (slice_index_or (u ∷ us) k u) inside in
    fails u (λ some. let one = observes_one t.observes some in
    timely t is_t one.0 (observed_at (u ∷ us) k t inside is_t ∙ one.1))

-- each time-point that was handed in has a reaction in range, since it is the only observer of what it observes
untimely_nowhere : (b : BuilderParts) (net : Network) → IsWellFormed net → IsHanded b net → (k : ℕ) → IsFirst (λ t. HasReaction t → ⊥) b.points k → ⊥
untimely_nowhere b net good handed k f =
    nowhere_timely b.points k f.inside f.here (λ t is_t p is.
    let at : (x : ℕ) → slice_index_or (observations b) x None ≡ Some p → Observes net x p =
    λ x is. record { what = sym (ap (λ os. slice_index_or os x None) handed.observes) ∙ is } in
    let only : (y : ℕ) → slice_index_or (observations b) y None ≡ Some p → k ≤ y =
    λ y there. let same = good.network.one_observer k y p (at k is) (at y there) in omega arith in
    let ticks : t.reaction ≡ net.reaction p = ap (λ t. t.reaction) is_t ∙ sym (reaction_at b.points p k t is only) ∙ handed.reaction p in
    let some = good.network.reacts k p (at k is) in
    let soon = good.soon k p (at k is) in
    (omega (arith, ticks, some), omega (arith, ticks, soon)))

-- where each time-point has a reaction of one tick, each proposition has a reaction of one tick
pub prompt_reaction : (points : List TimePoint) → All (λ t. t.reaction ≡ 1) points → (p : ℕ) → reaction_of points p ≡ 1
prompt_reaction [] all p = refl
prompt_reaction (t ∷ ts) all p =
    let head = All-head (λ t. t.reaction ≡ 1) t ts all in
    let rest = prompt_reaction ts (All-tail (λ t. t.reaction ≡ 1) t ts all) p in
    grind arith

-- where each time-point has a reaction of one tick, no reaction is out of range
pub prompt_is_timely : (points : List TimePoint) → All (λ t. t.reaction ≡ 1) points → All HasReaction points
prompt_is_timely points all = All-weaker (λ t. t.reaction ≡ 1) HasReaction (λ t one some. (omega arith, omega arith)) points all

pub no_fault : (b : BuilderParts) (net : Network) → IsWellFormed net → IsHanded b net → (e : NetError) → HasNetFault b e → ⊥
no_fault b net good handed TooManyNodes f = let few = good.few_points in let len = ap length handed.observes in omega (arith, f, few, len, length-map b.points observed)
no_fault b net good handed NoOrigin f = let some = good.network.origin in let len = ap length handed.observes in omega (arith, f, some, len, length-map b.points observed)
no_fault b net good handed TooManyConstraints f =
    let few = good.few_constraints in
    let len = ap length handed.constraints in
    omega (arith, f, few, len, length-map (constraints_from 0 b.drafts) the_constraint, constraints_length 0 b.drafts)
no_fault b net good handed (DeadlineRange deadline) f = let in_time = good.in_time in let same = handed.deadline in omega (arith, f.1, in_time, same)
no_fault b net good handed (ValueRange constraint) f =
    nowhere (λ d. IsValue d.most) (λ d. IsValue d.most → ⊥) b.drafts constraint f.inside
    (drafts_each (λ most a. IsValue most) 0 b.drafts (subst (All (λ c. IsValue c.most)) (sym handed.constraints) good.values))
    (λ d yes no. no yes) f.here
no_fault b net good handed (NotPlain constraint) f =
    nowhere (λ d. IsPlain (marks d.label)) (λ d. IsPlain (marks d.label) → ⊥) b.drafts constraint f.inside
    (drafts_each (λ most a. IsPlain a) 0 b.drafts (subst (All (λ c. IsPlain c.label)) (sym handed.constraints)
    (All-weaker (IsConstraint net) (λ c. IsPlain c.label) (λ c h. h.plain) net.constraints good.network.constraints)))
    (λ d yes no. no yes) f.here
no_fault b net good handed (NotObserved prop) f =
    nowhere (λ d. IsOnObserved net (marks d.label)) (λ d. LacksObserver (observations b) (marks d.label) prop.index) b.drafts f.place f.first.inside
    (drafts_each (λ most a. IsOnObserved net a) 0 b.drafts (subst (All (λ c. IsOnObserved net c.label)) (sym handed.constraints)
    (All-weaker (IsConstraint net) (λ c. IsOnObserved net c.label) (λ c h. h.observed) net.constraints good.network.constraints)))
    (λ d seen lacks. let o = seen prop.index lacks.named in
    lacks.unobserved o.0 (ap (λ os. slice_index_or os o.0 None) handed.observes ∙ o.1.what)) f.has
no_fault b net good handed (TwoObservers prop first second) f =
    let at : (x p : ℕ) → slice_index_or (observations b) x None ≡ Some p → Observes net x p =
    λ x p is. record { what = sym (ap (λ os. slice_index_or os x None) handed.observes) ∙ is } in
    let same = good.network.one_observer first.0 second.0 prop.index (at first.0 prop.index f.one) (at second.0 prop.index f.other) in
    let before = f.ordered in
    absurd (omega (arith, same, before))
no_fault b net good handed (ReactionRange node) f = untimely_nowhere b net good handed node.0 f
no_fault b net good handed (Memory e) f = f

-- a builder that was handed a well-formed network is refused for want of memory alone
pub refused_for_memory : (b : BuilderParts) (net : Network) → IsWellFormed net → IsHanded b net → (e : NetError) → IsNetRefusal b e → net_number e ≡ 0
refused_for_memory b net good handed e (inl memory) = memory
refused_for_memory b net good handed e (inr fault) = absurd (no_fault b net good handed e fault.has)
