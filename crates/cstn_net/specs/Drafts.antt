-- What a builder holds, and what keeps it from being a network.
use Rattle.std.specs.Prelude.{ℕ, zero, suc, ◌≡◌, ◌≢◌, ◌<◌, ◌≤◌, ◌+◌, List, [], ◌∷◌, ◌++◌, length, map, Option, None, Some, IsSome, slice_index_or}
use Rattle.std.specs.List.{All, HoldsAt}
use Rattle.cstn_label.specs.declared.marks.Mark.TheVariants.{Absent}
use Rattle.cstn_label.specs.Labels.{Label, IsPlain}
use Rattle.cstn_label.specs.Read.{marks}
use Rattle.cstn_net.specs.Limits.{most_time_points, most_constraints, most_deadline, most_reaction}
use Rattle.cstn_net.specs.declared.constraints.Constraint.{Constraint}
use Rattle.cstn_net.specs.declared.points.TimePoint.{TimePoint}
use Rattle.cstn_net.specs.declared.drafts.Draft.{Draft}
use Rattle.cstn_net.specs.declared.errors.NetError.{NetError}
use Rattle.cstn_net.specs.declared.errors.NetError.TheVariants.{TooManyNodes, NoOrigin, TooManyConstraints, DeadlineRange, ValueRange, NotObserved, TwoObservers, NotPlain, ReactionRange, Memory}
use Rattle.cstn_net.specs.Networks.{IsValue}
use Rattle.cstn_net.specs.Read.{observed}
use Rattle.cstn_label.specs.declared.nodes.NodeId.{NodeId}
use Rattle.cstn_net.specs.Observers.{IsUnseen}
use Rattle.cstn_net.specs.Faults.{IsFirst, IsLowestFault, IsRefusal}

-- the deadline, the time-points and the constraints that were handed in
pub record BuilderParts : Type 0 where
  pub deadline : ℕ
  pub points : List TimePoint
  pub drafts : List Draft

-- what each time-point observes
abbrev pub observations : BuilderParts → List (Option ℕ)
observations b = map observed b.points

-- the time-points, with the reaction of number `node` set to `ticks`
abbrev pub with_reaction : ℕ → ℕ → List TimePoint → List TimePoint
with_reaction node ticks [] = []
with_reaction zero ticks (t ∷ ts) = record t { reaction = ticks } ∷ ts
with_reaction (suc node) ticks (t ∷ ts) = t ∷ with_reaction node ticks ts

-- the builder, once it was handed this constraint after its own
abbrev pub with_draft : Draft → BuilderParts → BuilderParts
with_draft d b = record b { drafts = b.drafts ++ (d ∷ []) }

-- the constraint of a draft, under its id
abbrev pub constraint_of : ℕ → Draft → Constraint
constraint_of id d = record { id = id; from = record { 0 = d.from }; to = record { 0 = d.to }; most = d.most; label = d.label }

-- the constraints of drafts in their order, under ids from k on
abbrev pub constraints_from : ℕ → List Draft → List Constraint
constraints_from k [] = []
constraints_from k (d ∷ ds) = constraint_of k d ∷ constraints_from (k + 1) ds

-- both ends are among the first n time-points
abbrev pub IsDraftAmong : ℕ → Draft → Type 0
IsDraftAmong n d = (d.from < n) × (d.to < n)

-- at the first element for which the fact holds of some number, p is the least such number
pub record IsLeastOfFirst {X : Type 0} (P : ℕ → X → Type 0) (xs : List X) (p : ℕ) : Type 0 where
  pub place : ℕ
  pub first : IsFirst (λ x. (q : ℕ) × P q x) xs place
  pub has : HoldsAt (P p) xs place
  pub least : (q : ℕ) → q < p → HoldsAt (λ x. P q x → ⊥) xs place

-- p is the least proposition for which the table has no observer, in the label of the first constraint that names one
abbrev pub IsFirstUnseen : List (Option NodeId) → List Draft → ℕ → Type 0
IsFirstUnseen table drafts p = IsLeastOfFirst (λ q d. IsUnseen table (marks d.label) q) drafts p

-- the label names p, which no time-point observes
pub record LacksObserver (observes : List (Option ℕ)) (a : Label) (p : ℕ) : Type 0 where
  pub named : a p ≢ Absent
  pub unobserved : (x : ℕ) → slice_index_or observes x None ≡ Some p → ⊥

-- two time-points before n observe one proposition
pub record HasTwins (observes : List (Option ℕ)) (n : ℕ) : Type 0 where
  pub x : ℕ
  pub y : ℕ
  pub p : ℕ
  pub ordered : x < y
  pub before : y < n
  pub one : slice_index_or observes x None ≡ Some p
  pub other : slice_index_or observes y None ≡ Some p

-- `second` is the first time-point whose proposition p an earlier one, `first`, observes
pub record AreFirstTwins (observes : List (Option ℕ)) (p first second : ℕ) : Type 0 where
  pub ordered : first < second
  pub one : slice_index_or observes first None ≡ Some p
  pub other : slice_index_or observes second None ≡ Some p
  pub none_before : HasTwins observes second → ⊥

-- the time-point has a reaction from 1 to 1,000 ticks where it observes something
abbrev pub HasReaction : TimePoint → Type 0
HasReaction t = IsSome t.observes → (0 < t.reaction) × (t.reaction ≤ most_reaction)

-- the builder has the fault that the refusal names
abbrev pub HasNetFault : BuilderParts → NetError → Type 0
HasNetFault b TooManyNodes = most_time_points < length b.points
HasNetFault b NoOrigin = length b.points ≡ 0
HasNetFault b TooManyConstraints = most_constraints < length b.drafts
HasNetFault b (DeadlineRange deadline) = (deadline ≡ b.deadline) × (most_deadline < b.deadline)
HasNetFault b (ValueRange constraint) = IsFirst (λ d. IsValue d.most → ⊥) b.drafts constraint
HasNetFault b (NotObserved prop) =
    IsLeastOfFirst (λ q d. LacksObserver (observations b) (marks d.label) q) b.drafts prop.index
HasNetFault b (TwoObservers prop first second) = AreFirstTwins (observations b) prop.index first.0 second.0
HasNetFault b (NotPlain constraint) = IsFirst (λ d. IsPlain (marks d.label) → ⊥) b.drafts constraint
HasNetFault b (ReactionRange node) = IsFirst (λ t. HasReaction t → ⊥) b.points node.0
HasNetFault b (Memory e) = ⊥

-- a builder without the faults of N1 to N4
pub record IsSized (b : BuilderParts) : Type 0 where
  pub few_points : length b.points ≤ most_time_points
  pub origin : 0 < length b.points
  pub few_constraints : length b.drafts ≤ most_constraints
  pub in_time : b.deadline ≤ most_deadline

-- a builder without the faults of N5 to N9
pub record IsSound (b : BuilderParts) : Type 0 where
  pub values : All (λ d. IsValue d.most) b.drafts
  pub observed : All (λ d. (q : ℕ) → LacksObserver (observations b) (marks d.label) q → ⊥) b.drafts
  pub no_twins : HasTwins (observations b) (length b.points) → ⊥
  pub plain : All (λ d. IsPlain (marks d.label)) b.drafts
  pub timely : All HasReaction b.points

-- the number of a refusal, and 0 for want of memory
abbrev pub net_number : NetError → ℕ
net_number (Memory e) = 0
net_number TooManyNodes = 1
net_number NoOrigin = 2
net_number TooManyConstraints = 3
net_number (DeadlineRange deadline) = 4
net_number (ValueRange constraint) = 5
net_number (NotObserved prop) = 6
net_number (TwoObservers prop first second) = 7
net_number (NotPlain constraint) = 8
net_number (ReactionRange node) = 9

-- the builder has this fault, and none with a lower number
abbrev pub IsLowestNetFault : BuilderParts → NetError → Type 0
IsLowestNetFault b e = IsLowestFault (HasNetFault b) net_number e

-- want of memory, or the builder's lowest fault
abbrev pub IsNetRefusal : BuilderParts → NetError → Type 0
IsNetRefusal b e = IsRefusal (HasNetFault b) net_number e
