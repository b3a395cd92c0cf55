-- Which fault of labels is the lowest.
use Rattle.std.proofs.Common.{ℕ, ◌≡◌, ◌⊎◌, inl, inr, ◌<◌, ◌≤◌, List, length, arith, sym, subst, ap, ◌∙◌}
use Rattle.std.specs.Prelude.{map}
use Rattle.std.proofs.lemmas.List.{get_or-map}
use Rattle.cstn_label.specs.Labels.{Label, IsPlain, empty}
use Rattle.cstn_net.specs.Limits.{most_constraints}
use Rattle.cstn_net.specs.Networks.{IsWellFormed, Observes, count}
use Rattle.cstn_net.specs.Faults.{IsFirstBelow}
use Rattle.cstn_lift.specs.declared.errors.LiftError.{LiftError}
use Rattle.cstn_lift.specs.declared.errors.LiftError.TheVariants.{OriginLabel, NotPlain, NotObserved, Circle, Never, TooManyConstraints, Memory}
use Rattle.cstn_lift.specs.Labelled.{Labelled, label_in}
use Rattle.cstn_lift.specs.Completion.{completed, completed_label}
use Rattle.cstn_lift.specs.WellFormed.{IsLabelled}
use Rattle.cstn_lift.specs.Lowered.{lowered}
use Rattle.cstn_lift.specs.Faults.{ObservesMark, HasLiftFault, lift_number, IsLowestLiftFault, IsLiftRefusal, HasGoodLabels}
use Rattle.cstn_net.proofs.NoFault.{stable_absent}

-- the label at the place x of the completed labels is the completed label of x
pub whole_at : (m : Labelled) → length m.labels ≡ count m.base → (whole : List Label) → whole ≡ map (completed m) m.labels →
    (x : ℕ) → x < count m.base → label_in whole x ≡ completed_label m x
whole_at m one_each whole is x inside =
    ap (λ ls. label_in ls x) is ∙ get_or-map (completed m) m.labels x empty empty (omega arith)

-- where P and Q hold of the same numbers below n, the first of which P holds is the first of which Q holds
pub first_same : (n : ℕ) (P Q : ℕ → Type 0) (x : ℕ) → ((y : ℕ) → y < n → P y → Q y) → ((y : ℕ) → y < n → Q y → P y) →
    IsFirstBelow n P x → IsFirstBelow n Q x
first_same n P Q x to back first =
    let inside = first.inside in
    record { inside = inside; here = to x inside first.here; before = λ y before q. first.before y before (back y (omega arith) q) }

module _ (m : Labelled) (good : HasGoodLabels m) where
  pub circle_lowest : (f : LiftError) → HasLiftFault m f → 4 ≤ lift_number f
  circle_lowest OriginLabel h = absurd (h good.origin)
  circle_lowest (NotPlain node) h = absurd (h.here (good.plain node.0 h.inside))
  circle_lowest (NotObserved node prop) h =
      let names = h.0.here in
      let o = good.observed node.0 h.0.inside names.0 names.1.0 in
      absurd (names.1.1 o.0 o.1)
  circle_lowest (Circle node) h = omega arith
  circle_lowest (Never node) h = omega arith
  circle_lowest TooManyConstraints h = omega arith
  circle_lowest (Memory e) h = absurd h

  pub never_lowest : ((x : ℕ) → x < count m.base → ObservesMark m.base (completed_label m x) x → ⊥) → (f : LiftError) → HasLiftFault m f → 5 ≤ lift_number f
  never_lowest none (Circle node) h = absurd (none node.0 h.inside h.here)
  never_lowest none (Never node) h = omega arith
  never_lowest none TooManyConstraints h = omega arith
  never_lowest none (Memory e) h = absurd h
  never_lowest none OriginLabel h = absurd (h good.origin)
  never_lowest none (NotPlain node) h = absurd (h.here (good.plain node.0 h.inside))
  never_lowest none (NotObserved node prop) h =
      let names = h.0.here in
      let o = good.observed node.0 h.0.inside names.0 names.1.0 in
      absurd (names.1.1 o.0 o.1)

  -- labels without the faults of L1 to L5 make a labelled network, where each observer is a time-point
  pub labelled_from : ((x p : ℕ) → Observes m.base x p → x < count m.base) → IsWellFormed m.base → length m.labels ≡ count m.base →
      ((x : ℕ) → x < count m.base → ObservesMark m.base (completed_label m x) x → ⊥) → ((x : ℕ) → x < count m.base → IsPlain (completed_label m x)) →
      IsLabelled m
  labelled_from within base one_each none plain = record {
    base = base;
    one_each = one_each;
    origin = good.origin;
    plain = good.plain;
    observed = good.observed;
    no_circle = λ x p o. stable_absent (completed_label m x p) (λ marked. none x (within x p o) (p, o, marked));
    completed_plain = plain;
  }

pub good_labels : (m : Labelled) → IsLabelled m → HasGoodLabels m
good_labels m good = record { origin = good.origin; plain = good.plain; observed = good.observed }

pub long_lowest : (m : Labelled) → IsLabelled m → (f : LiftError) → HasLiftFault m f → 6 ≤ lift_number f
long_lowest m good (Never node) h = absurd (h.here (good.completed_plain node.0 h.inside))
long_lowest m good TooManyConstraints h = omega arith
long_lowest m good (Memory e) h = absurd h
long_lowest m good OriginLabel h = absurd (h good.origin)
long_lowest m good (NotPlain node) h = absurd (h.here (good.plain node.0 h.inside))
long_lowest m good (NotObserved node prop) h = let low = circle_lowest m (good_labels m good) (NotObserved node prop) h in absurd (omega (arith, low))
long_lowest m good (Circle node) h =
    let seen = h.here in
    absurd (seen.2 (good.no_circle node.0 seen.0 seen.1))

pub no_fault : (m : Labelled) → IsLabelled m → length (lowered m).constraints ≤ most_constraints → (f : LiftError) → HasLiftFault m f → ⊥
no_fault m good few TooManyConstraints h = omega arith
no_fault m good few (Memory e) h = h
no_fault m good few OriginLabel h = let low = long_lowest m good OriginLabel h in omega (arith, low)
no_fault m good few (NotPlain node) h = let low = long_lowest m good (NotPlain node) h in omega (arith, low)
no_fault m good few (NotObserved node prop) h = let low = long_lowest m good (NotObserved node prop) h in omega (arith, low)
no_fault m good few (Circle node) h = let low = long_lowest m good (Circle node) h in omega (arith, low)
no_fault m good few (Never node) h = let low = long_lowest m good (Never node) h in omega (arith, low)

-- a labelled network that is refused has too many constraints
pub refused_is : (m : Labelled) → IsLabelled m → (e : LiftError) →
    (lift_number e ≡ 0) ⊎ ((e ≡ TooManyConstraints) × (most_constraints < length (lowered m).constraints)) → IsLiftRefusal m e
refused_is m good e (inl memory) = inl memory
refused_is m good e (inr long) =
    inr (subst (IsLowestLiftFault m) (sym long.0) (record { has = long.1; lowest = long_lowest m good }))
