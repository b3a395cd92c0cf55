-- What is next while a labelled network is carried out, by the bounds of a plan of what is left.
use Rattle.std.specs.Prelude.{ℕ, ◌≡◌, ◌<◌, Bool, false, not, ◌&&◌, ◌==◌, nat_le, min, max, List, [], ◌∷◌, Option, None, Some, map, if◌then◌else◌}
use Rattle.std.specs.List.{filter, range_with_len}
use Rattle.cstn_label.specs.Labels.{Scenario}
use Rattle.cstn_label.specs.Marks.{is_plain}
use Rattle.cstn_label.specs.Bounds.{Bound}
use Rattle.cstn_net.specs.Networks.{IsWellFormed, count}
use Rattle.cstn_rules.specs.Closed.{IsClosed}
use Rattle.cstn_plan.specs.Asked.{AllSound, greatest}
use Rattle.cstn_lift.specs.Labelled.{Labelled}
use Rattle.cstn_lift.specs.Completion.{completed_label}
use Rattle.cstn_lift.specs.Lowered.{lowered}
use Rattle.cstn_lift.specs.WellFormed.{IsLabelled}
use Rattle.cstn_lift.specs.Strategies.{IsExecuted}
use Rattle.cstn_history.specs.Histories.{History, IsHistory, IsObservedAt, AgreesWith, is_done, is_told, known_at}
use Rattle.cstn_history.specs.Rest.{number_left, rest}
use Rattle.cstn_history.specs.Facts.{settles, observed_since}
use Rattle.cstn_next.specs.declared.moments.NextMoment.{NextMoment}

-- The bounds are those of a sound plan of what is left: a list that is closed for the lowered network of what is left, each bound
-- of which holds in each of its strategies.
pub record IsPlannedBy (m : Labelled) (h : History) (fresh : ℕ) (bounds : List Bound) : Type 0 where
  pub labelled : IsLabelled m
  pub history : IsHistory m h
  pub left : IsLabelled (rest m h fresh)
  pub well_formed : IsWellFormed (lowered (rest m h fresh))
  pub closed : IsClosed (lowered (rest m h fresh)) bounds
  pub sound : AllSound (lowered (rest m h fresh)) bounds

-- nothing is left: no time-point that isn't done is executed in a scenario that agrees with the history, and each outcome whose
-- observer is done was told
pub record IsAllDone (m : Labelled) (h : History) : Type 0 where
  pub steps : (s : Scenario) (x : ℕ) → AgreesWith h s → x < count m.base → h.done x ≡ None → IsExecuted m s x → ⊥
  pub outcomes : (p t : ℕ) → IsObservedAt m h p t → h.told p ≡ None → ⊥

-- the time-point isn't done, and what was told decides that it is executed
abbrev pub is_ready : Labelled → History → ℕ → Bool
is_ready m h x = not (is_done h x) && settles h (completed_label m x)

-- the latest moment that a bound with a plain label asks for at k, or 0: where the bounds are those of a sound plan, this is the
-- latest of the least moments that k has in the scenarios
abbrev pub latest : List Bound → ℕ → ℕ
latest bounds k = greatest (λ b. (b.node == k) && is_plain b.label) bounds

-- the moment from now on at which x comes at the latest, where it is ready
abbrev pub coming_at : Labelled → History → List Bound → ℕ → Option ℕ
coming_at m h bounds x = if is_ready m h x then Some (max h.now (latest bounds (number_left m h x))) else None

-- the moment from now on from which the outcome of p is awaited, where it isn't told and its observer was done at the moment given
abbrev pub awaited_since : Labelled → History → ℕ → Option ℕ → Option ℕ
awaited_since m h p None = None
awaited_since m h p (Some t) = if is_told h p then None else Some (max h.now (known_at m h p t))

abbrev pub awaited_from : Labelled → History → ℕ → Option ℕ
awaited_from m h p = awaited_since m h p (observed_since m h p)

-- these moments for each time-point, and for each of the 52 propositions
abbrev pub coming_moments : Labelled → History → List Bound → List (Option ℕ)
coming_moments m h bounds = map (coming_at m h bounds) (range_with_len 0 (count m.base))

abbrev pub awaited_moments : Labelled → History → List (Option ℕ)
awaited_moments m h = map (awaited_from m h) (range_with_len 0 52)

-- the earlier of two moments, or the one that there is
abbrev pub earlier : Option ℕ → Option ℕ → Option ℕ
earlier None b = b
earlier (Some t) None = Some t
earlier (Some t) (Some u) = Some (min t u)

-- the earliest of these moments, if there are any
abbrev pub earliest : List (Option ℕ) → Option ℕ
earliest [] = None
earliest (a ∷ more) = earlier a (earliest more)

-- the next moment, if anything is left
abbrev pub next_moment : Labelled → History → List Bound → Option ℕ
next_moment m h bounds = earlier (earliest (coming_moments m h bounds)) (earliest (awaited_moments m h))

-- there is a moment, and it is t or earlier
abbrev pub is_upto : ℕ → Option ℕ → Bool
is_upto t None = false
is_upto t (Some u) = nat_le u t

-- the time-points that are named at the next moment t, and the propositions whose outcomes are awaited at it
abbrev pub named_at_next : Labelled → History → List Bound → ℕ → List ℕ
named_at_next m h bounds t = filter (λ x. is_upto t (coming_at m h bounds x)) (range_with_len 0 (count m.base))

abbrev pub awaited_props : Labelled → History → ℕ → List ℕ
awaited_props m h t = filter (λ p. is_upto t (awaited_from m h p)) (range_with_len 0 52)

-- what is told of the next moment, by the bounds: when it is, and what is named and what is awaited at it; nothing where nothing is left
abbrev pub TellsNext : Labelled → History → List Bound → Option NextMoment → Type 0
TellsNext m h bounds None = next_moment m h bounds ≡ None
TellsNext m h bounds (Some n) =
    (next_moment m h bounds ≡ Some n.moment)
    × (map (λ x. x.0) n.named.items ≡ named_at_next m h bounds n.moment)
    × (map (λ p. p.index) n.awaited.items ≡ awaited_props m h n.moment)
