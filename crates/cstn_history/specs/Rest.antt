-- The labelled network of what is left.
use Rattle.std.specs.Prelude.{ℕ, zero, suc, ◌+◌, ◌-◌, ◌++◌, Bool, true, not, ◌&&◌, ◌||◌, ◌==◌, nat_lt, min, List, [], ◌∷◌, length, map, slice_index_or, Option, None, Some, if◌then◌else◌, ℤ, pos, ◌+ℤ◌, ◌-ℤ◌, int_lt}
use Rattle.std.specs.Int.{int_min, int_max}
use Rattle.std.specs.Option.{is_some, unwrap_or}
use Rattle.std.specs.List.{filter, filter_map, flat_map, range_with_len}
use Rattle.cstn_label.specs.Labels.{empty}
use Rattle.cstn_net.specs.Limits.{most_reaction, most_value, least_value}
use Rattle.cstn_net.specs.Networks.{Constraint, count, limit}
use Rattle.cstn_lift.specs.Labelled.{Labelled, label_of}
use Rattle.cstn_lift.specs.Completion.{completed_label, full_label}
use Rattle.cstn_lift.specs.Lowered.{observer_of, numbered}
use Rattle.cstn_history.specs.Histories.{History, is_done, is_told, known_at, soonest, allows, label_left}

-- the proposition, where it isn't told
abbrev pub untold : History → Option ℕ → Option ℕ
untold h None = None
untold h (Some p) = if is_told h p then None else Some p

-- what the time-point observes, if it isn't told
abbrev pub sight_left : Labelled → History → ℕ → Option ℕ
sight_left m h x = untold h (slice_index_or m.base.observes x None)

-- The time-point is left: it is the origin; or it is done and observes what isn't told, and so is watched; or it isn't done, and
-- what is told doesn't contradict its completed label.
abbrev pub is_left : Labelled → History → ℕ → Bool
is_left m h zero = true
is_left m h (suc x) =
    if is_done h (suc x) then is_some (sight_left m h (suc x)) else allows h (completed_label m (suc x))

-- those of the first n time-points that are left
abbrev pub left_upto : Labelled → History → ℕ → List ℕ
left_upto m h n = filter (is_left m h) (range_with_len 0 n)

-- the time-points that are left
abbrev pub left : Labelled → History → List ℕ
left m h = left_upto m h (count m.base)

-- the number of x among the time-points that are left
abbrev pub number_left : Labelled → History → ℕ → ℕ
number_left m h x = length (left_upto m h x)

-- the end of a constraint that was at x: the origin where x is done
abbrev pub end_left : Labelled → History → ℕ → ℕ
end_left m h x = if is_done h x then 0 else number_left m h x

-- the moment at which x is done, and 0 where it isn't
abbrev pub moment_done : History → ℕ → ℕ
moment_done h x = unwrap_or (h.done x) 0

-- the value, cut to the range of values
abbrev pub value_cut : ℤ → ℤ
value_cut most = int_max least_value (int_min (pos most_value) most)

-- the value of a constraint between its ends when those that are done are put at the origin
abbrev pub value_left : History → Constraint → ℤ
value_left h c = (c.most +ℤ pos (moment_done h c.from)) -ℤ pos (moment_done h c.to)

-- the constraint without what is told, its done ends at the origin
abbrev pub moved : Labelled → History → Constraint → Constraint
moved m h c = record {
  id = c.id;
  from = end_left m h c.from;
  to = end_left m h c.to;
  most = value_cut (value_left h c);
  label = label_left h c.label;
}

-- both ends are done, not both are the origin, and the constraint is met
abbrev pub is_over : History → Constraint → Bool
is_over h c =
    is_done h c.from && is_done h c.to && not (c.from == 0 && c.to == 0) && not (int_lt (value_left h c) (pos 0))

-- what is left of a constraint; none where what is told contradicts its full label, or where it is over
abbrev pub constraint_left : Labelled → History → Constraint → Option Constraint
constraint_left m h c = if allows h (full_label m c) && not (is_over h c) then Some (moved m h c) else None

-- in each scenario, `to` is at most `most` ticks after `from`
abbrev pub bare : ℕ → ℕ → ℤ → Constraint
bare from to most = record { id = 0; from = from; to = to; most = most; label = empty }

-- a constraint that nothing meets, where x was done at a moment above its limit
abbrev pub late_one : Labelled → ℕ → Option ℕ → List Constraint
late_one m x None = []
late_one m x (Some t) = if nat_lt (limit m.base x) t then bare 0 0 (pos (limit m.base x) -ℤ pos t) ∷ [] else []

-- when the outcome of p is known, whose observer was done at t, or the moment after the deadline where that is earlier
abbrev pub awaited_at : Labelled → History → ℕ → ℕ → ℕ
awaited_at m h p t = min (known_at m h p t) (m.base.deadline + 1)

-- the reaction that is left of p, whose observer is watched
abbrev pub reaction_watched : Labelled → History → ℕ → ℕ → ℕ
reaction_watched m h p t = min (awaited_at m h p t) most_reaction

-- the moment at which the observer of p, which was done at t, stands while it is watched
abbrev pub moment_watched : Labelled → History → ℕ → ℕ → ℕ
moment_watched m h p t = awaited_at m h p t - reaction_watched m h p t

-- the time-point with this number stands at t
abbrev pub stands_at : ℕ → ℕ → List Constraint
stands_at k t = bare k 0 (pos 0 -ℤ pos t) ∷ (bare 0 k (pos t) ∷ [])

-- x, which was done at the moment given and observes what is given, stands where it is watched from; the origin does anyhow
abbrev pub watched_one : Labelled → History → ℕ → Option ℕ → Option ℕ → List Constraint
watched_one m h zero t p = []
watched_one m h (suc x) None p = []
watched_one m h (suc x) (Some t) None = []
watched_one m h (suc x) (Some t) (Some p) = stands_at (number_left m h (suc x)) (moment_watched m h p t)

-- x isn't before now and when it is ready, where it is left and isn't done
abbrev pub coming_one : Labelled → History → ℕ → List Constraint
coming_one m h x =
    if nat_lt 0 (soonest h x) && is_left m h x && not (is_done h x) then bare (number_left m h x) 0 (pos 0 -ℤ pos (soonest h x)) ∷ [] else []

-- for what was done above its limit, for what is watched, and for what isn't done, each in ascending number
abbrev pub late : Labelled → History → List Constraint
late m h = flat_map (λ x. late_one m x (h.done x)) (range_with_len 0 (count m.base))

abbrev pub watched : Labelled → History → List Constraint
watched m h = flat_map (λ x. watched_one m h x (h.done x) (sight_left m h x)) (range_with_len 0 (count m.base))

abbrev pub coming : Labelled → History → List Constraint
coming m h = flat_map (coming_one m h) (range_with_len 0 (count m.base))

-- the constraints that are added
abbrev pub added : Labelled → History → List Constraint
added m h = late m h ++ (watched m h ++ coming m h)

-- the reaction of p, which x observes and which isn't told, by the moment at which x is done, if it is
abbrev pub reaction_after : Labelled → History → ℕ → ℕ → Option ℕ → ℕ
reaction_after m h p x None = m.base.reaction p
reaction_after m h p zero (Some t) = known_at m h p t
reaction_after m h p (suc x) (Some t) = reaction_watched m h p t

-- the reaction of p by its observer: as it was where there is none, and 1 where what observes it isn't left or it is told
abbrev pub reaction_by : Labelled → History → ℕ → Option ℕ → ℕ
reaction_by m h p None = m.base.reaction p
reaction_by m h p (Some x) = if is_told h p || not (is_left m h x) then 1 else reaction_after m h p x (h.done x)

-- what is left of the constraints
abbrev pub constraints_left : Labelled → History → List Constraint
constraints_left m h = filter_map (constraint_left m h) m.base.constraints

-- The labelled network of what is left, in which the constraints that are added have ids from `fresh` on. Of a time-point that
-- is done, the label names only what is told.
abbrev pub rest : Labelled → History → ℕ → Labelled
rest m h fresh = record {
  base = record {
    deadline = m.base.deadline;
    observes = map (sight_left m h) (left m h);
    reaction = λ p. reaction_by m h p (observer_of m.base p);
    constraints = constraints_left m h ++ numbered fresh (added m h);
  };
  labels = map (λ x. label_left h (label_of m x)) (left m h);
}

-- the labelled network with one constraint more
abbrev pub with_constraint : Labelled → Constraint → Labelled
with_constraint m c = record m { base = record m.base { constraints = m.base.constraints ++ c ∷ [] } }

-- what is left, in which x is at t or later
abbrev pub rest_waiting : Labelled → History → ℕ → ℕ → ℕ → Labelled
rest_waiting m h fresh x t = with_constraint (rest m h fresh) (bare (number_left m h x) 0 (pos 0 -ℤ pos t))
