-- The network that is generated for a number and a size.
use Rattle.std.specs.Prelude.{ℕ, zero, suc, ◌+◌, ◌*◌, ◌/◌, ◌==◌, nat_lt, if◌then◌else◌, min, max, List, ◌∷◌, ◌++◌, map, Option, Some, None, pos, ◌-ℤ◌, codes, decimal}
use Rattle.std.specs.List.{range_with_len}
use Rattle.cstn_label.specs.declared.marks.Mark.{Mark}
use Rattle.cstn_label.specs.declared.marks.Mark.TheVariants.{Yes, No}
use Rattle.cstn_label.specs.Marks.{is_absent}
use Rattle.cstn_label.specs.Labels.{Label, empty, with_mark}
use Rattle.cstn_net.specs.Networks.{Network, Constraint}
use Rattle.cstn_gen.specs.Draws.{nth_state, drawn}
use Rattle.cstn_gen.specs.declared.constraints.Span.{Span}

-- the proposition of the i-th letter from `a` on, i from 0
abbrev pub letter_prop : ℕ → ℕ
letter_prop i = 26 + i

-- how many propositions a network of this size observes
abbrev pub props_of : ℕ → ℕ
props_of size = min (1 + size / 3) 6

-- what the i-th time-point after the origin observes, i from 0, where k propositions are observed: `T1` observes `a`, `T2`
-- observes `b` and so on
abbrev pub observed_by : ℕ → ℕ → Option ℕ
observed_by k i = if nat_lt i k then Some (letter_prop i) else None

-- a label with the literals drawn so far, and the state after them
pub record Literals : Type 0 where
  pub label : Label
  pub state : ℕ

-- the mark of a sign: 1 negates
abbrev pub sign : ℕ → Mark
sign n = if n == 1 then No else Yes

-- a literal joins the label, unless its letter stands there already
abbrev pub with_drawn_literal : Label → ℕ → Mark → Label
with_drawn_literal a p m = if is_absent (a p) then with_mark a p m else a

-- one literal more: one of the first k letters and a sign are drawn
abbrev pub one_literal_more : ℕ → Literals → Literals
one_literal_more k l = record {
  label = with_drawn_literal l.label (letter_prop (drawn 1 k l.state)) (sign (drawn 2 2 l.state));
  state = nth_state 2 l.state;
}

-- m literals are drawn, after those drawn before
abbrev pub literals : ℕ → ℕ → Literals → Literals
literals k zero l = l
literals k (suc m) l = one_literal_more k (literals k m l)

-- the lower one of the numbers of two time-points, or the origin where they are the same
abbrev pub lower_of : ℕ → ℕ → ℕ
lower_of i j = if i == j then 0 else min i j

-- With q below 2, Ti is w ticks or more after the origin. Otherwise, of Ti and Tj the one with the higher number is w ticks or
-- more after the other (q = 2), or at most w + 5 ticks after it (q = 3); the other is the origin where i = j.
abbrev pub span_of : ℕ → ℕ → ℕ → ℕ → Span
span_of q i j w =
    if nat_lt q 2 then record { from = i; to = 0; most = pos 0 -ℤ pos w }
    else if q == 2 then record { from = max i j; to = lower_of i j; most = pos 0 -ℤ pos w }
    else record { from = lower_of i j; to = max i j; most = pos (w + 5) }

-- the ends and the value of the constraint that is drawn from a state
abbrev pub span_at : ℕ → ℕ → Span
span_at size x = span_of (drawn 1 4 x) (1 + drawn 2 size x) (1 + drawn 3 size x) (drawn 4 10 x)

-- a label of literals of the first k letters: how many literals is drawn first, from 0 to 2, and then each of them
abbrev pub label_from : ℕ → ℕ → Literals
label_from k x = literals k (drawn 1 3 x) (record { label = empty; state = nth_state 1 x })

-- the label of the constraint that is drawn from a state, and the state after it
abbrev pub literals_at : ℕ → ℕ → Literals
literals_at size x = label_from (props_of size) (nth_state 4 x)

-- the state after the first n constraints
abbrev pub state_at : ℕ → ℕ → ℕ → ℕ
state_at number size zero = number
state_at number size (suc n) = (literals_at size (state_at number size n)).state

-- the constraint that is drawn from a state
abbrev pub constraint_from : ℕ → ℕ → ℕ → Constraint
constraint_from size id x =
    record { id = id; from = (span_at size x).from; to = (span_at size x).to; most = (span_at size x).most; label = (literals_at size x).label }

-- the constraint of an id
abbrev pub constraint_at : ℕ → ℕ → ℕ → Constraint
constraint_at number size id = constraint_from size id (state_at number size id)

-- The network: the origin `Z`, the time-points `T1` to `Tsize`, and for each of these two constraints, drawn from the number.
abbrev pub generated : ℕ → ℕ → Network
generated number size = record {
  deadline = 10 + 2 * size;
  observes = None ∷ map (observed_by (props_of size)) (range_with_len 0 size);
  reaction = λ p. 1;
  constraints = map (constraint_at number size) (range_with_len 0 (2 * size));
}

-- the name of the i-th time-point after the origin
abbrev pub point_name : ℕ → List ℕ
point_name i = codes "T" ++ decimal (i + 1)

-- the names of the time-points of a network of this size
abbrev pub generated_names : ℕ → List (List ℕ)
generated_names size = codes "Z" ∷ map point_name (range_with_len 0 size)
