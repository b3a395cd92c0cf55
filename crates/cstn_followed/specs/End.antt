-- Whoever does what is next comes to an end.
use Rattle.std.specs.Prelude.{ℕ, zero, suc, ◌≡◌, ◌+◌, Bool, not, ◌&&◌, List, Some, if◌then◌else◌}
use Rattle.std.specs.Option.{is_some}
use Rattle.cstn_net.specs.Networks.{count}
use Rattle.cstn_lift.specs.Labelled.{Labelled}
use Rattle.cstn_history.specs.Histories.{History, is_done}
use Rattle.cstn_history.specs.Continuations.{IsTold, IsNamed, IsAwaited, IsNext}
use Rattle.cstn_history.specs.Rest.{is_left, sight_left}
use Rattle.cstn_reply.specs.Reached.{state_after}
use Rattle.cstn_follow.specs.Following.{Following}
use Rattle.cstn_followed.specs.Sessions.{follow_turn}
use Rattle.cstn_followed.specs.Plans.{KeepToNext}

-- the time-point is left to be executed
abbrev pub is_coming : Labelled → History → ℕ → Bool
is_coming m h x = is_left m h x && not (is_done h x)

-- the time-point is left, and its outcome is not told
abbrev pub is_unheard : Labelled → History → ℕ → Bool
is_unheard m h x = is_left m h x && is_some (sight_left m h x)

-- how many numbers below n pass the test
abbrev pub count_below : (ℕ → Bool) → ℕ → ℕ
count_below test zero = 0
count_below test (suc n) = count_below test n + (if test n then 1 else 0)

-- how many time-points are left to be executed, and how many outcomes to be told
abbrev pub count_left : Labelled → History → ℕ
count_left m h = count_below (is_coming m h) (count m.base) + count_below (is_unheard m h) (count m.base)

-- One turn: at the next moment all that is named is done, and all that is awaited is told, by lines that keep to what is next. It may
-- take several lines, some of them refused.
pub record IsTurn (s after : Following) : Type 0 where
  pub moment : ℕ
  pub next : IsNext s.network s.history moment
  pub heard : ℕ
  pub lines : List (List ℕ)
  pub keep : KeepToNext s lines
  pub leads : state_after follow_turn s heard lines ≡ Some after
  pub done : (x : ℕ) → IsNamed s.network s.history moment x → after.history.done x ≡ Some moment
  pub told : (p : ℕ) → IsAwaited s.network s.history moment p → IsTold after.history p

-- n such turns
abbrev pub AreTurns : ℕ → Following → Following → Type 0
AreTurns zero s last = s ≡ last
AreTurns (suc n) s last = (after : Following) × IsTurn s after × AreTurns n after last
