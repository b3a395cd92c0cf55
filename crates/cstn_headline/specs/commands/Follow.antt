-- What `follow` tells.
use Rattle.std.specs.Prelude.{◌≡◌, ◌<◌, ℕ, true, false, List, Option}
use Rattle.cstn_lift.specs.Labelled.{Labelled}
use Rattle.cstn_lift.specs.Lowered.{lowered}
use Rattle.cstn_check.specs.Growth.{load_of}
use Rattle.cstn_history.specs.Continuations.{Can}
use Rattle.cstn_follow.specs.Following.{Following, begun_following, left_now, is_any_open}
use Rattle.cstn_follow.specs.Marks.{begun_marked, marked_ending}
use Rattle.cstn_reply.specs.Texts.{line}
use Rattle.cstn_reply.specs.Sessions.{play}
use Rattle.cstn_top.specs.Lines.{StopsUnread}
use Rattle.cstn_top.specs.commands.Follow.{marked_turn, follow_opening}
use Rattle.cstn_headline.specs.Telling.{Telling}
use Rattle.cstn_headline.specs.Sessions.{Wrote, EndsIn}

-- what is said to the lines of the live source is the text, and this holds of the lines
abbrev pub WroteFollowing : ℕ → Option (List ℕ) → List ℕ → List (List ℕ) → Labelled → (List (List ℕ) → Type 0) → Type 0
WroteFollowing cap live text names m OfLines =
    Wrote true marked_turn marked_ending (follow_opening (begun_following cap names m)) (begun_marked cap names m) live text OfLines

-- the lines lead to a state in which nothing is left, and of which this holds
abbrev pub IsFollowingOver : ℕ → List (List ℕ) → Labelled → (Following → Type 0) → List (List ℕ) → Type 0
IsFollowingOver cap names m holds lines = EndsIn marked_turn (begun_marked cap names m) (λ t. (is_any_open t.now ≡ false) × holds t.now) lines

-- Nothing is left, and some table continues what has happened; or none does; or the log of what is left has more entries than it may.
-- Or something is left; or a line is too long or too late.
abbrev pub follow_telling : ℕ → Option (List ℕ) → List ℕ → List (List ℕ) → Labelled → Telling
follow_telling cap live text names m = record {
  good = WroteFollowing cap live text names m (IsFollowingOver cap names m (λ s. Can s.network s.history));
  bad = WroteFollowing cap live text names m (IsFollowingOver cap names m (λ s. Can s.network s.history → ⊥));
  full = WroteFollowing cap live text names m (IsFollowingOver cap names m (λ s. s.cap < load_of (lowered (left_now s))));
  unfinished = WroteFollowing cap live text names m (EndsIn marked_turn (begun_marked cap names m) (λ t. is_any_open t.now ≡ true));
  script = WroteFollowing cap live text names m
      (λ lines. StopsUnread marked_turn (begun_marked cap names m) (λ line. ⊥) lines (play marked_turn marked_ending (begun_marked cap names m) 0 lines).text);
  wide = ⊥;
}
