-- What a session in lines says to further questions.
use Rattle.std.proofs.Common.{ℕ, ◌≡◌, Bool, true, [], Option, Some, ap, ◌∙◌}
use Rattle.std.specs.Prelude.{◌&&◌, if◌then◌else◌}
use Rattle.std.specs.Option.{option_map}
use Rattle.cstn_lift.specs.Lowered.{lowered}
use Rattle.cstn_follow.specs.Following.{Following, left_now, verdict_now, too_many}
use Rattle.cstn_follow.specs.Further.{line_now, each_after, each_answer}
use Rattle.cstn_follow.specs.Pauses.{is_undone}
use Rattle.cstn_follow.specs.Read.{FollowingParts, IsFollowing, the_following}
use Rattle.cstn_follow.specs.Searches.{has_place_for_one, by_line}
use Rattle.cstn_follow.specs.Waiting.{waits_until}
use Rattle.cstn_follow.proofs.Edited.{within_is}

-- the verdict that a session keeps is the one on what is left
pub verdict_same : (f : FollowingParts) → IsFollowing f → f.verdict ≡ verdict_now (the_following f)
verdict_same f good = within_is (the_following f) f.verdict good.session.verdict

-- the line of a time-point that is left to be done
pub line_is : (s : Following) (x : ℕ) (o : Option ℕ) → is_undone s.network s.history x ≡ true → waits_until s.network s.history s.fresh x s.cap ≡ o
    → line_now s x ≡ option_map (λ t. by_line s.names t x) o
line_is s x o undone found =
    ap (λ b. if b then option_map (λ t. by_line s.names t x) (waits_until s.network s.history s.fresh x s.cap) else Some []) undone
    ∙ ap (option_map (λ t. by_line s.names t x)) found

-- the lines of all, by whether there is room for one constraint more
pub each_is : (s : Following) (b : Bool) → (has_place_for_one (left_now s).base && has_place_for_one (lowered (left_now s))) ≡ b
    → each_answer s ≡ (if b then each_after s.names s.network s.history s.fresh s.cap (verdict_now s) else too_many)
each_is s b is = ap (λ r. if r then each_after s.names s.network s.history s.fresh s.cap (verdict_now s) else too_many) is
