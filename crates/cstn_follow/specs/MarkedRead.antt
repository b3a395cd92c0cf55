-- How the program's session with marks is read as that of the definitions.
use Rattle.std.specs.Prelude.{◌≡◌, ◌≤◌, List, length, map, slice_get, reverse}
use Rattle.std.specs.List.{All}
use Rattle.cstn_follow.specs.Marks.{Marked, MarkedHeard, most_marks}
use Rattle.cstn_follow.specs.Read.{FollowingParts, the_following, the_heard}
use Rattle.cstn_follow.specs.declared.following.Heard.{Heard as HeardText}

-- what contracts see of a session with marks: the session as it is, and as it was at each mark, the last one first
pub record MarkedParts : Type 0 where
  pub now : FollowingParts
  pub marks : List FollowingParts

-- the session that the parts stand for
abbrev pub the_marked : MarkedParts → Marked
the_marked t = record { now = the_following t.now; marks = map the_following t.marks }

-- the parts by the session as it is, and as it was at each mark, in the order in which they were set
abbrev pub marked_parts : FollowingParts → List FollowingParts → MarkedParts
marked_parts now marks = record { now = now; marks = reverse marks }

-- what the program says to a line, with the session that follows and its marks
abbrev pub the_marked_heard : MarkedParts → HeardText → MarkedHeard
the_marked_heard t h = record { heard = the_heard t.now h; marks = map the_following t.marks }

-- there are no more marks than there may be, and the first time-point had its name at each of them
pub record HasMarks (now : FollowingParts) (marks : List FollowingParts) : Type 0 where
  pub few : length marks ≤ most_marks
  pub first : All (λ (mark : FollowingParts). slice_get mark.names 0 ≡ slice_get now.names 0) marks
