-- How the program's session is read as that of the definitions.
use Rattle.std.specs.Prelude.{ℕ, ◌≡◌, ◌≤◌, List, length, slice_get}
use Rattle.cstn_net.specs.Networks.{count}
use Rattle.cstn_lift.specs.Read.{LabelledParts, the_labelled}
use Rattle.cstn_check.specs.declared.verdicts.Verdict.{Verdict}
use Rattle.cstn_history.specs.Read.{HistoryParts, the_history}
use Rattle.cstn_reply.specs.Written.{EndsLine}
use Rattle.cstn_follow.specs.declared.following.Heard.{Heard as HeardText}
use Rattle.cstn_follow.specs.declared.following.Heard.TheVariants.{Text, Rest, Digest}
use Rattle.cstn_follow.specs.Following.{Following, in_full, by_digest, Heard, says, saves}
use Rattle.cstn_follow.specs.Sessions.{SessionParts, IsSession}

-- what contracts see of a session: its parts as the program keeps them, and the verdict on what is left
pub record FollowingParts : Type 0 where
  pub network : LabelledParts
  pub names : List (List ℕ)
  pub history : HistoryParts
  pub cap : ℕ
  pub edits : ℕ
  pub fresh : ℕ
  pub lines : ℕ
  pub verdict : Verdict

-- the session that the parts stand for
abbrev pub the_following : FollowingParts → Following
the_following f = record {
  network = the_labelled f.network;
  names = f.names;
  history = the_history f.history;
  cap = f.cap;
  edits = f.edits;
  fresh = f.fresh;
  lines = f.lines;
}

-- the parts by what contracts see of the session that takes values, and these are it
abbrev pub following_of : SessionParts → List (List ℕ) → ℕ → FollowingParts
following_of s names lines = record {
  network = s.network;
  names = names;
  history = s.history;
  cap = s.cap;
  edits = s.edits;
  fresh = s.fresh;
  lines = lines;
  verdict = s.verdict;
}

abbrev pub session_of : FollowingParts → SessionParts
session_of f = record {
  network = f.network;
  history = f.history;
  cap = f.cap;
  edits = f.edits;
  fresh = f.fresh;
  verdict = f.verdict;
}

-- each time-point of the session has a name, and no more lines are counted than there may be
pub record HasNames (s : SessionParts) (names : List (List ℕ)) (lines : ℕ) : Type 0 where
  pub named : length names ≡ count (the_labelled s.network).base
  pub few_lines : lines ≤ 16777217

-- what is true of each session
pub record IsFollowing (f : FollowingParts) : Type 0 where
  pub session : IsSession (session_of f)
  pub names : HasNames (session_of f) f.names f.lines

-- what the program says to a line, and the session that follows
abbrev pub the_heard : FollowingParts → HeardText → Heard
the_heard f (Text text) = says text.items (the_following f)
the_heard f (Rest network names) = saves in_full (the_labelled network) names (the_following f)
the_heard f (Digest network names) = saves by_digest (the_labelled network) names (the_following f)

-- what is said ends a line, or is a document with a name for each time-point, of which the first is the first of these
abbrev pub IsSaidFor : List (List ℕ) → HeardText → Type 0
IsSaidFor names (Text text) = EndsLine text.items
IsSaidFor names (Rest network kept) = (length kept ≡ count (the_labelled network).base) × (slice_get kept 0 ≡ slice_get names 0)
IsSaidFor names (Digest network kept) = (length kept ≡ count (the_labelled network).base) × (slice_get kept 0 ≡ slice_get names 0)
