-- `follow FILE [--deadline N] [--cap CAP]`: what happens while a plan is carried out is told by the lines of the live source.
use Rattle.std.specs.Prelude.{ℕ, List, ◌++◌, codes}
use Rattle.cstn_lift.specs.Read.{the_labelled}
use Rattle.cstn_save.specs.Canonical.{canonical}
use Rattle.cstn_follow.specs.Digests.{digest_line}
use Rattle.cstn_follow.specs.Following.{Following, begun_following, verdict_now, verdict_line}
use Rattle.cstn_follow.specs.Marks.{Marked, begun_marked, marked_turn_by, marked_ending}
use Rattle.cstn_follow.specs.declared.following.Heard.{Heard as HeardText}
use Rattle.cstn_follow.specs.declared.following.Heard.TheVariants.{Text, Rest, Digest}
use Rattle.cstn_reply.specs.Texts.{line}
use Rattle.cstn_reply.specs.Sessions.{Turn}
use Rattle.cstn_top.specs.Plans.{ended_session}
use Rattle.cstn_top.specs.Answers.{LabelledAnswer}

-- the text of what the program says to a line
abbrev pub heard_text : HeardText → List ℕ
heard_text (Text text) = text.items
heard_text (Rest network names) = canonical (the_labelled network) names
heard_text (Digest network names) = digest_line (canonical (the_labelled network) names)

-- the answer to a line, which may be none of the session; documents are the canonical ones
abbrev pub marked_turn : Marked → List ℕ → Turn Marked
marked_turn = marked_turn_by canonical

-- the version of the lines, and the first verdict
abbrev pub follow_opening : Following → List ℕ
follow_opening s = line (codes "follow 1") ++ verdict_line s.cap (verdict_now s)

-- what `follow` says of a labelled network
abbrev pub follow_answer : ℕ → LabelledAnswer
follow_answer cap names m = ended_session marked_turn marked_ending (follow_opening (begun_following cap names m)) (begun_marked cap names m)
