-- What a session that follows says is whole lines.
use Rattle.std.proofs.Common.{◌≡◌, ℕ, List, [], ◌∷◌, ◌++◌, refl, ap, sym, ◌∙◌, inr, append_assoc}
use Rattle.std.specs.Prelude.{codes, decimal}
use Rattle.cstn_lift.specs.Labelled.{Labelled}
use Rattle.cstn_save.specs.Canonical.{head, nodes, edges, canonical}
use Rattle.cstn_check.specs.declared.verdicts.Verdict.{Verdict}
use Rattle.cstn_check.specs.declared.verdicts.Verdict.TheVariants.{Yes, No, Full}
use Rattle.hex.specs.Hex.{encode_lower}
use Rattle.sha2.specs.Sha256.{sha256}
use Rattle.cstn_follow.specs.Digests.{digest_line}
use Rattle.cstn_follow.specs.Following.{begun_following, verdict_now, verdict_line}
use Rattle.cstn_follow.specs.Marks.{Marked, begun_marked, marked_by, marked_ending}
use Rattle.cstn_follow.specs.MarkedRead.{MarkedParts, the_marked, the_marked_heard}
use Rattle.cstn_follow.specs.declared.following.Heard.{Heard as HeardText}
use Rattle.cstn_follow.specs.declared.following.Heard.TheVariants.{Text, Rest, Digest}
use Rattle.cstn_reply.specs.Texts.{line}
use Rattle.cstn_reply.specs.Sessions.{more}
use Rattle.cstn_reply.specs.Written.{EndsLine}
use Rattle.cstn_top.specs.Plans.{ended_session, ComesTo}
use Rattle.cstn_top.specs.commands.Follow.{heard_text, marked_turn, follow_opening, follow_answer}
use Rattle.cstn_top.proofs.Comes.{comes_same}

-- behind any text a line ends with its LF
line_behind : (xs front : List ℕ) → EndsLine (xs ++ line front)
line_behind xs front = inr (xs ++ front, sym (append_assoc xs front (10 ∷ [])))

pub canonical_ends : (m : Labelled) (names : List (List ℕ)) → EndsLine (canonical m names)
canonical_ends m names = line_behind ((head m.base.deadline ++ nodes names m) ++ edges names m.base.constraints) (codes "</graph>\n</graphml>")

pub digest_ends : (text : List ℕ) → EndsLine (digest_line text)
digest_ends text = line_behind [] (codes "digest " ++ encode_lower (sha256 text))

-- the version and the first verdict are whole lines
pub opening_ends : (cap : ℕ) (v : Verdict) → EndsLine (line (codes "follow 1") ++ verdict_line cap v)
opening_ends cap (Yes load) = line_behind (line (codes "follow 1")) (codes "yes " ++ decimal load)
opening_ends cap (No load) = line_behind (line (codes "follow 1")) (codes "no " ++ decimal load)
opening_ends cap Full = line_behind (line (codes "follow 1")) (codes "full " ++ decimal cap)

-- what the program says to a line is the answer to it
pub turn_is : (t : MarkedParts) (h : HeardText)
    → marked_by canonical (the_marked_heard t h).heard (the_marked_heard t h).marks ≡ more (heard_text h) (the_marked t)
turn_is t (Text text) = refl
turn_is t (Rest network names) = refl
turn_is t (Digest network names) = refl

-- the session begins as is said of the labelled network
pub begins : (cap : ℕ) (names : List (List ℕ)) (m : Labelled) (t : MarkedParts) (v : Verdict) (opening : List ℕ) → the_marked t ≡ begun_marked cap names m
    → v ≡ verdict_now (the_marked t).now → opening ≡ line (codes "follow 1") ++ verdict_line cap v
    → ComesTo (follow_answer cap names m) (ended_session marked_turn marked_ending opening (the_marked t))
begins cap names m t v opening start verdict is =
    let opening_is : opening ≡ follow_opening (begun_following cap names m) =
    is ∙ ap (λ (x : Verdict). line (codes "follow 1") ++ verdict_line cap x) (verdict ∙ ap (λ (x : Marked). verdict_now x.now) start) in
    comes_same (follow_answer cap names m) (ended_session marked_turn marked_ending opening (the_marked t))
    (ap (λ (o : List ℕ). ended_session marked_turn marked_ending o (the_marked t)) opening_is
    ∙ ap (λ (x : Marked). ended_session marked_turn marked_ending (follow_opening (begun_following cap names m)) x) start)
