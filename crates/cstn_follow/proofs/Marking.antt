-- What a session with marks says, where the session as it is did so.
use Rattle.std.proofs.Common.{ℕ, suc, ◌≡◌, ◌+◌, ◌<◌, ◌≤◌, Bool, true, false, List, [], ◌∷◌, ◌++◌, length, map, arith, sym, subst, ap, ◌∙◌}
use Rattle.std.specs.Prelude.{Result, Some, option_to_list, IfOk, nat_lt, slice_get, reverse, if◌then◌else◌, codes, decimal}
use Rattle.std.specs.List.{All}
use Rattle.std.proofs.lemmas.Bool.{lt-ltb, le-ltb}
use Rattle.std.proofs.lemmas.List.{length-map, length-reverse, length_push, reverse-append}
use Rattle.std.proofs.lemmas.List.Elements.{All-pop, All-push, All-weaker}
use Rattle.std.proofs.lemmas.Result.{IfOk-weaker}
use Rattle.cstn_reply.specs.Texts.{line}
use Rattle.cstn_reply.specs.Written.{EndsLine}
use Rattle.cstn_follow.proofs.Further.{ends}
use Rattle.cstn_follow.specs.Following.{Following, Heard, says}
use Rattle.cstn_follow.specs.Marks.{MarkedHeard, most_marks, on_mark, on_back}
use Rattle.cstn_follow.specs.MarkedRead.{marked_parts, the_marked_heard, HasMarks}
use Rattle.cstn_follow.specs.Read.{FollowingParts, the_following, the_heard}
use Rattle.cstn_follow.specs.declared.following.Heard.{Heard as HeardText}

-- the sessions at the marks, the last one first
abbrev pub at_marks : List FollowingParts → List Following
at_marks marks = map the_following (reverse marks)

marks_length : (marks : List FollowingParts) → length (at_marks marks) ≡ length marks
marks_length marks = length-map (reverse marks) the_following ∙ length-reverse marks

-- one mark more, and one less
push_marks : (marks : List FollowingParts) (mark : FollowingParts) → at_marks (marks ++ mark ∷ []) ≡ the_following mark ∷ at_marks marks
push_marks marks mark = ap (map the_following) (reverse-append marks (mark ∷ []))

-- ---- `mark`

abbrev mark_text : Following → ℕ → List Following → List Following → Bool → MarkedHeard
mark_text s n marks more b =
    if b then record { heard = says (line (codes "mark " ++ decimal n)) s; marks = more } else record { heard = says (line (codes "refused M1")) s; marks = marks }

pub mark_said : (now copy : FollowingParts) (marks after : List FollowingParts) (n : ℕ) (text : List ℕ) → the_following copy ≡ the_following now
    → length marks < most_marks → n ≡ length marks + 1 → text ≡ line (codes "mark " ++ decimal n) → after ≡ marks ++ copy ∷ []
    → on_mark (the_following now) (at_marks marks) ≡ record { heard = says text (the_following now); marks = at_marks after }
mark_said now copy marks after n text same room count words are =
    let s = the_following now in
    let there = at_marks marks in
    let count_is : suc (length there) ≡ n = ap suc (marks_length marks) ∙ (let next = count in omega (arith, next)) in
    let with_copy : s ∷ there ≡ at_marks after =
    ap (λ x. x ∷ there) (sym same) ∙ sym (push_marks marks copy) ∙ ap at_marks (sym are) in
    ap (λ (b : Bool). mark_text s (suc (length there)) there (s ∷ there) b) (ap (λ k. nat_lt k most_marks) (marks_length marks) ∙ lt-ltb (length marks) most_marks room)
    ∙ ap (λ k. record { heard = says (line (codes "mark " ++ decimal k)) s; marks = s ∷ there }) count_is
    ∙ ap (λ w. record { heard = says w s; marks = s ∷ there }) (sym words)
    ∙ ap (λ all. record { heard = says text s; marks = all }) with_copy

pub mark_refused : (now : FollowingParts) (marks : List FollowingParts) (text : List ℕ) → most_marks ≤ length marks → text ≡ line (codes "refused M1")
    → on_mark (the_following now) (at_marks marks) ≡ record { heard = says text (the_following now); marks = at_marks marks }
mark_refused now marks text full words =
    let s = the_following now in
    let there = at_marks marks in
    ap (λ (b : Bool). mark_text s (suc (length there)) there (s ∷ there) b) (ap (λ k. nat_lt k most_marks) (marks_length marks) ∙ le-ltb (length marks) most_marks full)
    ∙ ap (λ w. record { heard = says w s; marks = there }) (sym words)

pub marks_pushed : (now copy : FollowingParts) (marks after : List FollowingParts) → the_following copy ≡ the_following now → length marks < most_marks
    → after ≡ marks ++ copy ∷ [] → HasMarks now marks → HasMarks now after
marks_pushed now copy marks after same room are has =
    let Same = λ (mark : FollowingParts). slice_get mark.names 0 ≡ slice_get now.names 0 in
    record {
      few = (let long = length_push marks copy in let is = ap length are in omega (arith, long, is, room));
      first = subst (All Same) (sym are) (All-push Same marks copy has.first (ap (λ (s : Following). slice_get s.names 0) same));
    }

-- ---- `back`

pub back_said : (now mark next : FollowingParts) (marks before : List FollowingParts) (n : ℕ) (text : List ℕ) → marks ≡ before ++ option_to_list (Some mark)
    → next ≡ record mark { lines = now.lines } → n ≡ length before → text ≡ line (codes "back " ++ decimal n)
    → on_back (the_following now) (at_marks marks) ≡ record { heard = says text (the_following next); marks = at_marks before }
back_said now mark next marks before n text are is count words =
    let s = the_following now in
    let there : MarkedHeard = on_back s (the_following mark ∷ at_marks before) in
    ap (on_back s) (ap at_marks are ∙ push_marks before mark)
    ∙ ap (λ k. record { heard = says (line (codes "back " ++ decimal k)) (the_following (record mark { lines = now.lines })); marks = at_marks before })
    (marks_length before ∙ sym count)
    ∙ ap (λ w. record { heard = says w (the_following (record mark { lines = now.lines })); marks = at_marks before }) (sym words)
    ∙ ap (λ (f : FollowingParts). record { heard = says text (the_following f); marks = at_marks before }) (sym is)

pub back_refused : (now : FollowingParts) (marks : List FollowingParts) (text : List ℕ) → length marks ≡ 0 → text ≡ line (codes "refused M2")
    → on_back (the_following now) (at_marks marks) ≡ record { heard = says text (the_following now); marks = at_marks marks }
back_refused now [] text none words = ap (λ w. record { heard = says w (the_following now); marks = [] }) (sym words)
back_refused now (mark ∷ marks) text none words = absurd (omega (arith, none))

pub marks_popped : (now mark next : FollowingParts) (marks before : List FollowingParts) → marks ≡ before ++ option_to_list (Some mark)
    → next ≡ record mark { lines = now.lines } → HasMarks now marks → HasMarks next before
marks_popped now mark next marks before are is has =
    let Same = λ (m : FollowingParts). slice_get m.names 0 ≡ slice_get now.names 0 in
    let parts = All-pop Same marks before (Some mark) are has.first in
    let named : next.names ≡ mark.names = ap (λ (f : FollowingParts). f.names) is in
    record {
      few = (let long = length_push before mark in let same = ap length are in let most = has.few in omega (arith, long, same, most));
      first = All-weaker Same (λ (m : FollowingParts). slice_get m.names 0 ≡ slice_get next.names 0)
          (λ m first. first ∙ sym parts.1 ∙ ap (λ names. slice_get names 0) (sym named)) before parts.0;
    }

pub back_first : (now mark next : FollowingParts) (marks before : List FollowingParts) → marks ≡ before ++ option_to_list (Some mark)
    → next ≡ record mark { lines = now.lines } → HasMarks now marks → slice_get next.names 0 ≡ slice_get now.names 0
back_first now mark next marks before are is has =
    let Same = λ (m : FollowingParts). slice_get m.names 0 ≡ slice_get now.names 0 in
    ap (λ (f : FollowingParts). slice_get f.names 0) is ∙ (All-pop Same marks before (Some mark) are has.first).1

-- ---- any line

-- the marks stay where the first time-point has its name still
pub marks_stay : (now next : FollowingParts) (marks : List FollowingParts) → slice_get next.names 0 ≡ slice_get now.names 0 → HasMarks now marks → HasMarks next marks
marks_stay now next marks same has = record {
  few = has.few;
  first = All-weaker (λ (m : FollowingParts). slice_get m.names 0 ≡ slice_get now.names 0) (λ (m : FollowingParts). slice_get m.names 0 ≡ slice_get next.names 0)
      (λ m first. first ∙ sym same) marks has.first;
}

-- what the session as it is says, with its marks
pub said_with_marks : {E : Type 0} (heard : Heard) (new : FollowingParts) (marks : List FollowingParts) (r : Result HeardText E)
    → IfOk r (λ h. heard ≡ the_heard new h) → IfOk r (λ h. record { heard = heard; marks = at_marks marks } ≡ the_marked_heard (marked_parts new marks) h)
said_with_marks heard new marks r told =
    IfOk-weaker r (λ h. heard ≡ the_heard new h) (λ h. record { heard = heard; marks = at_marks marks } ≡ the_marked_heard (marked_parts new marks) h)
    (λ h here. ap (λ x. record { heard = x; marks = at_marks marks }) here) told

-- a line that ends with a number ends a line
pub number_ends : (text word : List ℕ) (n : ℕ) → text ≡ line (word ++ decimal n) → EndsLine text
number_ends text word n is = subst EndsLine (sym is) (ends (word ++ decimal n))
