-- A session that is led back to a mark is as it was there, but for the count of lines.
use Rattle.std.proofs.Common.{ℕ, suc, ◌≡◌, ◌+◌, ◌<◌, ◌≤◌, Bool, true, false, List, [], ◌∷◌, ◌++◌, length, Option, Some, None, arith, refl, sym, subst, ap, ◌∙◌}
use Rattle.std.specs.Prelude.{nat_lt, if◌then◌else◌, codes, decimal, Result, Ok, Err}
use Rattle.cstn_net.specs.Limits.{most_constraints, most_deadline, most_edits}
use Rattle.cstn_change.specs.Changes.{Change, removes, revalues, ChangeRefusal, EditLimit, refusal, edited_by}
use Rattle.cstn_change.specs.ChangeLines.{addition, accepted_text, refused_change_text}
use Rattle.cstn_lines.specs.EditLines.{added, removed, changed, asked}
use Rattle.cstn_lines.specs.FollowLines.{Follow, done_at, came_at, now_at, awaited_at, ready_at, edits, ends_by, asks_next, asks_by, asks_blame, asks_rest}
use Rattle.cstn_check.specs.declared.verdicts.Verdict.{Verdict}
use Rattle.cstn_reply.specs.Texts.{line}
use Rattle.cstn_reply.specs.Sessions.{Turn, more}
use Rattle.cstn_reply.specs.Reached.{state_after}
use Rattle.cstn_reply.proofs.Sessions.{first_leads, state_more, plus_none, one_more}
use Rattle.cstn_save.specs.Canonical.{canonical}
use Rattle.cstn_text.specs.Names.{number_of}
use Rattle.cstn_text.specs.PrintedNames.{printed_name}
use Rattle.cstn_follow.specs.Amending.{forgives, steps}
use Rattle.cstn_follow.specs.Asking.{Spoken, of_line, of_question, of_amendment, asks_digest, spoken_read}
use Rattle.cstn_follow.specs.Following.{Following, Heard, says, saves, verdict_within, on_left_verdict, verdict_now, verdict_line}
use Rattle.cstn_follow.specs.Digests.{shown}
use Rattle.cstn_follow.specs.Forgiving.{broken_ids, after_removals}
use Rattle.cstn_follow.specs.ForgivingLines.{forgiven_line}
use Rattle.cstn_follow.specs.Hearing.{counted, hear, on_other, on_follow}
use Rattle.cstn_follow.specs.PlanLines.{edited_network, replanned, on_refusal, on_edit, on_deadline}
use Rattle.cstn_follow.specs.Replans.{with_due}
use Rattle.cstn_follow.specs.StepLines.{with_step, step_refusal, step_unless}
use Rattle.cstn_follow.specs.Marks.{Saying, of_triable, tries, sets_mark, goes_back, Marked, MarkedHeard, most_marks, saying_by, saying_read, on_back, on_saying, hear_marked, marked_by}
use Rattle.cstn_follow.specs.Trials.{Triable, of_spoken, sets_cap, triable_by, is_plan_line, is_replanning, on_triable, trial_text, trial_said, on_try}
use Rattle.cstn_follow.specs.Turns.{heard_by}
use Rattle.cstn_followed.specs.Journal.{with_count, AreSameButCount}
use Rattle.cstn_followed.specs.Marked.{marked_turn, SetsNoMark, ArePaired, IsTried}
use Rattle.cstn_followed.specs.Marked.ArePaired.{paired_none, paired_line, paired_marks}
use Rattle.cstn_followed.specs.Sessions.{follow_turn}
use Rattle.cstn_followed.proofs.Counting.{same_next, marked_parts}

-- lines, and then further ones
split_leads : {S : Type 0} (turn : S → List ℕ → Turn S) (s g : S) (k : ℕ) (lines later : List (List ℕ)) → state_after turn s k (lines ++ later) ≡ Some g
    → (m : S) × (state_after turn s k lines ≡ Some m) × (state_after turn m (k + length lines) later ≡ Some g)
split_leads turn s g k [] later is = (s, refl, subst (λ n. state_after turn s n later ≡ Some g) (plus_none k) is)
split_leads turn s g k (first ∷ lines) later is =
    let l = first_leads turn s g k first (lines ++ later) is in
    let more_lines = split_leads turn l.next g (k + 1) lines later l.rest in (
      more_lines.0,
      state_more turn s k first lines l.short l.text l.next l.answer ∙ more_lines.1,
      subst (λ n. state_after turn more_lines.0 n later ≡ Some g) (one_more k (length lines)) more_lines.2,
    )

-- a line that neither sets a mark nor goes back leaves the marks as they are
plain_keeps : (t next : Marked) (bytes text : List ℕ) → SetsNoMark (saying_read bytes) → marked_turn t bytes ≡ more text next → next.marks ≡ t.marks
plain_keeps t next bytes text plain answered = by_saying (saying_read bytes) plain answered
  where
    s : Following
    s = counted t.now

    by_saying : (o : Option Saying) → SetsNoMark o → marked_by canonical (on_saying s t.marks o).heard (on_saying s t.marks o).marks ≡ more text next
        → next.marks ≡ t.marks
    by_saying None none is = (marked_parts (on_saying s t.marks None).heard t.marks text next is).1
    by_saying (Some (of_triable line)) none is = (marked_parts (on_triable s line) t.marks text next is).1
    by_saying (Some (tries line)) none is = (marked_parts (on_try s line) t.marks text next is).1
    by_saying (Some sets_mark) none is = absurd none
    by_saying (Some goes_back) none is = absurd none

-- `mark` where there is room for one
mark_leads : (t next : Marked) (text : List ℕ) → length t.marks < most_marks → marked_turn t (codes "mark") ≡ more text next
    → next ≡ record { now = counted t.now; marks = counted t.now ∷ t.marks }
mark_leads t next text room = by_room (nat_lt (length t.marks) most_marks) (room_is (length t.marks) room)
  where
    s : Following
    s = counted t.now

    room_is : (n : ℕ) → n < most_marks → nat_lt n most_marks ≡ true
    room_is n below = grind arith

    heard : Bool → MarkedHeard
    heard b =
        if b then record { heard = says ((codes "mark " ++ decimal (suc (length t.marks))) ++ 10 ∷ []) s; marks = s ∷ t.marks }
        else record { heard = says (codes "refused M1" ++ 10 ∷ []) s; marks = t.marks }

    by_room : (b : Bool) → b ≡ true → marked_by canonical (heard b).heard (heard b).marks ≡ more text next → next ≡ record { now = s; marks = s ∷ t.marks }
    by_room true yes_room is = sym (same_next _ text (record { now = s; marks = s ∷ t.marks }) next is)
    by_room false no_room is = absurd (cc)

-- `back` where there is a mark
back_leads : (t next : Marked) (text : List ℕ) (mark : Following) (marks : List Following) → t.marks ≡ mark ∷ marks → marked_turn t (codes "back") ≡ more text next
    → next ≡ record { now = with_count mark (counted t.now).lines; marks = marks }
back_leads t next text mark marks are answered =
    let s = counted t.now in
    let there : marked_by canonical (on_back s (mark ∷ marks)).heard (on_back s (mark ∷ marks)).marks ≡ more text next =
    ap (λ all. marked_by canonical (on_back s all).heard (on_back s all).marks) (sym are) ∙ answered in
    sym (same_next _ text (record { now = with_count mark s.lines; marks = marks }) next there)

shorter : (n i : ℕ) (marks : List Following) (s : Following) → length marks + suc n ≤ i → length (s ∷ marks) + n ≤ i
shorter n i marks s fits = omega (arith, fits)

fits_first : (n i : ℕ) (marks : List Following) → length marks + suc n ≤ i → length marks < i
fits_first n i marks fits = omega (arith, fits)

-- after lines among which each `mark` has its `back` the marks are as they were
paired_keeps : (n : ℕ) (lines : List (List ℕ)) → ArePaired n lines → (t g : Marked) (k : ℕ) → length t.marks + n ≤ most_marks
    → state_after marked_turn t k lines ≡ Some g → g.marks ≡ t.marks
paired_keeps n lines (paired_none i) t g k fits is = let same : t ≡ g = cc in sym (ap (λ (x : Marked). x.marks) same)
paired_keeps n lines (paired_line i first others plain paired) t g k fits is =
    let l = first_leads marked_turn t g k first others is in
    let same = plain_keeps t l.next first l.text plain l.answer in
    paired_keeps i others paired l.next g (k + 1) (subst (λ marks. length marks + i ≤ most_marks) (sym same) fits) l.rest ∙ same
paired_keeps n lines (paired_marks i between others inner outer) t g k fits is =
    let l = first_leads marked_turn t g k (codes "mark") (between ++ codes "back" ∷ others) is in
    let s = counted t.now in
    let at_mark = ap (λ (x : Marked). x.marks) (mark_leads t l.next l.text (fits_first i most_marks t.marks fits) l.answer) in
    let two = split_leads marked_turn l.next g (k + 1) between (codes "back" ∷ others) l.rest in
    let kept = paired_keeps i between inner l.next two.0 (k + 1)
    (subst (λ marks. length marks + i ≤ most_marks) (sym at_mark) (shorter i most_marks t.marks s fits)) two.1 in
    let b = first_leads marked_turn two.0 g ((k + 1) + length between) (codes "back") others two.2 in
    let at_back = ap (λ (x : Marked). x.marks) (back_leads two.0 b.next b.text s t.marks (kept ∙ at_mark) b.answer) in
    paired_keeps (suc i) others outer b.next g (((k + 1) + length between) + 1) (subst (λ marks. length marks + suc i ≤ most_marks) (sym at_back) fits) b.rest
    ∙ at_back

-- from a mark to its `back`
pub back_leads_back : (n k : ℕ) (between : List (List ℕ)) (t g : Marked) → ArePaired n between → length t.marks + suc n ≤ most_marks
    → state_after marked_turn t k (codes "mark" ∷ (between ++ codes "back" ∷ [])) ≡ Some g → AreSameButCount t.now g.now × (g.marks ≡ t.marks)
back_leads_back n k between t g paired fits is =
    let l = first_leads marked_turn t g k (codes "mark") (between ++ codes "back" ∷ []) is in
    let s = counted t.now in
    let at_mark = ap (λ (x : Marked). x.marks) (mark_leads t l.next l.text (fits_first n most_marks t.marks fits) l.answer) in
    let two = split_leads marked_turn l.next g (k + 1) between (codes "back" ∷ []) l.rest in
    let kept = paired_keeps n between paired l.next two.0 (k + 1)
    (subst (λ marks. length marks + n ≤ most_marks) (sym at_mark) (shorter n most_marks t.marks s fits)) two.1 in
    let b = first_leads marked_turn two.0 g ((k + 1) + length between) (codes "back") [] two.2 in
    let at_back = back_leads two.0 b.next b.text s t.marks (kept ∙ at_mark) b.answer in
    let end : b.next ≡ g = let last = b.rest in cc in
    let whole = sym end ∙ at_back in
    (((counted two.0.now).lines, ap (λ (x : Marked). x.now) whole), ap (λ (x : Marked). x.marks) whole)

-- ---- tries

-- what is said to a line that edits is a text
module _ (s : Following) where
  abbrev IsText : Heard → Type 0
  IsText (says text next) = Unit {0}
  IsText (saves how m names next) = ⊥

  left_text : (next : Following) (text : Verdict → List ℕ) (v : Option Verdict) → IsText (on_left_verdict s next text v)
  left_text next text None = tt
  left_text next text (Some v) = tt

  refusal_text : (change : Change) (why : Option ChangeRefusal) → IsText (on_refusal s change why)
  refusal_text change None =
      let e = replanned s (edited_by (edited_network s) change) in
      left_text e (λ v. line (accepted_text s.fresh change)) (verdict_within e)
  refusal_text change (Some why) = tt

  edit_text : (change : Result Change ChangeRefusal) → IsText (on_edit s change)
  edit_text (Ok change) = refusal_text change (refusal most_constraints (edited_network s) change)
  edit_text (Err why) = tt

  due_text : (deadline : ℕ) (late : Bool) → IsText (if late then on_other s else on_deadline s deadline)
  due_text deadline true = tt
  due_text deadline false =
      let e = replanned s (with_due (edited_network s) deadline) in
      left_text e (λ v. line (codes "deadline " ++ decimal deadline)) (verdict_within e)

  forgiving_text : (ids : List ℕ) (many : Bool)
      → IsText (if many then says (line (refused_change_text EditLimit)) s else says (forgiven_line ids) (replanned s (after_removals (edited_network s) ids)))
  forgiving_text ids true = tt
  forgiving_text ids false = tt

  step_text : (name : List ℕ) (why : Option (List ℕ)) → IsText (step_unless s name why)
  step_text name None = let next = with_step s name in left_text next (λ v. line (codes "step " ++ printed_name name)) (verdict_within next)
  step_text name (Some why) = tt

  plan_text : (told : Follow) → is_plan_line told ≡ true → IsText (on_follow s told)
  plan_text (edits (added from to most a)) is = edit_text (addition s.names from to most a)
  plan_text (edits (removed id)) is = edit_text (Ok (removes id))
  plan_text (edits (changed id most)) is = edit_text (Ok (revalues id most))
  plan_text (edits asked) is = absurd (cc)
  plan_text (ends_by deadline) is = due_text deadline (nat_lt most_deadline deadline)
  plan_text (done_at t names) is = absurd (cc)
  plan_text (came_at t p v) is = absurd (cc)
  plan_text (now_at t) is = absurd (cc)
  plan_text (awaited_at t p) is = absurd (cc)
  plan_text (ready_at t name) is = absurd (cc)
  plan_text asks_next is = absurd (cc)
  plan_text (asks_by name) is = absurd (cc)
  plan_text asks_blame is = absurd (cc)
  plan_text asks_rest is = absurd (cc)

  replanning_text : (line' : Triable) → is_replanning line' ≡ true → IsText (on_triable s line')
  replanning_text (of_spoken (of_line told)) is = plan_text told is
  replanning_text (of_spoken (of_question question)) is = absurd (cc)
  replanning_text (of_spoken (of_amendment forgives)) is =
      let ids = broken_ids s.network s.history in
      forgiving_text ids (nat_lt most_edits (s.edits + length ids))
  replanning_text (of_spoken (of_amendment (steps name))) is = step_text name (step_refusal s name (number_of s.names name))
  replanning_text (of_spoken asks_digest) is = absurd (cc)
  replanning_text (sets_cap cap) is = absurd (cc)

-- what a tried line is answered by what the line is answered
module _ (t next other : Marked) (text answer : List ℕ) (line : Triable) where
  by_heard : (heard : Heard) → (is_replanning line ≡ true → IsText (counted t.now) heard)
      → marked_by canonical (trial_said (counted t.now) (is_replanning line) heard) t.marks ≡ more text next
      → marked_by canonical heard t.marks ≡ more answer other
      → (next ≡ record { now = counted t.now; marks = t.marks }) × IsTried line answer other.now text
  by_heard (says words later) texts is so =
      let g : Marked = record { now = counted t.now; marks = t.marks } in
      let h : Marked = record { now = later; marks = t.marks } in
      let same_words : words ≡ answer = cc in
      let same_other : h ≡ other = same_next words answer h other so in
      let said : trial_text (is_replanning line) words later ≡ text = cc in (
        sym (same_next _ text g next is),
        subst (λ w. IsTried line w other.now text) same_words (subst (λ (x : Marked). IsTried line words x.now text) same_other (sym said)),
      )
  by_heard (saves how m names later) texts is so =
      let g : Marked = record { now = counted t.now; marks = t.marks } in
      let same_words : shown how (canonical m names) ≡ answer = cc in
      let said : shown how (canonical m names) ≡ text = cc in
      (sym (same_next (shown how (canonical m names)) text g next is), by_replans (is_replanning line) texts (sym said ∙ same_words))
    where
      by_replans : (replans : Bool) → (replans ≡ true → ⊥) → text ≡ answer → text ≡ trial_text replans answer other.now
      by_replans true never same = absurd (never refl)
      by_replans false never same = same

  pub tried_is : (bytes tried : List ℕ) → saying_read tried ≡ Some (tries line) → saying_read bytes ≡ Some (of_triable line)
      → marked_turn t tried ≡ more text next → marked_turn t bytes ≡ more answer other
      → (next ≡ record { now = counted t.now; marks = t.marks }) × IsTried line answer other.now text
  tried_is bytes tried reads also is so =
      by_heard (on_triable (counted t.now) line) (replanning_text (counted t.now) line)
      (ap (λ (o : Option Saying). marked_by canonical (hear_marked t o).heard (hear_marked t o).marks) (sym reads) ∙ is)
      (ap (λ (o : Option Saying). marked_by canonical (hear_marked t o).heard (hear_marked t o).marks) (sym also) ∙ so)

-- ---- lines of a session without marks, and caps

-- a line of a session without marks is answered as without them, and the marks stay
line_as_is : (s : Following) (marks : List Following) (heard : Heard) (text : List ℕ) (next : Following) → heard_by canonical heard ≡ more text next
    → marked_by canonical heard marks ≡ more text (record { now = next; marks = marks })
line_as_is s marks (says words later) text next is =
    let same_words : words ≡ text = cc in
    let same : later ≡ next = cc in
    ap (λ w. more w (record { now = later; marks = marks })) same_words ∙ ap (λ x. more text (record { now = x; marks = marks })) same
line_as_is s marks (saves how m names later) text next is =
    let same_words : shown how (canonical m names) ≡ text = cc in
    let same : later ≡ next = cc in
    ap (λ w. more w (record { now = later; marks = marks })) same_words ∙ ap (λ x. more text (record { now = x; marks = marks })) same

pub answered_as_is : (t : Marked) (bytes text : List ℕ) (next : Following) (spoken : Spoken) → spoken_read bytes ≡ Some spoken
    → follow_turn t.now bytes ≡ more text next → marked_turn t bytes ≡ more text (record t { now = next })
answered_as_is t bytes text next spoken reads answered =
    let heard = hear t.now (Some spoken) in
    let said : heard_by canonical heard ≡ more text next = ap (λ (o : Option Spoken). heard_by canonical (hear t.now o)) (sym reads) ∙ answered in
    let reads_marked : saying_read bytes ≡ Some (of_triable (of_spoken spoken)) = ap (λ (o : Option Spoken). saying_by (triable_by o bytes) bytes) reads in
    ap (λ (o : Option Saying). marked_by canonical (hear_marked t o).heard (hear_marked t o).marks) reads_marked
    ∙ line_as_is t.now t.marks heard text next said

pub cap_is_set : (t next : Marked) (bytes text : List ℕ) (cap : ℕ) → saying_read bytes ≡ Some (of_triable (sets_cap cap)) → marked_turn t bytes ≡ more text next
    → (next ≡ record { now = record (counted t.now) { cap = cap }; marks = t.marks }) × (text ≡ verdict_line cap (verdict_now next.now))
cap_is_set t next bytes text cap reads answered =
    let s : Following = record (counted t.now) { cap = cap } in
    let g : Marked = record { now = s; marks = t.marks } in
    let there : more (verdict_line cap (verdict_now s)) g ≡ more text next =
    ap (λ (o : Option Saying). marked_by canonical (hear_marked t o).heard (hear_marked t o).marks) (sym reads) ∙ answered in
    let same = same_next _ text g next there in
    let said : verdict_line cap (verdict_now s) ≡ text = cc in
    (sym same, sym said ∙ ap (λ (x : Marked). verdict_line cap (verdict_now x.now)) same)
