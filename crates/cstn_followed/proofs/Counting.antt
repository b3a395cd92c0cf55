-- The lines that count lead a session without marks to the state of the one with marks.
use Rattle.std.proofs.Common.{ℕ, suc, ◌≡◌, ◌+◌, ◌^◌, ◌≤◌, Bool, true, false, List, [], ◌∷◌, ◌++◌, length, map, Option, Some, None, arith, refl, sym, subst, ap, ◌∙◌, inl, inr}
use Rattle.std.specs.Prelude.{◌⊎◌, min, nat_lt, if◌then◌else◌, codes, decimal, bytes_eq}
use Rattle.std.specs.Option.{option_map}
use Rattle.std.proofs.lemmas.Bool.{cases_lt, or_from, or_parts}
use Rattle.std.proofs.lemmas.List.{length_push}
use Rattle.cstn_net.specs.Limits.{most_constraints}
use Rattle.cstn_net.specs.Networks.{count}
use Rattle.cstn_lift.specs.Labelled.{Labelled}
use Rattle.cstn_lift.specs.Lowered.{lowered}
use Rattle.cstn_lift.specs.WellFormed.{IsLabelled}
use Rattle.cstn_lines.specs.Pieces.{is_past}
use Rattle.cstn_reply.specs.Sessions.{Turn, more}
use Rattle.cstn_reply.specs.Reached.{state_after}
use Rattle.cstn_reply.proofs.Sessions.{first_leads, state_more, state_split, zero_plus}
use Rattle.cstn_save.specs.Canonical.{canonical}
use Rattle.cstn_follow.specs.Asking.{Spoken, spoken_read}
use Rattle.cstn_follow.specs.Following.{Following, Heard, says, saves, begun_following}
use Rattle.cstn_follow.specs.Digests.{shown}
use Rattle.cstn_follow.specs.Hearing.{counted, hear, on_line}
use Rattle.cstn_follow.specs.Marks.{Saying, sets_mark, goes_back, tries, Marked, MarkedHeard, most_marks, begun_marked, try_read, saying_by, saying_read, on_mark, on_back, on_saying, marked_by}
use Rattle.cstn_follow.specs.Trials.{Triable, sets_cap, cap_read, triable_by, is_refusal, is_replanning, on_triable, trial_said, on_try}
use Rattle.cstn_follow.specs.Turns.{heard_by}
use Rattle.cstn_follow.proofs.MarkedStates.{recapped_sound}
use Rattle.cstn_follow.proofs.Points.{turn_grows}
use Rattle.cstn_follow.proofs.States.{IsSound, begun_sound, lines_sound, next_sound}
use Rattle.cstn_followed.specs.Journal.{with_count, with_cap}
use Rattle.cstn_followed.specs.Marked.{marked_turn, CountedLines, with_line, with_empty, counting, counting_at_mark, counting_back, counting_after, counting_by, lines_that_count}
use Rattle.cstn_followed.specs.Sessions.{follow_turn}
use Rattle.cstn_followed.proofs.Capped.{line_alike, turn_alike}
use Rattle.cstn_followed.proofs.Recounted.{Refuses, recounted, line_same}
use Rattle.cstn_followed.proofs.Refusals.{refusal_stays}

-- ---- turns

-- a line is answered by a text
pub record TurnSays (turn : Turn Following) : Type 0 where
  pub text : List ℕ
  pub next : Following
  pub answer : turn ≡ more text next

heard_says : (heard : Heard) → TurnSays (heard_by canonical heard)
heard_says (says text next) = record { text = text; next = next; answer = refl }
heard_says (saves how m names next) = record { text = shown how (canonical m names); next = next; answer = refl }

pub same_next : {S : Type 0} (one two : List ℕ) (s t : S) → more one s ≡ more two t → s ≡ t
same_next one two s t is = cc

-- what a session with marks is answered is what the one without them is answered, and the marks
pub marked_parts : (heard : Heard) (marks : List Following) (text : List ℕ) (next : Marked) → marked_by canonical heard marks ≡ more text next
    → (heard_by canonical heard ≡ more text next.now) × (next.marks ≡ marks)
marked_parts (says words later) marks text next is =
    let g : Marked = record { now = later; marks = marks } in
    let same : g ≡ next = same_next words text g next is in
    let same_words : words ≡ text = cc in
    (ap (λ w. more w later) same_words ∙ ap (λ (t : Marked). more text t.now) same, sym (ap (λ (t : Marked). t.marks) same))
marked_parts (saves how m names later) marks text next is =
    let g : Marked = record { now = later; marks = marks } in
    let same : g ≡ next = same_next (shown how (canonical m names)) text g next is in
    let same_words : shown how (canonical m names) ≡ text = cc in
    (ap (λ w. more w later) same_words ∙ ap (λ (t : Marked). more text t.now) same, sym (ap (λ (t : Marked). t.marks) same))

-- ---- one line more is counted

recounted_next : (n : ℕ) (heard : Heard) (text : List ℕ) (next : Following) → heard_by canonical (recounted n heard) ≡ more text next → next.lines ≡ n
recounted_next n (says words later) text next is = ap (λ (s : Following). s.lines) (sym (same_next words text (with_count later n) next is))
recounted_next n (saves how m names later) text next is =
    ap (λ (s : Following). s.lines) (sym (same_next (shown how (canonical m names)) text (with_count later n) next is))

refused_text : (heard : Heard) (text : List ℕ) (next : Following) → heard_by canonical heard ≡ more text next → Refuses heard → is_refusal text ≡ true
refused_text (says words later) text next is refused = let same : words ≡ text = cc in ap is_refusal (sym same) ∙ refused
refused_text (saves how m names later) text next is refused = absurd refused

pub counted_lines : (s next : Following) (bytes text : List ℕ) → IsSound s → follow_turn s bytes ≡ more text next → next.lines ≡ (counted s).lines
counted_lines s next bytes text sound answered = by_same (line_same (counted s) (counted s).lines (spoken_read bytes))
  where
    heard : Heard
    heard = on_line (counted s) (spoken_read bytes)

    by_same : Refuses heard ⊎ (heard ≡ recounted (counted s).lines heard) → next.lines ≡ (counted s).lines
    by_same (inl refuses) =
        ap (λ (x : Following). x.lines) (refusal_stays s next bytes text sound answered (refused_text heard text next answered refuses))
    by_same (inr same) = recounted_next (counted s).lines heard text next (sym (ap (heard_by canonical) same) ∙ answered)

-- ---- another cap

capped_back : (c : ℕ) (s two : Following) (one said : List ℕ) (next : Following) → more one next ≡ more said (with_cap two s.cap) → two.cap ≡ c
    → two ≡ with_cap next c
capped_back c s two one said next is cap_is =
    let same : next ≡ with_cap two s.cap = same_next one said next (with_cap two s.cap) is in
    ap (λ n. with_cap two n) cap_is ∙ sym (ap (λ x. with_cap x c) same)

recap_turn : (s next : Following) (c : ℕ) (bytes text : List ℕ) → IsSound s → follow_turn s bytes ≡ more text next
    → (said : List ℕ) × (follow_turn (with_cap s c) bytes ≡ more said (with_cap next c))
recap_turn s next c bytes text sound answered = elim (cases_lt s.cap c) [
  | inl below ↦
      let one = turn_alike s.cap c text next (hear s (spoken_read bytes)) (hear (with_cap s c) (spoken_read bytes))
      (line_alike (counted s) c (omega (arith, below)) (spoken_read bytes)) answered in
      (one.said, one.turn)
  | inr upto ↦
      let capped = with_cap s c in
      let two = heard_says (hear capped (spoken_read bytes)) in
      let one = turn_alike c s.cap two.text two.next (hear capped (spoken_read bytes)) (hear (with_cap capped s.cap) (spoken_read bytes))
      (line_alike (counted capped) s.cap upto (spoken_read bytes)) two.answer in
      let cap_is = (turn_grows canonical capped two.next bytes two.text (recapped_sound s c sound) two.answer).cap in
      (two.text, two.answer ∙ ap (λ x. more two.text x) (capped_back c s two.next text one.said next (sym answered ∙ one.turn) cap_is))
]

pub recap_lines : (s g : Following) (c k : ℕ) (lines : List (List ℕ)) → IsSound s → state_after follow_turn s k lines ≡ Some g
    → state_after follow_turn (with_cap s c) k lines ≡ Some (with_cap g c)
recap_lines s g c k [] sound is = let same : s ≡ g = cc in ap (λ x. Some (with_cap x c)) same
recap_lines s g c k (first ∷ lines) sound is =
    let l = first_leads follow_turn s g k first lines is in
    let one = recap_turn s l.next c first l.text sound l.answer in
    state_more follow_turn (with_cap s c) k first lines l.short one.0 (with_cap l.next c) one.1
    ∙ recap_lines l.next g c (k + 1) lines (next_sound canonical s l.next first l.text sound l.answer) l.rest

-- ---- one line more leads on

line_leads : (s g next : Following) (lines : List (List ℕ)) (bytes text : List ℕ) → state_after follow_turn s 0 lines ≡ Some g
    → is_past (length lines + 1) bytes ≡ false → follow_turn g bytes ≡ more text next → state_after follow_turn s 0 (with_line lines bytes) ≡ Some next
line_leads s g next lines bytes text is short answered =
    state_split follow_turn s g 0 lines (bytes ∷ []) is
    ∙ state_more follow_turn g (0 + length lines) bytes []
    (subst (λ (n : ℕ). is_past (n + 1) bytes ≡ false) (sym (zero_plus (length lines))) short) text next answered

-- the empty line is not too long
empty_short : (k : ℕ) (bytes : List ℕ) → is_past k bytes ≡ false → is_past k [] ≡ false
empty_short k bytes short = or_from (nat_lt 4096 0) (nat_lt (2 ^ 24) k) refl (or_parts (nat_lt 4096 (length bytes)) (nat_lt (2 ^ 24) k) short).1

module _ (names : List (List ℕ)) (m : Labelled) (good : IsLabelled m) (few : length (lowered m).constraints ≤ most_constraints)
    (named : length names ≡ count m.base) where
  -- so many lines lead a session without marks to this state, but for the count of lines, which is this
  pub record Leads (n k : ℕ) (s : Following) (lines : List (List ℕ)) : Type 0 where
    pub long : length lines ≡ k
    pub leads : state_after follow_turn (begun_following s.cap names m) 0 lines ≡ Some (record s { lines = n })

  -- and so it is at each mark
  abbrev AreLed : ℕ → ℕ → List Following → List (List (List ℕ)) → Type 0
  AreLed n k [] [] = Unit {0}
  AreLed n k [] (lines ∷ others) = ⊥
  AreLed n k (s ∷ marks) [] = ⊥
  AreLed n k (s ∷ marks) (lines ∷ others) = Leads n k s lines × AreLed n k marks others

  pub record IsLed (k : ℕ) (t : Marked) (c : CountedLines) : Type 0 where
    pub now : Leads t.now.lines k t.now c.now
    pub marks : AreLed t.now.lines k t.marks c.marks

  led_length : (n k : ℕ) (marks : List Following) (lines : List (List (List ℕ))) → AreLed n k marks lines → length marks ≡ length lines
  led_length n k [] [] led = refl
  led_length n k [] (lines ∷ others) led = absurd led
  led_length n k (s ∷ marks) [] led = absurd led
  led_length n k (s ∷ marks) (lines ∷ others) led = ap suc (led_length n k marks others led.1)

  leads_sound : (n k : ℕ) (s : Following) (lines : List (List ℕ)) → Leads n k s lines → IsSound (record s { lines = n })
  leads_sound n k s lines l = lines_sound canonical (begun_following s.cap names m) (record s { lines = n }) 0 lines (begun_sound s.cap names m good few named) l.leads

  line_long : (k : ℕ) (lines : List (List ℕ)) (bytes : List ℕ) → length lines ≡ k → length (with_line lines bytes) ≡ k + 1
  line_long k lines bytes is = length_push lines bytes ∙ ap (λ n. n + 1) is

  -- an empty line more
  leads_empty : (n k : ℕ) (s : Following) (lines : List (List ℕ)) → is_past (k + 1) [] ≡ false → Leads n k s lines
      → Leads (min (suc n) 16777217) (k + 1) s (with_empty lines)
  leads_empty n k s lines short l =
      let g : Following = record s { lines = n } in
      record {
        long = line_long k lines [] l.long;
        leads = line_leads (begun_following s.cap names m) g (counted g) lines [] (line_text g) l.leads
            (subst (λ (j : ℕ). is_past (j + 1) [] ≡ false) (sym l.long) short) refl;
      }
    where
      line_text : Following → List ℕ
      line_text g = (codes "refused line " ++ decimal (counted g).lines) ++ 10 ∷ []

  led_empty : (n k : ℕ) (marks : List Following) (lines : List (List (List ℕ))) → is_past (k + 1) [] ≡ false → AreLed n k marks lines
      → AreLed (min (suc n) 16777217) (k + 1) marks (map with_empty lines)
  led_empty n k [] [] short led = tt
  led_empty n k [] (lines ∷ others) short led = absurd led
  led_empty n k (s ∷ marks) [] short led = absurd led
  led_empty n k (s ∷ marks) (lines ∷ others) short led = (leads_empty n k s lines short led.0, led_empty n k marks others short led.1)

  -- another count of lines, and another cap
  leads_recounted : (n k i : ℕ) (s : Following) (lines : List (List ℕ)) → Leads n k s lines → Leads n k (record s { lines = i }) lines
  leads_recounted n k i s lines l = record { long = l.long; leads = l.leads }

  leads_capped : (n k c : ℕ) (s : Following) (lines : List (List ℕ)) → Leads n k s lines → Leads n k (record s { cap = c }) lines
  leads_capped n k c s lines l = record {
    long = l.long;
    leads = recap_lines (begun_following s.cap names m) (record s { lines = n }) c 0 lines (begun_sound s.cap names m good few named) l.leads;
  }

  -- a line that counts
  leads_line : (k : ℕ) (s next : Following) (lines : List (List ℕ)) (bytes text : List ℕ) → is_past (k + 1) bytes ≡ false → Leads s.lines k s lines
      → follow_turn s bytes ≡ more text next → Leads next.lines (k + 1) next (with_line lines bytes)
  leads_line k s next lines bytes text short l answered =
      let cap_is = (turn_grows canonical s next bytes text (leads_sound s.lines k s lines l) answered).cap in
      record {
        long = line_long k lines bytes l.long;
        leads = ap (λ c. state_after follow_turn (begun_following c names m) 0 (with_line lines bytes)) cap_is
            ∙ line_leads (begun_following s.cap names m) s next lines bytes text l.leads
            (subst (λ (j : ℕ). is_past (j + 1) bytes ≡ false) (sym l.long) short) answered;
      }

  module _ (k : ℕ) (t : Marked) (c : CountedLines) (led : IsLed k t c) (bytes : List ℕ) (short : is_past (k + 1) bytes ≡ false) where
    abbrev s : Following
    s = counted t.now

    none : is_past (k + 1) [] ≡ false
    none = empty_short (k + 1) bytes short

    -- the session as it is, and at its marks, with an empty line more
    now_empty : Leads s.lines (k + 1) s (with_empty c.now)
    now_empty = leads_recounted s.lines (k + 1) s.lines t.now (with_empty c.now) (leads_empty t.now.lines k t.now c.now none led.now)

    marks_empty : AreLed s.lines (k + 1) t.marks (map with_empty c.marks)
    marks_empty = led_empty t.now.lines k t.marks c.marks none led.marks

    still : IsLed (k + 1) (record { now = s; marks = t.marks }) (counting c [])
    still = record { now = now_empty; marks = marks_empty }

    -- a line that counts
    line_counts : (o : Option Spoken) → spoken_read bytes ≡ o → (text : List ℕ) (next : Marked)
        → marked_by canonical (hear t.now o) t.marks ≡ more text next → IsLed (k + 1) next (counting c bytes)
    line_counts o reads text next answered =
        let parts = marked_parts (hear t.now o) t.marks text next answered in
        let turn : follow_turn t.now bytes ≡ more text next.now = ap (λ p. heard_by canonical (hear t.now p)) reads ∙ parts.0 in
        let lines_are : next.now.lines ≡ s.lines = counted_lines t.now next.now bytes text (leads_sound t.now.lines k t.now c.now led.now) turn in
        record {
          now = leads_line k t.now next.now c.now bytes text short led.now turn;
          marks = subst (λ marks. AreLed next.now.lines (k + 1) marks (map with_empty c.marks)) (sym parts.1)
              (subst (λ (n : ℕ). AreLed n (k + 1) t.marks (map with_empty c.marks)) (sym lines_are) marks_empty);
        }

    abbrev Then : MarkedHeard → CountedLines → Type 0
    Then h d = (text : List ℕ) (next : Marked) → marked_by canonical h.heard h.marks ≡ more text next → IsLed (k + 1) next d

    -- what counts after a line that says this
    abbrev Counts : Option Saying → Type 0
    Counts o = Then (on_saying s t.marks o) (counting_after c o bytes)

    -- a line after which the session is this
    after : (said : List ℕ) (g : Marked) (d : CountedLines) (text : List ℕ) (next : Marked) → more said g ≡ more text next → IsLed (k + 1) g d
        → IsLed (k + 1) next d
    after said g d text next is here = subst (λ (x : Marked). IsLed (k + 1) x d) (same_next said text g next is) here

    mark_counts : Then (on_mark s t.marks) (counting_at_mark (counting c []))
    mark_counts text next = by_room (nat_lt (length t.marks) most_marks) (nat_lt (length (map with_empty c.marks)) most_marks)
        (ap (λ n. nat_lt n most_marks) (led_length s.lines (k + 1) t.marks (map with_empty c.marks) marks_empty))
      where
        heard : Bool → MarkedHeard
        heard b =
            if b then record { heard = says ((codes "mark " ++ decimal (suc (length t.marks))) ++ 10 ∷ []) s; marks = s ∷ t.marks }
            else record { heard = says (codes "refused M1" ++ 10 ∷ []) s; marks = t.marks }

        by_room : (b other : Bool) → b ≡ other → marked_by canonical (heard b).heard (heard b).marks ≡ more text next
            → IsLed (k + 1) next (if other then record (counting c []) { marks = with_empty c.now ∷ map with_empty c.marks } else counting c [])
        by_room true true same is =
            after _ (record { now = s; marks = s ∷ t.marks }) (record (counting c []) { marks = with_empty c.now ∷ map with_empty c.marks }) text next is
            (record { now = now_empty; marks = (now_empty, marks_empty) })
        by_room false false same is = after _ (record { now = s; marks = t.marks }) (counting c []) text next is still
        by_room true false same is = absurd (cc)
        by_room false true same is = absurd (cc)

    back_counts : Then (on_back s t.marks) (counting_back (counting c []).now (counting c []).marks)
    back_counts text next = by_marks t.marks (map with_empty c.marks) marks_empty
      where
        by_marks : (marks : List Following) (lines : List (List (List ℕ))) → AreLed s.lines (k + 1) marks lines
            → marked_by canonical (on_back s marks).heard (on_back s marks).marks ≡ more text next
            → IsLed (k + 1) next (counting_back (with_empty c.now) lines)
        by_marks [] [] all is = after _ (record { now = s; marks = [] }) (record { now = with_empty c.now; marks = [] }) text next is
            (record { now = now_empty; marks = tt })
        by_marks [] (lines ∷ others) all is = absurd all
        by_marks (mark ∷ marks) [] all is = absurd all
        by_marks (mark ∷ marks) (lines ∷ others) all is =
            after _ (record { now = record mark { lines = s.lines }; marks = marks }) (record { now = lines; marks = others }) text next is
            (record { now = leads_recounted s.lines (k + 1) s.lines mark lines all.0; marks = all.1 })

    try_counts : (line : Triable) → Then (record { heard = on_try s line; marks = t.marks }) (counting c [])
    try_counts line text next = by_heard (on_triable s line)
      where
        by_heard : (heard : Heard) → marked_by canonical (trial_said s (is_replanning line) heard) t.marks ≡ more text next → IsLed (k + 1) next (counting c [])
        by_heard (says words later) is = after _ (record { now = s; marks = t.marks }) (counting c []) text next is still
        by_heard (saves how l names later) is = after _ (record { now = s; marks = t.marks }) (counting c []) text next is still

    pub line_counted : (text : List ℕ) (next : Marked) → marked_turn t bytes ≡ more text next
        → IsLed (k + 1) next (counting_after c (saying_read bytes) bytes)
    line_counted = by_spoken (spoken_read bytes) refl
      where
        by_try : spoken_read bytes ≡ None → (o : Option Triable) → Counts (option_map tries o)
        by_try reads None = line_counts None reads
        by_try reads (Some line) = try_counts line

        by_back : spoken_read bytes ≡ None → (b : Bool) → Counts (if b then Some goes_back else option_map tries (try_read bytes))
        by_back reads true = back_counts
        by_back reads false = by_try reads (try_read bytes)

        by_mark : spoken_read bytes ≡ None → (b : Bool)
            → Counts (if b then Some sets_mark else if bytes_eq bytes (codes "back") then Some goes_back else option_map tries (try_read bytes))
        by_mark reads true = mark_counts
        by_mark reads false = by_back reads (bytes_eq bytes (codes "back"))

        by_cap : spoken_read bytes ≡ None → (o : Option ℕ) → Counts (saying_by (option_map sets_cap o) bytes)
        by_cap reads None = by_mark reads (bytes_eq bytes (codes "mark"))
        by_cap reads (Some n) = λ text next is.
            after _ (record { now = record s { cap = n }; marks = t.marks }) (counting c []) text next is
            (record { now = leads_capped s.lines (k + 1) n s (with_empty c.now) now_empty; marks = marks_empty })

        by_spoken : (o : Option Spoken) → spoken_read bytes ≡ o → Counts (saying_by (triable_by o bytes) bytes)
        by_spoken None reads = by_cap reads (cap_read bytes)
        by_spoken (Some spoken) reads = line_counts (Some spoken) reads

  -- line after line
  lines_counted : (k : ℕ) (t g : Marked) (c : CountedLines) (lines : List (List ℕ)) → IsLed k t c → state_after marked_turn t k lines ≡ Some g
      → (j : ℕ) × IsLed j g (counting_by c lines)
  lines_counted k t g c [] led is = let same : t ≡ g = cc in (k, subst (λ (x : Marked). IsLed k x c) same led)
  lines_counted k t g c (first ∷ lines) led is =
      let l = first_leads marked_turn t g k first lines is in
      lines_counted (k + 1) l.next g (counting_after c (saying_read first) first) lines (line_counted k t c led first l.short l.text l.next l.answer) l.rest

  -- the lines that count lead to the state, with its cap and its count of lines
  pub counting_leads : (cap : ℕ) (lines : List (List ℕ)) (t : Marked) → state_after marked_turn (begun_marked cap names m) 0 lines ≡ Some t
      → state_after follow_turn (begun_following t.now.cap names m) 0 (lines_that_count lines) ≡ Some t.now
  counting_leads cap lines t is =
      let start : IsLed 0 (begun_marked cap names m) (record { now = []; marks = [] }) = record { now = record { long = refl; leads = refl }; marks = tt } in
      (lines_counted 0 (begun_marked cap names m) t (record { now = []; marks = [] }) lines start is).1.now.leads
