-- What holds in each state of a session without marks holds in each of one with marks, and at each of its marks.
use Rattle.std.proofs.Common.{ℕ, suc, ◌≡◌, ◌+◌, ◌≤◌, Bool, true, false, List, [], ◌∷◌, length, Option, Some, None, refl, sym, subst, ◌∙◌}
use Rattle.std.specs.Prelude.{◌++◌, nat_lt, slice_get, if◌then◌else◌, codes, decimal, bytes_eq}
use Rattle.std.specs.List.{All}
use Rattle.std.specs.Option.{option_map, option_and_then}
use Rattle.std.proofs.lemmas.List.Elements.{All-nil, All-cons, All-head, All-tail}
use Rattle.std.proofs.lemmas.Option.{same_Some}
use Rattle.cstn_net.specs.Limits.{most_constraints, most_load}
use Rattle.cstn_net.specs.Networks.{Observes, count}
use Rattle.cstn_text.specs.Names.{AreNames}
use Rattle.cstn_text.specs.Numbers.{number_within}
use Rattle.cstn_text.proofs.ReadingLemmas.{within_said}
use Rattle.cstn_lift.specs.Labelled.{Labelled}
use Rattle.cstn_lift.specs.Lowered.{lowered}
use Rattle.cstn_lift.specs.WellFormed.{IsLabelled}
use Rattle.cstn_reply.specs.Texts.{line}
use Rattle.cstn_reply.specs.Sessions.{Turn, more, last, wrong}
use Rattle.cstn_reply.specs.Reached.{state_after}
use Rattle.cstn_reply.proofs.Sessions.{first_leads}
use Rattle.cstn_follow.specs.Asking.{Spoken, spoken_read}
use Rattle.cstn_follow.specs.Words.{behind_word}
use Rattle.cstn_follow.specs.Following.{Following, Heard, says, saves, begun_following, verdict_now, is_within_limits}
use Rattle.cstn_follow.specs.Hearing.{counted, hear}
use Rattle.cstn_follow.specs.Marks.{tries, sets_mark, goes_back, Marked, MarkedHeard, most_marks, begun_marked, try_read, saying_by, saying_read, on_mark, on_back, on_saying, hear_marked, marked_by, marked_turn_by}
use Rattle.cstn_follow.specs.Trials.{Triable, sets_cap, cap_read, triable_by, is_replanning, on_triable, trial_said, on_try}
use Rattle.cstn_follow.specs.Turns.{Writing}
use Rattle.cstn_follow.proofs.FurtherLines.{next_of}
use Rattle.cstn_follow.proofs.Points.{hear_grows}
use Rattle.cstn_follow.proofs.States.{IsSound, begun_sound, hear_sound}

-- it holds of the session as it is, and as it was at each mark
pub record HoldsOf (Holds : Following → Type 0) (t : Marked) : Type 0 where
  pub now : Holds t.now
  pub marks : All Holds t.marks

-- the session that follows, with the marks that there are then
abbrev pub next_marked : MarkedHeard → Marked
next_marked h = record { now = next_of h.heard; marks = h.marks }

-- a trial changes nothing
pub trial_stays : (s : Following) (replans : Bool) (heard : Heard) → next_of (trial_said s replans heard) ≡ s
trial_stays s replans (says text next) = refl
trial_stays s replans (saves how m names next) = refl

-- a cap that a line says is in range
cap_within : (bytes : List ℕ) (n : ℕ) → cap_read bytes ≡ Some n → n ≤ most_load
cap_within bytes n = by_rest (behind_word (codes "cap ") bytes)
  where
    by_rest : (o : Option (List ℕ)) → option_and_then (number_within 1 most_load) o ≡ Some n → n ≤ most_load
    by_rest None is = absurd (cc)
    by_rest (Some text) is = (within_said 1 most_load text n is).1

-- What a line without marks keeps true, and a count of lines and a cap too, is true after each line.
module _ (Holds : Following → Type 0) (hear_holds : (s : Following) (bytes : List ℕ) → Holds s → Holds (next_of (hear s (spoken_read bytes))))
    (count_holds : (s : Following) (n : ℕ) → Holds s → Holds (record s { lines = n }))
    (cap_holds : (s : Following) (n : ℕ) → n ≤ most_load → Holds s → Holds (record s { cap = n })) where
  abbrev HoldsThen : MarkedHeard → Type 0
  HoldsThen h = HoldsOf Holds (next_marked h)

  mark_holds : (s : Following) (marks : List Following) → Holds s → All Holds marks → HoldsThen (on_mark s marks)
  mark_holds s marks now before = by_room (nat_lt (length marks) most_marks)
    where
      heard : Bool → MarkedHeard
      heard b =
          if b then record { heard = says (line (codes "mark " ++ decimal (suc (length marks)))) s; marks = s ∷ marks }
          else record { heard = says (line (codes "refused M1")) s; marks = marks }

      by_room : (b : Bool) → HoldsThen (heard b)
      by_room true = record { now = now; marks = All-cons Holds s marks now before }
      by_room false = record { now = now; marks = before }

  back_holds : (s : Following) (marks : List Following) → Holds s → All Holds marks → HoldsThen (on_back s marks)
  back_holds s [] now before = record { now = now; marks = before }
  back_holds s (mark ∷ marks) now before =
      record { now = count_holds mark s.lines (All-head Holds mark marks before); marks = All-tail Holds mark marks before }

  try_holds : (s : Following) (marks : List Following) (line : Triable) → Holds s → All Holds marks
      → HoldsThen (record { heard = on_try s line; marks = marks })
  try_holds s marks line now before =
      record { now = subst Holds (sym (trial_stays s (is_replanning line) (on_triable s line))) now; marks = before }

  pub marked_holds : (t : Marked) (bytes : List ℕ) → HoldsOf Holds t → HoldsThen (hear_marked t (saying_read bytes))
  marked_holds t bytes good = by_spoken (spoken_read bytes) (hear_holds t.now bytes good.now)
    where
      s : Following
      s = counted t.now

      now : Holds s
      now = count_holds t.now s.lines good.now

      by_try : (o : Option Triable) → HoldsThen (on_saying s t.marks (option_map tries o))
      by_try None = record { now = now; marks = good.marks }
      by_try (Some line) = try_holds s t.marks line now good.marks

      by_back : (b : Bool) → HoldsThen (on_saying s t.marks (if b then Some goes_back else option_map tries (try_read bytes)))
      by_back true = back_holds s t.marks now good.marks
      by_back false = by_try (try_read bytes)

      by_mark : (b : Bool)
          → HoldsThen (on_saying s t.marks (if b then Some sets_mark else if bytes_eq bytes (codes "back") then Some goes_back else option_map tries (try_read bytes)))
      by_mark true = mark_holds s t.marks now good.marks
      by_mark false = by_back (bytes_eq bytes (codes "back"))

      by_cap : (o : Option ℕ) → cap_read bytes ≡ o → HoldsThen (on_saying s t.marks (saying_by (option_map sets_cap o) bytes))
      by_cap None reads = by_mark (bytes_eq bytes (codes "mark"))
      by_cap (Some n) reads = record { now = cap_holds s n (cap_within bytes n reads) now; marks = good.marks }

      by_spoken : (o : Option Spoken) → Holds (next_of (hear t.now o)) → HoldsThen (on_saying s t.marks (saying_by (triable_by o bytes) bytes))
      by_spoken None heard = by_cap (cap_read bytes) refl
      by_spoken (Some spoken) heard = record { now = heard; marks = good.marks }

  -- the session after an answer to a line
  abbrev HoldsAfter : Turn Marked → Type 0
  HoldsAfter (more text next) = HoldsOf Holds next
  HoldsAfter (last said) = Unit {0}
  HoldsAfter wrong = Unit {0}

  module _ (write : Writing) where
    heard_holds : (heard : Heard) (marks : List Following) → HoldsThen (record { heard = heard; marks = marks }) → HoldsAfter (marked_by write heard marks)
    heard_holds (says text next) marks good = good
    heard_holds (saves how m names next) marks good = good

    pub marked_next_holds : (t next : Marked) (bytes text : List ℕ) → HoldsOf Holds t → marked_turn_by write t bytes ≡ more text next → HoldsOf Holds next
    marked_next_holds t next bytes text good answered =
        let h = hear_marked t (saying_read bytes) in
        subst HoldsAfter answered (heard_holds h.heard h.marks (marked_holds t bytes good))

    pub marked_lines_hold : (t g : Marked) (k : ℕ) (lines : List (List ℕ)) → HoldsOf Holds t → state_after (marked_turn_by write) t k lines ≡ Some g
        → HoldsOf Holds g
    marked_lines_hold t g k [] good is = subst (HoldsOf Holds) (same_Some t g is) good
    marked_lines_hold t g k (first ∷ lines) good is =
        let l = first_leads (marked_turn_by write) t g k first lines is in
        marked_lines_hold l.next g (k + 1) lines (marked_next_holds t l.next first l.text good l.answer) l.rest

-- ---- sound sessions

pub recounted_sound : (s : Following) (n : ℕ) → IsSound s → IsSound (record s { lines = n })
recounted_sound s n sound = record { labelled = sound.labelled; named = sound.named; timely = sound.timely; above = sound.above; verdict = sound.verdict }

pub recapped_sound : (s : Following) (n : ℕ) → IsSound s → IsSound (record s { cap = n })
recapped_sound s n sound = record {
  labelled = sound.labelled;
  named = sound.named;
  timely = sound.timely;
  above = sound.above;
  verdict = by_fit (is_within_limits s.network s.history s.fresh) sound.verdict;
}
  where
    by_fit : (b : Bool) → (if b then Some (verdict_now s) else None) ≡ Some (verdict_now s)
        → (if b then Some (verdict_now (record s { cap = n })) else None) ≡ Some (verdict_now (record s { cap = n }))
    by_fit true is = refl
    by_fit false is = absurd (cc)

pub marked_sound : (write : Writing) (cap : ℕ) (names : List (List ℕ)) (m : Labelled) (t : Marked) (lines : List (List ℕ)) → IsLabelled m
    → length (lowered m).constraints ≤ most_constraints → length names ≡ count m.base
    → state_after (marked_turn_by write) (begun_marked cap names m) 0 lines ≡ Some t → HoldsOf IsSound t
marked_sound write cap names m t lines good few named =
    marked_lines_hold IsSound hear_sound recounted_sound (λ s n fits sound. recapped_sound s n sound) write (begun_marked cap names m) t 0 lines
    (record { now = begun_sound cap names m good few named; marks = All-nil IsSound })

-- ---- time-points, their names, and caps

-- a sound session with the time-points of another one, and their names, and those that were put behind them
pub record IsOnPoints (first s : Following) : Type 0 where
  pub sound : IsSound s
  pub names : AreNames first.names → AreNames s.names
  pub origin : slice_get s.names 0 ≡ slice_get first.names 0
  pub observed : (x p : ℕ) → Observes first.network.base x p → Observes s.network.base x p
  pub reaction : s.network.base.reaction ≡ first.network.base.reaction

module _ (first : Following) where
  hear_on_points : (s : Following) (bytes : List ℕ) → IsOnPoints first s → IsOnPoints first (next_of (hear s (spoken_read bytes)))
  hear_on_points s bytes on =
      let grows = hear_grows s bytes on.sound in
      record {
        sound = hear_sound s bytes on.sound;
        names = λ are. grows.names (on.names are);
        origin = grows.first ∙ on.origin;
        observed = λ x p o. grows.observed x p (on.observed x p o);
        reaction = grows.reaction ∙ on.reaction;
      }

  count_on_points : (s : Following) (n : ℕ) → IsOnPoints first s → IsOnPoints first (record s { lines = n })
  count_on_points s n on = record { sound = recounted_sound s n on.sound; names = on.names; origin = on.origin; observed = on.observed; reaction = on.reaction }

  cap_on_points : (s : Following) (n : ℕ) → n ≤ most_load → IsOnPoints first s → IsOnPoints first (record s { cap = n })
  cap_on_points s n fits on = record { sound = recapped_sound s n on.sound; names = on.names; origin = on.origin; observed = on.observed; reaction = on.reaction }

pub marked_points : (write : Writing) (cap : ℕ) (names : List (List ℕ)) (m : Labelled) (t : Marked) (lines : List (List ℕ)) → IsLabelled m
    → length (lowered m).constraints ≤ most_constraints → length names ≡ count m.base
    → state_after (marked_turn_by write) (begun_marked cap names m) 0 lines ≡ Some t → HoldsOf (IsOnPoints (begun_following cap names m)) t
marked_points write cap names m t lines good few named =
    let s = begun_following cap names m in
    marked_lines_hold (IsOnPoints s) (hear_on_points s) (count_on_points s) (cap_on_points s) write (begun_marked cap names m) t 0 lines
    (record {
      now = record { sound = begun_sound cap names m good few named; names = λ are. are; origin = refl; observed = λ x p o. o; reaction = refl };
      marks = All-nil (IsOnPoints s);
    })

-- a sound session with a cap in range
pub record IsCapped (s : Following) : Type 0 where
  pub sound : IsSound s
  pub capped : s.cap ≤ most_load

hear_capped : (s : Following) (bytes : List ℕ) → IsCapped s → IsCapped (next_of (hear s (spoken_read bytes)))
hear_capped s bytes on = record {
  sound = hear_sound s bytes on.sound;
  capped = subst (λ (n : ℕ). n ≤ most_load) (sym (hear_grows s bytes on.sound).cap) on.capped;
}

count_capped : (s : Following) (n : ℕ) → IsCapped s → IsCapped (record s { lines = n })
count_capped s n on = record { sound = recounted_sound s n on.sound; capped = on.capped }

cap_capped : (s : Following) (n : ℕ) → n ≤ most_load → IsCapped s → IsCapped (record s { cap = n })
cap_capped s n fits on = record { sound = recapped_sound s n on.sound; capped = fits }

pub marked_capped : (write : Writing) (cap : ℕ) (names : List (List ℕ)) (m : Labelled) (t : Marked) (lines : List (List ℕ)) → IsLabelled m
    → length (lowered m).constraints ≤ most_constraints → length names ≡ count m.base → cap ≤ most_load
    → state_after (marked_turn_by write) (begun_marked cap names m) 0 lines ≡ Some t → HoldsOf IsCapped t
marked_capped write cap names m t lines good few named fits =
    marked_lines_hold IsCapped hear_capped count_capped cap_capped write (begun_marked cap names m) t 0 lines
    (record { now = record { sound = begun_sound cap names m good few named; capped = fits }; marks = All-nil IsCapped })
