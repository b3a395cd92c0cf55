-- A line that is refused changes nothing but the count of lines.
use Rattle.std.proofs.Common.{ℕ, ◌≡◌, ◌+◌, Bool, true, false, List, [], ◌∷◌, ◌++◌, length, Option, Some, None, take, eqb, refl, sym, subst, ap, ◌∙◌}
use Rattle.std.specs.Prelude.{nat_lt, Result, Ok, Err, slice_index_or, if◌then◌else◌, codes, decimal}
use Rattle.std.proofs.lemmas.Bool.{both_ways, eq-eqb}
use Rattle.std.proofs.lemmas.Slice.Eq.{bytes_eq-Decides}
use Rattle.cstn_net.specs.Limits.{most_constraints, most_deadline, most_edits}
use Rattle.cstn_text.specs.Names.{number_of}
use Rattle.cstn_check.specs.declared.verdicts.Verdict.{Verdict}
use Rattle.cstn_check.specs.declared.verdicts.Verdict.TheVariants.{Yes, No, Full}
use Rattle.cstn_lines.specs.EditLines.{Edit, added, removed, changed, asked}
use Rattle.cstn_lines.specs.FollowLines.{Follow, IsFollow, done_at, came_at, now_at, awaited_at, ready_at, edits, ends_by, asks_next, asks_by, asks_blame}
use Rattle.cstn_lines.specs.FollowLines.{asks_rest}
use Rattle.cstn_reply.specs.Texts.{line}
use Rattle.cstn_reply.specs.Sessions.{Turn, more, last, wrong}
use Rattle.cstn_change.specs.Changes.{Change, adds, removes, revalues, ChangeRefusal, EditLimit, refusal, edited_by}
use Rattle.cstn_change.specs.ChangeLines.{addition, accepted_text, refused_change_text}
use Rattle.cstn_follow.specs.Replans.{with_due}
use Rattle.cstn_follow.specs.Following.{Following, Heard, says, saves, verdict_now, verdict_within, on_left_verdict, follows, verdict_line}
use Rattle.cstn_follow.specs.PlanLines.{edited_network, replanned, on_refusal, on_edit, on_deadline}
use Rattle.cstn_follow.specs.Questions.{on_next, on_check}
use Rattle.cstn_follow.specs.Searches.{on_by, on_blame}
use Rattle.cstn_follow.specs.Asking.{Spoken, of_line, of_question, of_amendment, asks_digest, IfLine, spoken_read}
use Rattle.cstn_follow.specs.Amending.{Amendment, forgives, steps}
use Rattle.cstn_follow.specs.Forgiving.{broken_ids, after_removals}
use Rattle.cstn_follow.specs.ForgivingLines.{forgiven_line}
use Rattle.cstn_follow.specs.StepLines.{with_step, step_error_text, step_refusal, step_unless}
use Rattle.cstn_follow.specs.Stepping.{no_room}
use Rattle.cstn_follow.specs.declared.errors.StepError.{StepError}
use Rattle.cstn_text.specs.PrintedNames.{printed_name}
use Rattle.std.specs.Option.{option_map}
use Rattle.cstn_net.specs.Networks.{count}
use Rattle.cstn_follow.specs.Hearing.{on_plan, on_other, on_follow, on_amendment, on_line, counted, hear}
use Rattle.cstn_save.specs.Canonical.{canonical}
use Rattle.cstn_follow.specs.Recorded.{IsFact}
use Rattle.cstn_follow.specs.Turns.{heard_by}
use Rattle.cstn_followed.specs.Sessions.{IsReached, follow_turn}
use Rattle.cstn_follow.specs.Trials.{is_refusal}
use Rattle.cstn_follow.proofs.FurtherLines.{next_of, spoken_is}
use Rattle.cstn_follow.proofs.States.{IsSound, fact_is, next_keeps, check_keeps, blame_keeps, by_keeps, counted_sound}
use Rattle.cstn_followed.proofs.Verdicts.{reached_sound}

-- the third byte of a refusal is that of `f`
abbrev third : List ℕ → ℕ
third text = slice_index_or text 2 0

third_taken : (text : List ℕ) → third (take 8 text) ≡ third text
third_taken [] = refl
third_taken (a ∷ []) = refl
third_taken (a ∷ b ∷ []) = refl
third_taken (a ∷ b ∷ c ∷ rest) = refl

refused_third : (text : List ℕ) → is_refusal text ≡ true → third text ≡ 102
refused_third text refused = sym (third_taken text) ∙ ap third ((bytes_eq-Decides (take 8 text) (codes "refused ")).0 refused)

-- where the text is a refusal, the session stays as it is, and so it does where a document is said
abbrev StaysRefused : Following → Heard → Type 0
StaysRefused s (says text next) = is_refusal text ≡ true → next ≡ s
StaysRefused s (saves how m names next) = next ≡ s

stays : (s : Following) (heard : Heard) → next_of heard ≡ s → StaysRefused s heard
stays s (says text next) same = λ refused. same
stays s (saves how m names next) same = same

differs : (byte : ℕ) → eqb byte 102 ≡ false → byte ≡ 102 → ⊥
differs byte other same = both_ways (eqb byte 102) other (eq-eqb byte 102 same)

verdict_third : (cap : ℕ) (v : Verdict) → third (verdict_line cap v) ≡ 102 → ⊥
verdict_third cap (Yes load) is = differs 115 refl is
verdict_third cap (No load) is = differs 32 refl is
verdict_third cap Full is = differs 108 refl is

module _ (s : Following) where
  follows_stays : (next : Following) (text : Verdict → List ℕ) → ((v : Verdict) → third (text v) ≡ 102 → ⊥) → StaysRefused s (follows s next text)
  follows_stays next text other = by_verdict (verdict_within next)
    where
      by_verdict : (o : Option Verdict) → StaysRefused s (on_left_verdict s next text o)
      by_verdict None = λ refused. refl
      by_verdict (Some v) = λ refused. absurd (other v (refused_third (text v) refused))

  accepted_third : (change : Change) → third (line (accepted_text s.fresh change)) ≡ 102 → ⊥
  accepted_third (adds x y most a) is = differs 100 refl is
  accepted_third (removes id) is = differs 109 refl is
  accepted_third (revalues id most) is = differs 97 refl is

  change_stays : (change : Change) (o : Option ChangeRefusal) → StaysRefused s (on_refusal s change o)
  change_stays change (Some why) = λ refused. refl
  change_stays change None =
      follows_stays (replanned s (edited_by (edited_network s) change)) (λ v. line (accepted_text s.fresh change)) (λ v. accepted_third change)

  edit_stays : (r : Result Change ChangeRefusal) → StaysRefused s (on_edit s r)
  edit_stays (Ok change) = change_stays change (refusal most_constraints (edited_network s) change)
  edit_stays (Err why) = λ refused. refl

  plan_stays : (edit : Edit) → StaysRefused s (on_plan s edit)
  plan_stays (added from to most a) = edit_stays (addition s.names from to most a)
  plan_stays (removed id) = edit_stays (Ok (removes id))
  plan_stays (changed id most) = edit_stays (Ok (revalues id most))
  plan_stays asked = stays s (on_check s) (check_keeps s (verdict_now s))

  deadline_stays : (deadline : ℕ) (b : Bool) → StaysRefused s (if b then on_other s else on_deadline s deadline)
  deadline_stays deadline true = λ refused. refl
  deadline_stays deadline false =
      follows_stays (replanned s (with_due (edited_network s) deadline)) (λ v. line (codes "deadline " ++ decimal deadline))
      (λ v is. differs 97 refl is)

  fact_stays : (fact : Follow) → IsSound s → IsFact fact → IsFollow fact → StaysRefused s (on_follow s fact)
  fact_stays fact sound = fact_is s sound (λ fact heard. StaysRefused s heard) (λ fact text why refused. refl)
      (λ fact h timely is. follows_stays (record s { history = h }) (verdict_line s.cap) (verdict_third s.cap)) fact

  follow_stays : (line : Follow) → IsSound s → IsFollow line → StaysRefused s (on_follow s line)
  follow_stays (done_at t names) sound is = fact_stays (done_at t names) sound tt is
  follow_stays (came_at t p v) sound is = fact_stays (came_at t p v) sound tt is
  follow_stays (now_at t) sound is = fact_stays (now_at t) sound tt is
  follow_stays (awaited_at t p) sound is = fact_stays (awaited_at t p) sound tt is
  follow_stays (ready_at t name) sound is = fact_stays (ready_at t name) sound tt is
  follow_stays (edits edit) sound is = plan_stays edit
  follow_stays (ends_by deadline) sound is = deadline_stays deadline (nat_lt most_deadline deadline)
  follow_stays asks_next sound is = stays s (on_next s) (next_keeps s (verdict_now s))
  follow_stays (asks_by name) sound is = stays s (on_by s name) (by_keeps s name (number_of s.names name))
  follow_stays asks_blame sound is = stays s (on_blame s) (blame_keeps s (verdict_now s))
  follow_stays asks_rest sound is = refl

  forgive_stays : (ids : List ℕ) (b : Bool)
      → StaysRefused s (if b then says (line (refused_change_text EditLimit)) s else says (forgiven_line ids) (replanned s (after_removals (edited_network s) ids)))
  forgive_stays ids true = λ refused. refl
  forgive_stays ids false = λ refused. absurd (differs 114 refl (refused_third (forgiven_line ids) refused))

  step_stays : (name : List ℕ) (o : Option ℕ) → StaysRefused s (step_unless s name (step_refusal s name o))
  step_stays name (Some x) = λ refused. refl
  step_stays name None = by_room (no_room s.edits (count s.network.base))
    where
      by_room : (o : Option StepError) → StaysRefused s (step_unless s name (option_map step_error_text o))
      by_room (Some error) = λ refused. refl
      by_room None = follows_stays (with_step s name) (λ v. line (codes "step " ++ printed_name name)) (λ v is. differs 101 refl is)

  amendment_stays : (amendment : Amendment) → StaysRefused s (on_amendment s amendment)
  amendment_stays forgives =
      let ids = broken_ids s.network s.history in
      forgive_stays ids (nat_lt most_edits (s.edits + length ids))
  amendment_stays (steps name) = step_stays name (number_of s.names name)

  line_stays : (o : Option Spoken) → IsSound s → IfLine o IsFollow → StaysRefused s (on_line s o)
  line_stays None sound is = λ refused. refl
  line_stays (Some (of_line line)) sound is = follow_stays line sound is
  line_stays (Some (of_question question)) sound is = λ refused. refl
  line_stays (Some (of_amendment amendment)) sound is = amendment_stays amendment
  line_stays (Some asks_digest) sound is = refl

-- what is heard by a sound session
pub heard_stays : (s : Following) (bytes : List ℕ) → IsSound s → StaysRefused (counted s) (hear s (spoken_read bytes))
heard_stays s bytes sound = line_stays (counted s) (spoken_read bytes) (counted_sound s sound) (spoken_is bytes)

-- where the text of a turn is a refusal, the session stays as it is
abbrev TurnStays : Following → Turn Following → Type 0
TurnStays s (more text next) = is_refusal text ≡ true → next ≡ s
TurnStays s (last said) = Unit {0}
TurnStays s wrong = Unit {0}

turn_stays : (s : Following) (heard : Heard) → StaysRefused s heard → TurnStays s (heard_by canonical heard)
turn_stays s (says text next) kept = kept
turn_stays s (saves how m names next) kept = λ refused. kept

pub refusal_stays : (s next : Following) (bytes text : List ℕ) → IsSound s → follow_turn s bytes ≡ more text next → is_refusal text ≡ true
    → next ≡ counted s
refusal_stays s next bytes text sound answered =
    subst (TurnStays (counted s)) answered (turn_stays (counted s) (hear s (spoken_read bytes)) (heard_stays s bytes sound))

pub refused_stays : (s next : Following) (bytes why : List ℕ) → IsReached s → follow_turn s bytes ≡ more (line (codes "refused " ++ why)) next
    → next ≡ counted s
refused_stays s next bytes why reached answered =
    refusal_stays s next bytes (line (codes "refused " ++ why)) (reached_sound s reached) answered refl
