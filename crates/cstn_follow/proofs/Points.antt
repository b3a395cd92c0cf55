-- A session that follows keeps its time-points, their names and its cap, but for those that are put behind them.
use Rattle.std.proofs.Common.{ℕ, ◌≡◌, ◌+◌, ◌<◌, Bool, true, false, List, [], ◌∷◌, ◌++◌, length, Option, Some, None, arith, refl, sym, subst, ap, ◌∙◌}
use Rattle.std.specs.Prelude.{Contains, Result, Ok, Err, nat_lt, slice_get, slice_index_or, if◌then◌else◌, codes, bytes_eq}
use Rattle.std.specs.Option.{option_map}
use Rattle.std.proofs.lemmas.Bool.{false≢true}
use Rattle.std.proofs.lemmas.List.Elements.{All-contains}
use Rattle.std.proofs.lemmas.Slice.Eq.{bytes_eq-Decides}
use Rattle.cstn_net.specs.Limits.{most_constraints, most_deadline, most_edits, most_time_points}
use Rattle.cstn_net.specs.Networks.{Observes, count}
use Rattle.cstn_text.specs.Names.{IsName, AreNames, number_of}
use Rattle.cstn_text.specs.PrintedNames.{printed_name}
use Rattle.cstn_facts.proofs.Filters.{none_passes}
use Rattle.cstn_text.proofs.NameLemmas.{names_more}
use Rattle.cstn_history.proofs.FurtherPoint.{at_end}
use Rattle.cstn_lines.proofs.FollowLemmas.{follow_is}
use Rattle.cstn_check.specs.declared.verdicts.Verdict.{Verdict}
use Rattle.cstn_history.specs.Histories.{History}
use Rattle.cstn_change.specs.Changes.{EditedNetwork, Change, removes, revalues, ChangeRefusal, EditLimit, refusal, edited_by}
use Rattle.cstn_change.specs.ChangeLines.{refused_change_text, addition}
use Rattle.cstn_lines.specs.EditLines.{Edit, added, removed, changed, asked}
use Rattle.cstn_lines.specs.FollowLines.{Follow, IsFollow, follow_read, done_at, came_at, now_at, awaited_at, ready_at, edits, ends_by, asks_next, asks_by, asks_blame}
use Rattle.cstn_lines.specs.FollowLines.{asks_rest}
use Rattle.cstn_reply.specs.Texts.{line}
use Rattle.cstn_reply.specs.Sessions.{Turn, more, last, wrong}
use Rattle.cstn_follow.specs.Following.{Following, Heard, says, saves, verdict_now, verdict_within, on_left_verdict, follows, verdict_line}
use Rattle.cstn_follow.specs.FactLines.{records}
use Rattle.cstn_follow.specs.PlanLines.{edited_network, replanned, on_refusal, on_edit, on_deadline}
use Rattle.cstn_follow.specs.Replans.{with_due}
use Rattle.cstn_follow.specs.Amending.{Amendment, forgives, steps, IsAmendment}
use Rattle.cstn_follow.specs.Asking.{Spoken, of_line, of_question, of_amendment, asks_digest, IfLine, spoken_read}
use Rattle.cstn_follow.specs.Forgiving.{broken_ids, after_removals}
use Rattle.cstn_follow.specs.ForgivingLines.{forgiven_line}
use Rattle.cstn_follow.specs.StepLines.{with_step, step_error_text, step_refusal, step_unless}
use Rattle.cstn_follow.specs.Stepping.{no_room}
use Rattle.cstn_follow.specs.declared.errors.StepError.{StepError}
use Rattle.cstn_follow.proofs.SteppedSession.{roomy}
use Rattle.cstn_follow.proofs.Answering.{first_stays}
use Rattle.cstn_follow.specs.Hearing.{on_plan, on_other, on_follow, on_amendment, on_line, counted, hear}
use Rattle.cstn_follow.proofs.Forgiven.{removed_is}
use Rattle.cstn_follow.specs.Recorded.{IsFact}
use Rattle.cstn_follow.specs.Turns.{Writing, heard_by, turn_by}
use Rattle.cstn_follow.proofs.FurtherLines.{next_of, spoken_is, line_spoken}
use Rattle.cstn_follow.proofs.States.{IsSound, fact_is, next_keeps, check_keeps, blame_keeps, by_keeps, counted_sound}

-- the time-points, their names and the cap are as they were
pub record KeepsPoints (s next : Following) : Type 0 where
  pub names : next.names ≡ s.names
  pub observes : next.network.base.observes ≡ s.network.base.observes
  pub reaction : next.network.base.reaction ≡ s.network.base.reaction
  pub cap : next.cap ≡ s.cap

-- there may be more time-points, which observe nothing new, with more names
pub record GrowsPoints (s next : Following) : Type 0 where
  pub names : AreNames s.names → AreNames next.names
  pub first : slice_get next.names 0 ≡ slice_get s.names 0
  pub observed : (x p : ℕ) → Observes s.network.base x p → Observes next.network.base x p
  pub reaction : next.network.base.reaction ≡ s.network.base.reaction
  pub cap : next.cap ≡ s.cap

grown : (s next : Following) → KeepsPoints s next → GrowsPoints s next
grown s next keeps = record {
  names = λ are. subst AreNames (sym keeps.names) are;
  first = ap (λ (ns : List (List ℕ)). slice_get ns 0) keeps.names;
  observed = λ x p o. record { what = ap (λ (os : List (Option ℕ)). slice_index_or os x None) keeps.observes ∙ o.what };
  reaction = keeps.reaction;
  cap = keeps.cap;
}

growing : (s t u : Following) → GrowsPoints s t → GrowsPoints t u → GrowsPoints s u
growing s t u a b = record {
  names = λ are. b.names (a.names are);
  first = b.first ∙ a.first;
  observed = λ x p o. b.observed x p (a.observed x p o);
  reaction = b.reaction ∙ a.reaction;
  cap = b.cap ∙ a.cap;
}

same : (s : Following) → KeepsPoints s s
same s = record { names = refl; observes = refl; reaction = refl; cap = refl }

through : (s t u : Following) → KeepsPoints s t → KeepsPoints t u → KeepsPoints s u
through s t u a b = record { names = b.names ∙ a.names; observes = b.observes ∙ a.observes; reaction = b.reaction ∙ a.reaction; cap = b.cap ∙ a.cap }

follows_keeps : (s next : Following) (text : Verdict → List ℕ) → KeepsPoints s next → KeepsPoints s (next_of (follows s next text))
follows_keeps s next text keeps = by_verdict (verdict_within next)
  where
    by_verdict : (o : Option Verdict) → KeepsPoints s (next_of (on_left_verdict s next text o))
    by_verdict None = same s
    by_verdict (Some v) = keeps

records_keeps : (s : Following) (h : History) → KeepsPoints s (next_of (records s h))
records_keeps s h = follows_keeps s (record s { history = h }) (verdict_line s.cap) (record { names = refl; observes = refl; reaction = refl; cap = refl })

refusal_keeps : (s : Following) (change : Change) (o : Option ChangeRefusal) → KeepsPoints s (next_of (on_refusal s change o))
refusal_keeps s change (Some why) = same s
refusal_keeps s change None =
    follows_keeps s (replanned s (edited_by (edited_network s) change)) (λ v. _) (record { names = refl; observes = refl; reaction = refl; cap = refl })

edit_keeps : (s : Following) (r : Result Change ChangeRefusal) → KeepsPoints s (next_of (on_edit s r))
edit_keeps s (Ok change) = refusal_keeps s change (refusal most_constraints (edited_network s) change)
edit_keeps s (Err why) = same s

plan_keeps : (s : Following) (edit : Edit) → KeepsPoints s (next_of (on_plan s edit))
plan_keeps s (added from to most a) = edit_keeps s (addition s.names from to most a)
plan_keeps s (removed id) = edit_keeps s (Ok (removes id))
plan_keeps s (changed id most) = edit_keeps s (Ok (revalues id most))
plan_keeps s asked = subst (KeepsPoints s) (sym (check_keeps s (verdict_now s))) (same s)

deadline_keeps : (s : Following) (deadline : ℕ) (b : Bool) → KeepsPoints s (next_of (if b then on_other s else on_deadline s deadline))
deadline_keeps s deadline true = same s
deadline_keeps s deadline false =
    follows_keeps s (replanned s (with_due (edited_network s) deadline)) (λ v. _) (record { names = refl; observes = refl; reaction = refl; cap = refl })

fact_keeps : (s : Following) (fact : Follow) → IsSound s → IsFact fact → IsFollow fact → KeepsPoints s (next_of (on_follow s fact))
fact_keeps s fact sound = fact_is s sound (λ fact heard. KeepsPoints s (next_of heard)) (λ fact text why. same s) (λ fact h timely is. records_keeps s h) fact

follow_keeps : (s : Following) (line : Follow) → IsSound s → IsFollow line → KeepsPoints s (next_of (on_follow s line))
follow_keeps s (done_at t names) sound is = fact_keeps s (done_at t names) sound tt is
follow_keeps s (came_at t p v) sound is = fact_keeps s (came_at t p v) sound tt is
follow_keeps s (now_at t) sound is = fact_keeps s (now_at t) sound tt is
follow_keeps s (awaited_at t p) sound is = fact_keeps s (awaited_at t p) sound tt is
follow_keeps s (ready_at t name) sound is = fact_keeps s (ready_at t name) sound tt is
follow_keeps s (edits edit) sound is = plan_keeps s edit
follow_keeps s (ends_by deadline) sound is = deadline_keeps s deadline (nat_lt most_deadline deadline)
follow_keeps s asks_next sound is = subst (KeepsPoints s) (sym (next_keeps s (verdict_now s))) (same s)
follow_keeps s (asks_by name) sound is = subst (KeepsPoints s) (sym (by_keeps s name (number_of s.names name))) (same s)
follow_keeps s asks_blame sound is = subst (KeepsPoints s) (sym (blame_keeps s (verdict_now s))) (same s)
follow_keeps s asks_rest sound is = same s

forgive_keeps : (s : Following) (ids : List ℕ) (b : Bool)
    → KeepsPoints s (next_of (if b then says (line (refused_change_text EditLimit)) s else says (forgiven_line ids) (replanned s (after_removals (edited_network s) ids))))
forgive_keeps s ids true = same s
forgive_keeps s ids false =
    subst (λ (e : EditedNetwork). KeepsPoints s (replanned s e)) (sym (removed_is (edited_network s) ids))
    (record { names = refl; observes = refl; reaction = refl; cap = refl })

-- a further time-point is put behind the others
module _ (s : Following) (name : List ℕ) (sound : IsSound s) (is : IsName name) (new : number_of s.names name ≡ None) where
  -- no time-point had the name
  unknown : Contains s.names name → ⊥
  unknown there =
      false≢true (sym (All-contains (λ (n : List ℕ). bytes_eq name n ≡ false) s.names name (none_passes (bytes_eq name) s.names new) there)
      ∙ (bytes_eq-Decides name name).1 refl)

  more_names : AreNames s.names → count s.network.base < most_time_points → AreNames (s.names ++ name ∷ [])
  more_names are room = names_more s.names name are is unknown (omega (arith, sound.named, room))

  point_grows : count s.network.base < most_time_points → GrowsPoints s (with_step s name)
  point_grows room = record {
    names = λ are. more_names are room;
    first = first_stays s.names name (subst (λ n. 0 < n) (sym sound.named) sound.labelled.base.network.origin);
    observed = λ x p o. record { what = at_end s.network.base.observes x None ∙ o.what };
    reaction = refl;
    cap = refl;
  }

step_grows : (s : Following) (name : List ℕ) (o : Option ℕ) → IsSound s → IsName name → number_of s.names name ≡ o
    → GrowsPoints s (next_of (step_unless s name (step_refusal s name o)))
step_grows s name (Some x) sound is found = grown s s (same s)
step_grows s name None sound is new = by_room (no_room s.edits (count s.network.base)) refl
  where
    by_verdict : GrowsPoints s (with_step s name) → (o : Option Verdict)
        → GrowsPoints s (next_of (on_left_verdict s (with_step s name) (λ v. line (codes "step " ++ printed_name name)) o))
    by_verdict grows None = grown s s (same s)
    by_verdict grows (Some v) = grows

    by_room : (o : Option StepError) → no_room s.edits (count s.network.base) ≡ o → GrowsPoints s (next_of (step_unless s name (option_map step_error_text o)))
    by_room (Some error) room = grown s s (same s)
    by_room None room = by_verdict (point_grows s name sound is new (roomy s.edits (count s.network.base) room)) (verdict_within (with_step s name))

amendment_grows : (s : Following) (amendment : Amendment) → IsSound s → IsAmendment amendment → GrowsPoints s (next_of (on_amendment s amendment))
amendment_grows s forgives sound is =
    let ids = broken_ids s.network s.history in
    grown s (next_of (on_amendment s forgives)) (forgive_keeps s ids (nat_lt most_edits (s.edits + length ids)))
amendment_grows s (steps name) sound is = step_grows s name (number_of s.names name) sound is refl

line_grows : (s : Following) (o : Option Spoken) → IsSound s → IfLine o IsFollow → GrowsPoints s (next_of (on_line s o))
line_grows s None sound is = grown s s (same s)
line_grows s (Some (of_line line)) sound is = grown s (next_of (on_follow s line)) (follow_keeps s line sound is)
line_grows s (Some (of_question question)) sound is = grown s s (same s)
line_grows s (Some (of_amendment amendment)) sound is = amendment_grows s amendment sound is
line_grows s (Some asks_digest) sound is = grown s s (same s)

one_counted : (s : Following) → KeepsPoints s (counted s)
one_counted s = record { names = refl; observes = refl; reaction = refl; cap = refl }

pub hear_grows : (s : Following) (text : List ℕ) → IsSound s → GrowsPoints s (next_of (hear s (spoken_read text)))
hear_grows s text sound =
    growing s (counted s) (next_of (hear s (spoken_read text))) (grown s (counted s) (one_counted s))
    (line_grows (counted s) (spoken_read text) (counted_sound s sound) (spoken_is text))

-- a line that tells, edits constraints or asks keeps the time-points as they are
hear_keeps : (s : Following) (text : List ℕ) (line : Follow) → IsSound s → follow_read text ≡ Some line → KeepsPoints s (next_of (hear s (spoken_read text)))
hear_keeps s text line sound is =
    subst (λ (o : Option Spoken). KeepsPoints s (next_of (hear s o))) (sym (line_spoken text line is))
    (through s (counted s) (next_of (hear s (Some (of_line line)))) (one_counted s)
    (follow_keeps (counted s) line (counted_sound s sound) (follow_is text line is)))

-- the session after an answer to a line
abbrev KeepsAfter : Following → Turn Following → Type 0
KeepsAfter s (more text next) = KeepsPoints s next
KeepsAfter s (last said) = Unit {0}
KeepsAfter s wrong = Unit {0}

abbrev GrowsAfter : Following → Turn Following → Type 0
GrowsAfter s (more text next) = GrowsPoints s next
GrowsAfter s (last said) = Unit {0}
GrowsAfter s wrong = Unit {0}

module _ (write : Writing) where
  heard_keeps : (s : Following) (heard : Heard) → KeepsPoints s (next_of heard) → KeepsAfter s (heard_by write heard)
  heard_keeps s (says text next) keeps = keeps
  heard_keeps s (saves how m names next) keeps = keeps

  pub turn_keeps : (s next : Following) (bytes text : List ℕ) (line : Follow) → IsSound s → follow_read bytes ≡ Some line
      → turn_by write s bytes ≡ more text next → KeepsPoints s next
  turn_keeps s next bytes text line sound is answered =
      subst (KeepsAfter s) answered (heard_keeps s (hear s (spoken_read bytes)) (hear_keeps s bytes line sound is))

  heard_grows : (s : Following) (heard : Heard) → GrowsPoints s (next_of heard) → GrowsAfter s (heard_by write heard)
  heard_grows s (says text next) grows = grows
  heard_grows s (saves how m names next) grows = grows

  pub turn_grows : (s next : Following) (bytes text : List ℕ) → IsSound s → turn_by write s bytes ≡ more text next → GrowsPoints s next
  turn_grows s next bytes text sound answered =
      subst (GrowsAfter s) answered (heard_grows s (hear s (spoken_read bytes)) (hear_grows s bytes sound))
