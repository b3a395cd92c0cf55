-- What is said where it is asked until when a time-point can wait.
use Rattle.std.proofs.Common.{ℕ, ◌≡◌, ◌<◌, Bool, true, false, List, Option, Some, None, arith, refl, sym, ap, ◌∙◌}
use Rattle.std.specs.Prelude.{◌&&◌, not, nat_lt, nat_le, if◌then◌else◌}
use Rattle.cstn_net.specs.Limits.{most_constraints}
use Rattle.cstn_net.specs.Networks.{count}
use Rattle.cstn_text.specs.Names.{number_of}
use Rattle.cstn_lift.specs.Labelled.{Labelled}
use Rattle.cstn_lift.specs.Completion.{completed_label}
use Rattle.cstn_lift.specs.Lowered.{lowered}
use Rattle.cstn_check.specs.declared.verdicts.Verdict.TheVariants.{Yes, No, Full}
use Rattle.cstn_history.specs.Facts.{FactRefusal, Done, Undecided, ruled_out, wait_refusal}
use Rattle.cstn_history.specs.Histories.{History, allows}
use Rattle.cstn_reply.specs.Texts.{line, full_line}
use Rattle.cstn_follow.specs.Following.{Following, says, left_now, too_many, verdict_now, verdict_line}
use Rattle.cstn_follow.specs.FactLines.{refused_fact}
use Rattle.cstn_follow.specs.Questions.{tells_verdict}
use Rattle.cstn_follow.specs.Searches.{has_place_for_one, by_refusal, by_line, until_text, by_after, by_unless, by_number, on_by}
use Rattle.cstn_follow.specs.Waiting.{HasRoomToWait, waits_until}

-- where x is a time-point, this is why it isn't told
refused_by : (m : Labelled) (h : History) (x : ℕ) → x < count m.base → wait_refusal m h x ≡ ruled_out m h x (h.done x)
refused_by m h x inside =
    let within : nat_le (count m.base) x ≡ false = grind arith in
    rw within refl

module _ (s : Following) (x : ℕ) (inside : x < count s.network.base) (text : List ℕ) where
  abbrev room : Bool
  room = has_place_for_one (left_now s).base && has_place_for_one (lowered (left_now s))

  -- F4 and F5
  pub refusal_said : (e : FactRefusal) → wait_refusal s.network s.history x ≡ Some e → text ≡ line (refused_fact s.names e)
      → by_unless s x (by_refusal s x (s.history.done x)) ≡ says text s
  refusal_said e refused is = by_done (s.history.done x) (sym (refused_by s.network s.history x inside) ∙ refused)
    where
      by_allowed : (b : Bool) → (if not b then Some (Undecided x) else None) ≡ Some e
          → by_unless s x (if not b then Some (line (refused_fact s.names (Undecided x))) else if room then None else Some too_many) ≡ says text s
      by_allowed true why = absurd (cc)
      by_allowed false why = let same : Undecided x ≡ e = cc in ap (λ f. says (line (refused_fact s.names f)) s) same ∙ ap (λ t. says t s) (sym is)

      by_done : (o : Option ℕ) → ruled_out s.network s.history x o ≡ Some e → by_unless s x (by_refusal s x o) ≡ says text s
      by_done (Some t) why = let same : Done x t ≡ e = cc in ap (λ f. says (line (refused_fact s.names f)) s) same ∙ ap (λ t. says t s) (sym is)
      by_done None why = by_allowed (allows s.history (completed_label s.network x)) why

  -- where neither applies, it is told, unless F8 applies
  by_room : wait_refusal s.network s.history x ≡ None → by_refusal s x (s.history.done x) ≡ (if room then None else Some too_many)
  by_room free = by_done (s.history.done x) (sym (refused_by s.network s.history x inside) ∙ free)
    where
      by_allowed : (b : Bool) → (if not b then Some (Undecided x) else None) ≡ None
          → (if not b then Some (line (refused_fact s.names (Undecided x))) else if room then None else Some too_many) ≡ (if room then None else Some too_many)
      by_allowed true why = refl
      by_allowed false why = absurd (cc)

      by_done : (o : Option ℕ) → ruled_out s.network s.history x o ≡ None → by_refusal s x o ≡ (if room then None else Some too_many)
      by_done (Some t) why = absurd (cc)
      by_done None why = by_allowed (allows s.history (completed_label s.network x)) why

  pub room_said : wait_refusal s.network s.history x ≡ None → HasRoomToWait s.network s.history s.fresh
      → by_unless s x (by_refusal s x (s.history.done x)) ≡ by_after s x (verdict_now s)
  room_said free has = ap (by_unless s x) (by_room free ∙ with_room (has_place_for_one (left_now s).base) (has_place_for_one (lowered (left_now s))) (lt_true _ has.base) (lt_true _ has.lowered))
    where
      lt_true : (n : ℕ) → n < most_constraints → nat_lt n most_constraints ≡ true
      lt_true n few = grind arith

      with_room : (a b : Bool) → a ≡ true → b ≡ true → (if a && b then None else Some too_many) ≡ None
      with_room true true p q = refl
      with_room true false p q = absurd (cc)
      with_room false b p q = absurd (cc)

  pub many_said : wait_refusal s.network s.history x ≡ None → (HasRoomToWait s.network s.history s.fresh → ⊥) → text ≡ too_many
      → by_unless s x (by_refusal s x (s.history.done x)) ≡ says text s
  many_said free none is =
      ap (by_unless s x) (by_room free ∙ without_room (has_place_for_one (left_now s).base) (has_place_for_one (lowered (left_now s))) refl refl)
      ∙ ap (λ t. says t s) (sym is)
    where
      true_lt : (n : ℕ) → nat_lt n most_constraints ≡ true → n < most_constraints
      true_lt n few = grind arith

      without_room : (a b : Bool) → has_place_for_one (left_now s).base ≡ a → has_place_for_one (lowered (left_now s)) ≡ b → (if a && b then None else Some too_many) ≡ Some too_many
      without_room true true p q = absurd (none (record { base = true_lt _ p; lowered = true_lt _ q }))
      without_room true false p q = refl
      without_room false b p q = refl

  module _ (free : wait_refusal s.network s.history x ≡ None) (has : HasRoomToWait s.network s.history s.fresh) where
    pub until_said : (load t : ℕ) → verdict_now s ≡ Yes load → waits_until s.network s.history s.fresh x s.cap ≡ Some t → text ≡ by_line s.names t x
        → by_unless s x (by_refusal s x (s.history.done x)) ≡ says text s
    until_said load t can found is =
        room_said free has ∙ ap (by_after s x) can ∙ ap (λ o. says (until_text s x o) s) found ∙ ap (λ l. says l s) (sym is)

    pub tried_said : (load : ℕ) → verdict_now s ≡ Yes load → waits_until s.network s.history s.fresh x s.cap ≡ None → text ≡ full_line s.cap
        → by_unless s x (by_refusal s x (s.history.done x)) ≡ says text s
    tried_said load can found is =
        room_said free has ∙ ap (by_after s x) can ∙ ap (λ o. says (until_text s x o) s) found ∙ ap (λ l. says l s) (sym is)

    pub stuck_said : (load : ℕ) → verdict_now s ≡ No load → tells_verdict s ≡ says text s → by_unless s x (by_refusal s x (s.history.done x)) ≡ says text s
    stuck_said load stuck is = room_said free has ∙ ap (by_after s x) stuck ∙ is

    pub full_said : verdict_now s ≡ Full → text ≡ full_line s.cap → by_unless s x (by_refusal s x (s.history.done x)) ≡ says text s
    full_said full is =
        room_said free has ∙ ap (by_after s x) full ∙ ap (λ v. says (verdict_line s.cap v) s) full ∙ ap (λ l. says l s) (sym is)

-- where a time-point has the name, it is told of that
pub named_said : (s : Following) (name text : List ℕ) (x : ℕ) → number_of s.names name ≡ Some x → by_unless s x (by_refusal s x (s.history.done x)) ≡ says text s
    → on_by s name ≡ says text s
named_said s name text x is told = ap (by_number s name) is ∙ told
