-- Each turn leaves less, so whoever does what is next comes to an end.
use Rattle.std.proofs.Common.{ℕ, zero, suc, ◌≡◌, ◌+◌, ◌<◌, ◌≤◌, Bool, true, false, not, ◌&&◌, List, [], ◌∷◌, Option, Some, None, arith, refl, sym, subst, ap}
use Rattle.std.proofs.Common.{◌∙◌, inl, inr}
use Rattle.std.specs.Prelude.{◌⊎◌, ◌↔◌, if◌then◌else◌, codes, decimal, ◌++◌}
use Rattle.std.specs.Option.{is_some}
use Rattle.std.proofs.lemmas.Bool.{cases_eq, and_parts, false≢true}
use Rattle.std.proofs.lemmas.Option.{same_Some}
use Rattle.cstn_label.specs.Labels.{Scenario}
use Rattle.cstn_net.specs.Networks.{Observes, count}
use Rattle.cstn_lift.specs.Labelled.{Labelled}
use Rattle.cstn_lift.specs.Completion.{completed_label}
use Rattle.cstn_lift.specs.Strategies.{IsExecuted}
use Rattle.cstn_lift.specs.WellFormed.{IsLabelled}
use Rattle.cstn_check.specs.declared.verdicts.Verdict.{Verdict}
use Rattle.cstn_check.specs.declared.verdicts.Verdict.TheVariants.{Yes, No, Full}
use Rattle.cstn_history.specs.Histories.{History, IsHistory, IsAllowed, AgreesWith, is_done, allows}
use Rattle.cstn_history.specs.Continuations.{Can, IsTold, IsNamed, IsAwaited, IsEventful}
use Rattle.cstn_history.specs.Rest.{is_left, sight_left}
use Rattle.cstn_history.proofs.Places.{sees_left, sees_back, left_coming, left_watching, left_allows}
use Rattle.cstn_history.proofs.Settled.{some_or_none, as_told, told_agrees, holds_allows, allows_true, allows_back}
use Rattle.cstn_net.proofs.Knowledge.{observer_within}
use Rattle.cstn_next.specs.Next.{IsAllDone}
use Rattle.cstn_lines.specs.FollowLines.{Follow, follow_read, done_at, came_at, now_at, awaited_at, ready_at, edits, ends_by, asks_next, asks_by, asks_blame, asks_rest}
use Rattle.cstn_reply.specs.Sessions.{more}
use Rattle.cstn_reply.specs.Texts.{say}
use Rattle.cstn_reply.specs.declared.output.Outcome.TheVariants.{Good, Unfinished}
use Rattle.cstn_reply.specs.Reached.{state_after}
use Rattle.cstn_reply.proofs.Sessions.{first_leads}
use Rattle.cstn_save.specs.Canonical.{canonical}
use Rattle.cstn_follow.specs.Following.{Following, verdict_now, is_open, is_any_open, following_ending, outcome_by}
use Rattle.cstn_follow.specs.Turns.{IsTrueOfSession}
use Rattle.cstn_follow.proofs.States.{IsSound, next_sound}
use Rattle.cstn_followed.specs.Sessions.{IsReached, follow_turn}
use Rattle.cstn_followed.specs.Plans.{KeepsToNext, KeepToNext}
use Rattle.cstn_follow.specs.Trials.{is_refusal}
use Rattle.cstn_followed.specs.Order.{TellsPast}
use Rattle.cstn_followed.specs.End.{is_coming, is_unheard, count_below, count_left, IsTurn, AreTurns}
use Rattle.cstn_followed.proofs.Verdicts.{reached_sound, states_true}
use Rattle.cstn_followed.proofs.Questions.{nothing_left}
use Rattle.cstn_follow.proofs.AllDone.{somewhere, all_false}
use Rattle.cstn_followed.proofs.Refusals.{refusal_stays}
use Rattle.cstn_followed.proofs.GoingOn.{one_goes}
use Rattle.cstn_followed.proofs.Ordered.{Advances, advanced}

-- ---- counting

count_upto : (test later : ℕ → Bool) (n : ℕ) → ((x : ℕ) → x < n → later x ≡ true → test x ≡ true) → count_below later n ≤ count_below test n
count_upto test later zero each = omega arith
count_upto test later (suc n) each =
    let less = count_upto test later n (λ x inside. each x (omega arith)) in
    by_last (later n) (test n) refl refl less (each n (omega arith))
  where
    by_last : (a b : Bool) → later n ≡ a → test n ≡ b → count_below later n ≤ count_below test n → (later n ≡ true → test n ≡ true)
        → count_below later n + (if later n then 1 else 0) ≤ count_below test n + (if test n then 1 else 0)
    by_last true true is at less keeps = rw (is, at) (omega arith)
    by_last true false is at less keeps = absurd (false≢true (sym at ∙ keeps is))
    by_last false true is at less keeps = rw (is, at) (omega arith)
    by_last false false is at less keeps = rw (is, at) (omega arith)

count_less : (test later : ℕ → Bool) (n y : ℕ) → ((x : ℕ) → x < n → later x ≡ true → test x ≡ true) → y < n → test y ≡ true → later y ≡ false
    → count_below later n < count_below test n
count_less test later zero y each inside was gone = absurd (omega arith)
count_less test later (suc n) y each inside was gone = elim (cases_eq y n) [
  | inl same ↦
      let less = count_upto test later n (λ x below. each x (omega arith)) in
      let at : test n ≡ true = subst (λ k. test k ≡ true) same was in
      let is : later n ≡ false = subst (λ k. later k ≡ false) same gone in
      rw (is, at) (omega arith)
  | inr other ↦
      let less = count_less test later n y (λ x below. each x (omega arith)) (omega arith) was gone in
      by_last (later n) (test n) refl refl less (each n (omega arith))
]
  where
    by_last : (a b : Bool) → later n ≡ a → test n ≡ b → count_below later n < count_below test n → (later n ≡ true → test n ≡ true)
        → count_below later n + (if later n then 1 else 0) < count_below test n + (if test n then 1 else 0)
    by_last true true is at less keeps = rw (is, at) (omega arith)
    by_last true false is at less keeps = absurd (false≢true (sym at ∙ keeps is))
    by_last false true is at less keeps = rw (is, at) (omega arith)
    by_last false false is at less keeps = rw (is, at) (omega arith)

count_none : (test : ℕ → Bool) (n : ℕ) → ((x : ℕ) → x < n → test x ≡ false) → count_below test n ≡ 0
count_none test zero each = refl
count_none test (suc n) each =
    let none = count_none test n (λ x inside. each x (omega arith)) in
    let last = each n (omega arith) in
    rw (none, last) refl

none_counted : (test : ℕ → Bool) (n x : ℕ) → count_below test n ≡ 0 → x < n → test x ≡ true → ⊥
none_counted test zero x none inside is = omega arith
none_counted test (suc n) x none inside is = elim (cases_eq x n) [
  | inl same ↦
      let at : test n ≡ true = subst (λ k. test k ≡ true) same is in
      let one : count_below test n + 1 ≡ 0 = ap (λ b. count_below test n + (if b then 1 else 0)) (sym at) ∙ none in
      absurd (omega (arith, one))
  | inr other ↦ none_counted test n x (let all = none in omega (arith, all)) (omega arith) is
]

-- ---- what is left

undone_is : (h : History) (x : ℕ) → is_done h x ≡ false → h.done x ≡ None
undone_is h x e = by_done (h.done x) e
  where
    by_done : (o : Option ℕ) → is_some o ≡ false → o ≡ None
    by_done None none = refl
    by_done (Some t) none = absurd (false≢true (sym none))

sees_something : (o : Option ℕ) → is_some o ≡ true → (p : ℕ) × (o ≡ Some p)
sees_something None e = absurd (false≢true e)
sees_something (Some p) e = (p, refl)

module _ (m : Labelled) (good : IsLabelled m) where
  named_allowed : (h : History) (t x : ℕ) → IsHistory m h → IsNamed m h t x → is_coming m h x ≡ true
  named_allowed h t x known named =
      let s = as_told h (λ p. false) in
      let agrees = told_agrees h (λ p. false) in
      let allowed = holds_allows h (completed_label m x) s agrees (named.least s agrees).executed in
      rw (left_coming m h 0 good known x named.coming allowed, named.coming) refl

  awaited_unheard : (h : History) (t p : ℕ) → IsHistory m h → (a : IsAwaited m h t p) → is_unheard m h a.1.observed.observer ≡ true
  awaited_unheard h t p known a =
      let o = a.1.observed in
      rw (left_watching m h 0 good known o.observer a.1.since p o.done o.observes a.0, sees_left m h o.observer p o.observes a.0) refl

  -- more was done and told later
  module _ (h later : History) (known : IsHistory m h) (after : IsHistory m later) (advances : Advances h later) where
    untold_before : (p : ℕ) → later.told p ≡ None → h.told p ≡ None
    untold_before p none = elim (some_or_none (h.told p)) [
      | inl told ↦ (let f : ◌≡◌ {A = Option Bool} None (Some told.0) = sym none ∙ advances.told p told.0 told.1 in absurd (cc))
      | inr was ↦ was
    ]

    undone_before : (x : ℕ) → later.done x ≡ None → h.done x ≡ None
    undone_before x none = elim (some_or_none (h.done x)) [
      | inl done ↦ (let f : ◌≡◌ {A = Option ℕ} None (Some done.0) = sym none ∙ advances.done x done.0 done.1 in absurd (cc))
      | inr was ↦ was
    ]

    left_before : (x : ℕ) → is_left m later x ≡ true → is_left m h x ≡ true
    left_before x left_later = elim (some_or_none (h.done x)) [
      | inl done ↦ watched x done.0 done.1 left_later
      | inr none ↦ left_coming m h 0 good known x none
          (λ p v told. left_allows m later 0 good after x left_later p v (advances.told p v told))
    ]
      where
        watched : (y t : ℕ) → h.done y ≡ Some t → is_left m later y ≡ true → is_left m h y ≡ true
        watched zero t done left_later = refl
        watched (suc y) t done left_later =
            let sight : is_some (sight_left m later (suc y)) ≡ true =
            sym (ap (λ o. if is_some o then is_some (sight_left m later (suc y)) else allows later (completed_label m (suc y))) (advances.done (suc y) t done))
            ∙ left_later in
            let p = sees_something (sight_left m later (suc y)) sight in
            let back = sees_back m later (suc y) p.0 p.1 in
            left_watching m h 0 good known (suc y) t p.0 done back.0 (untold_before p.0 back.1)

    coming_before : (x : ℕ) → is_coming m later x ≡ true → is_coming m h x ≡ true
    coming_before x coming =
        let both = and_parts (is_left m later x) (not (is_done later x)) coming in
        let undone = undone_before x (undone_is later x (not_back (is_done later x) both.1)) in
        rw (left_before x both.0, undone) refl
      where
        not_back : (b : Bool) → not b ≡ true → b ≡ false
        not_back true e = absurd (false≢true e)
        not_back false e = refl

    unheard_before : (x : ℕ) → is_unheard m later x ≡ true → is_unheard m h x ≡ true
    unheard_before x unheard =
        let both = and_parts (is_left m later x) (is_some (sight_left m later x)) unheard in
        let p = sees_something (sight_left m later x) both.1 in
        let back = sees_back m later x p.0 p.1 in
        rw (left_before x both.0, sees_left m h x p.0 back.0 (untold_before p.0 back.1)) refl

    told_heard : (x p : ℕ) (v : Bool) → Observes m.base x p → later.told p ≡ Some v → is_unheard m later x ≡ false
    told_heard x p v o told = elim (some_or_none (sight_left m later x)) [
      | inl sees ↦
          let back = sees_back m later x sees.0 sees.1 in
          let same : sees.0 ≡ p = (let f : ◌≡◌ {A = Option ℕ} (Some sees.0) (Some p) = sym back.0.what ∙ o.what in cc) in
          let f : ◌≡◌ {A = Option Bool} None (Some v) = sym (subst (λ q. later.told q ≡ None) same back.1) ∙ told in
          absurd (cc)
      | inr none ↦ rw none (never_both (is_left m later x))
    ]
      where
        never_both : (b : Bool) → (b && false) ≡ false
        never_both true = refl
        never_both false = refl

    done_gone : (x t : ℕ) → later.done x ≡ Some t → is_coming m later x ≡ false
    done_gone x t done = rw done (never_both (is_left m later x))
      where
        never_both : (b : Bool) → (b && false) ≡ false
        never_both true = refl
        never_both false = refl

    -- where all that was next is done and told, less is left
    less_left : (t : ℕ) → IsEventful m h t → ((x : ℕ) → IsNamed m h t x → later.done x ≡ Some t) → ((p : ℕ) → IsAwaited m h t p → IsTold later p)
        → count_left m later < count_left m h
    less_left t (inl (p, awaited)) done told =
        let o = awaited.1.observed in
        let v = told p awaited in
        let coming = count_upto (is_coming m h) (is_coming m later) (count m.base) (λ x inside. coming_before x) in
        let unheard = count_less (is_unheard m h) (is_unheard m later) (count m.base) o.observer (λ x inside. unheard_before x)
        (observer_within m.base o.observer p o.observes) (awaited_unheard h t p known awaited) (told_heard o.observer p v.0 o.observes v.1) in
        omega arith
    less_left t (inr (x, named)) done told =
        let coming = count_less (is_coming m h) (is_coming m later) (count m.base) x (λ y inside. coming_before y)
        named.here (named_allowed h t x known named) (done_gone x t (done x named)) in
        let unheard = count_upto (is_unheard m h) (is_unheard m later) (count m.base) (λ y inside. unheard_before y) in
        omega arith

-- ---- lines and turns

-- the session went on to a later history of the same plan, which can go on
record Went (s g : Following) : Type 0 where
  sound : IsSound g
  network : g.network ≡ s.network
  advances : Advances s.history g.history
  can : Can g.network g.history

went_here : (s : Following) → IsSound s → Can s.network s.history → Went s s
went_here s sound can = record { sound = sound; network = refl; advances = record { done = λ x t is. is; told = λ p v is. is }; can = can }

went_through : (s t g : Following) → Went s t → Went t g → Went s g
went_through s t g a b = record {
  sound = b.sound;
  network = b.network ∙ a.network;
  advances = record {
    done = λ x u is. b.advances.done x u (a.advances.done x u is);
    told = λ p v is. b.advances.told p v (a.advances.told p v is);
  };
  can = b.can;
}

keeps_past : (s : Following) (o : Option Follow) → KeepsToNext s o → TellsPast o
keeps_past s None keeps = absurd keeps
keeps_past s (Some (done_at t given)) keeps = tt
keeps_past s (Some (came_at t p v)) keeps = tt
keeps_past s (Some (now_at t)) keeps = tt
keeps_past s (Some (awaited_at t p)) keeps = absurd keeps
keeps_past s (Some (ready_at t name)) keeps = absurd keeps
keeps_past s (Some (edits edit)) keeps = absurd keeps
keeps_past s (Some (ends_by deadline)) keeps = absurd keeps
keeps_past s (Some asks_next) keeps = absurd keeps
keeps_past s (Some (asks_by name)) keeps = absurd keeps
keeps_past s (Some asks_blame) keeps = absurd keeps
keeps_past s (Some asks_rest) keeps = absurd keeps

line_went : (s next : Following) (bytes text : List ℕ) → IsSound s → Can s.network s.history → KeepsToNext s (follow_read bytes)
    → follow_turn s bytes ≡ more text next → Went s next
line_went s next bytes text sound can keeps answered = by_refusal (is_refusal text) refl
  where
    can_next : Can next.network next.history
    can_next =
        let one = one_goes s bytes sound can keeps in
        let same : one.0 ≡ next = (let f : ◌≡◌ (more one.1.text one.0) (more text next) = sym one.1.answer ∙ answered in cc) in
        subst (λ (g : Following). Can g.network g.history) same one.1.can

    by_refusal : (b : Bool) → is_refusal text ≡ b → Went s next
    by_refusal true refused =
        subst (Went s) (sym (refusal_stays s next bytes text sound answered refused))
        (record {
          sound = subst IsSound (refusal_stays s next bytes text sound answered refused) (next_sound canonical s next bytes text sound answered);
          network = refl;
          advances = record { done = λ x t is. is; told = λ p v is. is };
          can = can;
        })
    by_refusal false fine =
        let one = advanced s next bytes text sound (follow_read bytes) refl (keeps_past s (follow_read bytes) keeps) answered fine in
        record { sound = next_sound canonical s next bytes text sound answered; network = one.0; advances = one.1; can = can_next }

lines_went : (s g : Following) (k : ℕ) (lines : List (List ℕ)) → IsSound s → Can s.network s.history → KeepToNext s lines
    → state_after follow_turn s k lines ≡ Some g → Went s g
lines_went s g k [] sound can keep is = subst (Went s) (same_Some s g is) (went_here s sound can)
lines_went s g k (first ∷ lines) sound can keep is =
    let l = first_leads follow_turn s g k first lines is in
    let one = line_went s l.next first l.text sound can keep.0 l.answer in
    went_through s l.next g one (lines_went l.next g (k + 1) lines one.sound one.can (keep.1 l.text l.next l.answer) l.rest)

turn_went : (s after : Following) → IsSound s → Can s.network s.history → IsTurn s after
    → Went s after × (count_left after.network after.history < count_left s.network s.history)
turn_went s after sound can turn =
    let went = lines_went s after turn.heard turn.lines sound can turn.keep turn.leads in
    let known_after : IsHistory s.network after.history =
    subst (λ m. IsHistory m after.history) went.network went.sound.timely.history in (
      went,
      subst (λ m. count_left m after.history < count_left s.network s.history) (sym went.network)
          (less_left s.network sound.labelled s.history after.history sound.timely.history known_after went.advances turn.moment turn.next.eventful turn.done turn.told),
    )

turns_went : (n : ℕ) (s last : Following) → IsSound s → Can s.network s.history → AreTurns n s last
    → Went s last × (n + count_left last.network last.history ≤ count_left s.network s.history)
turns_went zero s last sound can same = subst (λ g. Went s g × (0 + count_left g.network g.history ≤ count_left s.network s.history)) same
    (went_here s sound can, omega arith)
turns_went (suc n) s last sound can (after, turn, turns) =
    let one = turn_went s after sound can turn in
    let rest = turns_went n after last one.0.sound one.0.can turns in (
      went_through s after last one.0 rest.0,
      (let less = one.1 in let few = rest.1 in omega arith),
    )

pub turns_leave_less : (n : ℕ) (s last : Following) → IsReached s → Can s.network s.history → AreTurns n s last
    → n + count_left last.network last.history ≤ count_left s.network s.history
turns_leave_less n s last reached can turns = (turns_went n s last (reached_sound s reached) can turns).1

pub turns_go_on : (n : ℕ) (s last : Following) → IsReached s → Can s.network s.history → AreTurns n s last → Can last.network last.history
turns_go_on n s last reached can turns = (turns_went n s last (reached_sound s reached) can turns).0.can

-- ---- nothing is left

module _ (m : Labelled) (h : History) (good : IsLabelled m) (known : IsHistory m h) where
  none_coming : IsAllDone m h → (x : ℕ) → x < count m.base → is_coming m h x ≡ true → ⊥
  none_coming over x here coming =
      let both = and_parts (is_left m h x) (not (is_done h x)) coming in
      let undone = undone_is h x (flipped (is_done h x) both.1) in
      let allowed = left_allows m h 0 good known x both.0 in
      let e = somewhere_allowed x here allowed in
      over.steps e.0 x e.1 here undone e.2
    where
      flipped : (b : Bool) → not b ≡ true → b ≡ false
      flipped true e = absurd (false≢true e)
      flipped false e = refl

      somewhere_allowed : (y : ℕ) → y < count m.base → IsAllowed h (completed_label m y) → (s : Scenario) × AgreesWith h s × IsExecuted m s y
      somewhere_allowed y inside all = somewhere m h y good known inside (allows_true h (completed_label m y) all)

  none_unheard : IsAllDone m h → (x : ℕ) → x < count m.base → is_unheard m h x ≡ true → ⊥
  none_unheard over x here unheard =
      let both = and_parts (is_left m h x) (is_some (sight_left m h x)) unheard in
      let p = sees_something (sight_left m h x) both.1 in
      let back = sees_back m h x p.0 p.1 in
      elim (some_or_none (h.done x)) [
        | inl done ↦ over.outcomes p.0 done.0 (record { observer = x; observes = back.0; done = done.1 }) back.1
        | inr none ↦ none_coming over x here (rw (both.0, none) refl)
      ]

  over_none : IsAllDone m h → count_left m h ≡ 0
  over_none over =
      let steps = count_none (is_coming m h) (count m.base) (λ x here. is_false (is_coming m h x) (none_coming over x here)) in
      let outcomes = count_none (is_unheard m h) (count m.base) (λ x here. is_false (is_unheard m h x) (none_unheard over x here)) in
      omega (arith, steps, outcomes)
    where
      is_false : (b : Bool) → (b ≡ true → ⊥) → b ≡ false
      is_false true never = absurd (never refl)
      is_false false never = refl

  none_open_left : count_left m h ≡ 0 → (x : ℕ) → x < count m.base → is_open m h x ≡ true → ⊥
  none_open_left none x here open_ = elim (some_or_none (h.done x)) [
    | inl done ↦
        let sight : is_some (sight_left m h x) ≡ true =
        sym (ap (λ o. if is_some o then is_some (sight_left m h x) else allows h (completed_label m x)) done.1) ∙ open_ in
        let p = sees_something (sight_left m h x) sight in
        let back = sees_back m h x p.0 p.1 in
        let kept = left_watching m h 0 good known x done.0 p.0 done.1 back.0 back.1 in
        none_counted (is_unheard m h) (count m.base) x (let all = none in omega (arith, all)) here (rw (kept, sight) refl)
    | inr undone ↦
        let allowed : allows h (completed_label m x) ≡ true =
        sym (ap (λ o. if is_some o then is_some (sight_left m h x) else allows h (completed_label m x)) undone) ∙ open_ in
        let kept = left_coming m h 0 good known x undone (allows_back m h good known (completed_label m x) allowed) in
        none_counted (is_coming m h) (count m.base) x (let all = none in omega (arith, all)) here (rw (kept, undone) refl)
  ]

pub none_left_exactly : (s : Following) → IsReached s → (count_left s.network s.history ≡ 0) ↔ IsAllDone s.network s.history
none_left_exactly s reached =
    let sound = reached_sound s reached in
    let good = sound.labelled in
    let known = sound.timely.history in (
      λ none. (nothing_left s reached).0 (all_false (is_open s.network s.history) (count s.network.base)
          (λ x here. is_false (is_open s.network s.history x) (none_open_left s.network s.history good known none x here))),
      over_none s.network s.history good known,
    )
  where
    is_false : (b : Bool) → (b ≡ true → ⊥) → b ≡ false
    is_false true never = absurd (never refl)
    is_false false never = refl

pub ends_well : (s : Following) → IsReached s → Can s.network s.history → IsAllDone s.network s.history
    → (following_ending s ≡ say Good (codes "done")) ⊎ (verdict_now s ≡ Full)
ends_well s reached can over = by_verdict (verdict_now s) refl (states_true s reached)
  where
    closed : is_any_open s ≡ false
    closed = (nothing_left s reached).1 over

    by_verdict : (v : Verdict) → verdict_now s ≡ v → IsTrueOfSession s v → (following_ending s ≡ say Good (codes "done")) ⊎ (verdict_now s ≡ Full)
    by_verdict (Yes load) is truly = inl (
        ap (λ b. if b then say Unfinished (codes "unfinished " ++ decimal s.history.now) else say (outcome_by (verdict_now s)) (codes "done")) closed
        ∙ ap (λ v. say (outcome_by v) (codes "done")) is)
    by_verdict (No load) is truly = absurd (truly can)
    by_verdict Full is truly = inr is
