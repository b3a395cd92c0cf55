-- Which moments are accepted.
use Rattle.std.proofs.Common.{ℕ, ◌≡◌, inl, inr, ◌+◌, ◌<◌, ◌≤◌, false, List, Option, Some, None, arith, refl, sym, ap, ◌∙◌}
use Rattle.std.specs.Prelude.{◌↔◌, nat_lt}
use Rattle.std.proofs.lemmas.Bool.{cases_Bool, cases_lt, cond-true, cond-false, true≢false, lt-ltb, le-ltb}
use Rattle.cstn_facts.proofs.Options.{cases_option}
use Rattle.cstn_label.specs.Bounds.{Bound}
use Rattle.cstn_net.specs.Networks.{Network}
use Rattle.cstn_lift.specs.Labelled.{Labelled}
use Rattle.cstn_lift.specs.Lowered.{lowered}
use Rattle.cstn_exec.specs.Runs.{Run, first_after, next, is_run_done, awaited, due}
use Rattle.cstn_exec.specs.Moves.{EventRefusal, Done, Past, Late, Awaiting, NotExecuted, Known, moment_refusal, unless_past, unless_awaiting, unless_late}
use Rattle.cstn_exec.specs.Right.{IsDue, IsFirstAwaited}
use Rattle.cstn_exec.proofs.Judging.{judged, not_refused, refusal_done}
use Rattle.cstn_exec.proofs.Running.{awaits_none, awaited_least}
use Rattle.cstn_exec.proofs.Dues.{done_from, done_to, due_none, due_is_due}
use Rattle.cstn_exec.specs.Guides.{Guided}
use Rattle.cstn_exec.specs.Sound.{IsPlanned, IsGuided}
use Rattle.cstn_run.specs.Least.{IsDueMoment}
use Rattle.cstn_run.specs.Meanings.{IsUnfinished, AwaitsNothing, IsAcceptable, IsRefusedFor}

neither_below : (a b : ℕ) → (a < b → ⊥) → (b < a → ⊥) → a ≡ b
neither_below a b one other = elim (cases_lt a b) [
  | inl below ↦ absurd (one below)
  | inr upto ↦ elim (cases_lt b a) [ inl below ↦ absurd (other below) | inr above ↦ omega arith ]
]

not_past : (t : ℕ) (now : Option ℕ) (other : Option EventRefusal) → first_after now ≤ t → unless_past t now other ≡ other
not_past t None other from = refl
not_past t (Some m) other from = cond-true (nat_lt m t) other (Some (Past m)) (lt-ltb m t (omega arith))

-- ---- each refusal, by its part

module _ (net : Network) (bounds : List Bound) (run : Run) (t : ℕ) where
  abbrev by_awaited : Option EventRefusal
  by_awaited = unless_awaiting (awaited net run (t + 1)) (unless_late t (due net bounds run))

  refusal_waits : is_run_done run ≡ false → moment_refusal net bounds run t ≡ unless_past t run.now by_awaited
  refusal_waits waits = cond-false (is_run_done run) (Some Done) (unless_past t run.now by_awaited) waits

  refusal_past : is_run_done run ≡ false → (now : ℕ) → run.now ≡ Some now → t ≤ now → moment_refusal net bounds run t ≡ Some (Past now)
  refusal_past waits now at upto =
      refusal_waits waits ∙ ap (λ o. unless_past t o by_awaited) at ∙ cond-false (nat_lt now t) by_awaited (Some (Past now)) (le-ltb now t upto)

  refusal_from : is_run_done run ≡ false → next run ≤ t → moment_refusal net bounds run t ≡ by_awaited
  refusal_from waits from = refusal_waits waits ∙ not_past t run.now by_awaited from

  refusal_awaiting : is_run_done run ≡ false → next run ≤ t → (p : ℕ) → awaited net run (t + 1) ≡ Some p → moment_refusal net bounds run t ≡ Some (Awaiting p)
  refusal_awaiting waits from p at = refusal_from waits from ∙ ap (λ o. unless_awaiting o (unless_late t (due net bounds run))) at

  refusal_late : is_run_done run ≡ false → next run ≤ t → awaited net run (t + 1) ≡ None → (u : ℕ) → due net bounds run ≡ Some u → u < t → moment_refusal net bounds run t ≡ Some (Late u)
  refusal_late waits from nobody u at late =
      refusal_from waits from ∙ ap (λ o. unless_awaiting o (unless_late t (due net bounds run))) nobody ∙ ap (unless_late t) at
      ∙ cond-true (nat_lt u t) (Some (Late u)) None (lt-ltb u t late)

  -- ---- what comes before it

  module _ (o : Option EventRefusal) (is : moment_refusal net bounds run t ≡ o) where
    waits_where : (o ≡ Some Done → ⊥) → is_run_done run ≡ false
    waits_where other = elim (cases_Bool (is_run_done run)) [
      | inl all ↦ absurd (other (sym is ∙ refusal_done net bounds run t all))
      | inr waits ↦ waits
    ]

    from_where : is_run_done run ≡ false → ((now : ℕ) → o ≡ Some (Past now) → ⊥) → next run ≤ t
    from_where waits other = by_now run.now refl
      where
        by_now : (now : Option ℕ) → run.now ≡ now → next run ≤ t
        by_now None at = let first = ap first_after at in omega arith
        by_now (Some m) at = elim (cases_lt m t) [
          | inl below ↦ let first = ap first_after at in omega arith
          | inr upto ↦ absurd (other m (sym is ∙ refusal_past waits m at upto))
        ]

    nobody_where : is_run_done run ≡ false → next run ≤ t → ((p : ℕ) → o ≡ Some (Awaiting p) → ⊥) → awaited net run (t + 1) ≡ None
    nobody_where waits from other = elim (cases_option (awaited net run (t + 1))) [
      | inl none ↦ none
      | inr some ↦ absurd (other some.0 (sym is ∙ refusal_awaiting waits from some.0 some.1))
    ]

-- ---- the parts, in a right state

module _ (m : Labelled) (bounds : List Bound) (plan : IsPlanned m bounds) (g : Guided) (right : IsGuided m g) where
  abbrev net : Network
  net = lowered m

  more_to_do : is_run_done g.run ≡ false → IsUnfinished m g
  more_to_do waits all = true≢false (sym (done_to net g.run right.right.moments all) ∙ waits)

  not_done : IsUnfinished m g → is_run_done g.run ≡ false
  not_done more = elim (cases_Bool (is_run_done g.run)) [
    | inl all ↦ absurd (more (done_from net g.run right.right.moments all))
    | inr waits ↦ waits
  ]

  nobody : (t : ℕ) → AwaitsNothing m g t → awaited net g.run (t + 1) ≡ None
  nobody t none = elim (cases_option (awaited net g.run (t + 1))) [
    | inl e ↦ e
    | inr some ↦ absurd (none some.0 (awaited_least net bounds g.run plan.well_formed (t + 1) some.0 some.1).0)
  ]

  first_awaited : (t p : ℕ) → awaited net g.run (t + 1) ≡ Some p → IsFirstAwaited net g.run t p
  first_awaited t p at =
      let first = awaited_least net bounds g.run plan.well_formed (t + 1) p at in
      record { awaited = first.0; least = first.1 }

  awaited_first : (t p : ℕ) → IsFirstAwaited net g.run t p → awaited net g.run (t + 1) ≡ Some p
  awaited_first t p first = elim (cases_option (awaited net g.run (t + 1))) [
    | inl none ↦ absurd (awaits_none net bounds g.run plan.well_formed (t + 1) none p first.awaited)
    | inr some ↦
        let other = first_awaited t some.0 some.1 in
        some.1
        ∙ ap (λ q. Some q) (neither_below some.0 p (λ below. first.least some.0 below other.awaited) (λ below. other.least p below first.awaited))
  ]

  due_right : (u : ℕ) → due net bounds g.run ≡ Some u → IsDueMoment net g.run (Some u)
  due_right u at = due_is_due net bounds plan.table plan.well_formed plan.earliest g.run right.right u at

  some_due : IsUnfinished m g → (u : ℕ) × (due net bounds g.run ≡ Some u)
  some_due more = elim (cases_option (due net bounds g.run)) [
    | inl none ↦
        absurd (more (done_from net g.run right.right.moments (due_none net bounds plan.table plan.well_formed plan.earliest g.run right.right none)))
    | inr some ↦ some
  ]

  one_due : (u w : ℕ) → IsDue net g.run u → IsDue net g.run w → u ≡ w
  one_due u w one other = neither_below u w (λ below. other.first u one.from below one.work) (λ below. one.first w other.from below other.work)

  due_at : (u : ℕ) → IsUnfinished m g → IsDueMoment net g.run (Some u) → due net bounds g.run ≡ Some u
  due_at u more is =
      let some = some_due more in
      some.1 ∙ ap (λ w. Some w) (one_due some.0 u (due_right some.0 some.1).0 is.0)

  -- ---- exactly where

  module _ (t : ℕ) where
    acceptable : moment_refusal (lowered m) bounds g.run t ≡ None → IsAcceptable m g t
    acceptable is =
        let ok = judged net bounds g.run t None is in
        let more = more_to_do ok.waits in
        let some = some_due more in
        record {
          unfinished = more;
          above = ok.from;
          awaits_nothing = awaits_none net bounds g.run plan.well_formed (t + 1) ok.none_awaited;
          by_due = (some.0, due_right some.0 some.1, ok.upto some.0 some.1);
        }

    accepted : IsAcceptable m g t → moment_refusal (lowered m) bounds g.run t ≡ None
    accepted ok =
        let at = due_at ok.by_due.0 ok.unfinished ok.by_due.1 in
        not_refused net bounds g.run t (record {
          waits = not_done ok.unfinished;
          from = ok.above;
          none_awaited = nobody t ok.awaits_nothing;
          upto = λ u is. let same : ok.by_due.0 ≡ u = cc in let by = ok.by_due.2 in omega arith;
        })

    pub accepted_where : moment_refusal (lowered m) bounds g.run t ≡ None ↔ IsAcceptable m g t
    accepted_where = (acceptable, accepted)

    stands : (why : EventRefusal) → moment_refusal (lowered m) bounds g.run t ≡ Some why → IsRefusedFor m g t why
    stands Done is = done_from net g.run right.right.moments (judged net bounds g.run t (Some Done) is)
    stands (Past now) is =
        let past = judged net bounds g.run t (Some (Past now)) is in
        let waits = waits_where net bounds g.run t (Some (Past now)) is (λ e. let f : ⊥ = cc in f) in
        (more_to_do waits, past.0, past.1)
    stands (Awaiting p) is =
        let waits = waits_where net bounds g.run t (Some (Awaiting p)) is (λ e. let f : ⊥ = cc in f) in
        let from = from_where net bounds g.run t (Some (Awaiting p)) is waits (λ now e. let f : ⊥ = cc in f) in
        (more_to_do waits, from, first_awaited t p (judged net bounds g.run t (Some (Awaiting p)) is))
    stands (Late u) is =
        let late = judged net bounds g.run t (Some (Late u)) is in
        let waits = waits_where net bounds g.run t (Some (Late u)) is (λ e. let f : ⊥ = cc in f) in
        let from = from_where net bounds g.run t (Some (Late u)) is waits (λ now e. let f : ⊥ = cc in f) in
        let none = nobody_where net bounds g.run t (Some (Late u)) is waits from (λ p e. let f : ⊥ = cc in f) in
        (more_to_do waits, from, awaits_none net bounds g.run plan.well_formed (t + 1) none, due_right u late.0, late.1)
    stands (NotExecuted p) is = judged net bounds g.run t (Some (NotExecuted p)) is
    stands (Known p v) is = judged net bounds g.run t (Some (Known p v)) is

    refused : (why : EventRefusal) → IsRefusedFor m g t why → moment_refusal (lowered m) bounds g.run t ≡ Some why
    refused Done all = refusal_done net bounds g.run t (done_to net g.run right.right.moments all)
    refused (Past now) past = refusal_past net bounds g.run t (not_done past.0) now past.1 past.2
    refused (Awaiting p) first = refusal_awaiting net bounds g.run t (not_done first.0) first.1 p (awaited_first t p first.2)
    refused (Late u) late = refusal_late net bounds g.run t (not_done late.0) late.1 (nobody t late.2) u (due_at u late.0 late.3) late.4
    refused (NotExecuted p) never = absurd never
    refused (Known p v) never = absurd never

    pub refused_where : (why : EventRefusal) → moment_refusal (lowered m) bounds g.run t ≡ Some why ↔ IsRefusedFor m g t why
    refused_where why = (stands why, refused why)
