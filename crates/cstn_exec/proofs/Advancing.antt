-- The beginning, accepted moments and accepted outcomes keep the state of a guide right.
use Rattle.std.proofs.Common.{ℕ, ◌≡◌, ◌⊎◌, inl, inr, ◌+◌, ◌<◌, Bool, true, false, List, Some, None, not, length, arith, sym, subst, ◌∙◌, get_or-set_other}
use Rattle.std.specs.List.{Contains}
use Rattle.std.proofs.lemmas.Bool.{cases_Bool, cond-true, cond-false, true≢false, both_ways}
use Rattle.std.proofs.lemmas.List.{length-replicate}
use Rattle.std.proofs.lemmas.List.Kept.{AllPairs-from_increasing}
use Rattle.cstn_facts.proofs.Options.{cases_option, some_or_none}
use Rattle.cstn_facts.proofs.Places.{get_or_repeated, some_within}
use Rattle.cstn_facts.proofs.Members.{contains_or_not, all_from}
use Rattle.cstn_label.specs.Bounds.{Bound}
use Rattle.cstn_net.specs.Networks.{Network, IsWellFormed, count}
use Rattle.cstn_net.specs.Strategies.{Table}
use Rattle.cstn_plan.specs.Plans.{IsEarliest}
use Rattle.cstn_lift.specs.Labelled.{Labelled}
use Rattle.cstn_lift.specs.Completion.{completed_label}
use Rattle.cstn_lift.specs.WellFormed.{IsLabelled}
use Rattle.cstn_lift.specs.Lowered.{lowered}
use Rattle.cstn_exec.specs.Runs.{Run, start_of_run, executed_at, outcome_of, observed_at, known, called}
use Rattle.cstn_exec.specs.Moves.{moment_refusal, run_moved, handed, outcome_refusal, NotExecuted, unless_unseen, unless_known}
use Rattle.cstn_exec.specs.Right.{IsRightRun}
use Rattle.cstn_exec.proofs.Knowing.{known_from, known_to}
use Rattle.cstn_exec.proofs.Moving.{start_right}
use Rattle.cstn_exec.proofs.Dues.{accepted_right}
use Rattle.cstn_exec.proofs.Refusals.{seen_right, called_ascend}
use Rattle.cstn_exec.specs.Guides.{Guided, guide_begun, was_left_out, holds_at, left_out, advanced, is_denied, see_refusal, outcome_noted}
use Rattle.cstn_exec.specs.Sound.{HoldsBy, IsRuledOut, IsGuided}
use Rattle.cstn_exec.specs.GuideRead.{AreWithoutOutcomes}
use Rattle.cstn_exec.proofs.Holding.{holds_is, holds_on, ruled_out_on}
use Rattle.cstn_exec.proofs.GuideNaming.{moved_kept, moved_was, called_waits, called_inside, called_executed, called_unseen, known_more, left_parts, left_from, not_holding}
use Rattle.cstn_exec.proofs.Denying.{all_executed, outcome_kept, outcome_there, fresh_filter, all_right, known_on, left_size, left_kept, left_in, left_not}

-- ---- the beginning

module _ (m : Labelled) (bounds : List Bound) (table : Table) (wf : IsWellFormed (lowered m)) (plan : IsEarliest (lowered m) bounds table) where
  nobody : (x : ℕ) → was_left_out (guide_begun (count m.base)) x ≡ true → ⊥
  nobody x h = true≢false (sym h ∙ get_or_repeated (count m.base) x false)

  nothing : (x t : ℕ) → executed_at (start_of_run (count m.base)) x ≡ Some t → ⊥
  nothing x t e = some_or_none (executed_at (start_of_run (count m.base)) x) t e (get_or_repeated (count m.base) x None)

  pub begun_guided : IsGuided m (guide_begun (count m.base))
  begun_guided = record {
    right = start_right (lowered m) bounds table wf plan;
    size = length-replicate {A = Bool} (count m.base) false;
    held = λ x t e. absurd (nothing x t e);
    ruled_out = λ x t e. absurd (nothing x t e);
    placed = λ x h. absurd (nobody x h);
    denied = λ x p o h. absurd (nobody x h);
  }

-- ---- moments

-- the time-points that are called at an accepted moment are fresh
pub called_fresh : (net : Network) (bounds : List Bound) → IsWellFormed net → (run : Run) → IsRightRun net run → (t : ℕ) →
    AreWithoutOutcomes net (run_moved net bounds run t) (called net bounds run t)
called_fresh net bounds wf run right t = record {
  ascending = AllPairs-from_increasing (called net bounds run t) (called_ascend net bounds run t);
  inside = all_from (λ x. x < count net) (called net bounds run t) (called_inside net bounds wf run right t);
  placed = all_from (λ x. (u : ℕ) × (executed_at (run_moved net bounds run t) x ≡ Some u)) (called net bounds run t)
      (λ x c. (t, called_executed net bounds wf run right t x c));
  unseen = called_unseen net bounds wf run right t;
}

module _ (m : Labelled) (bounds : List Bound) (table : Table) (good : IsLabelled m) (wf : IsWellFormed (lowered m))
    (plan : IsEarliest (lowered m) bounds table) (g : Guided) (right : IsGuided m g) (t : ℕ)
    (ok : moment_refusal (lowered m) bounds g.run t ≡ None) where
  abbrev net : Network
  net = lowered m

  abbrev moved_run : Run
  moved_run = run_moved (lowered m) bounds g.run t

  abbrev out : List ℕ
  out = left_out m bounds g.run t

  abbrev after : Guided
  after = advanced m bounds g t

  fresh : AreWithoutOutcomes net moved_run out
  fresh = fresh_filter net wf (λ x. not (holds_at m g.run t x)) moved_run (called net bounds g.run t) (called_fresh net bounds wf g.run right.right t)

  more : (u p : ℕ) (v : Bool) → known net g.run u p ≡ Some v → known net after.run u p ≡ Some v
  more u p v k = known_on net wf out moved_run fresh u p v (known_more net bounds wf g.run right.right t u p v k)

  holds_still : (u x : ℕ) → HoldsBy (known net g.run u) (completed_label m x) → HoldsBy (known net after.run u) (completed_label m x)
  holds_still u x = holds_on (known net g.run u) (known net after.run u) (completed_label m x) (more u)

  out_still : (u x : ℕ) → IsRuledOut (known net g.run u) (completed_label m x) → IsRuledOut (known net after.run u) (completed_label m x)
  out_still u x = ruled_out_on (known net g.run u) (known net after.run u) (completed_label m x) (more u)

  -- a time-point that has a moment in the new run had it before, or is called at t
  was : (x u : ℕ) → executed_at after.run x ≡ Some u → (x < count m.base) × ((executed_at g.run x ≡ Some u) ⊎ (Contains (called net bounds g.run t) x × (u ≡ t)))
  was x u e =
      let e_moved = sym (all_executed net out moved_run x) ∙ e in
      let inside = some_within moved_run.moments x u e_moved in
      let size = (accepted_right net bounds table wf plan g.run right.right t ok).0.moments in
      let here : x < count m.base = omega arith in
      (here, moved_was net bounds wf g.run right.right t x u here e_moved)

  -- a time-point that was left out before isn't called at t
  not_again : (x : ℕ) → Contains (called net bounds g.run t) x → was_left_out g x ≡ true → ⊥
  not_again x c h =
      let e = right.placed x h in
      some_or_none (executed_at g.run x) e.0 e.1 (called_waits net bounds wf g.run right.right t x c)

  left_inside : (x : ℕ) → x < count m.base → x < length g.left
  left_inside x here = let size = right.size in omega arith

  pub advanced_held : (x u : ℕ) → executed_at after.run x ≡ Some u → was_left_out after x ≡ false → HoldsBy (known net after.run (u + 1)) (completed_label m x)
  advanced_held x u e stays =
      let from = was x u e in
      let inside = left_inside x from.0 in
      elim from.1 [
        | inl before ↦ elim (cases_Bool (was_left_out g x)) [
          | inl left ↦ absurd (both_ways (was_left_out after x) stays (left_kept out g.left x inside left))
          | inr kept ↦ holds_still (u + 1) x (right.held x u before kept)
        ]
        | inr now ↦ elim (cases_Bool (holds_at m g.run t x)) [
          | inl holds ↦ subst (λ w. HoldsBy (known net after.run (w + 1)) (completed_label m x)) (sym now.1)
              (holds_still (t + 1) x ((holds_is m (known net g.run (t + 1)) x good).0 holds))
          | inr fails ↦ absurd (both_ways (was_left_out after x) stays (left_in out g.left x (left_from m bounds g.run t x now.0 fails) inside))
        ]
      ]

  pub advanced_out : (x u : ℕ) → executed_at after.run x ≡ Some u → was_left_out after x ≡ true → IsRuledOut (known net after.run (u + 1)) (completed_label m x)
  advanced_out x u e gone =
      let from = was x u e in
      elim from.1 [
        | inl before ↦ elim (cases_Bool (was_left_out g x)) [
          | inl left ↦ out_still (u + 1) x (right.ruled_out x u before left)
          | inr kept ↦
              let same = left_not out g.left x (λ c.
              some_or_none (executed_at g.run x) u before (called_waits net bounds wf g.run right.right t x (left_parts m bounds g.run t x c).0)) in
              absurd (both_ways (was_left_out g x) kept (sym same ∙ gone))
        ]
        | inr now ↦ elim (cases_Bool (holds_at m g.run t x)) [
          | inr fails ↦ subst (λ w. IsRuledOut (known net after.run (w + 1)) (completed_label m x)) (sym now.1)
              (out_still (t + 1) x (not_holding m bounds table g.run t good wf plan right.right ok x now.0 fails))
          | inl holds ↦
              let same = left_not out g.left x (λ c. both_ways (holds_at m g.run t x) (left_parts m bounds g.run t x c).1 holds) in
              absurd (not_again x now.0 (sym same ∙ gone))
        ]
      ]

  -- a time-point that is left out in the new state was left out before, or is left out at t
  left_when : (x : ℕ) → was_left_out after x ≡ true → (was_left_out g x ≡ true) ⊎ Contains out x
  left_when x gone = elim (contains_or_not out x) [
    | inl there ↦ inr there
    | inr nowhere ↦ inl (sym (left_not out g.left x nowhere) ∙ gone)
  ]

  pub advanced_guided : IsGuided m (advanced m bounds g t)
  advanced_guided = record {
    right = all_right net wf out moved_run (accepted_right net bounds table wf plan g.run right.right t ok).0 fresh;
    size = left_size out g.left ∙ right.size;
    held = advanced_held;
    ruled_out = advanced_out;
    placed = λ x gone. elim (left_when x gone) [
      | inl before ↦
          let e = right.placed x before in
          (e.0, all_executed net out moved_run x ∙ moved_kept net bounds wf g.run right.right t x e.0 e.1)
      | inr now ↦ (t, all_executed net out moved_run x ∙ called_executed net bounds wf g.run right.right t x (left_parts m bounds g.run t x now).0)
    ];
    denied = λ x p sees gone. elim (left_when x gone) [
      | inl before ↦ outcome_kept net out moved_run p (right.denied x p sees before)
      | inr now ↦
          let letter = wf.letters x p sees in
          let size = right.right.outcomes in
          outcome_there net out moved_run x p now sees (omega arith)
    ];
  }

-- ---- outcomes

-- what an accepted outcome tells
pub record IsOpen (m : Labelled) (g : Guided) (p : ℕ) : Type 0 where
  pub kept : is_denied (lowered m) g p ≡ false
  pub accepted : outcome_refusal (lowered m) g.run p ≡ None
  pub missing : outcome_of g.run p ≡ None

pub missing_from : (net : Network) (run : Run) (p : ℕ) → outcome_refusal net run p ≡ None → outcome_of run p ≡ None
missing_from net run p ok = elim (cases_option (observed_at net run p)) [
  | inl none ↦
      let refused = subst (λ o. unless_unseen p o (unless_known p (outcome_of run p)) ≡ None) none ok in
      let f : ⊥ = cc in
      absurd f
  | inr some ↦
      let seen = subst (λ o. unless_unseen p o (unless_known p (outcome_of run p)) ≡ None) some.1 ok in
      elim (cases_option (outcome_of run p)) [
        | inl missing ↦ missing
        | inr kept ↦
            let refused = subst (λ o. unless_known p o ≡ None) kept.1 seen in
            let f : ⊥ = cc in
            absurd f
      ]
]

pub open_from : (m : Labelled) (g : Guided) (p : ℕ) → see_refusal m g p ≡ None → IsOpen m g p
open_from m g p ok = elim (cases_Bool (is_denied (lowered m) g p)) [
  | inl left ↦
      let refused = cond-true (is_denied (lowered m) g p) (Some (NotExecuted p)) (outcome_refusal (lowered m) g.run p) left in
      let f : ⊥ = cc in
      absurd f
  | inr kept ↦
      let accepted = sym (cond-false (is_denied (lowered m) g p) (Some (NotExecuted p)) (outcome_refusal (lowered m) g.run p) kept) ∙ ok in
      record { kept = kept; accepted = accepted; missing = missing_from (lowered m) g.run p accepted }
]

module _ (m : Labelled) (wf : IsWellFormed (lowered m)) (g : Guided) (right : IsGuided m g) (p : ℕ) (v : Bool) (is_open : IsOpen m g p) where
  others : (q : ℕ) (w : Bool) → outcome_of g.run q ≡ Some w → outcome_of (handed g.run p v) q ≡ Some w
  others q w e =
      get_or-set_other g.run.outcomes p q (Some v) None
      (λ same. some_or_none (outcome_of g.run q) w e (subst (λ r. outcome_of g.run r ≡ None) (sym same) is_open.missing)) ∙ e

  known_still : (u q : ℕ) (w : Bool) → known (lowered m) g.run u q ≡ Some w → known (lowered m) (handed g.run p v) u q ≡ Some w
  known_still u q w k =
      let from = known_from (lowered m) wf.network g.run u q w k in
      let r = from.0 in
      known_to (lowered m) wf.network (handed g.run p v) u q w (record {
        observer = r.observer;
        moment = r.moment;
        observes = r.observes;
        executed = r.executed;
        passed = r.passed;
      }) (others q w from.1)

  pub noted_guided : p < 52 → IsGuided m (outcome_noted g p v)
  noted_guided letter = record {
    right = seen_right (lowered m) g.run p wf right.right is_open.accepted letter v;
    size = right.size;
    held = λ x t e kept.
        holds_on (known (lowered m) g.run (t + 1)) (known (lowered m) (handed g.run p v) (t + 1)) (completed_label m x) (known_still (t + 1))
        (right.held x t e kept);
    ruled_out = λ x t e left.
        ruled_out_on (known (lowered m) g.run (t + 1)) (known (lowered m) (handed g.run p v) (t + 1)) (completed_label m x) (known_still (t + 1))
        (right.ruled_out x t e left);
    placed = right.placed;
    denied = λ x q sees left. others q false (right.denied x q sees left);
  }
