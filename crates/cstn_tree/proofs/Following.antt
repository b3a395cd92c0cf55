-- A branch that follows a run: it has the run's moments and outcomes.
use Rattle.std.proofs.Common.{ℕ, suc, zero, ◌≡◌, ◌⊎◌, inl, inr, ◌+◌, ◌<◌, ◌≤◌, Bool, true, false, cond, ◌&&◌, ◌||◌, not, List, [], ◌∷◌, Option, Some, None, length, arith, refl, sym, subst, ap, ◌∙◌, get_or-set_other, get_or-set_same}
use Rattle.std.specs.Prelude.{◌==◌, is_none, is_some, nat_le, nat_lt, pos, ◌-ℤ◌, ◌≤ℤ◌, ℤ}
use Rattle.std.specs.List.{Contains, find, list_all, list_any, range_with_len}
use Rattle.std.proofs.Math.Path.{fun_ext}
use Rattle.std.proofs.lemmas.Bool.{cases_Bool, cases_eq, cases_lt, cond-true, cond-false, and_from, or_left, or_right, eq-eqb, eqb-true, ne_eqb, both_ways, false≢true, le-leb}
use Rattle.std.proofs.lemmas.List.{get_or_past}
use Rattle.std.proofs.lemmas.List.Elements.{All-contains}
use Rattle.cstn_facts.proofs.Ranges.{each_passes, some_passes}
use Rattle.cstn_facts.proofs.Places.{get_or_repeated, some_within}
use Rattle.cstn_facts.proofs.Members.{contains_tail}
use Rattle.cstn_label.specs.declared.marks.Mark.{Mark}
use Rattle.cstn_label.specs.declared.marks.Mark.TheVariants.{Absent, Yes, No, Unknown}
use Rattle.cstn_label.specs.Labels.{Label, Scenario, Holds, MarkFits, IsPlain, IsMarkPlain}
use Rattle.cstn_label.specs.Bounds.{Bound}
use Rattle.cstn_net.specs.Networks.{Network, Constraint, IsConstraint, IsWellFormed, count, limit}
use Rattle.cstn_net.specs.Strategies.{Table}
use Rattle.cstn_plan.specs.Asked.{greatest}
use Rattle.cstn_plan.specs.Plans.{IsEarliest}
use Rattle.cstn_exec.specs.Runs.{Run, start_of_run, next, executed_at, outcome_of, is_outcome_ready, known, is_awaited, awaited, is_possible, fits_known, is_free, has_work, called, due}
use Rattle.cstn_exec.specs.Moves.{Awaiting, moment_refusal, run_moved, handed, executed}
use Rattle.cstn_exec.specs.Right.{AgreesKnown, IsRightRun}
use Rattle.cstn_exec.proofs.Knowing.{Ready, observed_where, known_from, awaited_from}
use Rattle.cstn_exec.proofs.Judging.{judged}
use Rattle.cstn_exec.proofs.Naming.{passing, passing_yes, passing_no, from_passing, in_passing, executed_passing, executed_failing, executed_size}
use Rattle.cstn_exec.proofs.Running.{IsQuiet, awaits_none, awaited_least, executed_is, idle_from, at_moment}
use Rattle.cstn_exec.proofs.Moving.{start_right, handed_right, moved_right, free_parts}
use Rattle.cstn_exec.proofs.Dues.{seen_scenario, seen_agrees, due_first, accepted_quiet}
use Rattle.cstn_outline.specs.Trees.{is_named}
use Rattle.cstn_outline.proofs.WalkLemmas.{named_has, has_named}
use Rattle.cstn_tree.specs.Good.{Branch, branch_begun as first_branch, placed_with, below_at, are_new, are_in_time, is_met_within, is_met_so_far, is_met, fits_at, observed_on, known_from as known_at, below_ask, fits_ask}
use Rattle.cstn_tree.proofs.BranchLemmas.{observed_by}
use Rattle.cstn_tree.proofs.Strategies.{AreOf}
use Rattle.cstn_label.proofs.MarkLemmas.{fits_true}

-- ---- names

pub each_of : {X : Type 0} (test : X → Bool) (xs : List X) → ((x : X) → Contains xs x → test x ≡ true) → list_all test xs ≡ true
each_of test [] h = refl
each_of test (x ∷ xs) h = and_from (test x) (list_all test xs) (h x (0, omega arith, refl)) (each_of test xs (λ y c. h y (contains_tail x y xs c)))

-- the time-points that pass a test are new on the branch, where none of them is named there
passing_new : (placed : ℕ → Option ℕ) (test : ℕ → Bool) (a n : ℕ) → ((x : ℕ) → test x ≡ true → placed x ≡ None) → are_new placed (passing test a n) ≡ true
passing_new placed test a zero free = refl
passing_new placed test a (suc n) free = elim (cases_Bool (test a)) [
  | inl passes ↦
      subst (λ xs. are_new placed xs ≡ true) (sym (passing_yes test a n passes))
      (and_from (is_none (placed a)) (not (is_named a (passing test (a + 1) n)) && are_new placed (passing test (a + 1) n)) (ap is_none (free a passes))
      (and_from (not (is_named a (passing test (a + 1) n))) (are_new placed (passing test (a + 1) n)) (ap not (later (is_named a (passing test (a + 1) n)) refl))
      (passing_new placed test (a + 1) n free)))
  | inr fails ↦ subst (λ xs. are_new placed xs ≡ true) (sym (passing_no test a n fails)) (passing_new placed test (a + 1) n free)
]
  where
    later : (b : Bool) → is_named a (passing test (a + 1) n) ≡ b → is_named a (passing test (a + 1) n) ≡ false
    later false e = e
    later true e = let from = (from_passing test (a + 1) n a (named_has a (passing test (a + 1) n) e)).0 in absurd (omega arith)

-- ---- a branch that follows

-- the branch has the moments and the outcomes of a right run, in which there is nothing to be done before the first moment
-- that may follow
pub record Follows (net : Network) (bounds : List Bound) (run : Run) (b : Branch) : Type 0 where
  pub right : IsRightRun net run
  pub placed : (x : ℕ) → b.placed x ≡ executed_at run x
  pub asked : (p : ℕ) → b.asked p ≡ outcome_of run p
  pub from : next run ≤ b.from
  pub quiet : IsQuiet net bounds run b.from

-- the outcome that was seen, or else one with which the mark holds
abbrev value_or : Option Bool → Mark → Bool
value_or (Some v) m = v
value_or None Yes = true
value_or None Absent = false
value_or None No = false
value_or None Unknown = false

plain_holds : (m : Mark) → IsMarkPlain m → MarkFits (value_or None m) m
plain_holds Absent plain = tt
plain_holds Yes plain = tt
plain_holds No plain = tt
plain_holds Unknown plain = plain

module _ (net : Network) (bounds : List Bound) (table : Table) (wf : IsWellFormed net) (plan : IsEarliest net bounds table) where
  pub follows_start : Follows net bounds (start_of_run (count net)) first_branch
  follows_start = record {
    right = start_right net bounds table wf plan;
    placed = λ x. sym (get_or_repeated (count net) x None);
    asked = λ p. sym (get_or_repeated 52 p None);
    from = omega arith;
    quiet = λ u low high. absurd (omega arith);
  }

  module _ (run : Run) (b : Branch) (f : Follows net bounds run b) where
    pub of_agrees : (s : Scenario) → AreOf s b.asked → (u : ℕ) → AgreesKnown net run u s
    of_agrees s of u p v k = of p v (f.asked p ∙ (known_from net wf.network run u p v k).1)

    -- a time-point that the branch names has its moment in the table
    pub placed_is : (s : Scenario) → AreOf s b.asked → (x m : ℕ) → b.placed x ≡ Some m → table s x ≡ m
    placed_is s of x m e = executed_is net bounds table wf plan run f.right s x m (of_agrees s of (next run)) (sym (f.placed x) ∙ e)

    -- a scenario with the outcomes that were seen, in which the label holds
    abbrev holding : Label → Scenario
    holding a = λ p. value_or (b.asked p) (a p)

    holding_of : (a : Label) → AreOf (holding a) b.asked
    holding_of a p v e = ap (λ o. value_or o (a p)) e

    holding_holds : (a : Label) → IsPlain a → is_possible b.asked a ≡ true → Holds (holding a) a
    unfolding is_possible
    holding_holds a plain possible p = go (b.asked p) refl
      where
        go : (o : Option Bool) → b.asked p ≡ o → MarkFits (value_or (b.asked p) (a p)) (a p)
        go None e = subst (λ o. MarkFits (value_or o (a p)) (a p)) (sym e) (plain_holds (a p) (plain p))
        go (Some v) e =
            let size = f.right.outcomes in
            let inside = some_within run.outcomes p v (sym (f.asked p) ∙ e) in
            let fit = each_passes (λ q. fits_known (b.asked q) (a q)) 0 52 possible p (omega arith) (omega arith) in
            subst (λ o. MarkFits (value_or o (a p)) (a p)) (sym e) (fits_true v (a p) (subst (λ o. fits_known o (a p) ≡ true) e fit))

    within_true : (most : ℤ) (m n : ℕ) → (pos n -ℤ pos m) ≤ℤ most → is_met_within most (Some m) (Some n) ≡ true
    within_true most m n met = grind (arith, met.le)

    -- each constraint is met as far as its ends are placed
    pub constraints_kept : (c : Constraint) → Contains net.constraints c → is_met_so_far b.placed b.asked c ≡ true
    constraints_kept c has = elim (cases_Bool (is_possible b.asked c.label)) [
      | inl possible ↦ or_right (not (is_possible b.asked c.label)) (is_met_within c.most (b.placed c.from) (b.placed c.to)) (go possible (b.placed c.from) (b.placed c.to) refl refl)
      | inr impossible ↦ or_left (not (is_possible b.asked c.label)) (is_met_within c.most (b.placed c.from) (b.placed c.to)) (ap not impossible)
    ]
      where
        go : is_possible b.asked c.label ≡ true → (m n : Option ℕ) → b.placed c.from ≡ m → b.placed c.to ≡ n → is_met_within c.most (b.placed c.from) (b.placed c.to) ≡ true
        go possible None n from to = ap (λ o. is_met_within c.most o (b.placed c.to)) from
        go possible (Some m) None from to = ap (λ o. is_met_within c.most o (b.placed c.to)) from ∙ ap (is_met_within c.most (Some m)) to
        go possible (Some m) (Some n) from to =
            let plain = (All-contains (IsConstraint net) net.constraints c wf.network.constraints has).plain in
            let of = holding_of c.label in
            let met = plan.strategy.meets (holding c.label) c has (holding_holds c.label plain possible) in
            let one = placed_is (holding c.label) of c.from m from in
            let two = placed_is (holding c.label) of c.to n to in
            ap (λ o. is_met_within c.most o (b.placed c.to)) from ∙ ap (is_met_within c.most (Some m)) to
            ∙ within_true c.most m n (subst (λ k. (pos n -ℤ pos k) ≤ℤ c.most) one (subst (λ k. (pos k -ℤ pos (table (holding c.label) c.from)) ≤ℤ c.most) two met))

    -- the next `at` may have the due moment
    pub due_may_follow : (t : ℕ) → due net bounds run ≡ Some t → b.from ≤ t
    due_may_follow t is = elim (cases_lt t b.from) [
      | inr upto ↦ upto
      | inl before ↦
          let first = (due_first net bounds table wf plan run f.right t is).1 in
          absurd (both_ways (has_work net bounds run t) (f.quiet t first.from before) first.passes)
    ]

    -- ---- below an `at`

    module _ (t : ℕ) (is : due net bounds run ≡ Some t) (accepted : moment_refusal net bounds run t ≡ None) where
      abbrev free : ℕ → Bool
      free = is_free net bounds run t

      abbrev new : List ℕ
      new = called net bounds run t

      quiet_at : IsQuiet net bounds run t
      quiet_at = (accepted_quiet net bounds table wf plan run f.right t (judged net bounds run t None accepted)).0

      nobody : (p : ℕ) → is_awaited net run (t + 1) p ≡ true → ⊥
      nobody = awaits_none net bounds run wf (t + 1) (judged net bounds run t None accepted).none_awaited

      from_at : next run ≤ t
      from_at = (judged net bounds run t None accepted).from

      placed_at : (x : ℕ) → placed_with b.placed t new x ≡ executed_at (run_moved net bounds run t) x
      placed_at x =
          let size = f.right.moments in
          elim (cases_Bool (is_named x new)) [
            | inl there ↦
                let in_range = from_passing free 0 (count net) x (named_has x new there) in
                let inside = in_range.1 in
                cond-true (is_named x new) (Some t) (b.placed x) there
                ∙ sym (executed_passing free t 0 (count net) run.moments x (omega arith) (omega arith) inside in_range.2)
            | inr away ↦ cond-false (is_named x new) (Some t) (b.placed x) away ∙ f.placed x ∙ stays away (cases_lt x (count net))
          ]
        where
          stays : is_named x new ≡ false → (x < count net) ⊎ (count net ≤ x) → executed_at run x ≡ executed_at (run_moved net bounds run t) x
          stays away (inl inside) = elim (cases_Bool (free x)) [
            | inl passes ↦ absurd (both_ways (is_named x new) away (has_named x new (in_passing free 0 (count net) x (omega arith) (omega arith) passes)))
            | inr fails ↦ sym (executed_failing free t 0 (count net) run.moments x fails)
          ]
          stays away (inr past) =
              let size = f.right.moments in
              let after = executed_size t new run.moments in
              get_or_past run.moments x None (omega arith) ∙ sym (get_or_past (executed t new run.moments) x None (omega arith))

      pub follows_at : Follows net bounds (run_moved net bounds run t) (below_at b t new)
      follows_at = record {
        right = moved_right net bounds table wf plan run f.right t from_at quiet_at nobody;
        placed = placed_at;
        asked = f.asked;
        from = omega arith;
        quiet = λ u low high. absurd (omega arith);
      }

      pub free_unplaced : (x : ℕ) → free x ≡ true → b.placed x ≡ None
      free_unplaced x passes = f.placed x ∙ (free_parts net bounds run t x passes).0

      pub named_unplaced : (x : ℕ) → is_named x new ≡ true → b.placed x ≡ None
      named_unplaced x there = free_unplaced x (from_passing free 0 (count net) x (named_has x new there)).2

      in_time : (x : ℕ) → Contains new x → nat_le t (limit net x) ≡ true
      in_time x has =
          let in_range = from_passing free 0 (count net) x has in
          let inside : x < count net = let upto = in_range.1 in omega arith in
          let parts = free_parts net bounds run t x in_range.2 in
          let s = seen_scenario run in
          let here = (at_moment net bounds table wf plan run f.right s t from_at quiet_at nobody (seen_agrees net wf run (t + 1)) x inside parts.0).0 parts.1 in
          let within = plan.strategy.within s x inside in
          le-leb t (limit net x) (omega arith)

      -- at least one time-point is named
      pub some_named : 1 ≤ length new
      some_named =
          let first = (due_first net bounds table wf plan run f.right t is).1 in
          let none = (judged net bounds run t None accepted).none_awaited in
          let work = subst (λ o. (is_some o || list_any free (range_with_len 0 (count net))) ≡ true) none first.passes in
          let x = some_passes free 0 (count net) work in
          let has = in_passing free 0 (count net) x.0 x.1 x.2 x.3 in
          let within = has.1 in
          omega arith

module _ (net : Network) (bounds : List Bound) (table : Table) (wf : IsWellFormed net) (plan : IsEarliest net bounds table)
    (run : Run) (b : Branch) (f : Follows net bounds run b) (t : ℕ) (is : due net bounds run ≡ Some t) where
  -- the `at` of the due moment doesn't break
  pub at_fits : moment_refusal net bounds run t ≡ None → fits_at net b t (called net bounds run t) ≡ true
  at_fits accepted =
      let new = called net bounds run t in
      let below = follows_at net bounds table wf plan run b f t is accepted in
      let kept : list_all (is_met (placed_with b.placed t new) b.asked new) net.constraints ≡ true =
      each_of (is_met (placed_with b.placed t new) b.asked new) net.constraints (λ c has.
      or_right (not (is_named c.from new || is_named c.to new)) (is_met_so_far (placed_with b.placed t new) b.asked c)
      (constraints_kept net bounds table wf plan (run_moved net bounds run t) (below_at b t new) below c has)) in
      and_from (nat_le b.from t) _ (le-leb b.from t (due_may_follow net bounds table wf plan run b f t is))
      (and_from (are_new b.placed new) _
      (passing_new b.placed (is_free net bounds run t) 0 (count net) (free_unplaced net bounds table wf plan run b f t is accepted))
      (and_from (are_in_time net t new) _
      (each_of (λ x. nat_le t (limit net x)) new (in_time net bounds table wf plan run b f t is accepted)) kept))

  -- ---- below an `ask`

  module _ (p : ℕ) (waits : moment_refusal net bounds run t ≡ Some (Awaiting p)) where
    abbrev asked_least : is_awaited net run (t + 1) p ≡ true
    asked_least = (awaited_least net bounds run wf (t + 1) p (judged net bounds run t (Some (Awaiting p)) waits)).0

    pub ready : Ready net wf.network run (t + 1) p
    ready = (awaited_from net wf.network run (t + 1) p asked_least).0

    pub missing : outcome_of run p ≡ None
    missing = (awaited_from net wf.network run (t + 1) p asked_least).1

    pub letter : p < 52
    letter = wf.letters ready.observer p ready.observes

    observed_is : observed_on net b p ≡ Some ready.moment
    observed_is = observed_by net wf.network b ready.observer p ready.observes ∙ f.placed ready.observer ∙ ready.executed

    -- the `ask` of the awaited proposition doesn't break
    pub ask_fits : fits_ask net b p ≡ true
    ask_fits = and_from (is_some (observed_on net b p)) (is_none (b.asked p)) (ap is_some observed_is) (ap is_none (f.asked p ∙ missing))

    -- the outcome of p doesn't change whether there is something to do at a moment before p is known
    abbrev work_by : (ℕ → Option Bool) → (ℕ → Bool) → ℕ → Bool
    work_by values awaits u =
        is_some (find awaits (range_with_len 0 52))
        || list_any (λ x. is_none (executed_at run x) && not (nat_lt u (greatest (λ c. (c.node == x) && is_possible values c.label) bounds))) (range_with_len 0 (count net))

    work_same : (v : Bool) (u : ℕ) → is_outcome_ready net run (u + 1) p ≡ false → has_work net bounds run u ≡ has_work net bounds (handed run p v) u
    unfolding awaited
    work_same v u unready =
        ap (λ values. work_by values (is_awaited net run (u + 1)) u) (fun_ext known_same)
        ∙ ap (λ awaits. work_by (known net (handed run p v) (u + 1)) awaits u) (fun_ext awaited_same)
      where
        known_same : (q : ℕ) → known net run (u + 1) q ≡ known net (handed run p v) (u + 1) q
        known_same q = elim (cases_eq q p) [
          | inl same ↦ subst (λ r. known net run (u + 1) r ≡ known net (handed run p v) (u + 1) r) (sym same)
              (cond-false (is_outcome_ready net run (u + 1) p) (outcome_of run p) None unready
              ∙ sym (cond-false (is_outcome_ready net run (u + 1) p) (outcome_of (handed run p v) p) None unready))
          | inr other ↦ ap (λ o. cond (is_outcome_ready net run (u + 1) q) o None) (sym (get_or-set_other run.outcomes p q (Some v) None other))
        ]

        awaited_same : (q : ℕ) → is_awaited net run (u + 1) q ≡ is_awaited net (handed run p v) (u + 1) q
        awaited_same q = elim (cases_eq q p) [
          | inl same ↦ subst (λ r. is_awaited net run (u + 1) r ≡ is_awaited net (handed run p v) (u + 1) r) (sym same)
              (ap (λ r. r && is_none (outcome_of run p)) unready ∙ sym (ap (λ r. r && is_none (outcome_of (handed run p v) p)) unready))
          | inr other ↦ ap (λ o. is_outcome_ready net run (u + 1) q && is_none o) (sym (get_or-set_other run.outcomes p q (Some v) None other))
        ]

    quiet_ask : (v : Bool) (u : ℕ) → next run ≤ u → u < t → has_work net bounds (handed run p v) u ≡ false
    quiet_ask v u low high =
        let first = (due_first net bounds table wf plan run f.right t is).1 in
        let idle = first.before u low high in
        sym (work_same v u (unready idle (is_outcome_ready net run (u + 1) p) refl)) ∙ idle
      where
        unready : has_work net bounds run u ≡ false → (r : Bool) → is_outcome_ready net run (u + 1) p ≡ r → is_outcome_ready net run (u + 1) p ≡ false
        unready idle false e = e
        unready idle true e =
            absurd ((idle_from net bounds run wf u idle).none_awaited p (and_from (is_outcome_ready net run (u + 1) p) (is_none (outcome_of run p)) e (ap is_none missing)))

    pub follows_ask : (v : Bool) → Follows net bounds (handed run p v) (below_ask net b p v)
    follows_ask v =
        let known : known_at (net.reaction p) (observed_on net b p) ≡ ready.moment + net.reaction p = ap (known_at (net.reaction p)) observed_is in
        let soon = ready.passed in
        let after = due_may_follow net bounds table wf plan run b f t is in
        let from = f.from in
        record {
          right = handed_right net wf run p v f.right missing letter ready.moment
              (observed_where net wf.network run ready.observer p ready.observes ∙ ready.executed);
          placed = f.placed;
          asked = λ q. elim (cases_eq q p) [
            | inl same ↦
                let size = f.right.outcomes in
                let short = letter in
                cond-true (q == p) (Some v) (b.asked q) (eq-eqb q p same)
                ∙ sym (subst (λ r. outcome_of (handed run p v) r ≡ Some v) (sym same) (get_or-set_same run.outcomes p (Some v) None (omega arith)))
            | inr other ↦ cond-false (q == p) (Some v) (b.asked q) (ne_eqb q p other) ∙ f.asked q ∙ sym (get_or-set_other run.outcomes p q (Some v) None other)
          ];
          from = omega arith;
          quiet = λ u low high. quiet_ask v u low (omega arith);
        }
