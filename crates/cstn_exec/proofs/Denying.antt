-- Runs in which the outcome false is kept of what some time-points observe, and the marks of time-points that are left out.
use Rattle.std.proofs.Common.{ℕ, suc, ◌≡◌, inl, inr, ◌<◌, Bool, true, false, List, [], ◌∷◌, ◌++◌, Option, Some, None, length, take, arith, refl, sym, subst, ap, ◌∙◌, get_or-set_other, get_or-set_same}
use Rattle.std.specs.Prelude.{slice_index_or, slice_set}
use Rattle.std.specs.List.{Contains, filter}
use Rattle.std.proofs.lemmas.Bool.{cases_eq}
use Rattle.std.proofs.lemmas.List.{length-set, length-take, get_or-take}
use Rattle.std.proofs.lemmas.List.Elements.{All-filter, All-contains}
use Rattle.std.proofs.lemmas.List.Kept.{AllPairs-filter}
use Rattle.cstn_facts.proofs.Options.{some_or_none}
use Rattle.cstn_facts.proofs.Members.{contains_head, contains_tail, contains_cases}
use Rattle.cstn_facts.proofs.Filters.{filter_contained}
use Rattle.cstn_facts.proofs.Places.{some_within}
use Rattle.cstn_net.specs.Networks.{Network, IsWellFormed, Observes, count}
use Rattle.cstn_exec.specs.Runs.{Run, executed_at, outcome_of, observed_at, known}
use Rattle.cstn_exec.specs.Moves.{outcome_refusal, unless_unseen, unless_known}
use Rattle.cstn_exec.specs.Right.{IsRightRun}
use Rattle.cstn_exec.proofs.Knowing.{known_from, known_to, observed_where}
use Rattle.cstn_exec.proofs.Moving.{handed_right}
use Rattle.cstn_exec.specs.Guides.{denied, all_denied, with_left}
use Rattle.cstn_exec.specs.GuideRead.{AreWithoutOutcomes}

-- ---- elements of lists

taken_before : (xs : List ℕ) (k y : ℕ) → Contains (take k xs) y → (j : ℕ) × (j < k) × (slice_index_or xs j y ≡ y)
taken_before xs k y c =
    let size = length-take k xs in
    let inside = c.1 in
    (c.0, omega arith, sym (get_or-take k xs c.0 y (omega arith)) ∙ c.2)

-- ---- what keeping the outcome false leaves unchanged

denied_moments : (o : Option ℕ) (run : Run) → (denied o run).moments ≡ run.moments
denied_moments None run = refl
denied_moments (Some p) run = refl

denied_now : (o : Option ℕ) (run : Run) → (denied o run).now ≡ run.now
denied_now None run = refl
denied_now (Some p) run = refl

denied_size : (o : Option ℕ) (run : Run) → length (denied o run).outcomes ≡ length run.outcomes
denied_size None run = refl
denied_size (Some p) run = length-set run.outcomes p (Some false)

denied_other : (o : Option ℕ) (run : Run) (q : ℕ) → (o ≡ Some q → ⊥) → outcome_of (denied o run) q ≡ outcome_of run q
denied_other None run q other = refl
denied_other (Some p) run q other = get_or-set_other run.outcomes p q (Some false) None (λ same. other (ap (λ r. Some r) (sym same)))

denied_here : (o : Option ℕ) (run : Run) (q : ℕ) → o ≡ Some q → q < length run.outcomes → outcome_of (denied o run) q ≡ Some false
denied_here o run q e inside = subst (λ r. outcome_of (denied r run) q ≡ Some false) (sym e) (get_or-set_same run.outcomes q (Some false) None inside)

denied_kept : (o : Option ℕ) (run : Run) (q : ℕ) → outcome_of run q ≡ Some false → outcome_of (denied o run) q ≡ Some false
denied_kept None run q e = e
denied_kept (Some p) run q e = elim (cases_eq q p) [
  | inl same ↦ denied_here (Some p) run q (ap (λ r. Some r) (sym same)) (some_within run.outcomes q false e)
  | inr other ↦ denied_other (Some p) run q (λ h. let same : p ≡ q = cc in other (sym same)) ∙ e
]

module _ (net : Network) where
  pub all_moments : (xs : List ℕ) (run : Run) → (all_denied net xs run).moments ≡ run.moments
  all_moments [] run = refl
  all_moments (x ∷ xs) run =
      all_moments xs (denied (slice_index_or net.observes x None) run) ∙ denied_moments (slice_index_or net.observes x None) run

  pub all_now : (xs : List ℕ) (run : Run) → (all_denied net xs run).now ≡ run.now
  all_now [] run = refl
  all_now (x ∷ xs) run = all_now xs (denied (slice_index_or net.observes x None) run) ∙ denied_now (slice_index_or net.observes x None) run

  pub all_executed : (xs : List ℕ) (run : Run) (x : ℕ) → executed_at (all_denied net xs run) x ≡ executed_at run x
  all_executed xs run x = ap (λ (ms : List (Option ℕ)). slice_index_or ms x None) (all_moments xs run)

  pub outcome_elsewhere : (xs : List ℕ) (run : Run) (q : ℕ) → ((y : ℕ) → Contains xs y → Observes net y q → ⊥) →
      outcome_of (all_denied net xs run) q ≡ outcome_of run q
  outcome_elsewhere [] run q nowhere = refl
  outcome_elsewhere (x ∷ xs) run q nowhere =
      let o = slice_index_or net.observes x None in
      outcome_elsewhere xs (denied o run) q (λ y c. nowhere y (contains_tail x y xs c))
      ∙ denied_other o run q (λ e. nowhere x (contains_head x xs) (record { what = e }))

  pub outcome_kept : (xs : List ℕ) (run : Run) (q : ℕ) → outcome_of run q ≡ Some false → outcome_of (all_denied net xs run) q ≡ Some false
  outcome_kept [] run q e = e
  outcome_kept (x ∷ xs) run q e =
      let o = slice_index_or net.observes x None in
      outcome_kept xs (denied o run) q (denied_kept o run q e)

  pub outcome_there : (xs : List ℕ) (run : Run) (y q : ℕ) → Contains xs y → Observes net y q → q < length run.outcomes →
      outcome_of (all_denied net xs run) q ≡ Some false
  outcome_there [] run y q c o inside = let h = c.1 in absurd (omega arith)
  outcome_there (x ∷ xs) run y q c o inside =
      let w = slice_index_or net.observes x None in
      elim (contains_cases x y xs c) [
        | inl same ↦ outcome_kept xs (denied w run) q
            (denied_here w run q (subst (λ z. slice_index_or net.observes z None ≡ Some q) (sym same) o.what) inside)
        | inr there ↦ let size = denied_size w run in outcome_there xs (denied w run) y q there o (omega arith)
      ]

  pub all_push : (xs : List ℕ) (x : ℕ) (run : Run) →
      all_denied net (xs ++ x ∷ []) run ≡ denied (slice_index_or net.observes x None) (all_denied net xs run)
  all_push [] x run = refl
  all_push (y ∷ ys) x run = all_push ys x (denied (slice_index_or net.observes y None) run)

-- ---- fresh time-points

module _ (net : Network) (wf : IsWellFormed net) where
  pub fresh_filter : (test : ℕ → Bool) (run : Run) (xs : List ℕ) → AreWithoutOutcomes net run xs → AreWithoutOutcomes net run (filter test xs)
  fresh_filter test run xs f = record {
    ascending = AllPairs-filter (λ x y. x < y) test xs f.ascending;
    inside = All-filter test (λ x. x < count net) xs f.inside;
    placed = All-filter test (λ x. (t : ℕ) × (executed_at run x ≡ Some t)) xs f.placed;
    unseen = λ x p c. f.unseen x p (filter_contained test xs x c);
  }

  fresh_next : (run : Run) (x : ℕ) (xs : List ℕ) → AreWithoutOutcomes net run (x ∷ xs) → AreWithoutOutcomes net (denied (slice_index_or net.observes x None) run) xs
  fresh_next run x xs f =
      let o = slice_index_or net.observes x None in
      record {
        ascending = λ i j d before inside. f.ascending (suc i) (suc j) d (omega arith) (omega arith);
        inside = λ k d inside. f.inside (suc k) d (omega arith);
        placed = λ k d inside.
            let e = f.placed (suc k) d (omega arith) in
            (e.0, ap (λ (ms : List (Option ℕ)). slice_index_or ms (slice_index_or xs k d) None) (denied_moments o run) ∙ e.1);
        unseen = λ y q c sees.
            let inside = c.1 in
            let below = f.ascending 0 (suc c.0) y (omega arith) (omega arith) in
            let at = c.2 in
            denied_other o run q (λ e. let same = wf.network.one_observer x y q (record { what = e }) sees in omega arith)
            ∙ f.unseen y q (contains_tail x y xs c) sees;
      }

  denied_right : (run : Run) (x : ℕ) (o : Option ℕ) → slice_index_or net.observes x None ≡ o → IsRightRun net run → (t : ℕ) → executed_at run x ≡ Some t →
      ((p : ℕ) → Observes net x p → outcome_of run p ≡ None) → IsRightRun net (denied o run)
  denied_right run x None e right t done unseen = right
  denied_right run x (Some p) e right t done unseen =
      let sees : Observes net x p = record { what = e } in
      handed_right net wf run p false right (unseen p sees) (wf.letters x p sees) t (observed_where net wf.network run x p sees ∙ done)

  pub all_right : (xs : List ℕ) (run : Run) → IsRightRun net run → AreWithoutOutcomes net run xs → IsRightRun net (all_denied net xs run)
  all_right [] run right f = right
  all_right (x ∷ xs) run right f =
      let o = slice_index_or net.observes x None in
      let done = f.placed 0 x (omega arith) in
      all_right xs (denied o run) (denied_right run x o refl right done.0 done.1 (λ p. f.unseen x p (contains_head x xs))) (fresh_next run x xs f)

  -- what is known stays known
  pub known_on : (xs : List ℕ) (run : Run) → AreWithoutOutcomes net run xs → (u p : ℕ) (v : Bool) → known net run u p ≡ Some v →
      known net (all_denied net xs run) u p ≡ Some v
  known_on xs run f u p v k =
      let from = known_from net wf.network run u p v k in
      let r = from.0 in
      known_to net wf.network (all_denied net xs run) u p v (record {
        observer = r.observer;
        moment = r.moment;
        observes = r.observes;
        executed = all_executed net xs run r.observer ∙ r.executed;
        passed = r.passed;
      }) (outcome_elsewhere net xs run p (λ y c sees. some_or_none (outcome_of run p) v from.1 (f.unseen y p c sees)) ∙ from.1)

  -- the outcome of the proposition that the next time-point of the list observes isn't refused
  pub next_open : (test : ℕ → Bool) (run : Run) (xs : List ℕ) (k : ℕ) (x : ℕ) → AreWithoutOutcomes net run xs → k < length xs → slice_index_or xs k x ≡ x →
      (p : ℕ) → Observes net x p → outcome_refusal net (all_denied net (filter test (take k xs)) run) p ≡ None
  next_open test run xs k x f inside at p sees =
      let ys = filter test (take k xs) in
      let after = all_denied net ys run in
      let done = All-contains (λ y. (t : ℕ) × (executed_at run y ≡ Some t)) xs x f.placed (k, inside, at) in
      let there : observed_at net after p ≡ Some done.0 = observed_where net wf.network after x p sees ∙ all_executed net ys run x ∙ done.1 in
      let missing : outcome_of after p ≡ None = outcome_elsewhere net ys run p (λ y c other.
      let before = taken_before xs k y (filter_contained test (take k xs) y c) in
      let same = wf.network.one_observer y x p other sees in
      let soon = before.1 in
      let rises = f.ascending before.0 k x (omega arith) inside in
      let at_y = subst (λ z. slice_index_or xs before.0 z ≡ z) same before.2 in
      omega arith) ∙ f.unseen x p (k, inside, at) sees in
      ap (λ o. unless_unseen p o (unless_known p (outcome_of after p))) there ∙ ap (unless_known p) missing

-- ---- the marks of the time-points that are left out

pub left_size : (xs : List ℕ) (left : List Bool) → length (with_left xs left) ≡ length left
left_size [] left = refl
left_size (x ∷ xs) left = left_size xs (slice_set left x true) ∙ length-set left x true

pub left_push : (xs : List ℕ) (x : ℕ) (left : List Bool) → with_left (xs ++ x ∷ []) left ≡ slice_set (with_left xs left) x true
left_push [] x left = refl
left_push (y ∷ ys) x left = left_push ys x (slice_set left y true)

left_stays : (left : List Bool) (y x : ℕ) → x < length left → slice_index_or left x false ≡ true → slice_index_or (slice_set left y true) x false ≡ true
left_stays left y x inside e = elim (cases_eq x y) [
  | inl same ↦ subst (λ z. slice_index_or (slice_set left z true) x false ≡ true) same (get_or-set_same left x true false inside)
  | inr other ↦ get_or-set_other left y x true false other ∙ e
]

pub left_kept : (xs : List ℕ) (left : List Bool) (x : ℕ) → x < length left → slice_index_or left x false ≡ true →
    slice_index_or (with_left xs left) x false ≡ true
left_kept [] left x inside e = e
left_kept (y ∷ ys) left x inside e =
    let size = length-set left y true in
    left_kept ys (slice_set left y true) x (omega arith) (left_stays left y x inside e)

pub left_in : (xs : List ℕ) (left : List Bool) (x : ℕ) → Contains xs x → x < length left → slice_index_or (with_left xs left) x false ≡ true
left_in [] left x c inside = let h = c.1 in absurd (omega arith)
left_in (y ∷ ys) left x c inside =
    let size = length-set left y true in
    elim (contains_cases y x ys c) [
      | inl same ↦ left_kept ys (slice_set left y true) x (omega arith)
          (subst (λ z. slice_index_or (slice_set left z true) x false ≡ true) (sym same) (get_or-set_same left x true false inside))
      | inr there ↦ left_in ys (slice_set left y true) x there (omega arith)
    ]

pub left_not : (xs : List ℕ) (left : List Bool) (x : ℕ) → (Contains xs x → ⊥) → slice_index_or (with_left xs left) x false ≡ slice_index_or left x false
left_not [] left x nowhere = refl
left_not (y ∷ ys) left x nowhere =
    left_not ys (slice_set left y true) x (λ c. nowhere (contains_tail y x ys c))
    ∙ get_or-set_other left y x true false (λ same. nowhere (0, omega arith, sym same))
