-- What is ready, known, awaited and possible in a run.
use Rattle.std.proofs.Common.{ℕ, ◌≡◌, inl, inr, ◌+◌, ◌<◌, ◌≤◌, Bool, true, false, cond, Option, Some, None, arith, refl, sym, subst, ap, ◌∙◌}
use Rattle.std.specs.Prelude.{slice_index_or, length, is_none, nat_lt, if◌then◌else◌}
use Rattle.std.specs.List.{position}
use Rattle.std.specs.Option.{option_and_then, option_map}
use Rattle.std.proofs.lemmas.Bool.{cases_Bool, cond-true, cond-false, and_parts, and_from, lt-ltb, ltb-true, false_from_ne_true, false≢true}
use Rattle.std.proofs.lemmas.List.Quantifiers.{position-Some}
use Rattle.std.proofs.lemmas.List.Sums.{position_or_len_is}
use Rattle.cstn_facts.proofs.Options.{is_none-true}
use Rattle.cstn_facts.proofs.Ranges.{each_passes, all_pass}
use Rattle.cstn_facts.proofs.Places.{some_within}
use Rattle.cstn_label.specs.Labels.{Label, MarkFits}
use Rattle.cstn_net.specs.Networks.{Network, IsNetwork, Observes, is_prop}
use Rattle.cstn_net.proofs.Knowledge.{observer_within}
use Rattle.cstn_exec.specs.Runs.{Run, executed_at, outcome_of, observed_at, is_before, is_outcome_ready, known, is_awaited, fits_known, is_possible}
use Rattle.cstn_label.proofs.MarkLemmas.{fits_true, true_fits}
use Rattle.cstn_net.proofs.Observed.{prop_true, true_prop}

module _ (net : Network) (wf : IsNetwork net) where
  pub observer_at : (x p : ℕ) → Observes net x p → position (is_prop p) net.observes ≡ Some x
  observer_at x p o =
      let inside = observer_within net x p o in
      let at = position_or_len_is (is_prop p) net.observes x None (omega arith)
      (λ k before. false_from_ne_true (is_prop p (slice_index_or net.observes k None)) (λ h.
      let same = wf.one_observer k x p (record { what = prop_true p (slice_index_or net.observes k None) h }) o in
      omega arith)) (λ h. true_prop p (slice_index_or net.observes x None) o.what) in
      subst (λ k. cond (nat_lt k (length net.observes)) (Some k) None ≡ Some x) (sym at)
      (cond-true (nat_lt x (length net.observes)) (Some x) None (lt-ltb x (length net.observes) inside))

  pub at_observer : (x p : ℕ) → position (is_prop p) net.observes ≡ Some x → Observes net x p
  at_observer x p e =
      let here = position-Some (is_prop p) net.observes x None e in
      record { what = prop_true p (slice_index_or net.observes x None) here.1 }

  pub observed_where : (run : Run) (x p : ℕ) → Observes net x p → observed_at net run p ≡ executed_at run x
  observed_where run x p o = ap (λ o. option_and_then (executed_at run) o) (observer_at x p o)

  pub observed_nowhere : (run : Run) (p : ℕ) → ((x : ℕ) → Observes net x p → ⊥) → observed_at net run p ≡ None
  observed_nowhere run p nowhere = go (position (is_prop p) net.observes) refl
    where
      go : (o : Option ℕ) → position (is_prop p) net.observes ≡ o → observed_at net run p ≡ None
      go None e = ap (λ o. option_and_then (executed_at run) o) e
      go (Some x) e = absurd (nowhere x (at_observer x p e))

  -- the observer of p was executed, and its reaction has passed before u
  pub record Ready (run : Run) (u p : ℕ) : Type 0 where
    pub observer : ℕ
    pub moment : ℕ
    pub observes : Observes net observer p
    pub executed : executed_at run observer ≡ Some moment
    pub passed : moment + net.reaction p < u

  pub observed_from : (run : Run) (p m : ℕ) → observed_at net run p ≡ Some m → (x : ℕ) × Observes net x p × (executed_at run x ≡ Some m)
  observed_from run p m e = go (position (is_prop p) net.observes) refl
    where
      go : (o : Option ℕ) → position (is_prop p) net.observes ≡ o → (x : ℕ) × Observes net x p × (executed_at run x ≡ Some m)
      go None none =
          let at = subst (λ o. option_and_then (executed_at run) o ≡ Some m) none e in
          let f : ⊥ = cc in
          absurd f
      go (Some x) some = (x, at_observer x p some, subst (λ o. option_and_then (executed_at run) o ≡ Some m) some e)

  pub ready_from : (run : Run) (u p : ℕ) → is_outcome_ready net run u p ≡ true → Ready run u p
  ready_from run u p h = go (observed_at net run p) refl
    where
      go : (o : Option ℕ) → observed_at net run p ≡ o → Ready run u p
      go None none = absurd (false≢true (subst (λ o. is_before u (option_map (λ m. m + net.reaction p) o) ≡ true) none h))
      go (Some m) some =
          let at = observed_from run p m some in
          record {
            observer = at.0;
            moment = m;
            observes = at.1;
            executed = at.2;
            passed = ltb-true (m + net.reaction p) u (subst (λ o. is_before u (option_map (λ m. m + net.reaction p) o) ≡ true) some h);
          }

  pub ready_to : (run : Run) (u p : ℕ) → Ready run u p → is_outcome_ready net run u p ≡ true
  ready_to run u p r =
      let at : observed_at net run p ≡ Some r.moment = observed_where run r.observer p r.observes ∙ r.executed in
      subst (λ o. is_before u (option_map (λ m. m + net.reaction p) o) ≡ true) (sym at) (lt-ltb (r.moment + net.reaction p) u r.passed)

  pub known_from : (run : Run) (u p : ℕ) (v : Bool) → known net run u p ≡ Some v → Ready run u p × (outcome_of run p ≡ Some v)
  known_from run u p v e = elim (cases_Bool (is_outcome_ready net run u p)) [
    | inl yes_ready ↦ (ready_from run u p yes_ready, sym (cond-true (is_outcome_ready net run u p) (outcome_of run p) None yes_ready) ∙ e)
    | inr no_ready ↦
        let none = cond-false (is_outcome_ready net run u p) (outcome_of run p) None no_ready in
        let f : ⊥ = cc in
        absurd f
  ]

  pub known_to : (run : Run) (u p : ℕ) (v : Bool) → Ready run u p → outcome_of run p ≡ Some v → known net run u p ≡ Some v
  known_to run u p v r e = cond-true (is_outcome_ready net run u p) (outcome_of run p) None (ready_to run u p r) ∙ e

  pub awaited_from : (run : Run) (u p : ℕ) → is_awaited net run u p ≡ true → Ready run u p × (outcome_of run p ≡ None)
  awaited_from run u p h =
      let both = and_parts (is_outcome_ready net run u p) (is_none (outcome_of run p)) h in
      (ready_from run u p both.0, is_none-true (outcome_of run p) both.1)

  pub awaited_to : (run : Run) (u p : ℕ) → Ready run u p → outcome_of run p ≡ None → is_awaited net run u p ≡ true
  awaited_to run u p r e =
      and_from (is_outcome_ready net run u p) (is_none (outcome_of run p)) (ready_to run u p r) (ap is_none e)

  ready_later : (run : Run) (u w p : ℕ) → u ≤ w → Ready run u p → Ready run w p
  ready_later run u w p upto r = record {
    observer = r.observer;
    moment = r.moment;
    observes = r.observes;
    executed = r.executed;
    passed = let soon = r.passed in omega arith;
  }

  pub known_later : (run : Run) (u w p : ℕ) (v : Bool) → u ≤ w → known net run u p ≡ Some v → known net run w p ≡ Some v
  known_later run u w p v upto k =
      let from = known_from run u p v k in
      known_to run w p v (ready_later run u w p upto from.0) from.1

  pub awaited_later : (run : Run) (u w p : ℕ) → u ≤ w → is_awaited net run u p ≡ true → is_awaited net run w p ≡ true
  awaited_later run u w p upto a =
      let from = awaited_from run u p a in
      awaited_to run w p (ready_later run u w p upto from.0) from.1

-- a label is possible exactly where each of its marks fits what is known
pub possible_from : (net : Network) (run : Run) (u : ℕ) (a : Label) → length run.outcomes ≡ 52 → is_possible (known net run u) a ≡ true →
    (p : ℕ) (v : Bool) → known net run u p ≡ Some v → MarkFits v (a p)
unfolding is_possible
possible_from net run u a size h p v k =
    let seen : outcome_of run p ≡ Some v = is_outcome (is_outcome_ready net run u p) (outcome_of run p) k in
    let inside = some_within run.outcomes p v seen in
    let fit = each_passes (λ q. fits_known (known net run u q) (a q)) 0 52 h p (omega arith) (omega arith) in
    fits_true v (a p) (subst (λ o. fits_known o (a p) ≡ true) k fit)
  where
    is_outcome : (b : Bool) (o : Option Bool) → (if b then o else None) ≡ Some v → o ≡ Some v
    is_outcome true o e = e
    is_outcome false o e = let f : ⊥ = cc in absurd f

pub possible_to : (net : Network) (run : Run) (u : ℕ) (a : Label) → ((p : ℕ) (v : Bool) → known net run u p ≡ Some v → MarkFits v (a p)) →
    is_possible (known net run u) a ≡ true
unfolding is_possible
possible_to net run u a h = all_pass (λ q. fits_known (known net run u q) (a q)) 0 52 (λ p from upto. go p (known net run u p) refl)
  where
    go : (p : ℕ) (o : Option Bool) → known net run u p ≡ o → fits_known (known net run u p) (a p) ≡ true
    go p None e = subst (λ o. fits_known o (a p) ≡ true) (sym e) refl
    go p (Some v) e = subst (λ o. fits_known o (a p) ≡ true) (sym e) (true_fits v (a p) (h p v e))
