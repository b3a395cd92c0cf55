-- Labelled networks that are the same but for ids, and for the reactions of what nothing observes, have the same strategies.
use Rattle.std.proofs.Common.{◌≡◌, ℕ, zero, suc, ◌+◌, ◌<◌, ◌≤◌, List, length, map, refl, sym, ap, ◌∙◌, subst, None, Some}
use Rattle.std.specs.Prelude.{slice_index_or, if◌then◌else◌, pos, ◌-ℤ◌, ◌≤ℤ◌, Option}
use Rattle.std.specs.List.{Contains}
use Rattle.cstn_facts.proofs.Members.{contains_map, map_from}
use Rattle.cstn_label.specs.Labels.{Label, Scenario, Holds, joined, empty}
use Rattle.cstn_net.specs.Networks.{Constraint, Observes, count, limit}
use Rattle.cstn_net.specs.Strategies.{Schedule, Table}
use Rattle.cstn_lift.specs.Labelled.{Labelled, label_in, label_of}
use Rattle.cstn_lift.specs.Completion.{is_observed_by, brought_by, joined_upto, rounds, completed, completed_label, full_label}
use Rattle.cstn_lift.specs.Strategies.{IsExecuted, IsInForce, IsKnownExecuted, IsLabelledStrategy, IsLabelledConsistent}
use Rattle.cstn_graphml.specs.DrawnGraph.{DrawnConstraint}
use Rattle.cstn_graphml.specs.Networks.{labelled_of}
use Rattle.cstn_save.specs.ReadBack.{without_its_id, parts, AreSameButIds}

-- n is the same as m for strategies: each of its constraints is one of m, but for the id
record IsLike (m n : Labelled) : Type 0 where
  labels : n.labels ≡ m.labels
  observes : n.base.observes ≡ m.base.observes
  deadline : n.base.deadline ≡ m.base.deadline
  reaction : (x p : ℕ) → Observes m.base x p → n.base.reaction p ≡ m.base.reaction p
  constraints : (c : Constraint) → Contains n.base.constraints c → (d : Constraint) × Contains m.base.constraints d × (without_its_id d ≡ without_its_id c)

module _ (m n : Labelled) (like : IsLike m n) where
  counted : count n.base ≡ count m.base
  counted = ap (λ (os : List (Option ℕ)). length os) like.observes

  label_same : (x : ℕ) → label_of n x ≡ label_of m x
  label_same x = ap (λ (ls : List Label). label_in ls x) like.labels

  brought_same : (x : ℕ) (a : Label) → brought_by n x a ≡ brought_by m x a
  brought_same x a =
      ap (λ (os : List (Option ℕ)). if is_observed_by (slice_index_or os x None) a then label_of n x else empty) like.observes
      ∙ ap (λ (b : Label). if is_observed_by (slice_index_or m.base.observes x None) a then b else empty) (label_same x)

  joined_same : (x : ℕ) (a : Label) → joined_upto n x a ≡ joined_upto m x a
  joined_same zero a = refl
  joined_same (suc x) a =
      ap (λ (b : Label). joined b (brought_by n x a)) (joined_same x a) ∙ ap (λ (b : Label). joined (joined_upto m x a) b) (brought_same x a)

  rounds_same : (k : ℕ) (a : Label) → rounds n k a ≡ rounds m k a
  rounds_same zero a = refl
  rounds_same (suc k) a =
      joined_same (count n.base) (rounds n k a) ∙ ap (λ (j : ℕ). joined_upto m j (rounds n k a)) counted
      ∙ ap (λ (b : Label). joined_upto m (count m.base) b) (rounds_same k a)

  completed_same : (a : Label) → completed n a ≡ completed m a
  completed_same a = rounds_same (count n.base) a ∙ ap (λ (k : ℕ). rounds m k a) counted

  executed_same : (x : ℕ) → completed_label n x ≡ completed_label m x
  executed_same x = completed_same (label_of n x) ∙ ap (λ (b : Label). completed m b) (label_same x)

  full_same : (c : Constraint) → full_label n c ≡ full_label m c
  full_same c =
      completed_same (joined c.label (joined (label_of n c.from) (label_of n c.to)))
      ∙ ap (λ (b : Label). completed m (joined c.label (joined b (label_of n c.to)))) (label_same c.from)
      ∙ ap (λ (b : Label). completed m (joined c.label (joined (label_of m c.from) b))) (label_same c.to)

  executed_back : (s : Scenario) (x : ℕ) → IsExecuted n s x → IsExecuted m s x
  executed_back s x holds = subst (Holds s) (executed_same x) holds

  executed_on : (s : Scenario) (x : ℕ) → IsExecuted m s x → IsExecuted n s x
  executed_on s x holds = subst (Holds s) (sym (executed_same x)) holds

  limit_same : (x : ℕ) → limit m.base x ≡ limit n.base x
  limit_same zero = refl
  limit_same (suc x) = sym like.deadline

  known_on : (s : Scenario) (at : Schedule) (t p : ℕ) → IsKnownExecuted m s at t p → IsKnownExecuted n s at t p
  known_on s at t p known = record {
    observer = known.observer;
    observes = record { what = subst (λ (os : List (Option ℕ)). slice_index_or os known.observer None ≡ Some p) (sym like.observes) known.observes.what };
    executed = executed_on s known.observer known.executed;
    passed = subst (λ (r : ℕ). at known.observer + r ≤ t) (sym (like.reaction known.observer p known.observes)) known.passed;
  }

  -- what is in force in n is in force in m
  force_back : (s : Scenario) (c d : Constraint) → without_its_id d ≡ without_its_id c → IsInForce n s c → IsInForce m s d
  force_back s c d same force =
      subst (Holds s)
      (full_same c ∙ ap (λ (e : DrawnConstraint). completed m (joined e.label (joined (label_of m e.from) (label_of m e.to)))) (sym same)) force

  strategy_on : (table : Table) → IsLabelledStrategy m table → IsLabelledStrategy n table
  strategy_on table strategy = record {
    within = λ s x inside executed.
        subst (λ (l : ℕ). table s x ≤ l) (limit_same x) (strategy.within s x (subst (λ (k : ℕ). x < k) counted inside) (executed_back s x executed));
    dynamic = λ s r x inside executed agrees.
        let has = strategy.dynamic s r x (subst (λ (k : ℕ). x < k) counted inside) (executed_back s x executed) (λ p known. agrees p (known_on s (table s) (table s x) p known)) in
        (executed_on r x has.0, has.1);
    meets = λ s c there force.
        let found = like.constraints c there in
        subst (λ (e : DrawnConstraint). (pos (table s e.to) -ℤ pos (table s e.from)) ≤ℤ e.most) found.2
        (strategy.meets s found.0 found.1 (force_back s c found.0 found.2 force));
  }

-- the constraints of one network are those of the other, but for ids
drawn_there : (one other : List Constraint) → map without_its_id one ≡ map without_its_id other → (c : Constraint) → Contains one c → (d : Constraint) × Contains other d × (without_its_id d ≡ without_its_id c)
drawn_there one other same c there = map_from without_its_id other (without_its_id c) (subst (λ (ds : List DrawnConstraint). Contains ds (without_its_id c)) same (contains_map without_its_id one c there))

module _ (m : Labelled) (names : List (List ℕ)) (same : AreSameButIds (labelled_of (parts m names)).base m.base) where
  abbrev read : Labelled
  read = labelled_of (parts m names)

  read_like : IsLike m read
  read_like = record {
    labels = refl;
    observes = same.observes;
    deadline = same.deadline;
    reaction = same.reaction;
    constraints = drawn_there read.base.constraints m.base.constraints same.constraints;
  }

  like_read : IsLike read m
  like_read = record {
    labels = refl;
    observes = sym same.observes;
    deadline = sym same.deadline;
    reaction = λ x p observed.
        sym (same.reaction x p (record { what = subst (λ (os : List (Option ℕ)). slice_index_or os x None ≡ Some p) same.observes observed.what }));
    constraints = drawn_there m.base.constraints read.base.constraints (sym same.constraints);
  }

  -- a network has a strategy where the one that is read back of its document has one
  pub consistent_back : IsLabelledConsistent (labelled_of (parts m names)) → IsLabelledConsistent m
  consistent_back has = (has.0, strategy_on read m like_read has.0 has.1)

  -- and only there
  pub consistent_on : IsLabelledConsistent m → IsLabelledConsistent (labelled_of (parts m names))
  consistent_on has = (has.0, strategy_on m read read_like has.0 has.1)
