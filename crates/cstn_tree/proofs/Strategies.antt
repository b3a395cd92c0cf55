-- A good tree stands for a strategy.
use Rattle.std.proofs.Common.{ℕ, ◌≡◌, ◌⊎◌, inl, inr, ◌<◌, ◌≤◌, ◌||◌, Bool, true, false, cond, Option, Some, None, List, arith, refl, sym, subst, ◌∙◌, ap}
use Rattle.std.specs.Prelude.{pos, ◌-ℤ◌, ◌≤ℤ◌, ◌==◌}
use Rattle.std.specs.List.{Contains}
use Rattle.std.proofs.lemmas.Int.{ints}
use Rattle.std.proofs.lemmas.List.Elements.{All-contains}
use Rattle.std.proofs.lemmas.Bool.{cases_Bool, cond-true, cond-false, eqb-true, or_left, or_right}
use Rattle.cstn_facts.proofs.Options.{cases_option, some_or_none}
use Rattle.cstn_facts.proofs.Ranges.{all_pass}
use Rattle.cstn_label.specs.Labels.{Label, Scenario, Holds, MarkFits}
use Rattle.cstn_net.specs.Networks.{Network, IsNetwork, IsConstraint, Constraint, count, limit}
use Rattle.cstn_net.specs.Strategies.{IsStrategy}
use Rattle.cstn_exec.specs.Runs.{fits_known, is_possible}
use Rattle.cstn_outline.specs.Trees.{Tree, is_named, walk, moment_or_zero, table_of}
use Rattle.cstn_outline.specs.Trees.Tree.{at, ask, done}
use Rattle.cstn_tree.specs.Good.{Branch, branch_begun, placed_with, below_at, below_ask, IsUnbroken}
use Rattle.cstn_tree.proofs.Standing.{Stands, stands_from}
use Rattle.cstn_outline.proofs.WalkLemmas.{named_walk, unnamed_walk, true_walk, false_walk}
use Rattle.cstn_tree.proofs.Ways.{full, some_same, placed_full, full_at, full_true, full_false, walk_alike}
use Rattle.cstn_label.proofs.MarkLemmas.{true_fits}

-- the outcomes that were asked are those of the scenario
abbrev pub AreOf : Scenario → (ℕ → Option Bool) → Type 0
AreOf s asked = (p : ℕ) (v : Bool) → asked p ≡ Some v → s p ≡ v

holds_possible : (s : Scenario) (asked : ℕ → Option Bool) (a : Label) → AreOf s asked → Holds s a → is_possible asked a ≡ true
unfolding is_possible
holds_possible s asked a of h = all_pass (λ p. fits_known (asked p) (a p)) 0 52 (λ p from upto. go p (asked p) refl)
  where
    go : (p : ℕ) (o : Option Bool) → asked p ≡ o → fits_known (asked p) (a p) ≡ true
    go p None e = subst (λ o. fits_known o (a p) ≡ true) (sym e) refl
    go p (Some v) e =
        subst (λ o. fits_known o (a p) ≡ true) (sym e) (true_fits v (a p) (subst (λ w. MarkFits w (a p)) (of p v e) (h p)))

pub asked_of : (s : Scenario) (asked : ℕ → Option Bool) (p : ℕ) (v : Bool) → s p ≡ v → AreOf s asked → AreOf s (λ q. cond (q == p) (Some v) (asked q))
asked_of s asked p v here of q w e = elim (cases_Bool (q == p)) [
  | inl same ↦
      let there : Some v ≡ Some w = sym (cond-true (q == p) (Some v) (asked q) same) ∙ e in
      let value : v ≡ w = cc in
      ap s (eqb-true q p same) ∙ here ∙ value
  | inr other ↦ of q w (sym (cond-false (q == p) (Some v) (asked q) other) ∙ e)
]

-- each time-point is named on the branch of each scenario
all_placed : (net : Network) (b : Branch) (tree : Tree) (s : Scenario) → Stands net b tree → (x : ℕ) → x < count net →
    (m : ℕ) × (full b tree s x ≡ Some m)
all_placed net b (at u xs next) s good x inside =
    let below = all_placed net (below_at b u xs) next s good.1 x inside in
    (below.0, sym (full_at b u xs next s x good.0.once) ∙ below.1)
all_placed net b (ask p one other) s good x inside = elim (cases_Bool (s p)) [
  | inl here ↦
      let below = all_placed net (below_ask net b p true) one s good.1.0 x inside in
      (below.0, sym (full_true net b p one other s x here) ∙ below.1)
  | inr there ↦
      let below = all_placed net (below_ask net b p false) other s good.1.1 x inside in
      (below.0, sym (full_false net b p one other s x there) ∙ below.1)
]
all_placed net b done s good x inside =
    let at = good.all x inside in
    (at.0, placed_full b done s x at.0 at.1)

walk_within : (net : Network) (b : Branch) (tree : Tree) (s : Scenario) (x t : ℕ) → Stands net b tree →
    walk tree s x ≡ Some t → t ≤ limit net x
walk_within net b (at u xs next) s x t good e = elim (cases_Bool (is_named x xs)) [
  | inl named ↦
      subst (λ m. m ≤ limit net x) (some_same u t (sym (named_walk xs u next s x named) ∙ e)) (good.0.limits x named)
  | inr unnamed ↦ walk_within net (below_at b u xs) next s x t good.1 (sym (unnamed_walk xs u next s x unnamed) ∙ e)
]
walk_within net b (ask p one other) s x t good e = elim (cases_Bool (s p)) [
  | inl here ↦ walk_within net (below_ask net b p true) one s x t good.1.0 (sym (true_walk p one other s x here) ∙ e)
  | inr there ↦ walk_within net (below_ask net b p false) other s x t good.1.1 (sym (false_walk p one other s x there) ∙ e)
]
walk_within net b done s x t good e = let f : ⊥ = cc in absurd f

-- a time-point that is placed below an `at` and not above it is named on it
newly : (b : Branch) (u : ℕ) (xs : List ℕ) (x m : ℕ) → b.placed x ≡ None → placed_with b.placed u xs x ≡ Some m → is_named x xs ≡ true
newly b u xs x m none e = elim (cases_Bool (is_named x xs)) [
  | inl named ↦ named
  | inr unnamed ↦ absurd (some_or_none (b.placed x) m (sym (cond-false (is_named x xs) (Some u) (b.placed x) unnamed) ∙ e) none)
]

walk_meets : (net : Network) (b : Branch) (tree : Tree) (s : Scenario) (c : Constraint) (m_f m_t : ℕ) → Stands net b tree →
    AreOf s b.asked → Contains net.constraints c → c.from < count net → c.to < count net → Holds s c.label →
    full b tree s c.from ≡ Some m_f → full b tree s c.to ≡ Some m_t → ((b.placed c.from ≡ None) ⊎ (b.placed c.to ≡ None)) →
    (pos m_t -ℤ pos m_f) ≤ℤ c.most
walk_meets net b (at u xs next) s c m_f m_t good of has f_in t_in h e_f e_t new =
    let below_f : full (below_at b u xs) next s c.from ≡ Some m_f = full_at b u xs next s c.from good.0.once ∙ e_f in
    let below_t : full (below_at b u xs) next s c.to ≡ Some m_t = full_at b u xs next s c.to good.0.once ∙ e_t in
    elim (cases_option (placed_with b.placed u xs c.from)) [
      | inl none ↦ walk_meets net (below_at b u xs) next s c m_f m_t good.1 of has f_in t_in h below_f below_t (inl none)
      | inr from ↦ elim (cases_option (placed_with b.placed u xs c.to)) [
        | inl none ↦ walk_meets net (below_at b u xs) next s c m_f m_t good.1 of has f_in t_in h below_f below_t (inr none)
        | inr to ↦
            let same_f = some_same from.0 m_f (sym (placed_full (below_at b u xs) next s c.from from.0 from.1) ∙ below_f) in
            let same_t = some_same to.0 m_t (sym (placed_full (below_at b u xs) next s c.to to.0 to.1) ∙ below_t) in
            let named : (is_named c.from xs || is_named c.to xs) ≡ true = elim new [
              | inl n ↦ or_left (is_named c.from xs) (is_named c.to xs) (newly b u xs c.from from.0 n from.1)
              | inr n ↦ or_right (is_named c.from xs) (is_named c.to xs) (newly b u xs c.to to.0 n to.1)
            ] in
            let met = good.0.meets c has (holds_possible s b.asked c.label of h) named from.0 to.0 from.1 to.1 in
            omega (arith, ints)
      ]
    ]
walk_meets net b (ask p one other) s c m_f m_t good of has f_in t_in h e_f e_t new = elim (cases_Bool (s p)) [
  | inl here ↦ walk_meets net (below_ask net b p true) one s c m_f m_t good.1.0 (asked_of s b.asked p true here of) has f_in t_in h
      (full_true net b p one other s c.from here ∙ e_f) (full_true net b p one other s c.to here ∙ e_t) new
  | inr there ↦ walk_meets net (below_ask net b p false) other s c m_f m_t good.1.1 (asked_of s b.asked p false there of) has f_in t_in h
      (full_false net b p one other s c.from there ∙ e_f) (full_false net b p one other s c.to there ∙ e_t) new
]
walk_meets net b done s c m_f m_t good of has f_in t_in h e_f e_t new = elim new [
  | inl n ↦ let there = good.all c.from f_in in absurd (some_or_none (b.placed c.from) there.0 there.1 n)
  | inr n ↦ let there = good.all c.to t_in in absurd (some_or_none (b.placed c.to) there.0 there.1 n)
]

module _ (net : Network) (tree : Tree) (wf : IsNetwork net) (good : Stands net branch_begun tree) where
  pub stands_at : (s : Scenario) (x : ℕ) → x < count net → walk tree s x ≡ Some (table_of tree s x)
  stands_at s x inside =
      let there = all_placed net branch_begun tree s good x inside in
      there.1 ∙ ap (λ m. Some m) (sym (ap moment_or_zero there.1))

  tree_strategy : IsStrategy net (table_of tree)
  tree_strategy = record {
    within = λ s x inside. walk_within net branch_begun tree s x (table_of tree s x) good (stands_at s x inside);
    dynamic = λ s r x inside agrees.
        ap moment_or_zero (walk_alike net branch_begun tree s r x (table_of tree s x) good (stands_at s x inside) (λ p k.
        let at : table_of tree s k.observer ≡ k.moment = ap moment_or_zero k.there in
        let soon = k.passed in
        agrees p (record { observer = k.observer; observes = k.observes; passed = omega arith })));
    meets = λ s c has h.
        let ends = All-contains (IsConstraint net) net.constraints c wf.constraints has in
        walk_meets net branch_begun tree s c (table_of tree s c.from) (table_of tree s c.to) good (λ p v e. let f : ⊥ = cc in absurd f) has ends.from ends.to h
        (stands_at s c.from ends.from) (stands_at s c.to ends.to) (inl refl);
  }

pub good_is_strategy : (net : Network) (tree : Tree) → IsNetwork net → IsUnbroken net tree → IsStrategy net (table_of tree)
good_is_strategy net tree wf good = tree_strategy net tree wf (stands_from net wf branch_begun tree 2 good)
