-- What is known of a tree in which no line breaks.
use Rattle.std.proofs.Common.{ℕ, ◌≡◌, ◌+◌, ◌<◌, ◌≤◌, Bool, true, false, ◌&&◌, ◌||◌, not, length, get_or, inl, inr, Option, Some, None, List, [], ◌∷◌, arith, refl, sym, subst, ap}
use Rattle.std.specs.Prelude.{pos, ◌-ℤ◌, ◌≤ℤ◌, ◌==◌, nat_le, is_none, is_some, if◌then◌else◌}
use Rattle.std.specs.List.{Contains, All, position, list_all}
use Rattle.std.specs.Option.{option_and_then}
use Rattle.std.proofs.lemmas.Bool.{cases_Bool, and_parts, false≢true, eqb-true, both_ways}
use Rattle.std.proofs.lemmas.List.Elements.{All-contains}
use Rattle.std.proofs.lemmas.List.Folds.{list_all_at}
use Rattle.cstn_facts.proofs.Options.{is_none-true, is_some-true}
use Rattle.cstn_facts.proofs.Ranges.{each_passes}
use Rattle.cstn_net.specs.Networks.{Network, IsNetwork, Constraint, Observes, count, limit, is_prop}
use Rattle.cstn_exec.specs.Runs.{is_possible}
use Rattle.cstn_exec.proofs.Knowing.{at_observer}
use Rattle.cstn_outline.specs.Trees.{Tree, is_named, lines_of_tree}
use Rattle.cstn_outline.specs.Trees.Tree.{at, ask, done}
use Rattle.cstn_tree.specs.Good.{Branch, placed_with, below_at, are_new, are_in_time, is_met_within, is_met, fits_at, observed_on, known_from, below_ask, fits_ask, is_complete, or_else, first_broken_from}

-- the branch names p's observer at the moment m
pub record IsPlaced (net : Network) (b : Branch) (p m : ℕ) : Type 0 where
  pub observer : ℕ
  pub observes : Observes net observer p
  pub there : b.placed observer ≡ Some m

pub record FitsAt (net : Network) (b : Branch) (t : ℕ) (xs : List ℕ) : Type 0 where
  pub first : b.from ≤ t
  pub once : (x : ℕ) → is_named x xs ≡ true → b.placed x ≡ None
  pub limits : (x : ℕ) → is_named x xs ≡ true → t ≤ limit net x
  pub meets : (c : Constraint) → Contains net.constraints c → is_possible b.asked c.label ≡ true →
      (is_named c.from xs || is_named c.to xs) ≡ true → (m_f m_t : ℕ) → placed_with b.placed t xs c.from ≡ Some m_f →
      placed_with b.placed t xs c.to ≡ Some m_t → (pos m_t -ℤ pos m_f) ≤ℤ c.most

pub record FitsAsk (net : Network) (b : Branch) (p : ℕ) : Type 0 where
  pub moment : ℕ
  pub placed : IsPlaced net b p moment
  pub later : (v : Bool) → moment + net.reaction p ≤ (below_ask net b p v).from
  pub kept : (v : Bool) → b.from ≤ (below_ask net b p v).from

pub record IsComplete (net : Network) (b : Branch) : Type 0 where
  pub all : (x : ℕ) → x < count net → (m : ℕ) × (b.placed x ≡ Some m)

-- no line breaks below this branch
abbrev pub Stands : Network → Branch → Tree → Type 0
Stands net b (at t xs next) = FitsAt net b t xs × Stands net (below_at b t xs) next
Stands net b (ask p one other) = FitsAsk net b p × (Stands net (below_ask net b p true) one × Stands net (below_ask net b p false) other)
Stands net b done = IsComplete net b

-- ---- what the tests of a line mean

new_is_none : (placed : ℕ → Option ℕ) (xs : List ℕ) → are_new placed xs ≡ true → (x : ℕ) → is_named x xs ≡ true → placed x ≡ None
new_is_none placed [] h x named = absurd (false≢true named)
new_is_none placed (y ∷ ys) h x named =
    let parts = and_parts (is_none (placed y)) (not (is_named y ys) && are_new placed ys) h in
    let rest = and_parts (not (is_named y ys)) (are_new placed ys) parts.1 in
    elim (cases_Bool (x == y)) [
      | inl same ↦ subst (λ z. placed z ≡ None) (sym (eqb-true x y same)) (is_none-true (placed y) parts.0)
      | inr other ↦ new_is_none placed ys rest.1 x (subst (λ b. (b || is_named x ys) ≡ true) other named)
    ]

le_limit : (net : Network) (t : ℕ) (xs : List ℕ) → are_in_time net t xs ≡ true → (x : ℕ) → is_named x xs ≡ true → t ≤ limit net x
le_limit net t [] h x named = absurd (false≢true named)
le_limit net t (y ∷ ys) h x named =
    let parts = and_parts (nat_le t (limit net y)) (are_in_time net t ys) h in
    elim (cases_Bool (x == y)) [
      | inl same ↦ subst (λ z. t ≤ limit net z) (sym (eqb-true x y same)) (grind (arith, parts.0))
      | inr other ↦ le_limit net t ys parts.1 x (subst (λ b. (b || is_named x ys) ≡ true) other named)
    ]

all_at : {X : Type 0} (test : X → Bool) (xs : List X) → list_all test xs ≡ true → All (λ x. test x ≡ true) xs
all_at test xs h = λ k d inside. elim (cases_Bool (test (get_or xs k d))) [
  | inl passes ↦ passes
  | inr fails ↦ absurd (both_ways (list_all test xs) (list_all_at test xs k d inside fails) h)
]

met_within : (placed : ℕ → Option ℕ) (asked : ℕ → Option Bool) (xs : List ℕ) (c : Constraint) (m_f m_t : ℕ) →
    is_met placed asked xs c ≡ true → is_possible asked c.label ≡ true → (is_named c.from xs || is_named c.to xs) ≡ true →
    placed c.from ≡ Some m_f → placed c.to ≡ Some m_t → (pos m_t -ℤ pos m_f) ≤ℤ c.most
met_within placed asked xs c m_f m_t h possible named from to =
    let one = subst (λ b. (not b || (not (is_possible asked c.label) || is_met_within c.most (placed c.from) (placed c.to))) ≡ true) named h in
    let two = subst (λ b. (not b || is_met_within c.most (placed c.from) (placed c.to)) ≡ true) possible one in
    let three = subst (λ o. is_met_within c.most o (placed c.to) ≡ true) from two in
    let four = subst (λ o. is_met_within c.most (Some m_f) o ≡ true) to three in
    record { le = grind (arith, four) }

pub fits_at_from : (net : Network) (b : Branch) (t : ℕ) (xs : List ℕ) → fits_at net b t xs ≡ true → FitsAt net b t xs
fits_at_from net b t xs h =
    let placed = placed_with b.placed t xs in
    let one = and_parts (nat_le b.from t) _ h in
    let two = and_parts (are_new b.placed xs) _ one.1 in
    let three = and_parts (are_in_time net t xs) (list_all (is_met placed b.asked xs) net.constraints) two.1 in
    record {
      first = grind (arith, one.0);
      once = new_is_none b.placed xs two.0;
      limits = le_limit net t xs three.0;
      meets = λ c has possible named m_f m_t from to.
          met_within placed b.asked xs c m_f m_t (All-contains (λ c. is_met placed b.asked xs c ≡ true) net.constraints c (all_at (is_met placed b.asked xs) net.constraints three.1) has)
          possible named from to;
    }

pub placed_from : (net : Network) (wf : IsNetwork net) (b : Branch) (p m : ℕ) → observed_on net b p ≡ Some m → IsPlaced net b p m
placed_from net wf b p m e = go (position (is_prop p) net.observes) refl
  where
    go : (o : Option ℕ) → position (is_prop p) net.observes ≡ o → IsPlaced net b p m
    go None none =
        let at = subst (λ o. option_and_then b.placed o ≡ Some m) none e in
        let f : ⊥ = cc in
        absurd f
    go (Some x) some = record {
      observer = x;
      observes = at_observer net wf x p some;
      there = subst (λ o. option_and_then b.placed o ≡ Some m) some e;
    }

pub fits_ask_from : (net : Network) (wf : IsNetwork net) (b : Branch) (p : ℕ) → fits_ask net b p ≡ true → FitsAsk net b p
fits_ask_from net wf b p h =
    let parts = and_parts (is_some (observed_on net b p)) (is_none (b.asked p)) h in
    let at = is_some-true (observed_on net b p) parts.0 in
    let known : known_from (net.reaction p) (observed_on net b p) ≡ at.0 + net.reaction p = ap (known_from (net.reaction p)) at.1 in
    record {
      moment = at.0;
      placed = placed_from net wf b p at.0 at.1;
      later = λ v. omega arith;
      kept = λ v. omega arith;
    }

pub complete_from : (net : Network) (b : Branch) → is_complete net b ≡ true → IsComplete net b
complete_from net b h = record {
  all = λ x inside. is_some-true (b.placed x) (each_passes (λ x. is_some (b.placed x)) 0 (count net) h x (omega arith) (omega arith));
}

-- where no line is found to break, the test of the line passes, and no line of the rest breaks
here_fits : (test : Bool) (rest : Option ℕ) (line : ℕ) → (if test then rest else Some line) ≡ None → test ≡ true
here_fits true rest line e = refl
here_fits false rest line e = let f : ⊥ = cc in absurd f

rest_fits : (test : Bool) (rest : Option ℕ) (line : ℕ) → (if test then rest else Some line) ≡ None → rest ≡ None
rest_fits true rest line e = e
rest_fits false rest line e = let f : ⊥ = cc in absurd f

neither : (one other : Option ℕ) → or_else one other ≡ None → (one ≡ None) × (other ≡ None)
neither None other e = (refl, e)
neither (Some line) other e = let f : ⊥ = cc in absurd f

pub stands_from : (net : Network) (wf : IsNetwork net) (b : Branch) (tree : Tree) (line : ℕ) → first_broken_from net b tree line ≡ None → Stands net b tree
stands_from net wf b (at t xs next) line e =
    let rest = first_broken_from net (below_at b t xs) next (line + 1) in (
      fits_at_from net b t xs (here_fits (fits_at net b t xs) rest line e),
      stands_from net wf (below_at b t xs) next (line + 1) (rest_fits (fits_at net b t xs) rest line e),
    )
stands_from net wf b (ask p one other) line e =
    let first = first_broken_from net (below_ask net b p true) one (line + 1) in
    let second = first_broken_from net (below_ask net b p false) other (line + 1 + length (lines_of_tree one)) in
    let both = neither first second (rest_fits (fits_ask net b p) (or_else first second) line e) in (
      fits_ask_from net wf b p (here_fits (fits_ask net b p) (or_else first second) line e),
      (
        stands_from net wf (below_ask net b p true) one (line + 1) both.0,
        stands_from net wf (below_ask net b p false) other (line + 1 + length (lines_of_tree one)) both.1,
      ),
    )
stands_from net wf b done line e = complete_from net b (here_fits (is_complete net b) None line e)
