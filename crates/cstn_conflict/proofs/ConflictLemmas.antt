-- The conflict set of a network that isn't consistent.
use Rattle.std.proofs.Common.{ℕ, ◌≡◌, ◌<◌, ◌≤◌, Bool, true, false, inl, inr, Some, None, Vec, Global, List, [], ◌∷◌, length, arith, refl, sym, subst, ap, ◌∙◌}
use Rattle.std.specs.Prelude.{option_map}
use Rattle.std.specs.List.{AllPairs, Contains, filter}
use Rattle.cstn_net.specs.Networks.{Network, Constraint, IsWellFormed}
use Rattle.cstn_net.specs.Read.{NetworkParts, the_network}
use Rattle.cstn_net.specs.Strategies.{IsConsistent}
use Rattle.cstn_net.proofs.Kept.{fewer_constraints}
use Rattle.cstn_rules.specs.Derivations.{Entry, IsRefutation}
use Rattle.cstn_refute.specs.Refutations.{RefutationParts}
use Rattle.cstn_check.specs.Checks.{CheckParts}
use Rattle.cstn_check.specs.Givers.{ids_of, is_of, with_some, with_ids, network_without}
use Rattle.cstn_check.specs.Growth.{load_of, most_entries}
use Rattle.cstn_check.specs.Needs.{said, answer}
use Rattle.cstn_check.specs.Search.{left_over}
use Rattle.cstn_check.specs.Verdicts.{is_consistent, IsRefutationOf}
use Rattle.cstn_check.specs.declared.needs.Finding.{Finding}
use Rattle.cstn_check.specs.declared.needs.Finding.TheVariants.{Full, Yes, No}
use Rattle.cstn_check.proofs.Decides.{decided, load_bounded, not_consistent}
use Rattle.cstn_facts.proofs.Filters.{contains_more, filter_contained}
use Rattle.cstn_check.proofs.Fewer.{some_well_formed}
use Rattle.cstn_check.proofs.Leaving.{left_said, left_same, found_is, found_ids, found_ascends, found_stops, found_needed, found_none}
use Rattle.cstn_check.proofs.Parts.{ids_ascend}
use Rattle.cstn_check.proofs.Standing.{refutation_elsewhere}
use Rattle.cstn_check.proofs.Said.{said_is, said_full}
use Rattle.cstn_conflict.specs.Conflicts.{conflict_set, IsConflictFull}

-- a network with fewer constraints is consistent, too
pub fewer_some : (net : Network) (a b : ℕ → Bool) → ((id : ℕ) → a id ≡ true → b id ≡ true) → IsConsistent (with_some net b) → IsConsistent (with_some net a)
fewer_some net a b among consistent = (
  consistent.0,
  fewer_constraints (with_some net b) consistent.0 (filter (λ c. a c.id) net.constraints)
      (contains_more (λ c. a c.id) (λ c. b c.id) (λ c. among c.id) net.constraints) consistent.1,
)

module _ (cap : ℕ) (net : Network) (ids : List ℕ) (is : conflict_set cap net ≡ Some ids) where
  pub no_with : said cap net ≡ Some false → said cap (with_ids net ids) ≡ Some false
  no_with refused = left_said (said cap) (ids_of net) net (with_ids net ids) refused (found_is (said cap) net ids is)

  module _ (good : IsWellFormed net) where
    good_part : (test : ℕ → Bool) → IsWellFormed (with_some net test)
    good_part test = some_well_formed net (λ c. test c.id) good

    yes_part : (test : ℕ → Bool) → said cap (with_some net test) ≡ Some true → IsConsistent (with_some net test)
    yes_part test e = (decided (with_some net test) (good_part test)).0 (said_is cap (with_some net test) true e).0

    no_part : (test : ℕ → Bool) → said cap (with_some net test) ≡ Some false → IsConsistent (with_some net test) → ⊥
    no_part test e = not_consistent (with_some net test) (good_part test) (said_is cap (with_some net test) false e).0

    pub ascends : AllPairs (λ a b. a < b) ids
    ascends = found_ascends (said cap) net ids is (ids_ascend net good)

    pub inconsistent : (IsConsistent net → ⊥) → IsConsistent (with_ids net ids) → ⊥
    inconsistent = found_stops (said cap) net ids is IsConsistent yes_part no_part (fewer_some net)

    pub needed : (id : ℕ) → Contains ids id → IsConsistent (network_without id (with_ids net ids))
    needed = found_needed (said cap) net ids is IsConsistent yes_part no_part (fewer_some net)

none_pass : (cs : List Constraint) → filter (λ c. is_of [] c.id) cs ≡ []
none_pass [] = refl
none_pass (c ∷ cs) = none_pass cs

empty_consistent : (net : Network) → IsConsistent (with_ids net [])
empty_consistent net = (
  λ s x. 0,
  record {
    within = λ s x here. omega arith;
    dynamic = λ s r x here agrees. refl;
    meets = λ s c has holds. absurd (let none = ap length (none_pass net.constraints) in let inside = has.1 in omega arith);
  },
)

pub some_ids : (net : Network) (ids : List ℕ) → (IsConsistent (with_ids net ids) → ⊥) → 1 ≤ length ids
some_ids net [] never = absurd (never (empty_consistent net))
some_ids net (i ∷ is) never = omega arith

-- the cap makes no difference to what is found
any_cap : (net : Network) (cap : ℕ) (ids : List ℕ) → conflict_set cap net ≡ Some ids → left_over (λ n. Some (is_consistent n)) net ≡ Some (with_ids net ids)
any_cap net cap ids is =
    left_same (said cap) (λ n. Some (is_consistent n)) (λ n v e. ap (λ b. Some b) (said_is cap n v e).0) (ids_of net) net (with_ids net ids)
    (found_is (said cap) net ids is)

pub one_set : (net : Network) (cap other : ℕ) (a b : List ℕ) → conflict_set cap net ≡ Some a → conflict_set other net ≡ Some b → a ≡ b
one_set net cap other a b first second =
    let two : Some (with_ids net a) ≡ Some (with_ids net b) = sym (any_cap net cap a first) ∙ any_cap net other b second in
    let same : with_ids net a ≡ with_ids net b = cc in
    sym (found_ids (said cap) net a first) ∙ ap ids_of same ∙ found_ids (said other) net b second

-- a log that is full
pub full_bounded : (cap : ℕ) (net : Network) → IsWellFormed net → IsConflictFull cap net → cap < most_entries net
full_bounded cap net good (inl above) = let most = load_bounded net good in omega arith
full_bounded cap net good (inr (never, none)) =
    let t = found_none (said cap) net none in
    let above = said_full cap (with_some net t.0) t.1 in
    let most : load_of (with_some net t.0) ≤ most_entries net = load_bounded (with_some net t.0) (some_well_formed net (λ c. t.0 c.id) good) in
    omega arith

-- ---- what the first check finds

module _ (cap : ℕ) (net : Network) (good : IsWellFormed net) (f : Finding) (told : answer f ≡ said cap net) where
  pub told_yes : (load : ℕ) → f ≡ Yes load → (load_of net ≤ cap) × IsConsistent net
  told_yes load is =
      let s = said_is cap net true (sym told ∙ ap answer is) in
      (s.1, (decided net good).0 s.0)

  pub told_full : f ≡ Full → cap < load_of net
  told_full is = said_full cap net (sym told ∙ ap answer is)

  pub told_no : (needed : Vec ℕ Global) → f ≡ No needed → said cap net ≡ Some false
  told_no needed is = sym told ∙ ap answer is

pub no_tells : (cap : ℕ) (net : Network) → IsWellFormed net → said cap net ≡ Some false → (load_of net ≤ cap) × (IsConsistent net → ⊥)
no_tells cap net good told =
    let s = said_is cap net false told in
    (s.1, not_consistent net good s.0)

-- ---- what is left, with its refutation

pub found_conflict : (cap : ℕ) (net left : Network) (ids : List ℕ) (r : RefutationParts) → left_over (said cap) net ≡ Some left → ids ≡ ids_of left → IsRefutationOf left r →
    (conflict_set cap net ≡ Some ids) × IsRefutationOf (with_ids net ids) r
found_conflict cap net left ids r is are of =
    let set : conflict_set cap net ≡ Some ids = ap (option_map ids_of) is ∙ ap (λ l. Some l) (sym are) in
    let two : Some left ≡ Some (with_ids net ids) = sym is ∙ found_is (said cap) net ids set in
    let same : left ≡ with_ids net ids = cc in
    (set, subst (λ n. IsRefutationOf n r) same of)

-- further constraints may be put in
pub stands_within : (net : Network) (set : List ℕ) (steps : List Entry) → IsRefutation (with_ids net set) steps → IsRefutation net steps
stands_within net set steps =
    refutation_elsewhere (with_ids net set) net.constraints steps (λ d b k i inside there. filter_contained (λ (e : Constraint). is_of set e.id) net.constraints d inside)

-- what a check that was just started says then
pub started_no : (cap : ℕ) (net : NetworkParts) (check : CheckParts) → check ≡ record { net = net; cap = cap; verdict = None; tries = 0 } → IsWellFormed (the_network net) →
    said cap (the_network net) ≡ Some false → (load_of (the_network check.net) ≤ check.cap) × (IsConsistent (the_network check.net) → ⊥)
started_no cap net check is good told =
    subst (λ (k : CheckParts). (load_of (the_network k.net) ≤ k.cap) × (IsConsistent (the_network k.net) → ⊥)) (sym is) (no_tells cap (the_network net) good told)
