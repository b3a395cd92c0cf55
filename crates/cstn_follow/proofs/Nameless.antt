-- Growth asks for no ids: networks that differ in the ids of their constraints alone have the same load, and are consistent together.
use Rattle.std.proofs.Common.{ℕ, zero, suc, ◌≡◌, Bool, true, false, not, ◌&&◌, ◌||◌, cond, List, [], ◌∷◌, ◌++◌, Option, Some, None, map, length, refl, sym, ap}
use Rattle.std.proofs.Common.{◌∙◌}
use Rattle.std.specs.Prelude.{slice_get}
use Rattle.std.specs.List.{list_any}
use Rattle.std.proofs.lemmas.List.{length-map, map_push}
use Rattle.cstn_net.specs.Networks.{Network, Constraint, count}
use Rattle.cstn_label.specs.Bounds.{Bound}
use Rattle.cstn_rules.specs.declared.entries.Why.TheVariants.{Base}
use Rattle.cstn_rules.specs.Derivations.{Entry}
use Rattle.cstn_log.specs.Entries.{bases}
use Rattle.cstn_rules.specs.Tests.{refutes, chain_of, wait_of}
use Rattle.cstn_label.specs.Tests.{dominates}
use Rattle.cstn_check.specs.Growth.{Instance, is_covered, is_live, is_refuted, premises_live, of_one, of_two, conclusion, with_conclusion, step, tried}
use Rattle.cstn_check.specs.Growth.{chains_at, waits_below, turn, grown, log_of, load_of}
use Rattle.cstn_check.specs.Growth.Instance.{chain_at, wait_at}
use Rattle.cstn_check.specs.Verdicts.{is_consistent}

-- the constraint without its id
abbrev pub nameless : Constraint → Constraint
nameless c = record c { id = 0 }

-- the entries without their rules
abbrev bare : Entry → Entry
bare e = record { bound = e.bound; why = Base }

abbrev bares : List Entry → List Entry
bares list = map bare list

-- ---- what is asked of a list is asked of its bounds

any_bare : (p : Bound → Bool) (L : List Entry) → list_any (λ e. p e.bound) (bares L) ≡ list_any (λ e. p e.bound) L
any_bare p [] = refl
any_bare p (e ∷ es) = ap (λ b. p e.bound || b) (any_bare p es)

covered_bare : (L : List Entry) (r : Bound) → is_covered (bares L) r ≡ is_covered L r
covered_bare L r = any_bare (λ b. dominates b r) L

live_bare : (L : List Entry) (k : ℕ) → is_live (bares L) k ≡ is_live L k
live_bare [] k = refl
live_bare (e ∷ es) zero = ap not (covered_bare es e.bound)
live_bare (e ∷ es) (suc k) = live_bare es k

premises_bare : (L : List Entry) (i : Instance) → premises_live (bares L) i ≡ premises_live L i
premises_bare L (chain_at c j) = live_bare L j
premises_bare L (wait_at i j) = ap (λ b. b && is_live (bares L) j) (live_bare L i) ∙ ap (λ b. is_live L i && b) (live_bare L j)

one_bare : (f : Bound → Option Bound) (L : List Entry) (k : ℕ) → of_one f (slice_get (bares L) k) ≡ of_one f (slice_get L k)
one_bare f [] k = refl
one_bare f (e ∷ es) zero = refl
one_bare f (e ∷ es) (suc k) = one_bare f es k

two_bare : (f : Bound → Bound → Option Bound) (L : List Entry) (k : ℕ) (o p : Option Entry) → ((b : Bound) → of_one (f b) o ≡ of_one (f b) p) →
    of_two f (slice_get (bares L) k) o ≡ of_two f (slice_get L k) p
two_bare f [] k o p same = refl
two_bare f (e ∷ es) zero o p same = same e.bound
two_bare f (e ∷ es) (suc k) o p same = two_bare f es k o p same

conclusion_bare : (net : Network) (L : List Entry) (i : Instance) → conclusion net (bares L) i ≡ conclusion net L i
conclusion_bare net L (chain_at c j) = one_bare (chain_of net c) L j
conclusion_bare net L (wait_at i j) = two_bare (wait_of net) L i (slice_get (bares L) j) (slice_get L j) (λ b. one_bare (wait_of net b) L j)

-- ---- growth of entries without rules

abbrev with_bare : List Entry → Instance → Option Bound → List Entry
with_bare L i None = L
with_bare L i (Some r) = cond (premises_live L i && not (is_covered L r)) (L ++ record { bound = r; why = Base } ∷ []) L

abbrev bare_step : Network → List Entry → Instance → List Entry
bare_step net L i = cond (is_refuted net L) L (with_bare L i (conclusion net L i))

abbrev bare_tried : Network → List Entry → List Instance → List Entry
bare_tried net L [] = L
bare_tried net L (i ∷ is) = bare_tried net (bare_step net L i) is

bares_cond : (b : Bool) (L G : List Entry) → bares (cond b L G) ≡ cond b (bares L) (bares G)
bares_cond true L G = refl
bares_cond false L G = refl

with_is_bare : (L : List Entry) (i : Instance) (o : Option Bound) → bares (with_conclusion L i o) ≡ with_bare (bares L) i o
with_is_bare L i None = refl
with_is_bare L i (Some r) =
    bares_cond (premises_live L i && not (is_covered L r)) _ L
    ∙ ap (λ l. cond (premises_live L i && not (is_covered L r)) l (bares L)) (map_push bare L _)
    ∙ ap (λ b. cond (b && not (is_covered L r)) (bares L ++ record { bound = r; why = Base } ∷ []) (bares L)) (sym (premises_bare L i))
    ∙ ap (λ b. cond (premises_live (bares L) i && not b) (bares L ++ record { bound = r; why = Base } ∷ []) (bares L)) (sym (covered_bare L r))

step_bare : (net : Network) (L : List Entry) (i : Instance) → bares (step net L i) ≡ bare_step net (bares L) i
unfolding step
step_bare net L i =
    bares_cond (is_refuted net L) L (with_conclusion L i (conclusion net L i))
    ∙ ap (λ l. cond (is_refuted net L) (bares L) l) (with_is_bare L i (conclusion net L i))
    ∙ ap (λ o. cond (is_refuted net L) (bares L) (with_bare (bares L) i o)) (sym (conclusion_bare net L i))
    ∙ ap (λ b. cond b (bares L) (with_bare (bares L) i (conclusion net (bares L) i))) (sym (any_bare (refutes net) L))

tried_bare : (net : Network) (is : List Instance) (L : List Entry) → bares (tried net L is) ≡ bare_tried net (bares L) is
tried_bare net [] L = refl
tried_bare net (i ∷ is) L = tried_bare net is (step net L i) ∙ ap (λ l. bare_tried net l is) (step_bare net L i)

bare_append : (net : Network) (xs ys : List Instance) (L : List Entry) → bare_tried net L (xs ++ ys) ≡ bare_tried net (bare_tried net L xs) ys
bare_append net [] ys L = refl
bare_append net (x ∷ xs) ys L = bare_append net xs ys (bare_step net L x)

-- ---- two networks that differ in ids alone

module _ (net : Network) (cs ds : List Constraint) (same : map nameless cs ≡ map nameless ds) where
  abbrev N : Network
  N = record net { constraints = cs }

  abbrev M : Network
  M = record net { constraints = ds }

  -- what an instance gives depends neither on the network's constraints nor on an id
  steps_same : (is : List Instance) (L : List Entry) → bare_tried N L is ≡ bare_tried M L is
  steps_same [] L = refl
  steps_same (chain_at c j ∷ is) L = steps_same is (bare_step N L (chain_at c j))
  steps_same (wait_at i j ∷ is) L = steps_same is (bare_step N L (wait_at i j))

  chains_bare : (es : List Constraint) (j : ℕ) (L : List Entry) → bare_tried M L (chains_at es j) ≡ bare_tried M L (chains_at (map nameless es) j)
  chains_bare [] j L = refl
  chains_bare (c ∷ es) j L = chains_bare es j (bare_step M L (chain_at c j))

  turn_same : (j : ℕ) (L : List Entry) → bare_tried N L (turn N j) ≡ bare_tried M L (turn M j)
  turn_same j L =
      let waits = waits_below (suc j) j in
      steps_same (turn N j) L
      ∙ bare_append M (chains_at cs j) waits L
      ∙ ap (λ l. bare_tried M l waits) (chains_bare cs j L ∙ ap (λ es. bare_tried M L (chains_at es j)) same ∙ sym (chains_bare ds j L))
      ∙ sym (bare_append M (chains_at ds j) waits L)

  grown_same : (L : List Entry) (n : ℕ) → bares (grown N L n) ≡ bares (grown M L n)
  grown_same L zero = refl
  grown_same L (suc n) =
      tried_bare N (turn N n) (grown N L n)
      ∙ ap (λ l. bare_tried N l (turn N n)) (grown_same L n)
      ∙ turn_same n (bares (grown M L n))
      ∙ sym (tried_bare M (turn M n) (grown M L n))

  log_same : bares (log_of N) ≡ bares (log_of M)
  log_same = grown_same (bases (count net)) _

  pub load_nameless : load_of N ≡ load_of M
  load_nameless = sym (length-map (log_of N) bare) ∙ ap length log_same ∙ length-map (log_of M) bare

  pub consistent_nameless : is_consistent N ≡ is_consistent M
  consistent_nameless =
      ap not (sym (any_bare (refutes N) (log_of N)) ∙ ap (λ l. list_any (λ e. refutes N e.bound) l) log_same ∙ any_bare (refutes M) (log_of M))
