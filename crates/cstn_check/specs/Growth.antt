-- How a list of bounds is grown.
use Rattle.std.specs.Prelude.{ℕ, zero, suc, Bool, false, not, cond, ◌&&◌, List, [], ◌∷◌, ◌++◌, ◌+◌, ◌*◌, ◌^◌, Option, Some, None, slice_get, map, length}
use Rattle.std.specs.List.{list_any}
use Rattle.cstn_net.specs.Networks.{Network, Constraint, count}
use Rattle.cstn_label.specs.Bounds.{Bound}
use Rattle.cstn_rules.specs.Derivations.{Entry}
use Rattle.cstn_rules.specs.declared.entries.Why.{Why}
use Rattle.cstn_rules.specs.declared.entries.Why.TheVariants.{Chain, Wait}
use Rattle.cstn_log.specs.Entries.{bases}
use Rattle.cstn_rules.specs.Tests.{refutes, chain_of, wait_of}
use Rattle.cstn_label.specs.Tests.{dominates}

-- a rule with its constraint and the places of its premises
pub data Instance : Type 0 where
  chain_at : Constraint → ℕ → Instance
  wait_at : ℕ → ℕ → Instance

-- the rule and its premises as an entry keeps them
abbrev pub why_of : Instance → Why
why_of (chain_at c j) = Chain c.id j
why_of (wait_at i j) = Wait i j

-- some entry dominates the bound
abbrev pub is_covered : List Entry → Bound → Bool
is_covered list r = list_any (λ e. dominates e.bound r) list

-- an entry is live while no later one dominates it
abbrev pub is_live : List Entry → ℕ → Bool
is_live [] k = false
is_live (e ∷ es) zero = not (is_covered es e.bound)
is_live (e ∷ es) (suc k) = is_live es k

-- some entry refutes the network
abbrev pub is_refuted : Network → List Entry → Bool
is_refuted net list = list_any (λ e. refutes net e.bound) list

-- each premise of the instance is live
abbrev pub premises_live : List Entry → Instance → Bool
premises_live list (chain_at c j) = is_live list j
premises_live list (wait_at i j) = is_live list i && is_live list j

-- what a rule of one premise gives from an entry, if it is there
abbrev pub of_one : (Bound → Option Bound) → Option Entry → Option Bound
of_one f None = None
of_one f (Some e) = f e.bound

-- what a rule of two premises gives from two entries, if they are there
abbrev pub of_two : (Bound → Bound → Option Bound) → Option Entry → Option Entry → Option Bound
of_two f None o = None
of_two f (Some e) o = of_one (f e.bound) o

-- what an instance gives from the list
abbrev pub conclusion : Network → List Entry → Instance → Option Bound
conclusion net list (chain_at c j) = of_one (chain_of net c) (slice_get list j)
conclusion net list (wait_at i j) = of_two (wait_of net) (slice_get list i) (slice_get list j)

-- the conclusion goes to the end of the list, where the premises are live and no entry dominates it
abbrev pub with_conclusion : List Entry → Instance → Option Bound → List Entry
with_conclusion list i None = list
with_conclusion list i (Some r) =
    cond (premises_live list i && not (is_covered list r)) (list ++ record { bound = r; why = why_of i } ∷ []) list

-- one instance is tried, unless the list holds a refuting entry
unfoldable pub step : Network → List Entry → Instance → List Entry
step net list i = cond (is_refuted net list) list (with_conclusion list i (conclusion net list i))

-- instances are tried one after the other
abbrev pub tried : Network → List Entry → List Instance → List Entry
tried net list [] = list
tried net list (i ∷ is) = tried net (step net list i) is

-- the waits of entry j with the entries below n, in both orders
abbrev pub waits_below : ℕ → ℕ → List Instance
waits_below zero j = []
waits_below (suc i) j = waits_below i j ++ (wait_at i j ∷ (wait_at j i ∷ []))

-- chain of each constraint with entry j
abbrev pub chains_at : List Constraint → ℕ → List Instance
chains_at cs j = map (λ c. chain_at c j) cs

-- turn j: chain of each constraint with entry j, then the waits of entry j with each entry up to it
abbrev pub turn : Network → ℕ → List Instance
turn net j = chains_at net.constraints j ++ waits_below (suc j) j

-- the list after the first n turns
abbrev pub grown : Network → List Entry → ℕ → List Entry
grown net list zero = list
grown net list (suc n) = tried net (grown net list n) (turn net n)

-- the bounds of the live entries
abbrev pub live_bounds : List Entry → List Bound
live_bounds [] = []
live_bounds (e ∷ es) = cond (is_covered es e.bound) (live_bounds es) (e.bound ∷ live_bounds es)

-- how many propositions are observed
abbrev pub count_observed : List (Option ℕ) → ℕ
count_observed [] = 0
count_observed (None ∷ os) = count_observed os
count_observed (Some p ∷ os) = suc (count_observed os)

-- no list that is grown from the base bounds has more entries: the number of time-points, times that of the least values from 0
-- to the deadline + 1, times four marks for each observed proposition
abbrev pub most_entries : Network → ℕ
most_entries net = count net * (net.deadline + 2) * 4 ^ count_observed net.observes

-- growth: as many turns as there can be entries, of which those past the end of the list change nothing
abbrev pub grow : Network → List Entry → List Entry
grow net list = grown net list (length list + most_entries net)

-- the log: what the base bounds grow to
abbrev pub log_of : Network → List Entry
log_of net = grow net (bases (count net))

-- the load: how many entries the log has
abbrev pub load_of : Network → ℕ
load_of net = length (log_of net)
