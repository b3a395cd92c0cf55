-- Spent instances, which add nothing to a list, and how many rules growth tries where it passes over them.
use Rattle.std.specs.Prelude.{ℕ, ◌≡◌, ◌<◌, ◌+◌, ◌-◌, ◌*◌, ◌==◌, Bool, true, false, cond, List, [], ◌∷◌, length, Some}
use Rattle.std.specs.List.{Contains, list_any}
use Rattle.cstn_net.specs.Networks.{Network, Constraint}
use Rattle.cstn_label.specs.Bounds.{Bound}
use Rattle.cstn_rules.specs.Derivations.{Entry}
use Rattle.cstn_check.specs.Growth.{Instance, is_covered, premises_live, conclusion}
use Rattle.cstn_check.specs.Growth.Instance.{chain_at, wait_at}

-- the premises of an instance are entries of the list
abbrev pub HasPremises : List Entry → Instance → Type 0
HasPremises list (chain_at c j) = j < length list
HasPremises list (wait_at i j) = (i < length list) × (j < length list)

-- what an instance gives from live premises is covered
abbrev pub IsSpent : Network → List Entry → Instance → Type 0
IsSpent net list i = (r : Bound) → conclusion net list i ≡ Some r → premises_live list i ≡ true → is_covered list r ≡ true

-- the id is one of the fresh ones
abbrev pub is_fresh : List ℕ → ℕ → Bool
is_fresh fresh id = list_any (λ x. x == id) fresh

-- each instance on the first n entries is spent, but for chains of constraints with fresh ids
pub record AreSpent (net : Network) (list : List Entry) (fresh : List ℕ) (n : ℕ) : Type 0 where
  pub chains : (c : Constraint) (j : ℕ) → Contains net.constraints c → is_fresh fresh c.id ≡ false → j < n → IsSpent net list (chain_at c j)
  pub waits : (i j : ℕ) → i < n → j < n → IsSpent net list (wait_at i j)

-- how many constraints have fresh ids
abbrev pub fresh_count : List ℕ → List Constraint → ℕ
fresh_count fresh [] = 0
fresh_count fresh (c ∷ cs) = cond (is_fresh fresh c.id) 1 0 + fresh_count fresh cs

-- how many rules growth from n entries to g tries at most, with m constraints, f of them fresh: with each of the n entries
-- chain of the fresh constraints, and with each later entry chain of every constraint and wait with each of the g entries, in
-- both orders
abbrev pub most_tries : ℕ → ℕ → ℕ → ℕ → ℕ
most_tries m f n g = f * n + (g - n) * (m + 2 * g)
