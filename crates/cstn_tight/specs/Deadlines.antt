-- Networks at other deadlines, and the least deadline.
use Rattle.std.specs.Prelude.{ℕ, zero, suc, ◌≡◌, ◌⊎◌, ◌-◌, if◌then◌else◌}
use Rattle.cstn_net.specs.Networks.{Network}
use Rattle.cstn_net.specs.Strategies.{IsConsistent}
use Rattle.cstn_check.specs.Verdicts.{is_consistent}

-- the network with the deadline h, and all else the same
abbrev pub at_deadline : Network → ℕ → Network
at_deadline net h = record net { deadline = h }

-- the network is consistent at h, and isn't at one tick less, unless h is 0
pub record IsLeastDeadline (net : Network) (h : ℕ) : Type 0 where
  pub consistent : IsConsistent (at_deadline net h)
  pub least : (h ≡ 0) ⊎ (IsConsistent (at_deadline net (h - 1)) → ⊥)

-- the first of the n deadlines from h on at which the network is consistent, and h + n where it is at none of them
unfoldable pub first_deadline : Network → ℕ → ℕ → ℕ
first_deadline net zero h = h
first_deadline net (suc n) h = if is_consistent (at_deadline net h) then h else first_deadline net n (suc h)

-- the least deadline of a consistent network: the first at which it is consistent, up to its own
abbrev pub least_deadline : Network → ℕ
least_deadline net = first_deadline net net.deadline 0
