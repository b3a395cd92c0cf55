-- The calls of a form in memory, some of which are to fail.
use Rattle.std.specs.Prelude.{ℕ, ◌+◌, ◌-◌, ◌^◌, min, List, Bool, nat_eq}
use Rattle.std.specs.List.{list_any}

-- which calls are to fail, by number from 0, how many were made, and how many failed
pub record CallsState : Type 0 where
  pub failing : List ℕ
  pub made : ℕ
  pub faults : ℕ

-- a count after one more; it stops at 2^64 - 1
abbrev pub one_more : ℕ → ℕ
one_more count = min (count + 1) (2 ^ 64 - 1)

-- the next call is to fail
abbrev pub is_to_fail : CallsState → Bool
is_to_fail calls = list_any (λ number. nat_eq number calls.made) calls.failing

-- the state after a call that was accepted
abbrev pub accepted : CallsState → CallsState
accepted calls = record calls { made = one_more calls.made }

-- the state after a call that failed
abbrev pub failed : CallsState → CallsState
failed calls = record calls { made = one_more calls.made; faults = one_more calls.faults }
