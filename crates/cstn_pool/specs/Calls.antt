-- Lists of calls on a pool.
use Rattle.std.specs.Prelude.{◌≡◌, ◌⊎◌, ℕ, ◌+◌, List, [], ◌∷◌, length, replicate, None, Some, IsNone, IsSome, slice_get, slice_set}
use Rattle.cstn_pool.specs.Slots.{Slots, live_of, value_at}

-- a call that takes a slot for a value, gives the slot of an id back, or empties the pool
pub data PoolCall (T : Type 0) : Type 0 where
  Take : (value : T) → PoolCall T
  Give : (slot birth : ℕ) → PoolCall T
  Clear : PoolCall T

-- the pool with a value put into the slot under the next birth
abbrev pub filled : {T : Type 0} → Slots T → ℕ → T → Slots T
filled pool slot value = record { slots = slice_set pool.slots slot (Some (pool.births, value)); births = pool.births + 1 }

-- the pool without what is in the slot
abbrev pub emptied_at : {T : Type 0} → Slots T → ℕ → Slots T
emptied_at pool slot = record { slots = slice_set pool.slots slot None; births = pool.births }

-- the pool after a call: unchanged where the call is refused; else an empty slot is filled, or one slot or all are emptied
abbrev pub AfterCall : {T : Type 0} → PoolCall T → Slots T → Slots T → Type 0
AfterCall (Take value) before after = ((live_of before.slots ≡ length before.slots) × (after ≡ before)) ⊎ ((slot : ℕ) × (slice_get before.slots slot ≡ Some None) × (after ≡ filled before slot value))
AfterCall (Give slot birth) before after = (IsNone (value_at before.slots slot birth) × (after ≡ before)) ⊎ (IsSome (value_at before.slots slot birth) × (after ≡ emptied_at before slot))
AfterCall Clear before after = after ≡ record { slots = replicate (length before.slots) None; births = before.births }

-- the pool after a list of calls
abbrev pub AfterCalls : {T : Type 0} → List (PoolCall T) → Slots T → Slots T → Type 0
AfterCalls [] before after = before ≡ after
AfterCalls {T} (call ∷ calls) before after = (between : Slots T) × AfterCall call before between × AfterCalls calls between after
