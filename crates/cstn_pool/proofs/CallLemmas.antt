use Rattle.std.proofs.Common.{◌≡◌, inl, inr, ℕ, zero, suc, ◌+◌, ◌<◌, ◌≤◌, nat_eq, false, List, [], ◌∷◌, length, replicate, set, Option, None, Some, cond, slice_get, refl, ap, subst, sym, ◌∙◌, arith, length-set}
use Rattle.std.specs.Prelude.{IsSome}
use Rattle.std.proofs.lemmas.List.{length-replicate}
use Rattle.cstn_pool.specs.Slots.{Slots, value_at}
use Rattle.cstn_pool.proofs.PaddedLemmas.{none_held}
use Rattle.cstn_pool.specs.Calls.{PoolCall, AfterCall, AfterCalls, emptied_at}
use Rattle.cstn_pool.specs.Calls.PoolCall.{Take, Give, Clear}

-- a call leaves the number of slots as it is
call_keeps_size : {T : Type 0} (call : PoolCall T) (before after : Slots T) → AfterCall call before after → length after.slots ≡ length before.slots
call_keeps_size (Take value) before after is = elim is [
  | inl refused ↦ ap (λ p. length p.slots) refused.1
  | inr taken ↦ ap (λ p. length p.slots) taken.2 ∙ length-set before.slots taken.0 (Some (before.births, value))
]
call_keeps_size (Give slot birth) before after is = elim is [
  | inl missing ↦ ap (λ p. length p.slots) missing.1
  | inr given ↦ ap (λ p. length p.slots) given.1 ∙ length-set before.slots slot None
]
call_keeps_size {T} Clear before after is = ap (λ p. length p.slots) is ∙ length-replicate {A = Option (ℕ × T)} (length before.slots) None

-- and so does a list of calls
pub calls_keep_size : {T : Type 0} (calls : List (PoolCall T)) (before after : Slots T) → AfterCalls calls before after → length after.slots ≡ length before.slots
calls_keep_size [] before after is = ap (λ p. length p.slots) (sym is)
calls_keep_size (call ∷ calls) before after is = calls_keep_size calls is.0 after is.2 ∙ call_keeps_size call before is.0 is.1

-- after any calls on a new pool it has the slots that it began with
pub calls_keep_capacity : {T : Type 0} (capacity : ℕ) (calls : List (PoolCall T)) (after : Slots T) → AfterCalls calls (record { slots = replicate capacity None; births = 0 }) after → length after.slots ≡ capacity
calls_keep_capacity {T} capacity calls after is = calls_keep_size calls (record { slots = replicate capacity None; births = 0 }) after is ∙ length-replicate {A = Option (ℕ × T)} capacity None

-- births never fall
call_keeps_births : {T : Type 0} (call : PoolCall T) (before after : Slots T) → AfterCall call before after → before.births ≤ after.births
call_keeps_births (Take value) before after is = elim is [
  | inl refused ↦ omega (arith, ap (λ p. p.births) refused.1)
  | inr taken ↦ omega (arith, ap (λ p. p.births) taken.2)
]
call_keeps_births (Give slot birth) before after is = elim is [
  | inl missing ↦ omega (arith, ap (λ p. p.births) missing.1)
  | inr given ↦ omega (arith, ap (λ p. p.births) given.1)
]
call_keeps_births Clear before after is = omega (arith, ap (λ p. p.births) is)

pub calls_keep_births : {T : Type 0} (calls : List (PoolCall T)) (before after : Slots T) → AfterCalls calls before after → before.births ≤ after.births
calls_keep_births [] before after is = omega (arith, ap (λ p. p.births) is)
calls_keep_births (call ∷ calls) before after is = omega (arith, call_keeps_births call before is.0 is.1, calls_keep_births calls is.0 after is.2)

-- an id of an earlier birth that names nothing names nothing after a call
gone_where_filled : {T : Type 0} (slots : List (Option (ℕ × T))) (slot s births birth : ℕ) (value : T) → birth < births → value_at slots s birth ≡ None → value_at (set slots slot (Some (births, value))) s birth ≡ None
gone_where_filled [] slot s births birth value less none = none
gone_where_filled {T} (x ∷ slots) zero zero births birth value less none =
    let differ : nat_eq births birth ≡ false = grind arith in
    ap (λ b. cond b (Some value) None) differ
gone_where_filled (x ∷ slots) zero (suc s) births birth value less none = none
gone_where_filled (x ∷ slots) (suc slot) zero births birth value less none = none
gone_where_filled (x ∷ slots) (suc slot) (suc s) births birth value less none = gone_where_filled slots slot s births birth value less none

gone_where_emptied : {T : Type 0} (slots : List (Option (ℕ × T))) (slot s birth : ℕ) → value_at slots s birth ≡ None → value_at (set slots slot None) s birth ≡ None
gone_where_emptied [] slot s birth none = none
gone_where_emptied (x ∷ slots) zero zero birth none = refl
gone_where_emptied (x ∷ slots) zero (suc s) birth none = none
gone_where_emptied (x ∷ slots) (suc slot) zero birth none = none
gone_where_emptied (x ∷ slots) (suc slot) (suc s) birth none = gone_where_emptied slots slot s birth none

call_leaves_gone : {T : Type 0} (call : PoolCall T) (before after : Slots T) (s birth : ℕ) → AfterCall call before after → birth < before.births → value_at before.slots s birth ≡ None → value_at after.slots s birth ≡ None
call_leaves_gone (Take value) before after s birth is less none = elim is [
  | inl refused ↦ ap (λ p. value_at p.slots s birth) refused.1 ∙ none
  | inr taken ↦ ap (λ p. value_at p.slots s birth) taken.2 ∙ gone_where_filled before.slots taken.0 s before.births birth value less none
]
call_leaves_gone (Give slot at') before after s birth is less none = elim is [
  | inl missing ↦ ap (λ p. value_at p.slots s birth) missing.1 ∙ none
  | inr given ↦ ap (λ p. value_at p.slots s birth) given.1 ∙ gone_where_emptied before.slots slot s birth none
]
call_leaves_gone Clear before after s birth is less none = ap (λ p. value_at p.slots s birth) is ∙ none_held (length before.slots) s birth

pub calls_leave_gone : {T : Type 0} (calls : List (PoolCall T)) (before after : Slots T) (s birth : ℕ) → AfterCalls calls before after → birth < before.births → value_at before.slots s birth ≡ None → value_at after.slots s birth ≡ None
calls_leave_gone [] before after s birth is less none = ap (λ p. value_at p.slots s birth) (sym is) ∙ none
calls_leave_gone (call ∷ calls) before after s birth is less none =
    calls_leave_gone calls is.0 after s birth is.2 (omega (arith, call_keeps_births call before is.0 is.1, less)) (call_leaves_gone call before is.0 s birth is.1 less none)

-- an empty slot that is filled under the next birth
pub takes : {T : Type 0} (before after : Slots T) (slot birth : ℕ) (value : T) → slice_get before.slots slot ≡ Some None → birth ≡ before.births →
    after ≡ record { slots = set before.slots slot (Some (birth, value)); births = before.births + 1 } → AfterCall (Take value) before after
takes before after slot birth value empty next taken = inr (slot, empty, rw next at taken)

-- a slot that held a value of the birth, and is emptied
pub gives : {T : Type 0} (before after : Slots T) (slot birth : ℕ) (value : T) → Some value ≡ value_at before.slots slot birth →
    after ≡ emptied_at before slot → AfterCall (Give slot birth) before after
gives before after slot birth value there given = inr (subst IsSome there refl, given)
