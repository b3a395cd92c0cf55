-- Lists of which only a front was written, and what places lead to.
use Rattle.std.proofs.Common.{◌≡◌, inl, inr, ℕ, ◌+◌, ◌-◌, ◌<◌, ◌≤◌, List, [], ◌++◌, length, get_or, set, take, replicate, ap, ◌∙◌, arith, length-append}
use Rattle.std.specs.Prelude.{All}
use Rattle.std.proofs.lemmas.List.{get_or_append_left, get_or-append_right, get_or-replicate, set-append_left, set-append_right, length-replicate}
use Rattle.std.proofs.lemmas.Bool.{cases_lt}
use Rattle.std.proofs.lemmas.Grind.{get_or_default_zero}
use Rattle.cstn_pool.specs.Slots.{padded}
use Rattle.cstn_minset.specs.Links.{AreEnds}

-- what holds of a write into the resized list, spelled out, holds of a write into the list that the resize returned
pub resized_at : {A : Type 0} (blank : A) (n m i len : ℕ) (x : A) (written new : List A) → new ≡ take m written ++ replicate (m - len) blank → len ≡ length written →
    padded blank n (set (take m written ++ replicate (m - length written) blank) i x) ≡ set (padded blank n written) i x → padded blank n (set new i x) ≡ set (padded blank n written) i x
resized_at blank n m i len x written new is size filled = rw (is, size) filled

used_length : (n : ℕ) (used : List ℕ) → length used ≤ n → length (padded 0 n used) ≡ n
used_length n used within = omega (arith, length-append used (replicate (n - length used) 0), length-replicate {A = ℕ} (n - length used) 0)

-- where a slot leads that was never used, and where an end leads
slot_leads : (n place : ℕ) (ends : List ℕ) → place < n → get_or (padded 0 n [] ++ ends) place 0 ≡ 0
slot_leads n place ends inside =
    get_or_append_left (padded 0 n []) ends 0 place (omega (arith, used_length n [] (omega arith), inside)) ∙ get_or-replicate {A = ℕ} (n - 0) place 0 0 (omega (arith, inside))

pub end_leads : (n place : ℕ) (used ends : List ℕ) → length used ≤ n → n ≤ place → get_or (padded 0 n used ++ ends) place 0 ≡ get_or ends (place - n) 0
end_leads n place used ends within outside = get_or-append_right (padded 0 n used) ends n place 0 (used_length n used within) outside

pub slot_set : (n place to : ℕ) (used ends : List ℕ) → length used ≤ n → place < n → set (padded 0 n used ++ ends) place to ≡ set (padded 0 n used) place to ++ ends
slot_set n place to used ends within inside = set-append_left (padded 0 n used) ends place to (omega (arith, used_length n used within))

pub end_set : (n place to : ℕ) (used ends : List ℕ) → length used ≤ n → n ≤ place → set (padded 0 n used ++ ends) place to ≡ padded 0 n used ++ set ends (place - n) to
end_set n place to used ends within outside = set-append_right (padded 0 n used) ends n place to (used_length n used within) outside

pub leads_length : (n : ℕ) (used ends : List ℕ) → length used ≤ n → length (padded 0 n used ++ ends) ≡ n + length ends
leads_length n used ends within = omega (arith, length-append (padded 0 n used) ends, used_length n used within)

-- ends that lead to themselves, before any slot leads anywhere
pub at_home : (n heads : ℕ) (ends : List ℕ) → length ends ≡ heads → ((h : ℕ) → h < heads → get_or ends h 0 ≡ n + h) → AreEnds n heads (padded 0 n [] ++ ends)
at_home n heads ends size home h inside =
    let back : n + h - n ≡ h = omega arith in
    end_leads n (n + h) [] ends (omega arith) (omega arith) ∙ ap (λ k. get_or ends k 0) back ∙ home h inside

pub home_inside : (n heads : ℕ) (ends : List ℕ) → length ends ≡ heads → ((h : ℕ) → h < heads → get_or ends h 0 ≡ n + h) → All (λ x. x < n + heads) (padded 0 n [] ++ ends)
home_inside n heads ends size home k d inside = rw (get_or_default_zero (padded 0 n [] ++ ends) k d inside) (elim (cases_lt k n) [
  | inl slot ↦ (let e = slot_leads n k ends slot in omega (arith, e, slot))
  | inr past ↦ (let e = end_leads n k [] ends (omega arith) past in let h = home (k - n) (omega (arith, long, inside, past)) in omega (arith, e, h, long, inside, past))
])
  where
    long : length (padded 0 n [] ++ ends) ≡ n + heads
    long = omega (arith, leads_length n [] ends (omega arith), size)
