-- The numbers of the time-points that are left, as a list, and what the search for a last moment begins with.
use Rattle.std.proofs.Common.{ℕ, ◌≡◌, ◌+◌, ◌<◌, Bool, true, false, List, length, arith, sym, ap, ◌∙◌}
use Rattle.std.specs.Prelude.{nat_lt, ◌&&◌, slice_index_or}
use Rattle.std.specs.List.{range_with_len}
use Rattle.std.proofs.lemmas.List.{get_or-map, length-map}
use Rattle.std.proofs.lemmas.List.FromFn.{length-range_with_len, get_or-range_with_len}
use Rattle.std.proofs.lemmas.Bool.{false≢true, and_parts, and_from, ltb-true, lt-ltb}
use Rattle.cstn_net.specs.Limits.{most_constraints}
use Rattle.cstn_net.specs.Networks.{count}
use Rattle.cstn_lift.specs.Labelled.{Labelled}
use Rattle.cstn_lift.specs.Lowered.{lowered}
use Rattle.cstn_history.specs.Histories.{History}
use Rattle.cstn_history.specs.Rest.{number_left, rest}
use Rattle.cstn_history.specs.Handed.{AreNumbers}
use Rattle.cstn_check.specs.Search.{halving}
use Rattle.cstn_follow.specs.Waiting.{said_until, tried_until, waits_until}

module _ (m : Labelled) (h : History) (numbers : List ℕ) (are : AreNumbers m h numbers) where
  pub numbers_long : length numbers ≡ count m.base
  numbers_long = ap length are ∙ length-map (range_with_len 0 (count m.base)) (number_left m h) ∙ length-range_with_len 0 (count m.base)

  pub number_at : (x d : ℕ) → x < count m.base → slice_index_or numbers x d ≡ number_left m h x
  number_at x d here =
      let size = length-range_with_len 0 (count m.base) in
      ap (λ l. slice_index_or l x d) are ∙ get_or-map (number_left m h) (range_with_len 0 (count m.base)) x 0 d (omega arith)
      ∙ ap (number_left m h) (get_or-range_with_len 0 (count m.base) x 0 here ∙ (let same : 0 + x ≡ x = omega arith in same))

-- a labelled network has room for one constraint more
pub room_said : (n : Labelled) (b : Bool) → b ≡ (nat_lt (length n.base.constraints) most_constraints && nat_lt (length (lowered n).constraints) most_constraints) → b ≡ true →
    (length n.base.constraints < most_constraints) × (length (lowered n).constraints < most_constraints)
room_said n b is t = let both = and_parts _ _ (sym is ∙ t) in (ltb-true _ _ both.0, ltb-true _ _ both.1)

pub no_room_said : (n : Labelled) (b : Bool) → b ≡ (nat_lt (length n.base.constraints) most_constraints && nat_lt (length (lowered n).constraints) most_constraints) → b ≡ false →
    length n.base.constraints < most_constraints → length (lowered n).constraints < most_constraints → ⊥
no_room_said n b is f base low = false≢true (sym f ∙ is ∙ and_from _ _ (lt-ltb _ _ base) (lt-ltb _ _ low))

-- the search from now up to the deadline
pub search_is : (m : Labelled) (h : History) (fresh x cap k low high : ℕ) (n : Labelled) → n ≡ rest m h fresh → k ≡ number_left m h x → low ≡ h.now →
    high ≡ m.base.deadline → halving (said_until n fresh k cap) 20 (record { low = low; high = high }) ≡ waits_until m h fresh x cap
search_is m h fresh x cap k low high n is number now last =
    ap (λ (l : Labelled). halving (said_until l fresh k cap) 20 (record { low = low; high = high })) is
    ∙ ap (λ (i : ℕ). halving (said_until (rest m h fresh) fresh i cap) 20 (record { low = low; high = high })) number
    ∙ ap (λ (l : ℕ). halving (tried_until m h fresh x cap) 20 (record { low = l; high = high })) now
    ∙ ap (λ (u : ℕ). halving (tried_until m h fresh x cap) 20 (record { low = h.now; high = u })) last
