-- What a check says of a network.
use Rattle.std.proofs.Common.{ℕ, ◌≡◌, ◌<◌, ◌≤◌, Bool, true, false, Some, None, refl, ap, ◌∙◌}
use Rattle.std.proofs.lemmas.Bool.{cond-false, le-ltb, ltb-true, ltb-false, false_from_ne_true}
use Rattle.std.specs.Prelude.{nat_lt, if◌then◌else◌}
use Rattle.cstn_net.specs.Networks.{Network, IsWellFormed}
use Rattle.cstn_net.specs.Strategies.{IsConsistent}
use Rattle.cstn_check.specs.Growth.{load_of}
use Rattle.cstn_check.specs.Needs.{said}
use Rattle.cstn_check.specs.Verdicts.{is_consistent}
use Rattle.cstn_check.proofs.Decides.{decided}

-- what is said, where the log isn't full, is whether the network is consistent
pub said_is : (cap : ℕ) (net : Network) (v : Bool) → said cap net ≡ Some v → (is_consistent net ≡ v) × (load_of net ≤ cap)
said_is cap net v = by (nat_lt cap (load_of net)) refl (is_consistent net)
  where
    by : (full : Bool) → nat_lt cap (load_of net) ≡ full → (b : Bool) → (if full then None else Some b) ≡ Some v → (b ≡ v) × (load_of net ≤ cap)
    by true above b e = absurd (cc)
    by false below b e = let same : b ≡ v = cc in (same, ltb-false cap (load_of net) below)

-- where nothing is said, the log is full
pub said_full : (cap : ℕ) (net : Network) → said cap net ≡ None → cap < load_of net
said_full cap net = by (nat_lt cap (load_of net)) refl (is_consistent net)
  where
    by : (full : Bool) → nat_lt cap (load_of net) ≡ full → (b : Bool) → (if full then None else Some b) ≡ None → cap < load_of net
    by true above b e = ltb-true cap (load_of net) above
    by false below b e = absurd (cc)

-- what a check says where the log isn't full
pub said_so : (cap : ℕ) (net : Network) (v : Bool) → load_of net ≤ cap → is_consistent net ≡ v → said cap net ≡ Some v
said_so cap net v upto is =
    cond-false (nat_lt cap (load_of net)) None (Some (is_consistent net)) (le-ltb cap (load_of net) upto) ∙ ap (λ b. Some b) is

-- where a check says no
pub said_no : (cap : ℕ) (net : Network) → IsWellFormed net → load_of net ≤ cap → (IsConsistent net → ⊥) → said cap net ≡ Some false
said_no cap net good upto never = said_so cap net false upto (false_from_ne_true (is_consistent net) (λ t. never ((decided net good).0 t)))
