-- With a larger cap a check and a search say the same, but where a log had more entries than the smaller one.
use Rattle.std.proofs.Common.{ℕ, zero, suc, ◌≡◌, ◌-◌, ◌≤◌, Bool, true, false, List, [], ◌∷◌, Option, Some, None, arith, refl, sym, subst, ap, ◌∙◌}
use Rattle.std.proofs.Common.{inl, inr}
use Rattle.std.specs.Prelude.{◌⊎◌, nat_lt, if◌then◌else◌, option_and_then}
use Rattle.std.specs.Option.{option_map}
use Rattle.cstn_net.specs.Networks.{Network}
use Rattle.cstn_check.specs.Givers.{network_without}
use Rattle.cstn_check.specs.Growth.{load_of, is_refuted, log_of}
use Rattle.cstn_check.specs.Decisions.{verdict}
use Rattle.cstn_check.specs.Needs.{said}
use Rattle.cstn_check.specs.Search.{narrowed, left_by, middle, halved, halving}
use Rattle.cstn_check.specs.Verdicts.{is_consistent}
use Rattle.cstn_check.specs.declared.verdicts.Verdict.{Verdict}
use Rattle.cstn_check.specs.declared.verdicts.Verdict.TheVariants.{Yes, No, Full}

-- the second is the first, unless the first is none
abbrev pub SameIfSome : {X : Type 0} → Option X → Option X → Type 0
SameIfSome one other = (one ≡ None) ⊎ (other ≡ one)

-- what a check tells of a network where its log has no more entries than it may
abbrev verdict_known : Network → Verdict
verdict_known net = if is_refuted net (log_of net) then No (load_of net) else Yes (load_of net)

abbrev said_known : Network → Option Bool
said_known net = Some (is_consistent net)

module _ (cap larger : ℕ) (upto : cap ≤ larger) where
  no_fuller : (n : ℕ) → nat_lt cap n ≡ false → nat_lt larger n ≡ false
  no_fuller n e = grind arith

  -- ---- checks

  pub verdict_alike : (net : Network) → (verdict cap net ≡ Full) ⊎ (verdict larger net ≡ verdict cap net)
  verdict_alike net = by_load (nat_lt cap (load_of net)) refl
    where
      by_load : (full : Bool) → nat_lt cap (load_of net) ≡ full → (verdict cap net ≡ Full) ⊎ (verdict larger net ≡ verdict cap net)
      by_load true is = inl (ap (λ b. if b then Full else verdict_known net) is)
      by_load false is =
          inr (ap (λ b. if b then Full else verdict_known net) (no_fuller (load_of net) is) ∙ sym (ap (λ b. if b then Full else verdict_known net) is))

  pub said_alike : (net : Network) → SameIfSome (said cap net) (said larger net)
  said_alike net = by_load (nat_lt cap (load_of net)) refl
    where
      by_load : (full : Bool) → nat_lt cap (load_of net) ≡ full → SameIfSome (said cap net) (said larger net)
      by_load true is = inl (ap (λ b. if b then None else said_known net) is)
      by_load false is =
          inr (ap (λ b. if b then None else said_known net) (no_fuller (load_of net) is) ∙ sym (ap (λ b. if b then None else said_known net) is))

-- ---- searches

abbrev and_then : {X Y : Type 0} → Option X → (X → Option Y) → Option Y
and_then o go = option_and_then go o

-- halving finds the same in each span, unless it finds nothing by the first
abbrev AreAlikeFrom : (ℕ → Option Bool) → (ℕ → Option Bool) → ℕ → Type 0
AreAlikeFrom test other n = (l k : ℕ) → SameIfSome (halving test n (record { low = l; high = k })) (halving other n (record { low = l; high = k }))

pub halving_alike : (test other : ℕ → Option Bool) → ((t : ℕ) → SameIfSome (test t) (other t)) → (n low high : ℕ)
    → SameIfSome (halving test n (record { low = low; high = high })) (halving other n (record { low = low; high = high }))
unfolding halving
halving_alike test other alike zero low high = inr refl
halving_alike test other alike (suc n) low high = by_more (nat_lt low high) (alike half) (halving_alike test other alike n)
  where
    half : ℕ
    half = middle (record { low = low; high = high })

    by_test : (o : Option Bool) → AreAlikeFrom test other n → SameIfSome (and_then (halved (record { low = low; high = high }) o) (halving test n))
        (and_then (halved (record { low = low; high = high }) o) (halving other n))
    by_test None later = inl refl
    by_test (Some true) later = later half high
    by_test (Some false) later = later low (half - 1)

    by_same : (test half ≡ None) ⊎ (other half ≡ test half) → AreAlikeFrom test other n
        → SameIfSome (and_then (halved (record { low = low; high = high }) (test half)) (halving test n))
        (and_then (halved (record { low = low; high = high }) (other half)) (halving other n))
    by_same (inl none) later = inl (ap (λ o. and_then (halved (record { low = low; high = high }) o) (halving test n)) none)
    by_same (inr same) later =
        subst (λ o. SameIfSome (and_then (halved (record { low = low; high = high }) (test half)) (halving test n))
        (and_then (halved (record { low = low; high = high }) o) (halving other n))) (sym same) (by_test (test half) later)

    by_more : (b : Bool) → SameIfSome (test half) (other half) → AreAlikeFrom test other n
        → SameIfSome (if b then and_then (halved (record { low = low; high = high }) (test half)) (halving test n) else Some low)
        (if b then and_then (halved (record { low = low; high = high }) (other half)) (halving other n) else Some low)
    by_more true same later = by_same same later
    by_more false same later = inr refl

pub left_alike : (test other : Network → Option Bool) → ((net : Network) → SameIfSome (test net) (other net)) → (ids : List ℕ) (net : Network)
    → SameIfSome (left_by test ids net) (left_by other ids net)
left_alike test other alike [] net = inr refl
left_alike test other alike (id ∷ ids) net = by_same (alike (network_without id net)) (left_alike test other alike ids)
  where
    by_test : (o : Option Bool) → ((r : Network) → SameIfSome (left_by test ids r) (left_by other ids r))
        → SameIfSome (and_then (narrowed o id net) (left_by test ids)) (and_then (narrowed o id net) (left_by other ids))
    by_test None later = inl refl
    by_test (Some true) later = later net
    by_test (Some false) later = later (network_without id net)

    by_same : SameIfSome (test (network_without id net)) (other (network_without id net)) → ((r : Network) → SameIfSome (left_by test ids r) (left_by other ids r))
        → SameIfSome (and_then (narrowed (test (network_without id net)) id net) (left_by test ids)) (and_then (narrowed (other (network_without id net)) id net) (left_by other ids))
    by_same (inl none) later = inl (ap (λ o. and_then (narrowed o id net) (left_by test ids)) none)
    by_same (inr same) later =
        subst (λ o. SameIfSome (and_then (narrowed (test (network_without id net)) id net) (left_by test ids)) (and_then (narrowed o id net) (left_by other ids)))
        (sym same) (by_test (test (network_without id net)) later)

pub mapped_alike : {X Y : Type 0} (f : X → Y) (one other : Option X) → SameIfSome one other → SameIfSome (option_map f one) (option_map f other)
mapped_alike f one other (inl none) = inl (ap (option_map f) none)
mapped_alike f one other (inr same) = inr (ap (option_map f) same)
