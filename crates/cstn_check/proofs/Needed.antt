-- Which constraints a no needs.
use Rattle.std.proofs.Common.{ℕ, ◌≡◌, ◌≤◌, Bool, true, false, not, eqb, ◌&&◌, ◌||◌, Option, Some, List, get_or, arith, refl, sym, subst, ap, ◌∙◌}
use Rattle.std.proofs.lemmas.Bool.{or_parts, and_from, ne_eqb, both_ways, false_from_ne_true}
use Rattle.std.proofs.lemmas.Grind.{get_or_default_zero}
use Rattle.cstn_net.specs.Networks.{Network, IsWellFormed}
use Rattle.cstn_check.specs.Givers.{gave, ids_of, is_of, with_some, network_without}
use Rattle.cstn_check.specs.Growth.{load_of}
use Rattle.cstn_check.specs.Needs.{said, IfNo, IsNeeded, Stands, is_idle}
use Rattle.cstn_check.specs.Verdicts.{is_consistent}
use Rattle.cstn_check.specs.declared.needs.Finding.{Finding}
use Rattle.cstn_check.specs.declared.needs.Finding.TheVariants.{Full, Yes, No}
use Rattle.cstn_check.proofs.Parts.{contains_of, some_same, some_twice}
use Rattle.cstn_check.proofs.Standing.{no_stands}
use Rattle.cstn_check.proofs.Said.{said_so}

module _ (cap : ℕ) (net : Network) (needed : List ℕ) (found : IsNeeded cap net needed) (test : ℕ → Bool)
    (has : (id : ℕ) → is_of needed id ≡ true → test id ≡ true) where
  -- what isn't an id of the network passes, too
  abbrev wider : ℕ → Bool
  wider id = test id || not (is_of (ids_of net) id)

  not_back : (b : Bool) → not b ≡ false → b ≡ true
  not_back true e = refl
  not_back false e = absurd (both_ways true e refl)

  idle : (id : ℕ) → wider id ≡ false → gave id found.list ≡ false
  idle id fails =
      let parts = or_parts (test id) (not (is_of (ids_of net) id)) fails in
      let place = contains_of (ids_of net) id (not_back (is_of (ids_of net) id) parts.1) in
      let same : get_or (ids_of net) place.0 0 ≡ id = sym (get_or_default_zero (ids_of net) place.0 id place.1) ∙ place.2 in
      let other : is_of needed id ≡ false = false_from_ne_true (is_of needed id) (λ need. both_ways (test id) parts.0 (has id need)) in
      subst (λ i. gave i found.list ≡ false) same (found.idle place.0 place.1 (ap (is_of needed) same ∙ other))

  wider_same : with_some net wider ≡ with_some net test
  wider_same = some_same net wider test (λ id among. ap (λ b. test id || not b) among ∙ or_none (test id))
    where
      or_none : (b : Bool) → (b || false) ≡ b
      or_none b = grind arith

  -- without constraints that aren't needed a check says no, too
  pub still_no : IsWellFormed net → is_consistent net ≡ false → load_of net ≤ cap → said cap (with_some net test) ≡ Some false
  still_no good refuted within =
      let stands = no_stands net wider found.list idle good cap refuted within found.roomy found.decides in
      ap (said cap) (sym wider_same) ∙ said_so cap (with_some net wider) false stands.1 stands.0

-- ---- a constraint that the last no doesn't need

module _ (says : Network → Option Bool) (net : Network) (needed : List ℕ) (id : ℕ) (idle : is_of needed id ≡ false) (stands : Stands says net needed) where
  other : (i : ℕ) → is_of needed i ≡ true → not (eqb i id) ≡ true
  other i need = ap not (ne_eqb i id (λ same. both_ways (is_of needed i) (ap (is_of needed) same ∙ idle) need))

  pub idle_said : says (network_without id net) ≡ Some false
  idle_said = stands (λ i. not (eqb i id)) other

  pub idle_stands : Stands says (network_without id net) needed
  idle_stands test has =
      ap says (some_twice net (λ i. not (eqb i id)) test)
      ∙ stands (λ i. not (eqb i id) && test i) (λ i need. and_from (not (eqb i id)) (test i) (other i need) (has i need))

-- what is known of it
pub idle_known : (says : Network → Option Bool) (net : Network) (id : ℕ) (last : Finding) → is_idle last id ≡ true → IfNo last (Stands says net) →
    (says (network_without id net) ≡ Some false) × IfNo last (Stands says (network_without id net))
idle_known says net id Full idle stands = absurd (both_ways false refl idle)
idle_known says net id (Yes load) idle stands = absurd (both_ways false refl idle)
idle_known says net id (No needed) idle stands =
    let none = back (is_of needed.items id) idle in
    (idle_said says net needed.items id none stands, idle_stands says net needed.items id none stands)
  where
    back : (b : Bool) → not b ≡ true → b ≡ false
    back false e = refl
    back true e = absurd (both_ways false refl e)
