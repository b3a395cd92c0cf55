-- Drills: the networks, what the check and the table say of them, and their counts.
use Rattle.std.proofs.Common.{◌≡◌, ℕ, ◌+◌, ◌%◌, ◌^◌, ◌≤◌, ◌<◌, Bool, true, false, length, refl, ap, sym, subst, ◌∙◌, arith}
use Rattle.std.specs.Prelude.{◌↔◌, not, Option, None, Some, IsSome, IsNone}
use Rattle.cstn_net.specs.Networks.{Network, IsWellFormed}
use Rattle.cstn_net.specs.Strategies.{IsConsistent}
use Rattle.cstn_net.specs.Read.{NetworkParts, the_network}
use Rattle.cstn_check.specs.Checks.{CheckParts}
use Rattle.cstn_check.specs.Turns.{LastRefutes}
use Rattle.cstn_check.specs.Growth.{is_refuted, log_of, load_of, most_entries}
use Rattle.cstn_check.specs.declared.verdicts.Verdict.{Verdict}
use Rattle.cstn_check.specs.declared.verdicts.Verdict.TheVariants.{Yes, No, Full}
use Rattle.cstn_check.proofs.Decides.{log_decides}
use Rattle.cstn_table.specs.Tables.{observed_props}
use Rattle.cstn_gen.specs.Generated.{generated}
use Rattle.cstn_gen.proofs.WellFormed.{well_formed}
use Rattle.cstn_top.specs.commands.Drill.{small, large, is_unrefuted}
use Rattle.cstn_top.specs.declared.commands.drill.TheConstants.{SMALL_CAP}
use Rattle.cstn_check.specs.Decisions.{verdict}
use Rattle.cstn_check.proofs.Deciding.{verdict_full, verdict_no, verdict_yes}

pub small_is : (number i : ℕ) → generated ((number + i) % 2 ^ 64) 6 ≡ small number i
unfolding small
small_is number i = refl

pub large_is : (number : ℕ) → generated number 48 ≡ large number
unfolding large
large_is number = refl

-- the networks are well-formed
pub small_good : (number i : ℕ) → IsWellFormed (small number i)
small_good number i = subst IsWellFormed (small_is number i) (well_formed ((number + i) % 2 ^ 64) 6 (omega arith) (omega arith))

pub large_good : (number : ℕ) → IsWellFormed (large number)
large_good number = subst IsWellFormed (large_is number) (well_formed number 48 (omega arith) (omega arith))

-- the log of a small network has at most 10,752 entries, and the network three propositions
small_entries : (number : ℕ) → most_entries (generated number 6) ≡ 10752
small_entries number = refl

pub few_entries : (number i : ℕ) → most_entries (small number i) ≤ SMALL_CAP
few_entries number i = subst (λ (net : Network). most_entries net ≤ SMALL_CAP) (small_is number i) (omega (arith, small_entries ((number + i) % 2 ^ 64)))

small_props : (number : ℕ) → length (observed_props (generated number 6).observes) ≡ 3
small_props number = refl

pub few_props : (number i : ℕ) → length (observed_props (small number i).observes) ≤ 8
few_props number i = subst (λ (net : Network). length (observed_props net.observes) ≤ 8) (small_is number i) (omega (arith, small_props ((number + i) % 2 ^ 64)))

-- a network is consistent exactly where its log doesn't refute it
pub consistent_true : (net : Network) → IsWellFormed net → IsConsistent net → is_unrefuted net ≡ true
unfolding is_unrefuted
consistent_true net good consistent = ap not ((log_decides net good.network good.letters).0 consistent)

not_false : (b : Bool) → (b ≡ false → ⊥) → not b ≡ false
not_false true isn't = refl
not_false false isn't = absurd (isn't refl)

pub inconsistent_false : (net : Network) → IsWellFormed net → (IsConsistent net → ⊥) → is_unrefuted net ≡ false
unfolding is_unrefuted
inconsistent_false net good inconsistent =
    not_false (is_refuted net (log_of net)) (λ is. inconsistent ((log_decides net good.network good.letters).1 is))

not_true : (b : Bool) → not b ≡ true → b ≡ false
not_true true is = absurd (cc)
not_true false is = refl

pub true_consistent : (net : Network) → IsWellFormed net → is_unrefuted net ≡ true → IsConsistent net
unfolding is_unrefuted
true_consistent net good is = (log_decides net good.network good.letters).1 (not_true (is_refuted net (log_of net)) is)

-- what the verdict of a check tells
pub yes_true : (net : NetworkParts) (check : CheckParts) (cap load : ℕ) → IsWellFormed (the_network net) → check ≡ record { net = net; cap = cap; verdict = None; tries = 0 } → ((l : ℕ) → (Yes load ≡ Yes l ↔ ((l ≡ load_of (the_network check.net)) × (load_of (the_network check.net) ≤ check.cap) × IsConsistent (the_network check.net)))) → true ≡ is_unrefuted (the_network net)
yes_true net check cap load good is tells =
    sym (consistent_true (the_network net) good (subst (λ (c : CheckParts). IsConsistent (the_network c.net)) is ((tells load).0 refl).2))

pub no_false : (net : NetworkParts) (check : CheckParts) (cap load : ℕ) → IsWellFormed (the_network net) → check ≡ record { net = net; cap = cap; verdict = None; tries = 0 } → ((l : ℕ) → (No load ≡ No l ↔ ((l ≡ load_of (the_network check.net)) × (load_of (the_network check.net) ≤ check.cap) × (IsConsistent (the_network check.net) → ⊥)))) → false ≡ is_unrefuted (the_network net)
no_false net check cap load good is tells =
    sym (inconsistent_false (the_network net) good (subst (λ (c : CheckParts). IsConsistent (the_network c.net) → ⊥) is ((tells load).0 refl).2))

-- what the table tells
pub some_true : {X : Type 0} (net : Network) (o : Option X) (x : X) → IsWellFormed net → o ≡ Some x → (IsSome o ↔ IsConsistent net) → true ≡ is_unrefuted net
some_true net None x good is tells = absurd (cc)
some_true net (Some y) x good is tells = sym (consistent_true net good (tells.0 refl))

pub none_false : {X : Type 0} (net : Network) (o : Option X) → IsWellFormed net → o ≡ None → (IsNone o ↔ (IsConsistent net → ⊥)) → false ≡ is_unrefuted net
none_false net None good is tells = sym (inconsistent_false net good (tells.0 refl))
none_false net (Some y) good is tells = absurd (cc)

-- the verdict of a check
pub verdict_is : (net : NetworkParts) (network : Network) (check : CheckParts) (cap : ℕ) (v : Verdict) → IsWellFormed (the_network net) → the_network net ≡ network → check ≡ record { net = net; cap = cap; verdict = None; tries = 0 } → (v ≡ Full ↔ (check.cap < load_of (the_network check.net))) → ((l : ℕ) → (v ≡ No l ↔ ((l ≡ load_of (the_network check.net)) × (load_of (the_network check.net) ≤ check.cap) × LastRefutes (the_network check.net) (log_of (the_network check.net))))) → ((l : ℕ) → (v ≡ Yes l ↔ ((l ≡ load_of (the_network check.net)) × (load_of (the_network check.net) ≤ check.cap) × (LastRefutes (the_network check.net) (log_of (the_network check.net)) → ⊥)))) → v ≡ verdict cap network
verdict_is net network check cap v good same is is_full is_no is_yes =
    subst (λ (n : Network). v ≡ verdict cap n) same
    (subst (λ (c : CheckParts). v ≡ verdict c.cap (the_network c.net)) is
    (by_verdict check.cap (the_network check.net) v (subst (λ (c : CheckParts). IsWellFormed (the_network c.net)) (sym is) good) is_full is_no is_yes))
  where
    by_verdict : (c : ℕ) (n : Network) (w : Verdict) → IsWellFormed n → (w ≡ Full ↔ (c < load_of n)) → ((l : ℕ) → (w ≡ No l ↔ ((l ≡ load_of n) × (load_of n ≤ c) × LastRefutes n (log_of n)))) → ((l : ℕ) → (w ≡ Yes l ↔ ((l ≡ load_of n) × (load_of n ≤ c) × (LastRefutes n (log_of n) → ⊥)))) → w ≡ verdict c n
    by_verdict c n (Yes load) good' full' no' yes' = let told = (yes' load).0 refl in ap Yes told.0 ∙ sym (verdict_yes c n good' told.1 told.2)
    by_verdict c n (No load) good' full' no' yes' = let told = (no' load).0 refl in ap No told.0 ∙ sym (verdict_no c n told.1 told.2)
    by_verdict c n Full good' full' no' yes' = sym (verdict_full c n (full'.0 refl))
