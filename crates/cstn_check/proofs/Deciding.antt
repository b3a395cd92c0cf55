-- Verdicts on networks, by their logs.
use Rattle.std.proofs.Common.{◌≡◌, ℕ, ◌≤◌, ◌<◌, Bool, true, false, List, refl, ap, sym, subst, ◌∙◌, arith}
use Rattle.std.specs.Prelude.{◌↔◌, nat_lt, if◌then◌else◌, None, Some}
use Rattle.cstn_net.specs.Networks.{Network, IsWellFormed}
use Rattle.cstn_net.specs.Strategies.{IsConsistent}
use Rattle.cstn_net.specs.Read.{NetworkParts, the_network}
use Rattle.cstn_log.specs.Cuts.{last_with_ancestors}
use Rattle.cstn_refute.specs.Texts.{refutation_shown}
use Rattle.cstn_check.specs.Checks.{CheckParts}
use Rattle.cstn_check.specs.Turns.{LastRefutes}
use Rattle.cstn_check.specs.Growth.{is_refuted, log_of, load_of}
use Rattle.cstn_check.specs.declared.verdicts.Verdict.{Verdict}
use Rattle.cstn_check.specs.declared.verdicts.Verdict.TheVariants.{Yes, No, Full}
use Rattle.cstn_check.proofs.Answering.{log_refutes_last}
use Rattle.cstn_check.proofs.Decides.{log_decides}
use Rattle.cstn_check.proofs.Last.{last_refuted}
use Rattle.cstn_reply.specs.Texts.{Said}
use Rattle.cstn_check.specs.Decisions.{verdict, unless_yes, IsYes, IsNo}
use Rattle.cstn_reply.specs.declared.output.Outcome.TheVariants.{Bad}

-- a network whose log is refuted isn't consistent
refuted_inconsistent : (net : Network) → IsWellFormed net → is_refuted net (log_of net) ≡ true → IsConsistent net → ⊥
refuted_inconsistent net good refuting consistent =
    let not : is_refuted net (log_of net) ≡ false = (log_decides net good.network good.letters).0 consistent in
    absurd (cc)

-- the verdict where the log has more entries than it may
pub verdict_full : (cap : ℕ) (net : Network) → cap < load_of net → verdict cap net ≡ Full
verdict_full cap net above = over cap (load_of net) (if is_refuted net (log_of net) then No (load_of net) else Yes (load_of net)) above
  where
    over : (cap load : ℕ) (other : Verdict) → cap < load → (if nat_lt cap load then Full else other) ≡ Full
    over cap load other above = grind arith

within : (cap load : ℕ) (other : Verdict) → load ≤ cap → (if nat_lt cap load then Full else other) ≡ other
within cap load other below = grind arith

-- the verdict where the log has no more entries than it may
pub verdict_no : (cap : ℕ) (net : Network) → load_of net ≤ cap → LastRefutes net (log_of net) → verdict cap net ≡ No (load_of net)
verdict_no cap net below last =
    within cap (load_of net) (if is_refuted net (log_of net) then No (load_of net) else Yes (load_of net)) below
    ∙ ap (λ (b : Bool). if b then No (load_of net) else Yes (load_of net)) (last_refuted net (log_of net) last)

pub verdict_yes : (cap : ℕ) (net : Network) → IsWellFormed net → load_of net ≤ cap → (LastRefutes net (log_of net) → ⊥) → verdict cap net ≡ Yes (load_of net)
verdict_yes cap net good below unrefuted =
    within cap (load_of net) (if is_refuted net (log_of net) then No (load_of net) else Yes (load_of net)) below
    ∙ ap (λ (b : Bool). if b then No (load_of net) else Yes (load_of net)) (not_last (is_refuted net (log_of net)) refl)
  where
    not_last : (b : Bool) → is_refuted net (log_of net) ≡ b → is_refuted net (log_of net) ≡ false
    not_last true is = absurd (unrefuted (log_refutes_last net good is))
    not_last false is = is

-- what a verdict tells of a network
abbrev pub Tells : ℕ → Network → Verdict → Type 0
Tells cap net (Yes load) = IsYes cap net
Tells cap net (No load) = IsNo cap net
Tells cap net Full = cap < load_of net

-- the verdict on a network is right
pub verdict_tells : (cap : ℕ) (net : Network) → IsWellFormed net → Tells cap net (verdict cap net)
verdict_tells cap net good = by_load (nat_lt cap (load_of net)) (is_refuted net (log_of net)) refl refl
  where
    above : (cap load : ℕ) → nat_lt cap load ≡ true → cap < load
    above cap load is = grind arith

    below : (cap load : ℕ) → nat_lt cap load ≡ false → load ≤ cap
    below cap load is = grind arith

    by_load : (full refuted : Bool) → nat_lt cap (load_of net) ≡ full → is_refuted net (log_of net) ≡ refuted → Tells cap net (if full then Full else if refuted then No (load_of net) else Yes (load_of net))
    by_load true refuted is last = above cap (load_of net) is
    by_load false true is last = (refuted_inconsistent net good last, below cap (load_of net) is)
    by_load false false is last = ((log_decides net good.network good.letters).1 last, below cap (load_of net) is)

-- what is known after a check has answered yes
pub yes_decided : (cap load : ℕ) (net : NetworkParts) (check : CheckParts) → IsWellFormed (the_network net) → check ≡ record { net = net; cap = cap; verdict = None; tries = 0 } → ((l : ℕ) → (Yes load ≡ Yes l ↔ ((l ≡ load_of (the_network check.net)) × (load_of (the_network check.net) ≤ check.cap) × (LastRefutes (the_network check.net) (log_of (the_network check.net)) → ⊥)))) → (verdict cap (the_network net) ≡ Yes (load_of (the_network net))) × (load ≡ load_of (the_network net))
yes_decided cap load net check good is is_yes =
    subst (λ (c : CheckParts). (verdict c.cap (the_network c.net) ≡ Yes (load_of (the_network c.net))) × (load ≡ load_of (the_network c.net))) is
    (decided check.cap (the_network check.net) (subst (λ (c : CheckParts). IsWellFormed (the_network c.net)) (sym is) good) ((is_yes load).0 refl))
  where
    decided : (c : ℕ) (n : Network) → IsWellFormed n → (load ≡ load_of n) × (load_of n ≤ c) × (LastRefutes n (log_of n) → ⊥) → (verdict c n ≡ Yes (load_of n)) × (load ≡ load_of n)
    decided c n good' tells' = (verdict_yes c n good' tells'.1 tells'.2, tells'.0)

-- what is said after a check has answered no
pub no_decided : (cap load : ℕ) (net : NetworkParts) (names : List (List ℕ)) (said : Said) (check after : CheckParts) → check ≡ record { net = net; cap = cap; verdict = None; tries = 0 } → after.net ≡ check.net → ((l : ℕ) → (No load ≡ No l ↔ ((l ≡ load_of (the_network check.net)) × (load_of (the_network check.net) ≤ check.cap) × LastRefutes (the_network check.net) (log_of (the_network check.net))))) → said ≡ record { outcome = Bad; text = refutation_shown names (load_of (the_network after.net)) (last_with_ancestors (log_of (the_network after.net))) } → unless_yes cap names (the_network net) (verdict cap (the_network net)) ≡ Some said
no_decided cap load net names said check after is same is_no said_is =
    subst (λ (c : CheckParts). unless_yes c.cap names (the_network c.net) (verdict c.cap (the_network c.net)) ≡ Some said) is
    (decided check.cap (the_network check.net) ((is_no load).0 refl) (said_is ∙ ap (λ (n : NetworkParts). record { outcome = Bad; text = refutation_shown names (load_of (the_network n)) (last_with_ancestors (log_of (the_network n))) }) same))
  where
    decided : (c : ℕ) (n : Network) → (load ≡ load_of n) × (load_of n ≤ c) × LastRefutes n (log_of n) → said ≡ record { outcome = Bad; text = refutation_shown names (load_of n) (last_with_ancestors (log_of n)) } → unless_yes c names n (verdict c n) ≡ Some said
    decided c n tells' so = ap (unless_yes c names n) (verdict_no c n tells'.1 tells'.2) ∙ ap (λ (s : Said). Some s) (sym so)
