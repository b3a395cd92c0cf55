-- The verdict that a check says.
use Rattle.std.proofs.Common.{◌≡◌, ℕ, ◌≤◌, ◌<◌, refl, ap, sym, ◌∙◌}
use Rattle.std.specs.Prelude.{◌↔◌}
use Rattle.cstn_net.specs.Networks.{IsWellFormed}
use Rattle.cstn_net.specs.Read.{the_network}
use Rattle.cstn_check.specs.Checks.{CheckParts}
use Rattle.cstn_check.specs.Turns.{LastRefutes}
use Rattle.cstn_check.specs.Growth.{log_of, load_of}
use Rattle.cstn_check.specs.declared.verdicts.Verdict.{Verdict}
use Rattle.cstn_check.specs.declared.verdicts.Verdict.TheVariants.{Yes, No, Full}
use Rattle.cstn_check.specs.Decisions.{verdict}
use Rattle.cstn_check.proofs.Deciding.{verdict_full, verdict_no, verdict_yes}

-- what a check says is the verdict
pub run_says : (c : CheckParts) (v : Verdict) → IsWellFormed (the_network c.net)
    → (v ≡ Full ↔ (c.cap < load_of (the_network c.net)))
    → ((l : ℕ) → (v ≡ No l ↔ ((l ≡ load_of (the_network c.net)) × (load_of (the_network c.net) ≤ c.cap) × LastRefutes (the_network c.net) (log_of (the_network c.net)))))
    → ((l : ℕ) → (v ≡ Yes l ↔ ((l ≡ load_of (the_network c.net)) × (load_of (the_network c.net) ≤ c.cap) × (LastRefutes (the_network c.net) (log_of (the_network c.net)) → ⊥))))
    → v ≡ verdict c.cap (the_network c.net)
run_says c (Yes l) good is_full is_no is_yes =
    let t = (is_yes l).0 refl in ap Yes t.0 ∙ sym (verdict_yes c.cap (the_network c.net) good t.1 t.2)
run_says c (No l) good is_full is_no is_yes =
    let t = (is_no l).0 refl in ap No t.0 ∙ sym (verdict_no c.cap (the_network c.net) t.1 t.2)
run_says c Full good is_full is_no is_yes = sym (verdict_full c.cap (the_network c.net) (is_full.0 refl))
