-- What is said of a least deadline.
use Rattle.std.proofs.Common.{◌≡◌, ℕ, ◌-◌, ◌<◌, Bool, true, false, List, [], ◌++◌, length, refl, sym, ap, subst, ◌∙◌, arith}
use Rattle.std.specs.Prelude.{◌↔◌, nat_eq, if◌then◌else◌, Option, None, Some, IfSome, IsNone, Result, Ok, Err, IfOk, codes, decimal}
use Rattle.std.specs.List.{All}
use Rattle.cstn_label.specs.Bounds.{Bound}
use Rattle.cstn_net.specs.Networks.{Network, IsWellFormed, count}
use Rattle.cstn_net.specs.Strategies.{IsConsistent}
use Rattle.cstn_net.specs.Read.{NetworkParts, the_network}
use Rattle.cstn_rules.specs.declared.entries.Entry.{Entry as DeclaredEntry}
use Rattle.cstn_rules.specs.Derivations.{Entry}
use Rattle.cstn_check.specs.Checks.{CheckParts}
use Rattle.cstn_check.specs.Decisions.{unless_yes, said_instead, TellsVerdict}
use Rattle.cstn_check.specs.Growth.{log_of, load_of, live_bounds}
use Rattle.cstn_check.specs.Verdicts.{IsRefutationOf}
use Rattle.cstn_check.specs.declared.decisions.Judged.TheVariants.{Yes as SaysYes}
use Rattle.cstn_check.specs.declared.verdicts.Verdict.TheVariants.{Yes}
use Rattle.cstn_check.proofs.Deciding.{Tells, verdict_tells}
use Rattle.cstn_refute.specs.Refutations.{RefutationParts, the_steps}
use Rattle.cstn_refute.specs.Texts.{refutation_shown}
use Rattle.cstn_closed.specs.Closed.{the_listed_bounds}
use Rattle.cstn_closed.specs.Texts.{closed_shown as shown_bounds}
use Rattle.cstn_reply.specs.Texts.{Said, line}
use Rattle.cstn_reply.specs.Read.{the_said}
use Rattle.cstn_reply.specs.declared.output.Said.{Said as SaidText}
use Rattle.cstn_reply.specs.declared.output.Outcome.TheVariants.{Good}
use Rattle.cstn_tight.specs.Deadlines.{at_deadline, least_deadline}
use Rattle.cstn_tight.specs.Evidence.{IsTightOf}
use Rattle.cstn_tight.specs.Texts.{refuted_text, tightened, tight_said}
use Rattle.cstn_tight.specs.Told.{AreStepsNamed, told_before}
use Rattle.cstn_tight.specs.declared.tight.Tight.{Tight}
use Rattle.cstn_tight.proofs.LeastLemmas.{one_least, least_found}

not_true : (b : Bool) → (b ≡ true → ⊥) → b ≡ false
not_true true never = absurd (never refl)
not_true false never = refl

-- a network of which a check said yes is consistent
pub yes_consistent : (cap : ℕ) (names : List (List ℕ)) (network : NetworkParts) (load : ℕ) (check : CheckParts) → IsWellFormed (the_network network) → TellsVerdict cap names network (SaysYes load check) → IsConsistent (the_network check.net)
yes_consistent cap names network load check good told =
    subst (λ (n : NetworkParts). IsConsistent (the_network n)) (sym told.2)
    (subst (Tells cap (the_network network)) told.0 (verdict_tells cap (the_network network) good)).0

-- the text of what refutes the network one tick below
before_is : (names : List (List ℕ)) (net : Network) (h : ℕ) (o : Option RefutationParts) → (IsNone o ↔ (h ≡ 0)) → IfSome o (IsRefutationOf (at_deadline net (h - 1))) → told_before names o ≡ (if nat_eq h 0 then [] else refuted_text names (at_deadline net (h - 1)))
before_is names net h None none some =
    sym (ap (λ (b : Bool). if b then [] else refuted_text names (at_deadline net (h - 1))) (is_zero h (none.0 refl)))
  where
    is_zero : (n : ℕ) → n ≡ 0 → nat_eq n 0 ≡ true
    is_zero n is = grind arith
before_is names net h (Some r) none some =
    let later : nat_eq h 0 ≡ false = not_true (nat_eq h 0) (λ is. absurd (let f : IsNone (Some r) = none.1 (zero_of h is) in cc)) in
    ap (λ (n : ℕ). refutation_shown names n (the_steps r)) some.load
    ∙ ap (λ (es : List Entry). refutation_shown names (load_of (at_deadline net (h - 1))) es) some.part
    ∙ sym (ap (λ (b : Bool). if b then [] else refuted_text names (at_deadline net (h - 1))) later)
  where
    zero_of : (n : ℕ) → nat_eq n 0 ≡ true → n ≡ 0
    zero_of n is = grind arith

-- what is said of the least deadline of a consistent network
tight_is : (names : List (List ℕ)) (net : Network) (tight : Tight) → IsWellFormed net → IsConsistent net → IsTightOf net tight →
    line (codes "least " ++ decimal tight.deadline) ++ shown_bounds names tight.closed.load (the_listed_bounds tight.closed) ++ told_before names tight.refutation
    ≡ (tight_said names net).text
tight_is names net tight good consistent t =
    let h = tight.deadline in
    let at = at_deadline net h in
    let first = line (codes "least " ++ decimal h) in
    ap (λ (n : ℕ). first ++ shown_bounds names n (the_listed_bounds tight.closed) ++ told_before names tight.refutation) t.closed.load
    ∙ ap (λ (bs : List Bound). first ++ shown_bounds names (load_of at) bs ++ told_before names tight.refutation) t.closed.bounds
    ∙ ap (λ (xs : List ℕ). first ++ shown_bounds names (load_of at) (live_bounds (log_of at)) ++ xs) (before_is names net h tight.refutation t.none t.refutation)
    ∙ ap (text_at names net) (one_least net h (least_deadline net) t.least (least_found net good consistent))
  where
    text_at : List (List ℕ) → Network → ℕ → List ℕ
    text_at names net k =
        line (codes "least " ++ decimal k) ++ shown_bounds names (load_of (at_deadline net k)) (live_bounds (log_of (at_deadline net k)))
        ++ (if nat_eq k 0 then [] else refuted_text names (at_deadline net (k - 1)))

pub yes_tightened : {E : Type 0} (cap : ℕ) (names : List (List ℕ)) (network : NetworkParts) (load : ℕ) (check : CheckParts) (tight : Tight) (res : Result SaidText E) → IsWellFormed (the_network network) → TellsVerdict cap names network (SaysYes load check) → IsTightOf (the_network check.net) tight → IfOk res (λ said. the_said said ≡ record { outcome = Good; text = line (codes "least " ++ decimal tight.deadline) ++ shown_bounds names tight.closed.load (the_listed_bounds tight.closed) ++ told_before names tight.refutation }) → IfOk res (λ said. the_said said ≡ tightened cap names (the_network network))
yes_tightened cap names network load check tight (Err e) good told t is = tt
yes_tightened cap names network load check tight (Ok said) good told t is =
    let net : Network = the_network network in
    let own = subst (λ (n : NetworkParts). IsTightOf (the_network n) tight) told.2 t in
    let consistent = subst (λ (n : NetworkParts). IsConsistent (the_network n)) told.2 (yes_consistent cap names network load check good told) in
    is
    ∙ ap (λ (text : List ℕ). record { outcome = Good; text = text }) (tight_is names net tight good consistent own)
    ∙ sym (ap (λ v. said_instead (unless_yes cap names net v) (tight_said names net)) told.0)

-- the steps of a refutation are at time-points that have names
pub steps_named : (names : List (List ℕ)) (net : Network) (o : Option RefutationParts) → length names ≡ count net → IfSome o (IsRefutationOf net) → AreStepsNamed names o
steps_named names net None named some = tt
steps_named names net (Some r) named some = subst (λ (n : ℕ). All (λ (e : DeclaredEntry). e.bound.node.0 < n) r.steps) (sym named) some.named
