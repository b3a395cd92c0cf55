-- What a check keeps.
use Rattle.std.proofs.Common.{ℕ, ◌≡◌, ◌<◌, ◌≤◌, inl, inr, List, [], ◌++◌, take, Option, Some, None, arith, refl, sym, subst, ap, ◌∙◌}
use Rattle.std.specs.Prelude.{nat_lt}
use Rattle.std.proofs.lemmas.Bool.{cases_Bool, lt-ltb, cond-true, cond-false}
use Rattle.std.proofs.lemmas.List.{append-nil}
use Rattle.cstn_net.specs.Networks.{Network, IsWellFormed, count}
use Rattle.cstn_net.specs.Read.{NetworkParts, the_network}
use Rattle.cstn_rules.specs.Derivations.{Entry}
use Rattle.cstn_log.specs.Entries.{State, the_entries, first_entries}
use Rattle.cstn_check.specs.Growth.{log_of}
use Rattle.cstn_check.specs.Checks.{CheckParts, IsPrefix, IsVerdict, HasAnswered}
use Rattle.cstn_check.specs.declared.verdicts.Verdict.{Verdict}
use Rattle.cstn_check.specs.declared.verdicts.Verdict.TheVariants.{Yes, No, Full}
use Rattle.cstn_check.proofs.Ends.{log_goes_on, load_above}

whole_prefix : (front list : List Entry) → front ≡ list → IsPrefix front list
whole_prefix front list e = record { rest = []; is = append-nil front ∙ e }

module _ (net : Network) (good : IsWellFormed net) where
  front_of : (cap : ℕ) (list : List Entry) (v : Verdict) → IsVerdict net cap list v → IsPrefix list (log_of net)
  front_of cap list (Yes load) is = whole_prefix list (log_of net) is.2
  front_of cap list (No load) is = whole_prefix list (log_of net) is.2
  front_of cap list Full is = is.1

  none_of : (cap : ℕ) (list : List Entry) (v : Verdict) → IsVerdict net cap list v → cap < count net → list ≡ []
  none_of cap list (Yes load) is few = let most = is.1 in let least = load_above net good in absurd (omega arith)
  none_of cap list (No load) is few = let most = is.1 in let least = load_above net good in absurd (omega arith)
  none_of cap list Full is few = is.2 few

  pub kept_front : (log : State) (o : Option Verdict) → HasAnswered net log o → IsPrefix (the_entries log.entries) (log_of net)
  kept_front log None started = elim (cases_Bool (nat_lt log.cap (count net))) [
    | inl small ↦ record {
      rest = log_of net;
      is = ap (λ l. l ++ log_of net) (started.entries ∙ cond-true _ _ _ small);
    }
    | inr large ↦
        let goes_on = log_goes_on net 0 good in
        record {
          rest = goes_on.more;
          is = ap (λ l. l ++ goes_on.more) (started.entries ∙ cond-false _ _ _ large) ∙ goes_on.is;
        }
  ]
  kept_front log (Some v) is = front_of log.cap (the_entries log.entries) v is

  pub kept_none : (log : State) (o : Option Verdict) → HasAnswered net log o → log.cap < count net → the_entries log.entries ≡ []
  kept_none log None started few = started.entries ∙ cond-true _ _ _ (lt-ltb log.cap (count net) few)
  kept_none log (Some v) is few = none_of log.cap (the_entries log.entries) v is few

-- an answer other than full comes with the whole log
pub whole_of : (net : Network) (cap : ℕ) (list : List Entry) (v : Verdict) → IsVerdict net cap list v → (v ≡ Full → ⊥) → list ≡ log_of net
whole_of net cap list (Yes load) is some = is.2
whole_of net cap list (No load) is some = is.2
whole_of net cap list Full is some = absurd (some refl)

-- what holds of the fields of a check holds of the value that contracts see
pub front_seen : (n : NetworkParts) (log : State) (o : Option Verdict) (parts : CheckParts) → n ≡ parts.net →
    IsWellFormed (the_network n) → HasAnswered (the_network n) log o → IsPrefix (the_entries log.entries) (log_of (the_network parts.net))
front_seen n log o parts e good is =
    subst (λ (m : NetworkParts). IsPrefix (the_entries log.entries) (log_of (the_network m))) e (kept_front (the_network n) good log o is)

pub none_seen : (n : NetworkParts) (log : State) (o : Option Verdict) (parts : CheckParts) → n ≡ parts.net → log.cap ≡ parts.cap →
    IsWellFormed (the_network n) → HasAnswered (the_network n) log o → parts.cap < count (the_network parts.net) → the_entries log.entries ≡ []
none_seen n log o parts e f good is few =
    kept_none (the_network n) good log o is
    (subst (λ (m : NetworkParts). log.cap < count (the_network m)) (sym e) (subst (λ k. k < count (the_network parts.net)) (sym f) few))

-- before the verdict the log is as it was started, and after full it has as many of the first entries as it may
pub started_seen : (n : NetworkParts) (log : State) (o : Option Verdict) (parts : CheckParts) → n ≡ parts.net → log.cap ≡ parts.cap → o ≡ parts.verdict →
    HasAnswered (the_network n) log o → parts.verdict ≡ None → the_entries log.entries ≡ first_entries (the_network parts.net) parts.cap
started_seen n log o parts e f g is none =
    subst (λ k. the_entries log.entries ≡ first_entries (the_network parts.net) k) f
    (subst (λ (m : NetworkParts). the_entries log.entries ≡ first_entries (the_network m) log.cap) e
    (subst (λ v. HasAnswered (the_network n) log v) (g ∙ none) is).entries)

pub full_seen : (n : NetworkParts) (log : State) (o : Option Verdict) (parts : CheckParts) → n ≡ parts.net → log.cap ≡ parts.cap → o ≡ parts.verdict →
    HasAnswered (the_network n) log o → parts.verdict ≡ Some Full → count (the_network parts.net) ≤ parts.cap →
    the_entries log.entries ≡ take parts.cap (log_of (the_network parts.net))
full_seen n log o parts e f g is full room =
    let at : HasAnswered (the_network n) log (Some Full) = subst (λ v. HasAnswered (the_network n) log v) (g ∙ full) is in
    subst (λ k. the_entries log.entries ≡ take k (log_of (the_network parts.net))) f
    (subst (λ (m : NetworkParts). the_entries log.entries ≡ take log.cap (log_of (the_network m))) e
    (at.3 (subst (λ (m : NetworkParts). count (the_network m) ≤ log.cap) (sym e) (subst (λ k. count (the_network parts.net) ≤ k) (sym f) room))))
