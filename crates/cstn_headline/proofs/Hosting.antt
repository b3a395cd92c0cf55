-- What is due in the open plans of a host.
use Rattle.std.proofs.Common.{◌≡◌, ◌∙◌, ◌<◌, ◌≤◌, ◌+◌, ℕ, zero, suc, refl, ap, sym, subst, inl, inr, arith}
use Rattle.std.specs.Prelude.{Option, None, Some}
use Rattle.std.proofs.lemmas.Bool.{cases_lt}
use Rattle.std.proofs.lemmas.Option.{same_Some}
use Rattle.std.specs.Option.{option_map}
use Rattle.cstn_run.specs.hosted.Sessions.{HostSession, case_of, due_in, or_second, due_from, unfinished}
use Rattle.cstn_run.proofs.hosts.Endings.{begins}
use Rattle.cstn_headline.specs.commands.Host.{ArePlansDone, IsLeftOver}

-- what is due in the plan that an id is open over
abbrev due_at : HostSession → ℕ → Option ℕ
due_at session id = due_in session.files (case_of session id)

-- where none is found from an id on, nothing is due there
none_from : (session : HostSession) (n id : ℕ) → due_from session id n ≡ None → (j : ℕ) → id ≤ j → j < id + n → due_at session j ≡ None
none_from session zero id none j above below = absurd (omega (arith, above, below))
none_from session (suc n) id none j above below = by_due (due_at session id) refl none (λ rest past. none_from session n (id + 1) rest j past (omega (arith, below)))
  where
    by_due : (o : Option ℕ) → due_at session id ≡ o → or_second (option_map (λ t. (id, t)) o) (due_from session (id + 1) n) ≡ None →
        (due_from session (id + 1) n ≡ None → id + 1 ≤ j → due_at session j ≡ None) → due_at session j ≡ None
    by_due (Some t) is none' later = let f : ⊥ = cc in absurd f
    by_due None is none' later = elim (cases_lt id j) [
      | inl beyond ↦ later none' (omega (arith, beyond))
      | inr here ↦ let same : id ≡ j = omega (arith, here, above) in subst (λ (k : ℕ). due_at session k ≡ None) same is
    ]

-- an id that is found is the least of them
record IsFirst (session : HostSession) (from n id due : ℕ) : Type 0 where
  above : from ≤ id
  below : id < from + n
  due_here : due_at session id ≡ Some due
  least : (j : ℕ) → from ≤ j → j < id → due_at session j ≡ None

first_from : (session : HostSession) (n from id due : ℕ) → due_from session from n ≡ Some (id, due) → IsFirst session from n id due
first_from session zero from id due found = let f : ⊥ = cc in absurd f
first_from session (suc n) from id due found = by_due (due_at session from) refl found (first_from session n (from + 1) id due)
  where
    by_due : (o : Option ℕ) → due_at session from ≡ o → or_second (option_map (λ t. (from, t)) o) (due_from session (from + 1) n) ≡ Some (id, due) →
        (due_from session (from + 1) n ≡ Some (id, due) → IsFirst session (from + 1) n id due) → IsFirst session from (suc n) id due
    by_due (Some t) is found' later =
        let pair : ◌≡◌ {A = ℕ × ℕ} (from, t) (id, due) = same_Some (from, t) (id, due) found' in
        let same : from ≡ id = ap (λ (p : ℕ × ℕ). p.0) pair in
        let moment : t ≡ due = ap (λ (p : ℕ × ℕ). p.1) pair in
        record {
          above = omega (arith, same);
          below = omega (arith, same);
          due_here = subst (λ (k : ℕ). due_at session k ≡ Some due) same (is ∙ ap Some moment);
          least = λ j past before. absurd (omega (arith, same, past, before));
        }
    by_due None is found' later =
        let rest = later found' in
        let above = rest.above in
        let below = rest.below in
        record {
          above = omega (arith, above);
          below = omega (arith, below);
          due_here = rest.due_here;
          least = λ j past before. elim (cases_lt from j) [
            | inl beyond ↦ rest.least j (omega (arith, beyond)) before
            | inr here ↦ let same : from ≡ j = omega (arith, here, past) in subst (λ (k : ℕ). due_at session k ≡ None) same is
          ];
        }

-- a session of which none is unfinished, and one in which an id is
pub all_done : (session : HostSession) → unfinished session ≡ None → ArePlansDone session
all_done session none = λ id inside. none_from session 64 0 (sym (begins session) ∙ none) id (omega arith) (omega (arith, inside))

pub left_over : (session : HostSession) (id due : ℕ) → unfinished session ≡ Some (id, due) → IsLeftOver session id due
left_over session id due some =
    let first = first_from session 64 0 id due (sym (begins session) ∙ some) in
    let below = first.below in
    record { inside = omega (arith, below); due_at = first.due_here; least = λ other before. first.least other (omega arith) before }
