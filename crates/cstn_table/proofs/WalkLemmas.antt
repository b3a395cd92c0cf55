-- Walks over the moments, a step at a time.
use Rattle.std.proofs.Common.{ℕ, zero, suc, ◌≡◌, inl, inr, ◌+◌, ◌<◌, ◌≤◌, Bool, true, false, ◌||◌, Option, Some, None, IfSome, List, [], ◌∷◌, length, get_or, set, map, arith, refl, sym, subst, ◌∙◌, ap}
use Rattle.std.proofs.lemmas.Bool.{cases_lt}
use Rattle.std.proofs.lemmas.List.{get_or-map}
use Rattle.cstn_net.specs.Limits.{most_deadline}
use Rattle.cstn_net.specs.declared.constraints.Constraint.{Constraint}
use Rattle.cstn_net.specs.Networks.{Network, Constraint as TheConstraint}
use Rattle.cstn_net.specs.Read.{the_constraint}
use Rattle.cstn_table.specs.Raises.{IsLow, IsWalk, room}

-- a walk that raises nothing, where `Quiet` holds already
pub standing : (net : Network) (Quiet : List ℕ → Type 0) (now : List ℕ) → IsLow net now → Quiet now → IsWalk net Quiet now now false
standing net Quiet now low quiet = record { low = low; rises = λ e. cc; stays = λ e. refl; quiet = λ e. quiet }

-- two walks, one after the other, are one walk that looked at what both looked at
pub both_walks : (net : Network) (P Q : List ℕ → Type 0) (before between now : List ℕ) (a b : Bool) →
    IsWalk net P before between a → IsWalk net Q between now b → IsWalk net (λ ts. P ts × Q ts) before now (a || b)
both_walks net P Q before between now true true h k = record {
  low = k.low;
  rises = λ e. let first = h.rises refl in let then = k.rises refl in omega arith;
  stays = λ e. cc;
  quiet = λ e. cc;
}
both_walks net P Q before between now true false h k = record {
  low = k.low;
  rises = λ e. let first = h.rises refl in let then = ap room (k.stays refl) in omega arith;
  stays = λ e. cc;
  quiet = λ e. cc;
}
both_walks net P Q before between now false true h k = record {
  low = k.low;
  rises = λ e. let first = ap room (h.stays refl) in let then = k.rises refl in omega arith;
  stays = λ e. cc;
  quiet = λ e. cc;
}
both_walks net P Q before between now false false h k = record {
  low = k.low;
  rises = λ e. cc;
  stays = λ e. k.stays refl ∙ h.stays refl;
  quiet = λ e. (subst P (sym (k.stays refl)) (h.quiet refl), k.quiet refl);
}

-- a walk stays one with a `Quiet` that follows from its own
pub weaker : (net : Network) (P Q : List ℕ → Type 0) (before now : List ℕ) (raised : Bool) → (P before → Q before) →
    IsWalk net P before now raised → IsWalk net Q before now raised
weaker net P Q before now raised f h = record {
  low = h.low;
  rises = h.rises;
  stays = h.stays;
  quiet = λ e. subst Q (sym (h.stays e)) (f (subst P (h.stays e) (h.quiet e)));
}

-- a walk that may stop past a limit stays one with a `Quiet` that follows from its own
pub if_weaker : (net : Network) (P Q : List ℕ → Type 0) (before now : List ℕ) (raised : Option Bool) → (P before → Q before) →
    IfSome raised (IsWalk net P before now) → IfSome raised (IsWalk net Q before now)
if_weaker net P Q before now None f h = tt
if_weaker net P Q before now (Some raised) f h = weaker net P Q before now raised f h

-- a walk over the first k elements, and then one over the next, are a walk over the first k + 1
pub one_more : (net : Network) (Q : ℕ → List ℕ → Type 0) (k : ℕ) (before between now : List ℕ) (a b : Bool) →
    IsWalk net (λ ts. (i : ℕ) → i < k → Q i ts) before between a → IsWalk net (Q k) between now b →
    IsWalk net (λ ts. (i : ℕ) → i < k + 1 → Q i ts) before now (a || b)
one_more net Q k before between now a b h g =
    weaker net (λ ts. ((i : ℕ) → i < k → Q i ts) × Q k ts) (λ ts. (i : ℕ) → i < k + 1 → Q i ts) before now (a || b)
    (λ both i lt. elim (cases_lt i k) [
      | inl below ↦ both.0 i below
      | inr last ↦ subst (λ j. Q j before) (let e : k ≡ i = omega arith in e) both.1
    ])
    (both_walks net (λ ts. (i : ℕ) → i < k → Q i ts) (Q k) before between now a b h g)

-- with a moment raised there is less room
pub less_room : (ts : List ℕ) (i t : ℕ) → i < length ts → get_or ts i 0 < t → t ≤ most_deadline → room (set ts i t) < room ts
less_room [] i t inside later within = absurd (omega arith)
less_room (u ∷ ts) zero t inside later within = omega arith
less_room (u ∷ ts) (suc i) t inside later within =
    let rest = less_room ts i t (omega arith) later within in
    omega arith

-- the program's constraint at a place stands for the network's constraint there
pub constraint_at : (cs : List Constraint) (k : ℕ) (d : Constraint) (c : TheConstraint) → k < length cs → d ≡ get_or cs k d →
    get_or (map the_constraint cs) k c ≡ c → the_constraint d ≡ c
constraint_at cs k d c inside is there = ap the_constraint is ∙ sym (get_or-map the_constraint cs k d c inside) ∙ there
