-- Walks along the places at which a time-point stands.
use Rattle.std.proofs.Common.{ℕ, ◌≡◌, ◌+◌, ◌≤◌, ◌<◌, List, length, get_or, arith, inl, inr, sym, subst, ◌∙◌}
use Rattle.std.proofs.lemmas.Bool.{cases_lt, cases_eq}
use Rattle.cstn_closed.specs.Places.{IsNextStanding}

-- a walk along the places of x has come to p, and Q holds at each place before
pub record IsWalked (Q : ℕ → Type 0) (xs : List ℕ) (x p : ℕ) : Type 0 where
  pub upto : p ≤ length xs
  pub here : p < length xs → get_or xs p 0 ≡ x
  pub done : (k : ℕ) → k < p → k < length xs → Q k

module _ (Q : ℕ → Type 0) (xs : List ℕ) (x : ℕ) (elsewhere : (k : ℕ) → k < length xs → (get_or xs k 0 ≡ x → ⊥) → Q k) where
  pub walk_begins : (p : ℕ) → IsNextStanding xs x 0 p → IsWalked Q xs x p
  walk_begins p next = record {
    upto = next.upto;
    here = next.here;
    done = λ k before inside. elsewhere k inside (next.skipped k (omega arith) before);
  }

  pub walk_on : (p q : ℕ) → IsWalked Q xs x p → p < length xs → Q p → IsNextStanding xs (get_or xs p 0) (p + 1) q → IsWalked Q xs x q
  walk_on p q walked inside so next =
      let at = walked.here inside in
      record {
        upto = next.upto;
        here = λ h. next.here h ∙ at;
        done = λ k before within. elim (cases_lt k p) [
          | inl earlier ↦ walked.done k earlier within
          | inr past ↦ elim (cases_eq k p) [
            | inl same ↦ subst Q (sym same) so
            | inr other ↦ elsewhere k within (λ is. next.skipped k (omega arith) before (is ∙ sym at))
          ]
        ];
      }
