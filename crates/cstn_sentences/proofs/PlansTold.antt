-- What a plan says, by what its lines declare and mean.
use Rattle.std.proofs.Common.{◌≡◌, ℕ, ◌≤◌, true, List, length, refl, ap, sym, ◌∙◌, arith, Option, Result, Ok}
use Rattle.std.specs.Prelude.{nat_le}
use Rattle.cstn_graphml.specs.Document.{Parts, first_of_two}
use Rattle.cstn_sentences.specs.Limits.{most_plan}
use Rattle.cstn_sentences.specs.Refusals.{PlanRefusal, no_deadline}
use Rattle.cstn_sentences.specs.Results.{◌>>?◌, some_or}
use Rattle.cstn_sentences.specs.Words.{plan_lines}
use Rattle.cstn_sentences.specs.Declarations.{Declared, nothing_declared, declared_after}
use Rattle.cstn_sentences.specs.Meaning.{Meaning, nothing_meant, meant_after}
use Rattle.cstn_sentences.specs.Plans.{plan, plan_parts, deadline_in}

few_is : (n : ℕ) → n ≤ most_plan → nat_le n most_plan ≡ true
few_is n few = grind arith

module _ (text : List ℕ) (handed : Option ℕ) (d : Declared) (few : length text ≤ most_plan) (declared : declared_after 1 nothing_declared (plan_lines text) ≡ Ok d) where
  abbrev timed : Meaning → Option ℕ → Result Parts PlanRefusal
  timed m ticks = some_or ticks no_deadline >>? λ t. Ok (plan_parts t d m)

  plan_is : plan text handed ≡ meant_after 1 d nothing_meant (plan_lines text) >>? λ m. timed m (first_of_two handed (deadline_in d))
  plan_is = rw (few_is (length text) few, declared) refl

  pub plan_told : (m : Meaning) (ticks : Option ℕ) → meant_after 1 d nothing_meant (plan_lines text) ≡ Ok m → ticks ≡ first_of_two handed (deadline_in d) → plan text handed ≡ timed m ticks
  plan_told m ticks meant is = plan_is ∙ ap (λ r. r >>? λ k. timed k (first_of_two handed (deadline_in d))) meant ∙ ap (timed m) (sym is)
