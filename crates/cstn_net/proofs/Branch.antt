-- The table of the branch network is a strategy.
use Rattle.std.proofs.Common.{ℕ, zero, suc, Bool, true, false, ◌≡◌, ◌+◌, ◌<◌, ◌≤◌, get_or, arith, refl, subst, ap}
use Rattle.std.specs.Prelude.{pos, negsuc, ◌-ℤ◌, ◌≤ℤ◌}
use Rattle.std.proofs.lemmas.Int.{ints}
use Rattle.cstn_label.specs.declared.marks.Mark.TheVariants.{Yes, No}
use Rattle.cstn_label.specs.Labels.{Scenario, Holds, MarkFits}
use Rattle.cstn_net.specs.Networks.{Constraint}
use Rattle.cstn_net.specs.Strategies.{IsStrategy, IsTable, IsDynamic, Meets}
use Rattle.cstn_net.specs.Examples.{branch, branch_table, ten_or_one}

within : IsTable branch branch_table
within s zero h = omega arith
within s (suc zero) h = omega arith
within s (suc (suc x)) h = elim (s 0) as (λ v. ten_or_one v ≤ 10) [ true ↦ omega arith | false ↦ omega arith ]

dynamic : IsDynamic branch branch_table
dynamic s r zero h agrees = refl
dynamic s r (suc zero) h agrees = refl
dynamic s r (suc (suc x)) h agrees =
    let early : 0 + 1 ≤ ten_or_one (s 0) =
    elim (s 0) as (λ v. 0 + 1 ≤ ten_or_one v) [ true ↦ omega arith | false ↦ omega arith ] in
    ap ten_or_one (agrees 0 (record { observer = 1; observes = record { what = refl }; passed = early }))

late_if_true : (v : Bool) → MarkFits v Yes → (pos 0 -ℤ pos (ten_or_one v)) ≤ℤ negsuc 9
late_if_true true h = omega (arith, ints)
late_if_true false h = absurd h

early_if_false : (v : Bool) → MarkFits v No → (pos (ten_or_one v) -ℤ pos 0) ≤ℤ pos 3
early_if_false true h = absurd h
early_if_false false h = omega (arith, ints)

meets : (s : Scenario) (c : Constraint) (k : ℕ) → k < 2 → get_or branch.constraints k c ≡ c → Holds s c.label →
    Meets (branch_table s) c
meets s c zero h e holds =
    subst (λ c. Holds s c.label → Meets (branch_table s) c) e (λ there. late_if_true (s 0) (there 0)) holds
meets s c (suc zero) h e holds =
    subst (λ c. Holds s c.label → Meets (branch_table s) c) e (λ there. early_if_false (s 0) (there 0)) holds
meets s c (suc (suc k)) h e holds = absurd (omega arith)

pub table_is_strategy : IsStrategy branch branch_table
table_is_strategy = record {
  within = within;
  dynamic = dynamic;
  meets = λ s c has holds. meets s c has.0 has.1 has.2 holds;
}
