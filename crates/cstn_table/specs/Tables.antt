-- Tables of moments in rows, one for each scenario of the observed propositions.
use Rattle.std.specs.Prelude.{ℕ, ◌+◌, ◌*◌, ◌/◌, ◌%◌, ◌==◌, false, cond, List, [], ◌∷◌, Option, None, Some, slice_index_or}
use Rattle.cstn_label.specs.Labels.{Scenario}
use Rattle.cstn_net.specs.Networks.{Network, count}
use Rattle.cstn_net.specs.Strategies.{Schedule, Table}

-- the propositions that are observed, in the order of their observers
abbrev pub observed_props : List (Option ℕ) → List ℕ
observed_props [] = []
observed_props (None ∷ os) = observed_props os
observed_props (Some p ∷ os) = p ∷ observed_props os

-- the row of a scenario: its values in binary digits, the first proposition's the lowest
abbrev pub row_of : List ℕ → Scenario → ℕ
row_of [] s = 0
row_of (p ∷ ps) s = 2 * row_of ps s + cond (s p) 1 0

-- the scenario of a row, in which no proposition but those of the list is true
abbrev pub scenario_of : List ℕ → ℕ → Scenario
scenario_of [] row = λ q. false
scenario_of (p ∷ ps) row = λ q. cond (q == p) (row % 2 == 1) (scenario_of ps (row / 2) q)

-- the moments of a row
abbrev pub row_at : ℕ → List ℕ → ℕ → Schedule
row_at points moments row = λ x. slice_index_or moments (row * points + x) 0

-- the table that the rows stand for
abbrev pub table_by : List ℕ → ℕ → List ℕ → Table
table_by props points moments = λ s. row_at points moments (row_of props s)

-- the table that rows for the scenarios of a network stand for
abbrev pub table_of_rows : Network → List ℕ → Table
table_of_rows net moments = table_by (observed_props net.observes) (count net) moments
