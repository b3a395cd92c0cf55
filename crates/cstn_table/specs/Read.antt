-- How the program's propositions and tables are read as those of the definitions.
use Rattle.std.specs.Prelude.{ℕ, List, map}
use Rattle.cstn_label.specs.declared.props.Prop.{Prop}
use Rattle.cstn_net.specs.Strategies.{Table}
use Rattle.cstn_table.specs.Tables.{table_by}

-- what a table holds: the propositions that its rows tell apart, how many time-points there are, and the moments, row by row
pub record TableParts : Type 0 where
  pub props : List Prop
  pub points : ℕ
  pub moments : List ℕ

-- the numbers of propositions
abbrev pub numbers : List Prop → List ℕ
numbers props = map (λ p. p.index) props

-- the table that a program's table stands for
abbrev pub the_table : TableParts → Table
the_table t = table_by (numbers t.props) t.points t.moments
