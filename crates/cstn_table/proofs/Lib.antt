-- Rows, and walks over them.
mod RowLemmas
mod WalkLemmas
mod PairLemmas
-- Raises, until the table is the least strategy.
mod RaiseLemmas
mod SettledLemmas
