-- Texts, printed and read back.
mod PrintLemmas
pub mod BoundLemmas
mod BackLemmas
mod WrittenLemmas
-- What a text says.
mod SaidLemmas
mod OrderLemmas
