-- Labels, pairs and reactions that were read.
pub mod LiteralLabels
pub mod PairTexts
pub mod ReactionLemmas
-- One token at a time.
pub mod Places
pub mod PassedOver
-- One element at a time.
pub mod Folds
pub mod ChildLemmas
pub mod Wholes
pub mod Judging
pub mod Tops
-- Data elements.
pub mod DatumRead
pub mod TextsRead
-- Laws of reading in turn.
pub mod InTurn
