-- Texts that are put together.
pub mod JoinLemmas
pub mod DocumentLemmas
pub mod RunLemmas
-- Numbers, labels, names and values are read back.
pub mod NumberTextLemmas
pub mod LabelTextLemmas
pub mod EscapedNameLemmas
pub mod ValueTextLemmas
-- Tokens and lines are read back.
pub mod TokenLemmas
pub mod LineLemmas
pub mod EdgeLemmas
pub mod WholeLemmas
-- The document is read back.
pub mod ReadBackLemmas
pub mod DraftedLemmas
pub mod TextLemmas
-- Laws of the network that is read back.
pub mod LawLemmas
pub mod SameLemmas
pub mod UnlabelledLemmas
pub mod FitLemmas
