-- Small documents, computed.
pub mod Examples
-- Reading a graph, step by step.
pub mod FreshNames
pub mod GraphRead
pub mod DrawnGraphLaws
pub mod KeptRead
pub mod LabelsRead
-- The network that a builder makes of it.
pub mod Built
pub mod PastTheLimit
pub mod HandedPoints
-- A document has one answer.
pub mod Fits
pub mod OneAnswer
pub mod OfDocuments
pub mod SomeAnswer
-- What is answered.
pub mod Held
pub mod KeptGraphs
pub mod Refusing
