-- Lists, and the numbers of a range.
pub mod Filled
pub mod Naming
-- What is known in a run, and which moments it asks for.
pub mod Asking
pub mod Knowing
pub mod Values
pub mod Holding
-- How a run moves, and stays right.
pub mod Running
pub mod Judging
pub mod Moving
-- The due moment, and refusals.
pub mod Dues
pub mod Searching
pub mod Refusals
pub mod Waiting
pub mod Names
-- Guides: what they name and leave out.
pub mod Deciding
pub mod GuideNaming
pub mod Denying
pub mod Sorting
pub mod GuideSteps
-- Laws of guides.
pub mod Advancing
pub mod Timely
pub mod GuideRefusing
pub mod Unlabelled
