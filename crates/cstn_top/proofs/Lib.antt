-- Documents, and what is told of their networks.
pub mod Listing
pub mod DocumentNames
pub mod Documents
pub mod Labels
pub mod Networks
-- What a request asks, and what is prepared for it.
pub mod Comes
pub mod Opening
pub mod PlanTexts
pub mod ReadAll
pub mod Joining
pub mod Drills
pub mod Hosts
pub mod Asking
pub mod Hosted
pub mod BegunHosts
pub mod Runs
pub mod GuidedRuns
pub mod Preparing
-- Sessions that follow.
pub mod FollowedDocuments
pub mod FollowedLines
-- How sessions end, and with which outcomes.
pub mod Played
pub mod Turns
pub mod Outcomes
pub mod Verbs
pub mod Answered
pub mod Talks
-- How a call ends, and what it tells.
pub mod Endings
pub mod Calls
pub mod Told
