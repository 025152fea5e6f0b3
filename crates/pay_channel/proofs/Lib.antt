pub mod Lists
pub mod Project
pub mod Follow
pub mod Following
pub mod SlotLemmas
pub mod Grown
pub mod HistoryLaws
pub mod Listing
pub mod Said
pub mod InOut
pub mod Counting
pub mod Voting
pub mod Asks
pub mod Sendable
pub mod Taking
pub mod VotesTaken
pub mod Places
pub mod Longer
pub mod Asking
pub mod ChannelLists
mod Came
mod Unlisted
pub mod LieLemmas
