pub mod Reading
pub mod Splitting
pub mod Following
pub mod Answering
pub mod Waiting
pub mod Rounds
pub mod Pairing
