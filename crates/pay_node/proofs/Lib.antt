mod Claims
pub mod Counted
pub mod Fresh
pub mod Judged
pub mod Kept
pub mod Latest
pub mod Marked
pub mod Packing
pub mod Replayed
pub mod Rights
pub mod Verdicts
pub mod Sent
pub mod Taking
