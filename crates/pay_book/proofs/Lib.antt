pub mod Sums
pub mod Stepping
pub mod Reaching
pub mod Conserving
pub mod Growing
pub mod Computing
pub mod Places
pub mod Entries
pub mod Placing
pub mod Settling
pub mod Settled
pub mod OneStep
pub mod PlainLoops
pub mod Lines
pub mod Pieces
pub mod Former
pub mod Whole
pub mod OneMore
pub mod Encoding
pub mod Numbers
mod NoteTexts
mod Notes
