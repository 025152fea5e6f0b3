pub mod Forgetting
pub mod Restarting
mod Exports
mod Worlds
mod Books
mod Once
mod NoLies
mod Claims
mod Sizes
mod Splits
mod Keeping
mod Noting
mod Witnessing
mod Releasing
mod Recorded
mod Holding
