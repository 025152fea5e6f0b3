pub mod Room
pub mod Counting
pub mod Starting
pub mod Entries
pub mod AskedLemmas
