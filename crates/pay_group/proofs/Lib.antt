pub mod Agreed
pub mod Begins
pub mod Counting
pub mod ListVouching
mod Accounts
mod BookLists
mod Members
mod Numbering
mod Once
mod OneBook
mod BookVouching
