pub mod Statements
pub mod Journal
pub mod Rows
