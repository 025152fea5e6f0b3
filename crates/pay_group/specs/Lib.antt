pub mod Backing
pub mod ListLaws
pub mod Listed
pub mod Book
pub mod Text
pub mod BookLaws
